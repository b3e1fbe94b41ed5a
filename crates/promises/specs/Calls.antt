-- The C functions by name: what holds of every call of one, whatever it was given, gave back and left, by its own
-- contract; and that nothing is asked before one. `Learnt` is what a caller learns of a call by the contract,
-- `Asked` what the contract asks; a is the arguments in their order, e what they are at exit, r the answer.
use Rattle.std.specs.Prelude.{◌≡◌, refl, List, ℕ}
use contract.Lifetimes.{Lfts}
use denote.Triple.Clauses.{AtExit}
use borrow.Fn.Kinds.{ParamKind, ResultKind, In, Out, Dens, res_t, ended_of}
use Rattle.cahermisk.proofs.horizontal.cahermisk_horizontal_scan.Kinds as horizontal_scan_kinds
use Rattle.cahermisk.proofs.horizontal.cahermisk_horizontal_scan.Reads as horizontal_scan_reads
use Rattle.cahermisk.proofs.horizontal.cahermisk_horizontal_unpack.Kinds as horizontal_unpack_kinds
use Rattle.cahermisk.proofs.horizontal.cahermisk_horizontal_unpack.Reads as horizontal_unpack_reads
use Rattle.cahermisk.proofs.horizontal.cahermisk_horizontal_pack.Kinds as horizontal_pack_kinds
use Rattle.cahermisk.proofs.horizontal.cahermisk_horizontal_pack.Reads as horizontal_pack_reads
use Rattle.cahermisk.proofs.vertical.cahermisk_vertical_scan.Kinds as vertical_scan_kinds
use Rattle.cahermisk.proofs.vertical.cahermisk_vertical_scan.Reads as vertical_scan_reads
use Rattle.cahermisk.proofs.vertical.cahermisk_vertical_unpack.Kinds as vertical_unpack_kinds
use Rattle.cahermisk.proofs.vertical.cahermisk_vertical_unpack.Reads as vertical_unpack_reads
use Rattle.cahermisk.proofs.vertical.cahermisk_vertical_pack.Kinds as vertical_pack_kinds
use Rattle.cahermisk.proofs.vertical.cahermisk_vertical_pack.Reads as vertical_pack_reads
use Rattle.cahermisk.proofs.runs.cahermisk_runs_scan.Kinds as runs_scan_kinds
use Rattle.cahermisk.proofs.runs.cahermisk_runs_scan.Reads as runs_scan_reads
use Rattle.cahermisk.proofs.runs.cahermisk_runs_unpack.Kinds as runs_unpack_kinds
use Rattle.cahermisk.proofs.runs.cahermisk_runs_unpack.Reads as runs_unpack_reads
use Rattle.cahermisk.proofs.runs.cahermisk_runs_pack.Kinds as runs_pack_kinds
use Rattle.cahermisk.proofs.runs.cahermisk_runs_pack.Reads as runs_pack_reads
use Rattle.cahermisk.proofs.runs.cahermisk_runs_next.Kinds as runs_next_kinds
use Rattle.cahermisk.proofs.runs.cahermisk_runs_next.Reads as runs_next_reads
use Rattle.cahermisk.proofs.delta.cahermisk_delta_scan.Kinds as delta_scan_kinds
use Rattle.cahermisk.proofs.delta.cahermisk_delta_scan.Reads as delta_scan_reads
use Rattle.cahermisk.proofs.delta.cahermisk_delta_unpack.Kinds as delta_unpack_kinds
use Rattle.cahermisk.proofs.delta.cahermisk_delta_unpack.Reads as delta_unpack_reads
use Rattle.cahermisk.proofs.delta.cahermisk_delta_pack.Kinds as delta_pack_kinds
use Rattle.cahermisk.proofs.delta.cahermisk_delta_pack.Reads as delta_pack_reads
use Rattle.cahermisk.proofs.dictionary.cahermisk_dictionary_scan.Kinds as dictionary_scan_kinds
use Rattle.cahermisk.proofs.dictionary.cahermisk_dictionary_scan.Reads as dictionary_scan_reads
use Rattle.cahermisk.proofs.dictionary.cahermisk_dictionary_unpack.Kinds as dictionary_unpack_kinds
use Rattle.cahermisk.proofs.dictionary.cahermisk_dictionary_unpack.Reads as dictionary_unpack_reads
use Rattle.cahermisk.proofs.spans.cahermisk_spans_from_bitmap.Kinds as spans_from_bitmap_kinds
use Rattle.cahermisk.proofs.spans.cahermisk_spans_from_bitmap.Reads as spans_from_bitmap_reads
use Rattle.cahermisk.proofs.spans.cahermisk_spans_to_bitmap.Kinds as spans_to_bitmap_kinds
use Rattle.cahermisk.proofs.spans.cahermisk_spans_to_bitmap.Reads as spans_to_bitmap_reads
use Rattle.cahermisk.proofs.rooms.cahermisk_bitmap_bytes.Kinds as bitmap_bytes_kinds
use Rattle.cahermisk.proofs.rooms.cahermisk_bitmap_bytes.Reads as bitmap_bytes_reads
use Rattle.cahermisk.proofs.rooms.cahermisk_horizontal_bytes.Kinds as horizontal_bytes_kinds
use Rattle.cahermisk.proofs.rooms.cahermisk_horizontal_bytes.Reads as horizontal_bytes_reads
use Rattle.cahermisk.proofs.rooms.cahermisk_vertical_words.Kinds as vertical_words_kinds
use Rattle.cahermisk.proofs.rooms.cahermisk_vertical_words.Reads as vertical_words_reads
use Rattle.cahermisk.proofs.rooms.cahermisk_runs_bytes.Kinds as runs_bytes_kinds
use Rattle.cahermisk.proofs.rooms.cahermisk_runs_bytes.Reads as runs_bytes_reads
use Rattle.cahermisk.proofs.rooms.cahermisk_delta_bytes.Kinds as delta_bytes_kinds
use Rattle.cahermisk.proofs.rooms.cahermisk_delta_bytes.Reads as delta_bytes_reads
use Rattle.cahermisk.proofs.rooms.cahermisk_spans_places.Kinds as spans_places_kinds
use Rattle.cahermisk.proofs.rooms.cahermisk_spans_places.Reads as spans_places_reads

-- whatever a call was given, gave back and left, of which its caller learns the one, the other holds
abbrev pub Every : (k : ℕ) (ps : List (ParamKind k)) (res : ResultKind k) → Out k ps res → Out k ps res → Type 0
Every k ps res Learnt Holds =
    (κs : Lfts k) (a : Dens κs ps) (r : (res_t res κs).Denot) (e : AtExit (ended_of k ps res) κs)
    → Learnt κs a r e → Holds κs a r e

-- nothing is asked of whatever a call is given
abbrev pub AsksNothing : (k : ℕ) (ps : List (ParamKind k)) → In k ps → Type 1
AsksNothing k ps Asked = (κs : Lfts k) (a : Dens κs ps) → Asked κs a ≡ Unit {0}

abbrev pub EveryHorizontalScan : Out 2 horizontal_scan_kinds.ps horizontal_scan_kinds.r → Type 0
EveryHorizontalScan = Every 2 horizontal_scan_kinds.ps horizontal_scan_kinds.r horizontal_scan_reads.Learnt

abbrev pub EveryHorizontalUnpack : Out 2 horizontal_unpack_kinds.ps horizontal_unpack_kinds.r → Type 0
EveryHorizontalUnpack = Every 2 horizontal_unpack_kinds.ps horizontal_unpack_kinds.r horizontal_unpack_reads.Learnt

abbrev pub EveryHorizontalPack : Out 2 horizontal_pack_kinds.ps horizontal_pack_kinds.r → Type 0
EveryHorizontalPack = Every 2 horizontal_pack_kinds.ps horizontal_pack_kinds.r horizontal_pack_reads.Learnt

abbrev pub EveryVerticalScan : Out 2 vertical_scan_kinds.ps vertical_scan_kinds.r → Type 0
EveryVerticalScan = Every 2 vertical_scan_kinds.ps vertical_scan_kinds.r vertical_scan_reads.Learnt

abbrev pub EveryVerticalUnpack : Out 2 vertical_unpack_kinds.ps vertical_unpack_kinds.r → Type 0
EveryVerticalUnpack = Every 2 vertical_unpack_kinds.ps vertical_unpack_kinds.r vertical_unpack_reads.Learnt

abbrev pub EveryVerticalPack : Out 2 vertical_pack_kinds.ps vertical_pack_kinds.r → Type 0
EveryVerticalPack = Every 2 vertical_pack_kinds.ps vertical_pack_kinds.r vertical_pack_reads.Learnt

abbrev pub EveryRunsScan : Out 2 runs_scan_kinds.ps runs_scan_kinds.r → Type 0
EveryRunsScan = Every 2 runs_scan_kinds.ps runs_scan_kinds.r runs_scan_reads.Learnt

abbrev pub EveryRunsUnpack : Out 2 runs_unpack_kinds.ps runs_unpack_kinds.r → Type 0
EveryRunsUnpack = Every 2 runs_unpack_kinds.ps runs_unpack_kinds.r runs_unpack_reads.Learnt

abbrev pub EveryRunsPack : Out 2 runs_pack_kinds.ps runs_pack_kinds.r → Type 0
EveryRunsPack = Every 2 runs_pack_kinds.ps runs_pack_kinds.r runs_pack_reads.Learnt

abbrev pub EveryRunsNext : Out 1 runs_next_kinds.ps runs_next_kinds.r → Type 0
EveryRunsNext = Every 1 runs_next_kinds.ps runs_next_kinds.r runs_next_reads.Learnt

abbrev pub EveryDeltaScan : Out 2 delta_scan_kinds.ps delta_scan_kinds.r → Type 0
EveryDeltaScan = Every 2 delta_scan_kinds.ps delta_scan_kinds.r delta_scan_reads.Learnt

abbrev pub EveryDeltaUnpack : Out 2 delta_unpack_kinds.ps delta_unpack_kinds.r → Type 0
EveryDeltaUnpack = Every 2 delta_unpack_kinds.ps delta_unpack_kinds.r delta_unpack_reads.Learnt

abbrev pub EveryDeltaPack : Out 2 delta_pack_kinds.ps delta_pack_kinds.r → Type 0
EveryDeltaPack = Every 2 delta_pack_kinds.ps delta_pack_kinds.r delta_pack_reads.Learnt

abbrev pub EveryDictionaryScan : Out 3 dictionary_scan_kinds.ps dictionary_scan_kinds.r → Type 0
EveryDictionaryScan = Every 3 dictionary_scan_kinds.ps dictionary_scan_kinds.r dictionary_scan_reads.Learnt

abbrev pub EveryDictionaryUnpack : Out 3 dictionary_unpack_kinds.ps dictionary_unpack_kinds.r → Type 0
EveryDictionaryUnpack = Every 3 dictionary_unpack_kinds.ps dictionary_unpack_kinds.r dictionary_unpack_reads.Learnt

abbrev pub EverySpansFromBitmap : Out 2 spans_from_bitmap_kinds.ps spans_from_bitmap_kinds.r → Type 0
EverySpansFromBitmap = Every 2 spans_from_bitmap_kinds.ps spans_from_bitmap_kinds.r spans_from_bitmap_reads.Learnt

abbrev pub EverySpansToBitmap : Out 2 spans_to_bitmap_kinds.ps spans_to_bitmap_kinds.r → Type 0
EverySpansToBitmap = Every 2 spans_to_bitmap_kinds.ps spans_to_bitmap_kinds.r spans_to_bitmap_reads.Learnt

abbrev pub EveryBitmapBytes : Out 0 bitmap_bytes_kinds.ps bitmap_bytes_kinds.r → Type 0
EveryBitmapBytes = Every 0 bitmap_bytes_kinds.ps bitmap_bytes_kinds.r bitmap_bytes_reads.Learnt

abbrev pub EveryHorizontalBytes : Out 0 horizontal_bytes_kinds.ps horizontal_bytes_kinds.r → Type 0
EveryHorizontalBytes = Every 0 horizontal_bytes_kinds.ps horizontal_bytes_kinds.r horizontal_bytes_reads.Learnt

abbrev pub EveryVerticalWords : Out 0 vertical_words_kinds.ps vertical_words_kinds.r → Type 0
EveryVerticalWords = Every 0 vertical_words_kinds.ps vertical_words_kinds.r vertical_words_reads.Learnt

abbrev pub EveryRunsBytes : Out 0 runs_bytes_kinds.ps runs_bytes_kinds.r → Type 0
EveryRunsBytes = Every 0 runs_bytes_kinds.ps runs_bytes_kinds.r runs_bytes_reads.Learnt

abbrev pub EveryDeltaBytes : Out 0 delta_bytes_kinds.ps delta_bytes_kinds.r → Type 0
EveryDeltaBytes = Every 0 delta_bytes_kinds.ps delta_bytes_kinds.r delta_bytes_reads.Learnt

abbrev pub EverySpansPlaces : Out 0 spans_places_kinds.ps spans_places_kinds.r → Type 0
EverySpansPlaces = Every 0 spans_places_kinds.ps spans_places_kinds.r spans_places_reads.Learnt

-- ---- the caller need check nothing first

pub horizontal-scan_asks_nothing : AsksNothing 2 horizontal_scan_kinds.ps horizontal_scan_reads.Asked
horizontal-scan_asks_nothing κs a = refl

pub horizontal-unpack_asks_nothing : AsksNothing 2 horizontal_unpack_kinds.ps horizontal_unpack_reads.Asked
horizontal-unpack_asks_nothing κs a = refl

pub horizontal-pack_asks_nothing : AsksNothing 2 horizontal_pack_kinds.ps horizontal_pack_reads.Asked
horizontal-pack_asks_nothing κs a = refl

pub vertical-scan_asks_nothing : AsksNothing 2 vertical_scan_kinds.ps vertical_scan_reads.Asked
vertical-scan_asks_nothing κs a = refl

pub vertical-unpack_asks_nothing : AsksNothing 2 vertical_unpack_kinds.ps vertical_unpack_reads.Asked
vertical-unpack_asks_nothing κs a = refl

pub vertical-pack_asks_nothing : AsksNothing 2 vertical_pack_kinds.ps vertical_pack_reads.Asked
vertical-pack_asks_nothing κs a = refl

pub runs-scan_asks_nothing : AsksNothing 2 runs_scan_kinds.ps runs_scan_reads.Asked
runs-scan_asks_nothing κs a = refl

pub runs-unpack_asks_nothing : AsksNothing 2 runs_unpack_kinds.ps runs_unpack_reads.Asked
runs-unpack_asks_nothing κs a = refl

pub runs-pack_asks_nothing : AsksNothing 2 runs_pack_kinds.ps runs_pack_reads.Asked
runs-pack_asks_nothing κs a = refl

pub runs-next_asks_nothing : AsksNothing 1 runs_next_kinds.ps runs_next_reads.Asked
runs-next_asks_nothing κs a = refl

pub delta-scan_asks_nothing : AsksNothing 2 delta_scan_kinds.ps delta_scan_reads.Asked
delta-scan_asks_nothing κs a = refl

pub delta-unpack_asks_nothing : AsksNothing 2 delta_unpack_kinds.ps delta_unpack_reads.Asked
delta-unpack_asks_nothing κs a = refl

pub delta-pack_asks_nothing : AsksNothing 2 delta_pack_kinds.ps delta_pack_reads.Asked
delta-pack_asks_nothing κs a = refl

pub dictionary-scan_asks_nothing : AsksNothing 3 dictionary_scan_kinds.ps dictionary_scan_reads.Asked
dictionary-scan_asks_nothing κs a = refl

pub dictionary-unpack_asks_nothing : AsksNothing 3 dictionary_unpack_kinds.ps dictionary_unpack_reads.Asked
dictionary-unpack_asks_nothing κs a = refl

pub spans_from_bitmap_asks_nothing : AsksNothing 2 spans_from_bitmap_kinds.ps spans_from_bitmap_reads.Asked
spans_from_bitmap_asks_nothing κs a = refl

pub spans_to_bitmap_asks_nothing : AsksNothing 2 spans_to_bitmap_kinds.ps spans_to_bitmap_reads.Asked
spans_to_bitmap_asks_nothing κs a = refl

pub bitmap-bytes_asks_nothing : AsksNothing 0 bitmap_bytes_kinds.ps bitmap_bytes_reads.Asked
bitmap-bytes_asks_nothing κs a = refl

pub horizontal-bytes_asks_nothing : AsksNothing 0 horizontal_bytes_kinds.ps horizontal_bytes_reads.Asked
horizontal-bytes_asks_nothing κs a = refl

pub vertical-words_asks_nothing : AsksNothing 0 vertical_words_kinds.ps vertical_words_reads.Asked
vertical-words_asks_nothing κs a = refl

pub runs-bytes_asks_nothing : AsksNothing 0 runs_bytes_kinds.ps runs_bytes_reads.Asked
runs-bytes_asks_nothing κs a = refl

pub delta-bytes_asks_nothing : AsksNothing 0 delta_bytes_kinds.ps delta_bytes_reads.Asked
delta-bytes_asks_nothing κs a = refl

pub spans-places_asks_nothing : AsksNothing 0 spans_places_kinds.ps spans_places_reads.Asked
spans-places_asks_nothing κs a = refl
