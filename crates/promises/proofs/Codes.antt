-- The codes of these calls, each by its row; where 18 is given, and that 16 is not given again of a scan.
use Rattle.std.specs.Prelude.{◌≡◌, refl, true, not, ◌↔◌, ℕ, ◌%◌, ◌≤◌, ltb, eqb, length}
use Rattle.rules.specs.Bits.{ceil}
use Rattle.rules.specs.Spans.{misplaced}
use Rattle.promises.specs.WhichFaults.{a_fault, in_order, count_limit, limits}
use Rattle.promises.specs.WhichFaults.{scan_code, unpack_code, pack_code}
use Rattle.promises.specs.WhichFaults.{horizontal-page, column}
use Rattle.promises.specs.OneRunFaults.{one_code}
use Rattle.promises.specs.Pairs.{Ascends}
use Rattle.promises.proofs.Spans.{ascends_or_18}
use Rattle.promises.specs.Exported as Exporteds
use Rattle.promises.proofs.Exported as Exported
use Rattle.promises.specs.Calls.{EveryHorizontalScan}
use Rattle.promises.specs.Calls.{EveryRunsNext}
use Rattle.promises.specs.Calls.{EveryDeltaScan}
use Rattle.promises.specs.Calls.{EveryDictionaryScan, EveryDictionaryUnpack}
use Rattle.promises.specs.Calls.{EverySpansFromBitmap, EverySpansToBitmap}
use Rattle.promises.specs.Codes.{one_of, bare_scan, runs_next, delta_scan, dictionary_scan, dictionary_unpack, spans_from_bitmap, spans_to_bitmap, Named, outside, delta-scan}

pub horizontal-scan : EveryHorizontalScan (λ κs a r e. one_of bare_scan r.code ≡ true)
horizontal-scan κs a r e contract =
    let N : ℕ → Type 0 = Named bare_scan in
    scan_code N refl _ _ _ _ _ (Exporteds.horizontal-scan κs a r e contract).code_is refl refl
    (limits N refl refl refl _ _) (horizontal-page N refl refl refl refl _ _ _ _)

pub runs-next : EveryRunsNext (λ κs a r e. one_of runs_next r.code ≡ true)
runs-next κs a r e contract =
    let N : ℕ → Type 0 = Named runs_next in
    rw (Exported.runs-next κs a r e contract).code_is
    (one_code N refl refl refl refl refl refl refl refl a.1.0 a.1.1.0 a.1.1.1.1.0 a.0.now
    a.1.1.1.0)

pub dictionary-scan : EveryDictionaryScan (λ κs a r e. one_of dictionary_scan r.code ≡ true)
dictionary-scan κs a r e contract =
    let N : ℕ → Type 0 = Named dictionary_scan in
    scan_code N refl _ _ _ _ _ (Exported.dictionary-scan κs a r e contract).code_is refl refl
    (count_limit N refl refl a.1.1.0) (column N refl refl refl refl refl refl refl refl refl refl _ _ _)

pub dictionary-unpack : EveryDictionaryUnpack (λ κs a r e. one_of dictionary_unpack r.code ≡ true)
dictionary-unpack κs a r e contract =
    let N : ℕ → Type 0 = Named dictionary_unpack in
    unpack_code N refl _ _ _ _ (Exported.dictionary-unpack κs a r e contract).code_is refl
    (count_limit N refl refl a.1.1.0) (column N refl refl refl refl refl refl refl refl refl refl _ _ _)

pub spans_from_bitmap_lem : EverySpansFromBitmap (λ κs a r e. one_of spans_from_bitmap r.code ≡ true)
spans_from_bitmap_lem κs a r e contract =
    let N : ℕ → Type 0 = Named spans_from_bitmap in
    pack_code N refl _ _ _ _ (Exported.spans_from_bitmap_lem κs a r e contract).code_is refl
    (count_limit N refl refl a.1.0) (a_fault N refl (ltb (length a.0.now) (ceil a.1.0 8)) refl)

pub spans_to_bitmap_lem : EverySpansToBitmap (λ κs a r e. one_of spans_to_bitmap r.code ≡ true)
spans_to_bitmap_lem κs a r e contract =
    let N : ℕ → Type 0 = Named spans_to_bitmap in
    rw (Exported.spans_to_bitmap_lem κs a r e contract).code_is
    (in_order N refl (count_limit N refl refl a.1.0)
    (unpack_code N refl _ _ _ _ refl refl (a_fault N refl (not (eqb (length a.0.now % 2) 0)) refl)
    (a_fault N refl (misplaced a.1.0 0 a.0.now) refl)))

-- where nothing else is wrong, 18 is given just where the list does not ascend
pub eighteen : EverySpansToBitmap (λ κs a r e.
    a.1.0 ≤ 16384 → length a.0.now % 2 ≡ 0 → ceil a.1.0 8 ≤ length a.1.1.0.now
    → r.code ≡ 18 ↔ (Ascends a.1.0 a.0.now → ⊥))
eighteen κs a r e contract few even room = ascends_or_18 _ _ _ contract few even room

pub no_sixteen_scan : EveryDeltaScan (λ κs a r e. r.code ≡ 16 → ⊥)
no_sixteen_scan κs a r e contract = outside delta_scan (delta-scan κs a r e contract) refl
