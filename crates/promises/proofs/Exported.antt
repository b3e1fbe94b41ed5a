-- Each of these C functions keeps to what Conditions says of it.
use Rattle.rules.specs.Dictionary as Dictionary
use Rattle.promises.specs.Calls.{EveryRunsNext}
use Rattle.promises.specs.Calls.{EveryDictionaryScan, EveryDictionaryUnpack}
use Rattle.promises.specs.Calls.{EverySpansFromBitmap, EverySpansToBitmap}
use Rattle.promises.proofs.Dictionary as Columns
use Rattle.promises.proofs.Dictionary.{dictionary}
use Rattle.promises.specs.OneRun as OneRuns
use Rattle.promises.proofs.OneRun as OneRun
use Rattle.promises.specs.Keeping.{giving, scan_keeps, unpack_keeps}
use Rattle.promises.specs.Conditions.{RunsNext}
use Rattle.promises.specs.Conditions.{DictionaryScan, DictionaryUnpack}
use Rattle.promises.specs.Conditions.{SpansFromBitmap, SpansToBitmap}
use Rattle.promises.proofs.Spans.{from_keeps, to_keeps}

pub runs-next : EveryRunsNext
    (λ κs a r e. RunsNext a.0.now a.1.0 a.1.1.0 a.1.1.1.0 a.1.1.1.1.0 r)
runs-next κs a r e contract =
    record {
      code_is = OneRun.code_is _ _ _ _ _ contract;
      accepted = OneRun.one-accepted _ _ _ _ _ contract;
      refused = OneRuns.refused _ _ _ _ _ contract;
      never_six = OneRun.never_six _ _ _ _ _ contract;
      told = OneRun.one_told _ _ _ _ _ contract;
      on_page = OneRuns.on_page _ _ _ _ _ contract;
    }

pub dictionary-scan : EveryDictionaryScan
    (λ κs a r e. DictionaryScan a.0.now a.1.0.now a.1.1.0 a.1.1.1.0 a.1.1.1.1.0
    a.1.1.1.1.1.0 a.1.1.1.1.1.1.0.now e.1.1.1.1.1.1.0.now r)
unfolding Dictionary.scan
dictionary-scan κs a r e contract =
    giving (scan_keeps dictionary _ _ _ _ _ _ _ contract) (λ ok. Columns.scan-cut _ _ _ _ _ _ _ contract ok)

pub dictionary-unpack : EveryDictionaryUnpack
    (λ κs a r e. DictionaryUnpack a.0.now a.1.0.now a.1.1.0 a.1.1.1.0.now
    e.1.1.1.0.now r)
unfolding Dictionary.unpack
dictionary-unpack κs a r e contract =
    giving (unpack_keeps dictionary _ _ _ _ contract) (λ ok. Columns.unpack-cut _ _ _ _ contract ok)

pub spans_from_bitmap_lem : EverySpansFromBitmap
    (λ κs a r e. SpansFromBitmap a.0.now a.1.0 a.1.1.0.now e.1.1.0.now r)
spans_from_bitmap_lem κs a r e contract = from_keeps _ _ _ contract

pub spans_to_bitmap_lem : EverySpansToBitmap
    (λ κs a r e. SpansToBitmap a.0.now a.1.0 a.1.1.0.now e.1.1.0.now r)
spans_to_bitmap_lem κs a r e contract = to_keeps _ _ _ contract
