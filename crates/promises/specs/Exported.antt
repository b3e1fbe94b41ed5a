-- Each C function keeps to what Conditions says of it. One run, dictionary columns and spans: proofs/Exported.
use Rattle.std.proofs.Common.{arith}
use Rattle.rules.specs.Horizontal as Horizontal
use Rattle.rules.specs.Vertical as Vertical
use Rattle.rules.specs.Runs as Runs
use Rattle.rules.specs.RunWriter as RunWriter
use Rattle.rules.specs.Delta as Delta
use Rattle.rules.specs.DeltaWriter as DeltaWriter
use Rattle.promises.specs.Calls.{EveryHorizontalScan, EveryHorizontalUnpack, EveryHorizontalPack}
use Rattle.promises.specs.Calls.{EveryVerticalScan, EveryVerticalUnpack, EveryVerticalPack}
use Rattle.promises.specs.Calls.{EveryRunsScan, EveryRunsUnpack, EveryRunsPack}
use Rattle.promises.specs.Calls.{EveryDeltaScan, EveryDeltaUnpack, EveryDeltaPack}
use Rattle.promises.specs.Horizontal as Horizontals
use Rattle.promises.specs.Horizontal.{horizontal}
use Rattle.promises.specs.Vertical as Verticals
use Rattle.promises.specs.Vertical.{vertical}
use Rattle.promises.specs.Runs as Streams
use Rattle.promises.specs.Runs.{runs}
use Rattle.promises.specs.Delta as Deltas
use Rattle.promises.specs.Delta.{delta}
use Rattle.promises.specs.Keeping.{giving, scan_keeps, unpack_keeps, pack_keeps}
use Rattle.promises.specs.Conditions.{HorizontalScan, HorizontalUnpack, HorizontalPack}
use Rattle.promises.specs.Conditions.{VerticalScan, VerticalUnpack, VerticalPack}
use Rattle.promises.specs.Conditions.{RunsScan, RunsUnpack, RunsPack}
use Rattle.promises.specs.Conditions.{DeltaScan, DeltaUnpack, DeltaPack}

pub horizontal-scan : EveryHorizontalScan
    (λ κs a r e. HorizontalScan a.0.now a.1.0 a.1.1.0 a.1.1.1.0 a.1.1.1.1.0
    a.1.1.1.1.1.0 a.1.1.1.1.1.1.0.now e.1.1.1.1.1.1.0.now r)
unfolding Horizontal.scan
horizontal-scan κs a r e contract = scan_keeps horizontal _ _ _ _ _ _ _ contract

pub horizontal-unpack : EveryHorizontalUnpack
    (λ κs a r e. HorizontalUnpack a.0.now a.1.0 a.1.1.0 a.1.1.1.0.now e.1.1.1.0.now r)
unfolding Horizontal.unpack
horizontal-unpack κs a r e contract = unpack_keeps horizontal _ _ _ _ contract

pub horizontal-pack : EveryHorizontalPack
    (λ κs a r e. HorizontalPack a.0.now a.1.0 a.1.1.0.now e.1.1.0.now r)
unfolding Horizontal.pack
horizontal-pack κs a r e contract = pack_keeps horizontal Horizontals.writer _ _ _ contract

pub vertical-scan : EveryVerticalScan
    (λ κs a r e. VerticalScan a.0.now a.1.0 a.1.1.0 a.1.1.1.0 a.1.1.1.1.0
    a.1.1.1.1.1.0 a.1.1.1.1.1.1.0.now e.1.1.1.1.1.1.0.now r)
unfolding Vertical.scan
vertical-scan κs a r e contract = scan_keeps vertical _ _ _ _ _ _ _ contract

pub vertical-unpack : EveryVerticalUnpack
    (λ κs a r e. VerticalUnpack a.0.now a.1.0 a.1.1.0 a.1.1.1.0.now e.1.1.1.0.now r)
unfolding Vertical.unpack
vertical-unpack κs a r e contract = unpack_keeps vertical _ _ _ _ contract

pub vertical-pack : EveryVerticalPack
    (λ κs a r e. VerticalPack a.0.now a.1.0 a.1.1.0.now e.1.1.0.now r)
unfolding Vertical.pack
vertical-pack κs a r e contract = pack_keeps vertical Verticals.writer _ _ _ contract

pub runs-scan : EveryRunsScan
    (λ κs a r e. RunsScan a.0.now a.1.0 a.1.1.0 a.1.1.1.0 a.1.1.1.1.0
    a.1.1.1.1.1.0 a.1.1.1.1.1.1.0.now e.1.1.1.1.1.1.0.now r)
unfolding Runs.scan
runs-scan κs a r e contract =
    giving (scan_keeps runs _ _ _ _ _ _ _ contract) (λ ok. Streams.scan-cut _ _ _ _ _ _ _ contract ok)

pub runs-unpack : EveryRunsUnpack
    (λ κs a r e. RunsUnpack a.0.now a.1.0 a.1.1.0 a.1.1.1.0.now e.1.1.1.0.now r)
unfolding Runs.unpack
runs-unpack κs a r e contract =
    giving (unpack_keeps runs _ _ _ _ contract) (λ ok. Streams.unpack-cut _ _ _ _ contract ok)

pub runs-pack : EveryRunsPack
    (λ κs a r e. RunsPack a.0.now a.1.0 a.1.1.0.now e.1.1.0.now r)
unfolding RunWriter.pack
runs-pack κs a r e contract = pack_keeps runs Streams.writer _ _ _ contract

pub delta-scan : EveryDeltaScan
    (λ κs a r e. DeltaScan a.0.now a.1.0 a.1.1.0 a.1.1.1.0 a.1.1.1.1.0
    a.1.1.1.1.1.0.now e.1.1.1.1.1.0.now r)
unfolding Delta.scan
delta-scan κs a r e contract = scan_keeps (delta 32) _ tt _ _ _ _ _ contract

pub delta-unpack : EveryDeltaUnpack
    (λ κs a r e. DeltaUnpack a.0.now a.1.0 a.1.1.0.now e.1.1.0.now r)
unfolding Delta.unpack
delta-unpack κs a r e contract = unpack_keeps (delta 32) _ tt _ _ contract

pub delta-pack : EveryDeltaPack (λ κs a r e. DeltaPack a.0.now a.1.0.now e.1.0.now r)
unfolding DeltaWriter.pack
delta-pack κs a r e contract = pack_keeps (delta 32) (Deltas.writer 32 (omega arith)) _ tt _ contract
