-- `pack::runs::pack` meets its contract: the faults in their order, then the stream of the entries.
use mathlib.Core.Path.{sym, ap, ◌∙◌}
use native.Mathlib.Omega.{arith}
use Rattle.rules.specs.Answer.{accepted}
use Rattle.rules.specs.RunWriter as RunWriter
use Rattle.answers.specs.Laws.{then_judged, then_refused, then_zero, within-limits, has_room, passed_up}
use Rattle.answers.specs.Laws.{refused_call, accepted_is}
use Rattle.packed_entries.specs.NoneTooLarge.{fits_of}
use Rattle.runs_write.specs.Sizes.{stream-size_le}
use Rattle.pack.proofs.runs.pack.Goals as goal

pub returns-in_err-judge_unsigned : goal.returns-in_err-judge_unsigned
unfolding RunWriter.pack
returns-in_err-judge_unsigned c =
    rw (passed_up _ _ c.from_residual.ensures)
    (refused_call _ _ _ _ _ (then_refused _ _ _ c.in_err-judge_unsigned.ensures))

pub stream_size-bytes-requires : goal.stream_size-bytes-requires
stream_size-bytes-requires c = within-limits _ _ (sym c.in_ok-judge_unsigned.ensures)

pub judge_entries-requires : goal.judge_entries-requires
judge_entries-requires c = (within-limits _ _ (sym c.in_ok-judge_unsigned.ensures)).0

pub returns-in_err-judge_entries : goal.returns-in_err-judge_entries
unfolding RunWriter.pack
returns-in_err-judge_entries c =
    let judged = rw c.stream_size-bytes.ensures at c.in_err-judge_entries.ensures in
    rw (passed_up _ _ c.from_residual-in_err-judge_entries.ensures)
    (refused_call _ _ _ _ _ (then_judged _ _ c.in_ok-judge_unsigned.ensures ∙ sym judged))

pub put_stream-requires : goal.put_stream-requires
put_stream-requires c =
    let k = within-limits _ _ (sym c.in_ok-judge_unsigned.ensures) in
    let judged = rw c.stream_size-bytes.ensures at c.in_ok-judge_entries.ensures in
    let z = then_zero _ _ (sym judged) in
    (k.0, k.1, fits_of _ _ z.0, has_room _ _ z.1)

pub overflow_cast-result : goal.overflow_cast-result
overflow_cast-result c =
    let k = within-limits _ _ (sym c.in_ok-judge_unsigned.ensures) in
    omega (arith, stream-size_le c.args.width k.0 c.args.entries.now k.1)

pub returns : goal.returns
unfolding RunWriter.pack
returns c =
    let judged = rw c.stream_size-bytes.ensures at c.in_ok-judge_entries.ensures in
    accepted_is _ _ _ _ _ _ (then_judged _ _ c.in_ok-judge_unsigned.ensures ∙ sym judged)
    (ap accepted c.stream_size-bytes.ensures) c.put_stream.ensures
