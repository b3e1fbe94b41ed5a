-- `delta_write::deltas::put_above` meets its contract: each turn stores one number behind those that are stored.
use Rattle.std.proofs.Common.{◌≡◌, ℕ, ◌+◌, ◌≤◌, List, length, get_or, take, drop, set, sym, ap, ◌∙◌, ap₂, arith, take_all, w32}
use Rattle.rules.specs.Bits.{put}
use Rattle.rules.specs.DeltaWriter.{deltas, above_least}
use Rattle.words.specs.Puts.{put-none, put-take}
use Rattle.signed.proofs.Signs.{kept}
use Rattle.delta_write.specs.Deltas.{length-deltas, length_part_above, least_part, get_or_part_above}
use Rattle.delta_write.proofs.deltas.put_above.Goals as goal

pub loop-i-init : goal.loop-i-init
loop-i-init c = put-none c.args.numbers.now 0

pub above-requires : goal.above-requires
above-requires c =
    let a = c.args in
    let ds = deltas 32 a.entries.now in
    let delta = kept w32 c.delta_at.result (record { sfits = c.delta_at.type_inv }) ∙ c.delta_at.ensures in
    let smallest = kept w32 a.smallest c.ranges.smallest ∙ c.requires.3 in
    rw (delta, smallest)
    (least_part ds a.from a.k (omega (arith, length-deltas 32 a.entries.now)) c.loop-i.i (omega arith))

pub loop-i-preserved : goal.loop-i-preserved
loop-i-preserved c =
    let l = c.loop-i in
    let a = c.args in
    let ds = deltas 32 a.entries.now in
    let xs = above_least (take a.k (drop a.from ds)) in
    let delta = kept w32 c.delta_at.result (record { sfits = c.delta_at.type_inv }) ∙ c.delta_at.ensures in
    let smallest = kept w32 a.smallest c.ranges.smallest ∙ c.requires.3 in
    let within : a.from + a.k ≤ length ds = omega (arith, length-deltas 32 a.entries.now) in
    let number : c.above.result ≡ get_or xs l.i 0 =
    (rw (delta, smallest) at c.above.ensures) ∙ sym (get_or_part_above ds a.from a.k within l.i (omega arith)) in
    ap₂ (λ (ns : List ℕ) (x : ℕ). set ns l.i x) l.invariant number
    ∙ put-take a.numbers.now xs l.i 0 (omega arith) (omega (arith, length_part_above ds a.from a.k within))

pub returns : goal.returns
returns c =
    let l = c.loop-i in
    let a = c.args in
    let ds = deltas 32 a.entries.now in
    let within : a.from + a.k ≤ length ds = omega (arith, length-deltas 32 a.entries.now) in
    l.invariant
    ∙ ap (put a.numbers.now 0)
    (take_all l.i (above_least (take a.k (drop a.from ds)))
    (omega (arith, length_part_above ds a.from a.k within)))
