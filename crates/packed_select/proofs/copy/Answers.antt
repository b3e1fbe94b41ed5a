-- `packed_select::copy` meets its contract. The loop's invariant: the bytes passed are in place.
use Rattle.std.proofs.Common.{◌≡◌, ◌-◌, length, take, drop, ap, ◌∙◌, arith, take_all, length-drop}
use Rattle.rules.specs.Bits.{put}
use Rattle.words.specs.Puts.{put-none, put-take, part_rest}
use Rattle.packed_select.proofs.copy.Goals as goal

pub loop-i-init : goal.loop-i-init
loop-i-init c = put-none c.args.rest.now 0

pub loop-i-preserved : goal.loop-i-preserved
loop-i-preserved c =
    let a = c.args in
    let l = c.loop-i in
    let s = take (length a.page.now - a.a) (drop a.a a.page.now) in
    let size : length s ≡ length a.page.now - a.a = ap length (part_rest a.page.now a.a) ∙ length-drop a.a a.page.now in
    rw l.invariant (put-take a.rest.now s l.i 0 (omega arith) (omega arith))

pub returns : goal.returns
returns c =
    let a = c.args in
    let l = c.loop-i in
    let s = take (length a.page.now - a.a) (drop a.a a.page.now) in
    l.invariant ∙ ap (put a.rest.now 0) (take_all l.i s (omega arith) ∙ part_rest a.page.now a.a)
