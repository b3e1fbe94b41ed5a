-- `vertical_scan::judging::all_planes` meets its contract.
use mathlib.Core.Path.{◌≡◌, refl, ap₂, ◌∙◌}
use Prim.Native.Nat.{◌+◌, ◌-◌}
use native.Mathlib.Numerals.{add-one}
use native.Mathlib.Omega.{arith}
use lib.Bits.{bit_or}
use lib.ListN.{take, drop, get_or}
use Rattle.std.proofs.lemmas.List.{get_or-take}
use Rattle.std.proofs.Common.{get_or-drop}
use Rattle.vertical_scan.specs.UnusedLanes.{or_to}
use Rattle.vertical_scan.proofs.judging.all_planes.Goals as goal

pub loop-word-init : goal.loop-word-init
unfolding or_to
loop-word-init c = refl

pub loop-word-preserved : goal.loop-word-preserved
unfolding or_to
loop-word-preserved c =
    let a = c.args in
    let l = c.loop-word in
    let words = a.words.now in
    let word : get_or (take (a.at + a.w - a.at) (drop a.at words)) l.word-index 0 ≡ get_or words (a.at + l.word-index) 0 =
    get_or-take (a.at + a.w - a.at) (drop a.at words) l.word-index 0 (omega arith)
    ∙ get_or-drop a.at words l.word-index 0 in
    rw add-one (ap₂ bit_or l.invariant word)

pub returns : goal.returns
returns c =
    let all : c.loop-word.word-index ≡ c.args.w = omega arith in
    rw (← all) c.loop-word.invariant
