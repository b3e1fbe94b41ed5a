-- `words::loads::load8` meets its contract: the library adds up what the bytes of the first chunk are worth.
use mathlib.Core.Path.{ap, ◌∙◌}
use mathlib.Core.List.{List}
use Prim.Native.Nat.{ℕ, ◌-◌}
use native.Mathlib.Omega.{arith}
use lib.ListN.{length, take, drop, length-drop}
use Rattle.rules.specs.Bits.{number}
use Rattle.words.specs.Bytes.{number_chunk}
use Rattle.words.specs.Puts.{part_rest}
use Rattle.words.proofs.loads.load8.Goals as goal

pub returns : goal.returns
returns c =
    let s = c.args.s.now in
    let at = c.args.at in
    let t : List ℕ = take (length s - at) (drop at s) in
    c.from_le_bytes.ensures
    ∙ number_chunk t 7 0 c.as_chunks.result.0.now (rw part_rest (simp length-drop (omega arith))) c.as_chunks.ensures.front
    ∙ ap (λ (l : List ℕ). number (take 8 l)) (part_rest s at)
