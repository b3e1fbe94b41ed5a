-- The lanes past the last entry: that none of them is set.
use Rattle.std.specs.Prelude.{◌≡◌, false, List, ℕ, ◌+◌, ◌-◌, ◌*◌, ◌≤◌, ◌<◌, ltb}
use Rattle.std.proofs.Common.{sym, ap, ◌∙◌, arith, ltb-false}
use Rattle.rules.specs.Bits.{ceil}
use Rattle.rules.specs.Vertical.{entry, unused}
use Rattle.words.specs.SomeBelow.{below_none}

-- no lane past n is set: each of them, up to the end of its group, is 0
pub unused-zero : (words : List ℕ) (w n i : ℕ) → unused words w n ≡ false → n ≤ i → i < 64 * ceil n 64
    → entry words w i ≡ 0
unused-zero words w n i e from to =
    let k : ℕ = i - n in
    let here : n + k ≡ i = omega arith in
    let off : ltb 0 (entry words w (n + k)) ≡ false =
    below_none (64 * ceil n 64 - n) (λ k. ltb 0 (entry words w (n + k))) e k (omega arith) in
    let none : entry words w (n + k) ≡ 0 = omega (arith, ltb-false 0 (entry words w (n + k)) off) in
    sym (ap (entry words w) here) ∙ none
