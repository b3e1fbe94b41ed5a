-- `bitmaps::is_set` meets its contract: the bit of the byte that holds it, and 0 past the end.
use mathlib.Core.Path.{◌≡◌, refl, sym, ap, ◌∙◌}
use mathlib.Core.Bool.{Bool, true, false}
use Prim.Native.Nat.{ℕ, ◌/◌, ◌%◌, ◌^◌, ◌<◌}
use native.Mathlib.Omega.{arith}
use lib.Dec.{eqb}
use borrow.Author.Tests.{eqb-true, eqb-false}
use Rattle.rules.specs.Bits.{bit, bit_of, bit_at, flag}
use Rattle.words.specs.Bits.{bit_of_zero}
use Rattle.bitmaps.proofs.is_set.Goals as goal

-- whether a bit is 1 is the bit
flag-of-bit : (x : ℕ) → x < 2 → flag (eqb x 1) ≡ x
flag-of-bit x h = go (eqb x 1) refl
  where
    go : (t : Bool) → eqb x 1 ≡ t → flag t ≡ x
    go true e = sym (eqb-true x 1 e)
    go false e = omega (arith, eqb-false x 1 e)

pub returns-in-Some : goal.returns-in-Some
unfolding bit_at bit_of bit
returns-in-Some c =
    let i = c.args.i in
    flag-of-bit (c.in-Some.byte.now / 2 ^ (i % 8) % 2) (omega arith)
    ∙ ap (λ (b : ℕ). b / 2 ^ (i % 8) % 2) (c.in-Some.ensures.lookup.4 (omega arith) 0)

pub returns-in-None : goal.returns-in-None
unfolding bit_at bit_of
returns-in-None c =
    let i = c.args.i in
    sym (bit_of_zero (i % 8)) ∙ ap (λ (b : ℕ). bit b (i % 8)) (c.in-None.ensures.lookup.4 (omega arith) 0)
