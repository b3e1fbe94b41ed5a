-- One group of bit planes compared: its 64 bits, and how many of its planes are taken for them. The highest plane
-- is the first.
use Rattle.std.specs.Prelude.{Bool, false, not, cond, ◌&&◌, ◌||◌, List, [], ◌∷◌, ℕ, ◌-◌, ◌/◌, ◌^◌, ℤ, pos, negsuc, ltb, eqb, length}
use Rattle.rules.specs.Bits.{word, some_below, least_below}
use Rattle.rules.specs.Comparison.{holds}
use Rattle.rules.specs.Vertical.{lane}
use Rattle.rules.specs.declared.Compared.{Compared}

-- after i of w planes lane j's planes so far are the highest bits of the constant; one outside 0 to 2^w − 1 leaves
-- no lane undecided from the start
unfoldable pub undecided : List ℕ → ℕ → ℕ → ℤ → ℕ → Bool
undecided group w i (pos c) j = ltb c (2 ^ w) && eqb (lane group 0 i j) (c / 2 ^ (w - i))
undecided group w i (negsuc c) j = false

-- is one of the 64 lanes undecided, against one of the constants
unfoldable pub some_undecided : List ℕ → ℕ → ℕ → List ℤ → Bool
some_undecided group w i [] = false
some_undecided group w i (c ∷ cs) = some_below 64 (undecided group w i c) || some_undecided group w i cs

-- the least number of planes after which no lane is undecided, or all of them if there is none
unfoldable pub planes_taken : List ℕ → List ℤ → ℕ
planes_taken group cs = least_below (length group) (λ i. not (some_undecided group (length group) i cs))

-- the constants that an operator asks about: a, and for 6 and 7 also b
unfoldable pub constants : ℕ → ℤ → ℤ → List ℤ
constants op a b = cond (ltb op 6) (a ∷ []) (a ∷ b ∷ [])

-- a bit for each entry, and the planes taken
unfoldable pub compared : List ℕ → ℕ → ℤ → ℤ → Compared
compared group op a b =
    record {
      bits = word 64 (λ j. holds op a b (pos (lane group 0 (length group) j)));
      taken = planes_taken group (constants op a b);
    }
