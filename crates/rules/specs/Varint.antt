-- Variable-length numbers (ULEB128): seven bits a byte, lowest first, top bit set where more follow.
use Rattle.std.specs.Prelude.{cond, List, [], ◌∷◌, ℕ, zero, suc, ◌+◌, ◌-◌, ◌*◌, ◌/◌, ◌%◌, ◌^◌, ltb, drop}
use Rattle.rules.specs.declared.Number.{Number}
use Rattle.rules.specs.declared.Number.TheVariants.{Read, Ended, Beyond}

-- a byte's seven bits below a number that is one byte shorter
abbrev pub below : ℕ → Number → Number
below b (Read v used) = Read (b % 128 + 128 * v) (suc used)
below b Ended = Ended
below b Beyond = Beyond

-- the number in front of some bytes, with how many it takes: at most `more` after the first, and the last of so
-- many is below `top`
abbrev pub uleb : ℕ → ℕ → List ℕ → Number
uleb top zero [] = Ended
uleb top (suc more) [] = Ended
uleb top zero (b ∷ s) = cond (ltb b top) (Read b 1) Beyond
uleb top (suc more) (b ∷ s) = cond (ltb b 128) (Read b 1) (below b (uleb top more s))

-- with the next place for the bytes it takes
abbrev pub moved : ℕ → Number → Number
moved at (Read v used) = Read v (at + used)
moved at Ended = Ended
moved at Beyond = Beyond

-- numbers of W bits: of 32, five bytes, the fifth at most 0F
abbrev pub further_of : ℕ → ℕ
further_of W = (W - 1) / 7

abbrev pub top_of : ℕ → ℕ
top_of W = 2 ^ (W - 7 * further_of W)

-- the number of W bits at a place of a page
unfoldable pub number_at : ℕ → List ℕ → ℕ → Number
number_at W page at = moved at (uleb (top_of W) (further_of W) (drop at page))

-- 5 where the page ends in it, 9 where it is beyond its bits
abbrev pub number_fault : Number → ℕ
number_fault (Read v next) = 0
number_fault Ended = 5
number_fault Beyond = 9

-- every field gives its number and the next place, and reading goes on, or a refusal, which is passed up
unfoldable pub reading : {A : Type 0} → (ℕ → A) → Number → (ℕ → ℕ → A) → A
reading refuse (Read v next) onward = onward v next
reading refuse Ended onward = refuse 5
reading refuse Beyond onward = refuse 9
