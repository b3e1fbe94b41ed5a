-- How the lanes of a group stand to one end of a band, and what one plane more makes of that.
use Rattle.std.specs.Prelude.{Bool, false, cond, List, ℕ, ◌-◌, ◌^◌, eqb, ℤ, pos, negsuc}
use Rattle.std.specs.Int.Bits.{bit_and, bit_or}
use Rattle.std.specs.Int.Signed.{lt_z, shr_z}
use Rattle.rules.specs.Bits.{bit, word}
use Rattle.rules.specs.Vertical.{lane}
use Rattle.vertical_compare.specs.declared.ends.End.{End}

-- is the entry x that whole number
abbrev pub same : ℕ → ℤ → Bool
same x (pos c) = eqb x c
same x (negsuc c) = false

-- the constant whose bits are read; against a negative one no lane is undecided, and 0 stands in for it
abbrev pub bits_of : ℤ → ℕ
bits_of (pos c) = c
bits_of (negsuc c) = 0

abbrev pub end_of : ℕ → ℕ → ℕ → End
end_of constant less undecided = record { constant = constant; less = less; undecided = undecided }

-- after i planes of n lanes, with `left` planes to come: a lane's planes so far against as many of the constant's
-- highest bits
unfoldable pub end_at : ℕ → List ℕ → ℕ → ℕ → ℤ → End
end_at n planes i left c =
    end_of (bits_of c)
    (word n (λ j. lt_z (pos (lane planes 0 i j)) (shr_z c (2 ^ left))))
    (word n (λ j. same (lane planes 0 i j) (shr_z c (2 ^ left))))

-- one plane more: where the constant's bit is 1, the undecided lanes whose bit is 0 fall below it
unfoldable pub stepped : ℕ → End → ℕ → ℕ → End
stepped n end plane left =
    cond (eqb (bit end.constant left) 1)
    (end_of end.constant (bit_or end.less (bit_and end.undecided (2 ^ n - 1 - plane)))
    (bit_and end.undecided plane))
    (end_of end.constant end.less (bit_and end.undecided (2 ^ n - 1 - plane)))
