-- The number that a typed word spells: decimal digits, a sign before them.
use Rattle.std.specs.Prelude.{Bool, cond, ◌&&◌, List, [], ◌∷◌, ℕ, ℤ, ◌+◌, ◌-◌, ◌*◌, ◌^◌, eqb, ltb, leb, pos, negsuc, length, drop, get_or}
use Rattle.std.specs.Prelude.{Some, None}
use Rattle.std.proofs.Common.{Option, option_and_then}

-- is a byte `0` to `9`
abbrev pub is_digit : ℕ → Bool
is_digit b = leb 48 b && leb b 57

-- the number that digits spell behind those that spell m; none where a byte is no digit
unfoldable pub onward : ℕ → List ℕ → Option ℕ
onward m [] = Some m
onward m (b ∷ word) = cond (is_digit b) (onward (m * 10 + (b - 48)) word) None

-- the number that a word of digits spells
unfoldable pub spelled : List ℕ → Option ℕ
spelled [] = None
spelled (b ∷ word) = onward 0 (b ∷ word)

-- a count: at most 32 bits
abbrev pub counted : ℕ → Option ℕ
counted m = cond (ltb m (2 ^ 32)) (Some m) None

unfoldable pub count_of : List ℕ → Option ℕ
count_of word = option_and_then counted (spelled word)

-- a number of 64 bits with its sign: m, where it is below 2^63
unfoldable pub at_most : ℕ → Option ℤ
at_most m = cond (ltb m (2 ^ 63)) (Some (pos m)) None

-- -m, where m is at most 2^63 (negsuc k is -k - 1)
unfoldable pub below : ℕ → Option ℤ
below m = cond (eqb m 0) (Some (pos 0)) (cond (ltb (m - 1) (2 ^ 63)) (Some (negsuc (m - 1))) None)

-- a constant: digits, or `-` or `+` and digits
unfoldable pub constant_of : List ℕ → Option ℤ
constant_of word =
    cond (eqb (length word) 0) None
    (cond (eqb (get_or word 0 0) 45) (option_and_then below (spelled (drop 1 word)))
    (cond (eqb (get_or word 0 0) 43) (option_and_then at_most (spelled (drop 1 word)))
    (option_and_then at_most (spelled word))))

-- ---- within 64 bits

-- a number that is kept: at most 2^63 + 1
abbrev pub within : ℕ → Option ℕ
within m = cond (ltb m 9223372036854775810) (Some m) None

-- what a word of digits spells, where it is kept
abbrev pub kept : List ℕ → Option ℕ
kept word = option_and_then within (spelled word)

-- a digit more, where there is room
unfoldable pub further : ℕ → ℕ → Option ℕ
further m b = cond (ltb 922337203685477580 m) None (cond (is_digit b) (Some (m * 10 + (b - 48))) None)
