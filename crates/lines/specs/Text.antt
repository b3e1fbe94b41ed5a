-- What a line holds, and how that grows: to its end, at 120 places, and no further.
use Rattle.std.specs.Prelude.{cond, List, [], ◌∷◌, ◌++◌, ℕ, zero, suc, ◌+◌, ◌-◌, ◌/◌, ◌%◌, min, ltb, take, length, replicate}
use Prim.Native.Char.{code}
use Prim.Native.String.{String, [] as end, ◌∷◌ as char◌then◌}
use lib.IntN.{ℤ, pos, negsuc}
use Rattle.io.specs.Digits.{last_digits}
use Rattle.lines.specs.declared.Line.{Line}

-- a text's bytes, of which each is ASCII here
unfoldable pub ascii : String → List ℕ
ascii end = []
ascii (char c then s) = code c ∷ ascii s

-- the bytes laid out so far
unfoldable pub held : Line → List ℕ
held line = take line.used line.text

-- a text with more behind it, cut at the line's end
unfoldable pub laid : List ℕ → List ℕ → List ℕ
laid text more = take 120 (text ++ more)

-- how many decimal digits n has, of at most most + 1
unfoldable pub places : ℕ → ℕ → ℕ
places zero n = 1
places (suc most) n = cond (ltb n 10) 1 (suc (places most (n / 10)))

-- a number of 64 bits in decimal digits
unfoldable pub decimal : ℕ → List ℕ
decimal n = last_digits 10 (places 19 n) n

-- a signed number in decimal digits, `-` (45) before them where it is below zero
unfoldable pub signed_decimal : ℤ → List ℕ
signed_decimal (pos n) = decimal n
signed_decimal (negsuc n) = 45 ∷ decimal (suc n)

-- the ASCII code of a hexadecimal digit: `0` to `9`, then `A` to `F`
unfoldable pub hex_digit : ℕ → ℕ
hex_digit d = cond (ltb d 10) (48 + d) (55 + d)

-- a byte in two hexadecimal digits
unfoldable pub hexadecimal : ℕ → List ℕ
hexadecimal b = hex_digit (b / 16) ∷ hex_digit (b % 16) ∷ []

-- each of a list by its spelling, a blank before it
unfoldable pub spelled : {A : Type 0} → (A → List ℕ) → List A → List ℕ
spelled f [] = []
spelled f (x ∷ xs) = (32 ∷ f x) ++ spelled f xs

-- the blanks after which a text goes on at place `at`, or at the line's end
unfoldable pub padding : ℕ → List ℕ → List ℕ
padding at text = replicate (min at 120 - length text) 32
