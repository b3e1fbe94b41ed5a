-- The shortest spelling of a number: seven bits a byte, lowest first, as few bytes as hold it.
use Rattle.std.specs.Prelude.{Bool, true, false, List, [], ◌∷◌, ℕ, zero, suc, ◌+◌, ◌/◌, ◌%◌, ltb}

-- a number that one byte holds, or its low seven bits, and `onward` spells the others
abbrev pub byte_or : Bool → ℕ → (ℕ → List ℕ) → List ℕ
byte_or true x onward = x ∷ []
byte_or false x onward = (x % 128 + 128) ∷ onward (x / 128)

-- with at most `further` bytes behind the first
abbrev pub spelling : ℕ → ℕ → List ℕ
spelling zero x = x ∷ []
spelling (suc further) x = byte_or (ltb x 128) x (λ rest. spelling further rest)

-- x further bytes are always enough for x
unfoldable pub shortest : ℕ → List ℕ
shortest x = spelling x x
