-- The selection bitmap: bit i is bit i mod 8, lowest first, of byte i div 8; the unused bits of the last byte are 0.
use Rattle.std.specs.Prelude.{Bool, List, ℕ, zero, suc, ◌+◌}
use Rattle.rules.specs.Bits.{ceil, flag, word, bytes}

-- of n entries, those that pass
unfoldable pub bitmap : ℕ → (ℕ → Bool) → List ℕ
bitmap n test = bytes (ceil n 8) (word n test)

-- how many of n entries pass
unfoldable pub tally : ℕ → (ℕ → Bool) → ℕ
tally zero test = 0
tally (suc n) test = flag (test zero) + tally n (λ k. test (suc k))
