-- Bits, bytes and entries: which bits an entry covers, and what number they spell.
use Rattle.std.specs.Prelude.{Bool, true, false, cond, ◌||◌, List, [], ◌∷◌, ◌++◌, ℕ, zero, suc, ◌+◌, ◌-◌, ◌*◌, ◌/◌, ◌%◌, ◌^◌, length, take, drop, get_or}

-- how many parts of size d it takes to hold n
abbrev pub ceil : ℕ → ℕ → ℕ
ceil n d = (n + (d - 1)) / d

-- f 0, f 1, .. f (n - 1)
unfoldable pub tabulate : {A : Type 0} → ℕ → (ℕ → A) → List A
tabulate zero f = []
tabulate (suc n) f = f zero ∷ tabulate n (λ k. f (suc k))

-- does some number below n pass
unfoldable pub some_below : ℕ → (ℕ → Bool) → Bool
some_below zero test = false
some_below (suc n) test = test zero || some_below n (λ k. test (suc k))

-- the least number below n that passes, or n if there is none
unfoldable pub least_below : ℕ → (ℕ → Bool) → ℕ
least_below zero test = 0
least_below (suc n) test = cond (test zero) 0 (suc (least_below n (λ k. test (suc k))))

-- the list with vs from place `at` on; every other place keeps what it held
unfoldable pub put : {A : Type 0} → List A → ℕ → List A → List A
put l at vs = take at l ++ vs ++ drop (at + length vs) l

-- bit k of a number, the lowest being bit 0: 0 or 1
unfoldable pub bit : ℕ → ℕ → ℕ
bit x k = x / 2 ^ k % 2

-- what a test says, as a bit
abbrev pub flag : Bool → ℕ
flag true = 1
flag false = 0

-- the number of n bits whose bit k is set where the test holds of k
unfoldable pub word : ℕ → (ℕ → Bool) → ℕ
word zero test = 0
word (suc n) test = flag (test zero) + word n (λ k. test (suc k)) * 2

-- the n low bytes of a number, low byte first
unfoldable pub bytes : ℕ → ℕ → List ℕ
bytes zero x = []
bytes (suc n) x = x % 256 ∷ bytes n (x / 256)

-- the number that numbers of d bits make, the first of them lowest
unfoldable pub joined : ℕ → List ℕ → ℕ
joined d [] = 0
joined d (x ∷ xs) = x + joined d xs * 2 ^ d

-- the number that bytes make, low byte first
abbrev pub number : List ℕ → ℕ
number bs = joined 8 bs

-- which bit of a number comes first where numbers are laid end to end
pub data Order : Type 0 where
  low_first high_first : Order

-- bit j, in that order, of a number of d bits
unfoldable pub bit_of : Order → ℕ → ℕ → ℕ → ℕ
bit_of low_first d x j = bit x j
bit_of high_first d x j = bit x (d - 1 - j)

-- bit k of numbers of d bits laid end to end
unfoldable pub bit_at : Order → ℕ → List ℕ → ℕ → ℕ
bit_at o d xs k = bit_of o d (get_or xs (k / d) 0) (k % d)

-- the number that w of those bits spell, from bit k on
unfoldable pub piece : Order → ℕ → List ℕ → ℕ → ℕ → ℕ
piece low_first d xs k zero = 0
piece low_first d xs k (suc w) = bit_at low_first d xs k + piece low_first d xs (suc k) w * 2
piece high_first d xs k zero = 0
piece high_first d xs k (suc w) = bit_at high_first d xs k * 2 ^ w + piece high_first d xs (suc k) w

-- the number that the w bits of a page from bit k on spell
abbrev pub field : Order → List ℕ → ℕ → ℕ → ℕ
field o page k w = piece o 8 page k w

-- entry i of a page of entries of width w takes the bits i × w to i × w + w − 1
abbrev pub entry : Order → List ℕ → ℕ → ℕ → ℕ
entry o page w i = field o page (i * w) w

-- and byte i of the page that such entries make takes the bits 8 × i to 8 × i + 7
abbrev pub entry_byte : Order → ℕ → List ℕ → ℕ → ℕ
entry_byte o w entries i = piece o w entries (i * 8) 8
