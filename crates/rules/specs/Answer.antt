-- The shape of every answer: what the code, the number and the lent places are. A layout gives its first fault and
-- its entries.
use Rattle.std.specs.Prelude.{Bool, true, false, ◌||◌, List, [], ◌∷◌, ℕ, zero, suc, ◌^◌, ltb, leb, length}
use Rattle.rules.specs.Bits.{put}
use Rattle.rules.specs.Bitmap.{bitmap, tally}
use Rattle.rules.specs.declared.Answer.{Answer}

-- a fault that is there gives its code, else 0
abbrev pub faulty : Bool → ℕ → ℕ
faulty true code = code
faulty false code = 0

infixr 10 ◌then◌
-- the first of two codes that is not 0: the order in which faults are looked for
unfoldable pub ◌then◌ : ℕ → ℕ → ℕ
zero then next = next
suc code then next = suc code

-- 2: the limit of every column
abbrev pub count_fault : ℕ → ℕ
count_fault n = faulty (ltb 16384 n) 2

-- 1, 2: the limits of columns of unsigned entries
unfoldable pub limit_fault : ℕ → ℕ → ℕ
limit_fault w n = faulty (ltb 32 w) 1 then count_fault n

-- 3
unfoldable pub operator_fault : ℕ → ℕ
operator_fault op = faulty (ltb 7 op) 3

-- 4: the output has fewer places than would be written
unfoldable pub room_fault : ℕ → ℕ → ℕ
room_fault places need = faulty (ltb places need) 4

-- is some entry not below 2^w
unfoldable pub any_large : ℕ → List ℕ → Bool
any_large w [] = false
any_large w (x ∷ xs) = leb (2 ^ w) x || any_large w xs

-- 8
unfoldable pub large_fault : ℕ → List ℕ → ℕ
large_fault w entries = faulty (any_large w entries) 8

-- acceptance with its number, and a refusal, whose number is 0
abbrev pub accepted : ℕ → Answer
accepted n = record { code = 0; number = n }

abbrev pub refusal : ℕ → Answer
refusal code = record { code = code; number = 0 }

-- what a call gives back, and what the lent places then hold
pub data Outcome (A : Type 0) : Type 0 where
  outcome : Answer → List A → Outcome A

-- code 0 writes from the first place on and gives the number; every other code gives 0 and changes nothing
unfoldable pub answered : {A : Type 0} → ℕ → ℕ → List A → List A → Outcome A
answered zero n wrote before = outcome (accepted n) (put before 0 wrote)
answered (suc code) n wrote before = outcome (refusal (suc code)) before

-- a scan of n entries: those that pass as a bitmap, and how many they are
abbrev pub scanned : ℕ → ℕ → (ℕ → Bool) → List ℕ → Outcome ℕ
scanned code n test before = answered code (tally n test) (bitmap n test) before

-- unpack and pack: what is written, and how much that is
abbrev pub written : {A : Type 0} → ℕ → List A → List A → Outcome A
written code wrote before = answered code (length wrote) wrote before
