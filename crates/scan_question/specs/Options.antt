-- The places of the words that are left when the options are taken out.
use Rattle.std.specs.Prelude.{◌≡◌, List, ℕ, ◌+◌, ◌<◌, ◌≤◌, length, get_or, set}
use Rattle.std.proofs.Common.{arith, length-set, get_or-set_same, get_or-set_other, below_more}

-- n words are left: no more than there are places, and each place is that of a word behind the program's name
pub record Left (n : ℕ) (places : List ℕ) : Type 0 where
  pub fits : n ≤ length places
  pub behind : (k : ℕ) → k < n → 1 ≤ get_or places k 0

-- as many words as before
pub left_same : {n m : ℕ} {places : List ℕ} → m ≡ n → Left n places → Left m places
left_same e left = rw e left

-- one word more
pub left_more : (n at : ℕ) (places : List ℕ) → Left n places → n < length places → 1 ≤ at
    → Left (n + 1) (set places n at)
left_more n at places left room one =
    record {
      fits = simp length-set (omega arith);
      behind =
          below_more (λ k. 1 ≤ get_or (set places n at) k 0) n
          (λ k h. rw (get_or-set_other places n k at 0 (λ e. omega arith)) (left.behind k h))
          (rw (get_or-set_same places n at 0 room) one);
    }
