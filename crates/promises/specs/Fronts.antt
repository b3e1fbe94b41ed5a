-- Places written from the first on: what stands in front, and what is kept behind.
use Rattle.std.specs.Prelude.{◌≡◌, List, ℕ, length, take}
use Rattle.std.proofs.Math.Path.{ap}
use Rattle.std.proofs.Common.{◌∙◌, zero-add}
use Rattle.std.proofs.Math.ListN.{drop}
use Rattle.std.proofs.Math.Seq.{take_at, drop_at}
use Rattle.rules.specs.Bits.{put}

module _ {A : Type 0} (l vs : List A) (n : ℕ) (size : length vs ≡ n) where
  pub front : take n (put l 0 vs) ≡ vs
  unfolding put
  front = take_at vs _ n size

  pub behind : drop n (put l 0 vs) ≡ drop n l
  unfolding put
  behind = drop_at vs _ n size ∙ ap (λ (k : ℕ). drop k l) (zero-add (length vs) ∙ size)
