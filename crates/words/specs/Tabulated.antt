-- The laws of `tabulate`: its length, its places, places more.
use Rattle.std.specs.Prelude.{◌≡◌, length, get_or, set, replicate}
use Rattle.std.proofs.Math.Path.{refl, ap, ap₂}
use Rattle.std.proofs.Common.{sym, ◌∙◌, not-suc-le-zero, add-one, arith, pow_pos}
use mathlib.Core.List.{List, [], ◌∷◌, ◌++◌}
use Prim.Native.Nat.{ℕ, zero, suc, ◌+◌, ◌^◌, ◌≤◌, ◌<◌}
use Rattle.std.proofs.Math.Nat.{zero-add, suc-add}
use Rattle.rules.specs.Bits.{put, tabulate}
use Rattle.words.specs.Joined.{Small}
use Rattle.words.specs.Puts.{put-none, put-put, put_snoc}

module _ {A : Type 0} where
  pub length-tabulate : (n : ℕ) (f : ℕ → A) → length (tabulate n f) ≡ n
  unfolding tabulate
  length-tabulate zero f = refl
  length-tabulate (suc n) f = ap suc (length-tabulate n (λ k. f (suc k)))

  pub get_or-tabulate : (n : ℕ) (f : ℕ → A) (i : ℕ) (d : A) → i < n → get_or (tabulate n f) i d ≡ f i
  unfolding tabulate
  get_or-tabulate zero f i d h = absurd (not-suc-le-zero h)
  get_or-tabulate (suc n) f zero d h = refl
  get_or-tabulate (suc n) f (suc i) d h = get_or-tabulate n (λ k. f (suc k)) i d (omega arith)

  snoc-suc : (n : ℕ) (f : ℕ → A) → tabulate (suc n) f ≡ tabulate n f ++ (f n ∷ [])
  unfolding tabulate
  snoc-suc zero f = refl
  snoc-suc (suc n) f = ap (λ (l : List A). f zero ∷ l) (snoc-suc n (λ k. f (suc k)))

  pub tabulate_snoc : (n : ℕ) (f : ℕ → A) → tabulate (n + 1) f ≡ tabulate n f ++ (f n ∷ [])
  tabulate_snoc n f = rw add-one (snoc-suc n f)

  pub tabulate-ext : (n : ℕ) (f g : ℕ → A) → ((i : ℕ) → i < n → f i ≡ g i) → tabulate n f ≡ tabulate n g
  unfolding tabulate
  tabulate-ext zero f g h = refl
  tabulate-ext (suc n) f g h =
      ap₂ (λ (x : A) (l : List A). x ∷ l) (h zero (omega arith))
      (tabulate-ext n (λ k. f (suc k)) (λ k. g (suc k)) (λ i l. h (suc i) (omega arith)))

  -- the same in every place
  pub tabulate-same : (n : ℕ) (f : ℕ → A) (x : A) → ((i : ℕ) → i < n → f i ≡ x) → tabulate n f ≡ replicate n x
  unfolding tabulate
  tabulate-same zero f x h = refl
  tabulate-same (suc n) f x h =
      ap₂ (λ (y : A) (l : List A). y ∷ l) (h zero (omega arith))
      (tabulate-same n (λ k. f (suc k)) x (λ i l. h (suc i) (omega arith)))

  -- a list, place by place
  pub tabulate_list : (l : List A) (d : A) → tabulate (length l) (λ i. get_or l i d) ≡ l
  unfolding tabulate
  tabulate_list [] d = refl
  tabulate_list (x ∷ l) d = ap (λ (t : List A). x ∷ t) (tabulate_list l d)

  -- n places and then m more
  pub tabulate_add : (n m : ℕ) (f : ℕ → A) → tabulate (n + m) f ≡ tabulate n f ++ tabulate m (λ k. f (n + k))
  unfolding tabulate
  tabulate_add zero m f = simp zero-add
  tabulate_add (suc n) m f = simp suc-add (ap (λ (l : List A). f zero ∷ l) (tabulate_add n m (λ k. f (suc k))))

  -- no place is filled
  pub tabulate-none : (l : List A) (at : ℕ) (f : ℕ → A) → l ≡ put l at (tabulate 0 f)
  unfolding tabulate
  tabulate-none l at f = put-none l at

  -- n places from `at` on are filled, and m more are put behind them
  pub put-tabulate_on : (l : List A) (at n m : ℕ) (f : ℕ → A) → at + n + m ≤ length l
      → put (put l at (tabulate n f)) (at + n) (tabulate m (λ k. f (n + k))) ≡ put l at (tabulate (n + m) f)
  put-tabulate_on l at n m f h =
      let u : List A = tabulate n f in
      let v : List A = tabulate m (λ k. f (n + k)) in
      let size : at + n ≡ at + length u = omega (arith, length-tabulate n f) in
      ap (λ (k : ℕ). put (put l at u) k v) size
      ∙ put-put l u v at (omega (arith, length-tabulate n f, length-tabulate m (λ k. f (n + k))))
      ∙ ap (put l at) (sym (tabulate_add n m f))

  pub put-tabulate_add : (l : List A) (n m : ℕ) (f : ℕ → A) → n + m ≤ length l
      → put (put l 0 (tabulate n f)) n (tabulate m (λ k. f (n + k))) ≡ put l 0 (tabulate (n + m) f)
  put-tabulate_add l n m f h = rw (zero-add n) at (put-tabulate_on l 0 n m f (omega arith))

  -- n places from `at` on are filled, and one more is stored
  pub put-tabulate_at : (l : List A) (at n : ℕ) (f : ℕ → A) → at + n < length l
      → set (put l at (tabulate n f)) (at + n) (f n) ≡ put l at (tabulate (n + 1) f)
  put-tabulate_at l at n f h =
      put_snoc l (tabulate n f) at (at + n) (f n) (omega (arith, length-tabulate n f)) h
      ∙ ap (put l at) (sym (tabulate_snoc n f))

  pub put-tabulate : (l : List A) (n : ℕ) (f : ℕ → A) → n < length l
      → set (put l 0 (tabulate n f)) n (f n) ≡ put l 0 (tabulate (n + 1) f)
  put-tabulate l n f h = rw (zero-add n) at (put-tabulate_at l 0 n f (omega arith))

-- what is tabulated is small where the function is
pub small-tabulate : (w n : ℕ) (f : ℕ → ℕ) → ((i : ℕ) → f i < 2 ^ w) → Small w (tabulate n f)
unfolding tabulate
small-tabulate w zero f h k = pow_pos w
small-tabulate w (suc n) f h zero = h zero
small-tabulate w (suc n) f h (suc k) = small-tabulate w n (λ i. f (suc i)) (λ i. h (suc i)) k
