-- The places that a stream's runs fill hold its entries.
use Rattle.std.specs.Prelude.{◌≡◌, length, take, drop}
use Rattle.std.proofs.Math.Path.{refl, ap}
use Rattle.std.proofs.Common.{◌∙◌, arith}
use mathlib.Core.List.{List}
use Prim.Native.Nat.{ℕ, ◌+◌, ◌*◌, ◌≤◌, ◌<◌}
use Rattle.std.proofs.Math.ListN.{get_or}
use Rattle.rules.specs.Bits.{field, entry, put, tabulate}
use Rattle.rules.specs.Bits.Order.{low_first}
use Rattle.rules.specs.Grammar.{Piece, cut_entries, Cut}
use Rattle.words.specs.Entries.{field-window, place-within}
use Rattle.words.specs.Tabulated.{tabulate-none, tabulate-ext, put-tabulate_add}
use Rattle.runs_read.specs.TwoPasses.{put_all, pass, pass-cut}
use Rattle.runs_walk.specs.Covered.{written, covers}
use Rattle.runs_walk.specs.CountedTurns.{OfValues}

-- ---- each entry as the value that stands for it

module _ {A : Type 0} (value : ℕ → A) where
  -- m entries are put into the places behind those that are filled
  abbrev pub places : ℕ → ℕ → (ℕ → ℕ) → List A → List A
  places i m entry out = put out i (tabulate m (λ k. value (entry k)))

  pub places-values : OfValues places
  places-values i m f g out same =
      ap (put out i) (tabulate-ext m (λ k. value (f k)) (λ k. value (g k)) (λ k h. ap value (same k h)))

  -- what a pass over a page leaves of the places
  unfoldable pub placed : ℕ → ℕ → List ℕ → List A → List A
  placed w n page out = pass (written n places w) w n page out

  pub placed-pass : (w n : ℕ) (page : List ℕ) (out : List A)
      → placed w n page out ≡ pass (written n places w) w n page out
  unfolding placed
  placed-pass w n page out = refl

  pub placed-cut : (w n : ℕ) (page : List ℕ) (ps : List Piece) (out : List A) → n ≤ length out → Cut w n page ps
      → placed w n page out ≡ put out 0 (tabulate n (λ i. value (get_or (cut_entries w ps) i 0)))
  unfolding placed
  placed-cut w n page ps out room cut =
      pass-cut (written n places w) w n page ps out cut
      ∙ ap (put_all (written n places w) 0 ps) (tabulate-none out 0 (λ i. value (get_or (cut_entries w ps) i 0)))
      ∙ covers n places w holding grows n 0 page ps (λ i. get_or (cut_entries w ps) i 0) cut (omega arith)
      (λ k h. ap (λ (i : ℕ). get_or (cut_entries w ps) i 0) (omega arith))
    where
      holding : ℕ → (ℕ → ℕ) → List A
      holding i f = put out 0 (tabulate i (λ k. value (f k)))

      grows : (i m : ℕ) (f entry : ℕ → ℕ) → i + m ≤ n → ((k : ℕ) → k < m → entry k ≡ f (i + k))
          → places i m entry (holding i f) ≡ holding (i + m) f
      grows i m f entry fits e =
          places-values i m entry (λ k. f (i + k)) (holding i f) e
          ∙ put-tabulate_add out i m (λ k. value (f k)) (omega arith)

-- ---- a packed run

module _ {A : Type 0} (value : ℕ → A) where
  -- entries that lie in n bytes from byte a on
  pub part_entries : (page : List ℕ) (a n w m : ℕ) → m * w ≤ 8 * n
      → tabulate m (λ k. value (entry low_first (take n (drop a page)) w k))
      ≡ tabulate m (λ k. value (field low_first page (8 * a + k * w) w))
  part_entries page a n w m h =
      tabulate-ext m (λ k. value (entry low_first (take n (drop a page)) w k))
      (λ k. value (field low_first page (8 * a + k * w) w))
      (λ k l. ap value (field-window page a n (k * w) w (omega (arith, place-within w k m l))))
