-- The entries from a place on: where a stretch and a packed run go on, and where they end.
use Rattle.std.specs.Prelude.{◌≡◌, cond, eqb, length, drop, get_or}
use Rattle.std.specs.List.{prefix_len}
use Rattle.std.proofs.Math.Path.{refl}
use Rattle.std.proofs.Common.{sym, ap, ◌∙◌, drop_of_length-le}
use mathlib.Core.List.{List, [], ◌∷◌}
use Prim.Native.Nat.{ℕ, zero, suc, ◌+◌, ◌≤◌, ◌<◌}
use native.Mathlib.Omega.{arith}
use Rattle.std.proofs.Math.Seq.{drop-cons, drop-drop}
use borrow.Author.Tests.{le-leb, lt-leb, eq-eqb}
use Rattle.rules.specs.RunWriter.{equal_to, stretch, groups_of}

-- the equal entries in front are those of which none differs before them
equal_prefix : (x : ℕ) (s : List ℕ) → prefix_len (λ y. eqb y x) s ≡ equal_to x s
unfolding equal_to
equal_prefix x [] = refl
equal_prefix x (y ∷ s) =
    ap (λ (n : ℕ). cond (eqb y x) (1 + n) 0) (equal_prefix x s) ∙ ap (λ (n : ℕ). cond (eqb y x) n 0) (omega arith)

module _ (s : List ℕ) where
  -- ---- a stretch

  pub stretch-past : (p : ℕ) → length s ≤ p → stretch (drop p s) ≡ 0
  unfolding stretch
  stretch-past p h = rw (drop_of_length-le s h)

  pub stretch_prefix : (p x : ℕ) → p < length s → x ≡ get_or s p 0
      → prefix_len (λ y. eqb y x) (drop p s) ≡ stretch (drop p s)
  unfolding stretch equal_to
  stretch_prefix p x h first =
      let e : drop p s ≡ x ∷ drop (suc p) s = rw first (drop-cons s p 0 h) in
      equal_prefix x (drop p s) ∙ ap (equal_to x) e ∙ rw (eq-eqb x x refl) (ap stretch (sym e))

  -- ---- an open packed run

  pub groups-more : (more p : ℕ) → p < length s → stretch (drop p s) < 8
      → groups_of (suc more) (drop p s) ≡ suc (groups_of more (drop (p + 8) s))
  unfolding groups_of
  groups-more more p h l =
      let e = drop-cons s p 0 h in
      rw e
      (rw (lt-leb 8 _ (rw e at l))
      (ap (λ (t : List ℕ). suc (groups_of more t)) (ap (drop 8) (sym e) ∙ drop-drop 8 p s)))

  pub groups-past : (more p : ℕ) → length s ≤ p → groups_of more (drop p s) ≡ 0
  unfolding groups_of
  groups-past zero p h = refl
  groups-past (suc more) p h = rw (drop_of_length-le s h)

-- it closes at a repeated run
pub groups_closed : (more : ℕ) (s : List ℕ) → 8 ≤ stretch s → groups_of more s ≡ 0
unfolding groups_of
groups_closed zero s h = refl
groups_closed (suc more) [] h = refl
groups_closed (suc more) (x ∷ s) h = rw (le-leb 8 (stretch (x ∷ s)) h)
