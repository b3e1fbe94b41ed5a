-- A word looked up among names, each with what it stands for beside it.
use Rattle.std.specs.Prelude.{◌≡◌, refl, Bool, true, false, cond, List, [], ◌∷◌, ℕ, zero, suc, map, slice_get, IfSome, ◌<◌}
use Rattle.std.proofs.Common.{Option, Some, None, ap, ◌∙◌, bytes_eq, find, option_map, Bor, take, sym, ltb, ◌&&◌, arith}
use Rattle.std.specs.List.{list_all}
use Rattle.std.proofs.lemmas.Bool.Decides.{nat_tests}
use borrow.Author.Tests.{ltb-true}
use Rattle.scan_words.specs.Names.{place, numbers, dashed}

module _ {A : Type 0} (word : List ℕ) where
  -- what stands beside the first name that the word is
  beside : (names : List (Bor (List ℕ) × A))
      → option_map (λ n. n.1) (find (λ n. bytes_eq word n.0.now) names)
      ≡ slice_get (map (λ n. n.1) names) (place word (map (λ n. n.0.now) names))
  unfolding place
  beside [] = refl
  beside (n ∷ names) = go (bytes_eq word n.0.now) (beside names)
    where
      go : (t : Bool) → option_map (λ n. n.1) (find (λ n. bytes_eq word n.0.now) names)
          ≡ slice_get (map (λ n. n.1) names) (place word (map (λ n. n.0.now) names))
          → option_map (λ n. n.1) (cond t (Some n) (find (λ n. bytes_eq word n.0.now) names))
          ≡ slice_get (map (λ n. n.1) (n ∷ names)) (cond t 0 (suc (place word (map (λ n. n.0.now) names))))
      go true e = refl
      go false e = e

  -- the same of a name found by a reference to it
  pub found : (names : List (Bor (List ℕ) × A)) (r : Option (Bor (Bor (List ℕ) × A)))
      → option_map (λ x. x.now) r ≡ find (λ n. bytes_eq word n.0.now) names
      → option_map (λ x. x.now.1) r ≡ slice_get (map (λ n. n.1) names) (place word (map (λ n. n.0.now) names))
  found names None e = ap (option_map (λ n. n.1)) e ∙ beside names
  found names (Some x) e = ap (option_map (λ n. n.1)) e ∙ beside names

-- an operator is one of the eight of document 01
low : (xs : List ℕ) → list_all (λ x. ltb x 8) xs ≡ true → (k op : ℕ) → slice_get xs k ≡ Some op → op < 8
low [] all k op e = absurd (cc)
low (x ∷ xs) all zero op e = go (ltb x 8) refl all
  where
    go : (t : Bool) → ltb x 8 ≡ t → (t && list_all (λ y. ltb y 8) xs) ≡ true → op < 8
    go true small rest = let same : x ≡ op = cc in omega (arith, ltb-true x 8 small)
    go false small rest = absurd (cc)
low (x ∷ xs) all (suc k) op e = go (ltb x 8) all (λ rest. low xs rest k op e)
  where
    go : (t : Bool) → (t && list_all (λ y. ltb y 8) xs) ≡ true → (list_all (λ y. ltb y 8) xs ≡ true → op < 8)
        → op < 8
    go true rest more = more rest
    go false rest more = absurd (cc)

pub number_low : (k : ℕ) (r : Option ℕ) → r ≡ slice_get numbers k → IfSome r (λ op. op < 8)
unfolding numbers
number_low k None e = tt
number_low k (Some op) e = low (0 ∷ 1 ∷ 2 ∷ 3 ∷ 4 ∷ 5 ∷ 6 ∷ 7 ∷ []) refl k op (sym e)

-- two dashes are the first two bytes
pub two_dashes : (word : List ℕ) → bytes_eq (45 ∷ 45 ∷ []) (take 2 word) ≡ dashed word
unfolding dashed
two_dashes [] = refl
two_dashes (x ∷ []) = grind (arith, nat_tests)
two_dashes (x ∷ y ∷ word) = grind (arith, nat_tests)
