-- The stretches of a page, and what they leave.
use Rattle.std.specs.Prelude.{◌≡◌, Bool, ◌++◌, get_or}
use Rattle.std.proofs.Math.Path.{refl, ap}
use Rattle.std.proofs.Common.{arith, take_at}
use Rattle.std.proofs.Math.Bool.{true, false, cond}
use mathlib.Core.List.{List, [], ◌∷◌}
use Prim.Native.Nat.{ℕ, suc, ◌+◌, ◌*◌, ◌/◌, ◌≤◌, ◌<◌, min}
use Rattle.std.proofs.Math.Dec.{ltb}
use Rattle.std.proofs.Math.ListN.{length, take}
use borrow.Author.Tests.{ltb-false, le-ltb}
use Rattle.rules.specs.Bits.{ceil, put}
use Rattle.rules.specs.Answer.{faulty, ◌then◌, room_fault, accepted, refusal, answered}
use Rattle.rules.specs.Answer.Outcome.{outcome}
use Rattle.rules.specs.declared.Answer.{Answer}
use Rattle.rules.specs.Spans.{spans, from_bitmap}
use Rattle.spans_list.specs.Turns.{spans-even, spans-enough}
use Rattle.scan_stretches.specs.declared.going.Going.{Going}
use Rattle.scan_stretches.specs.Going.{stretching}

-- pairs of numbers one after the other, each counted from second `start` on: first and last
unfoldable pub stretched : ℕ → List ℕ → Going → Going
stretched start [] g = g
stretched start (first ∷ []) g = g
stretched start (first ∷ last ∷ list) g =
    stretched start list (stretching (start + first) (start + last + 1) g)

-- the stretches of a page of n entries: none if it has more than 16,384, or its bitmap is short
unfoldable pub spans_of : List ℕ → ℕ → List ℕ
spans_of bitmap n = cond (ltb 16384 n) [] (cond (ltb (length bitmap) (ceil n 8)) [] (spans bitmap n))

-- ---- a list pair by pair

pub stretched-next : (start : ℕ) (pair rest more : List ℕ) (g r whole : Going) → rest ≡ pair ++ more → length pair ≡ 2
    → r ≡ stretching (start + get_or pair 0 0) (start + get_or pair 1 0 + 1) g
    → stretched start rest g ≡ whole → stretched start more r ≡ whole
unfolding stretched
stretched-next start [] rest more g r whole is two e so = absurd (omega arith)
stretched-next start (a ∷ []) rest more g r whole is two e so = absurd (omega arith)
stretched-next start (a ∷ b ∷ []) rest more g r whole is two e so = rw e (rw is at so)
stretched-next start (a ∷ b ∷ c ∷ l) rest more g r whole is two e so = absurd (omega arith)

-- at most one number is left, and it is no pair
pub stretched-end : (start : ℕ) (rest : List ℕ) (g whole : Going) → length rest < 2
    → stretched start rest g ≡ whole → g ≡ whole
unfolding stretched
stretched-end start [] g whole few so = so
stretched-end start (a ∷ []) g whole few so = so
stretched-end start (a ∷ b ∷ l) g whole few so = absurd (omega arith)

-- ---- a page's list is what is written of 16,384 places

module _ (bitmap : List ℕ) (n : ℕ) (before after : List ℕ) (r : Answer) where
  refused : (code : ℕ)
      → outcome r after ≡ answered (suc code) (length (spans bitmap n) / 2) (spans bitmap n) before
      → take (2 * min r.number 8192) after ≡ []
  unfolding answered
  refused code e =
      let is : r ≡ refusal (suc code) = cc in
      let none : r.number ≡ 0 = ap (λ (a : Answer). a.number) is in
      rw none

  written : n ≤ 16384 → outcome r after ≡ answered 0 (length (spans bitmap n) / 2) (spans bitmap n) before
      → take (2 * min r.number 8192) after ≡ spans bitmap n
  unfolding answered put
  written few e =
      let is : r ≡ accepted (length (spans bitmap n) / 2) = cc in
      let held : after ≡ put before 0 (spans bitmap n) = cc in
      let number : r.number ≡ length (spans bitmap n) / 2 = ap (λ (a : Answer). a.number) is in
      let all : length (spans bitmap n) ≡ 2 * min r.number 8192 =
      omega (arith, spans-even bitmap n, spans-enough bitmap n) in
      rw held (take_at (spans bitmap n) _ (2 * min r.number 8192) all)

  pub page-spans : length before ≡ 16384 → outcome r after ≡ from_bitmap bitmap n before
      → take (2 * min r.number 8192) after ≡ spans_of bitmap n
  unfolding from_bitmap spans_of ◌then◌ room_fault
  page-spans room = go (ltb 16384 n) (ltb (length bitmap) (ceil n 8)) refl
    where
      go : (many short : Bool) → ltb 16384 n ≡ many
          → outcome r after
          ≡ answered
          (faulty many 2 then faulty short 5 then room_fault (length before) (length (spans bitmap n)))
          (length (spans bitmap n) / 2) (spans bitmap n) before
          → take (2 * min r.number 8192) after ≡ cond many [] (cond short [] (spans bitmap n))
      go true short p e = refused 1 e
      go false true p e = refused 4 e
      go false false p e =
          let few : n ≤ 16384 = ltb-false 16384 n p in
          let enough : length (spans bitmap n) ≤ length before = omega (arith, spans-enough bitmap n) in
          written few (rw (le-ltb (length before) (length (spans bitmap n)) enough) at e)

  -- the part of the places that is passed on, k pairs from the first on
  pub page_part : (k : ℕ) → length before ≡ 16384 → outcome r after ≡ from_bitmap bitmap n before
      → k ≡ min r.number 8192 → take (2 * k) after ≡ spans_of bitmap n
  page_part k room e is =
      let all : 2 * k ≡ 2 * min r.number 8192 = omega arith in rw all (page-spans room e)
