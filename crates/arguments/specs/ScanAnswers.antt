-- From the arguments' judgement to the answer of a scan, for every layout and every kind of column.
use Rattle.std.proofs.Math.Path.{◌≡◌, refl, ap}
use Rattle.std.proofs.Common.{sym, ◌∙◌, arith}
use Rattle.std.specs.Prelude.{Bool, List, ℤ, Option, Some, None}
use Prim.Native.Nat.{ℕ, zero, suc, ◌<◌}
use Rattle.rules.specs.Comparison.{holds}
use Rattle.rules.specs.Signed.{Within}
use Rattle.rules.specs.Answer.{◌then◌, operator_fault, refusal, scanned}
use Rattle.rules.specs.Answer.Outcome.{outcome}
use Rattle.rules.specs.declared.Answer.{Answer}
use Rattle.answers.specs.Laws.{then_none, then_found, refused_is}
use Rattle.bitmaps.specs.ScanEnds.{scanned-ext}
use Rattle.compare.specs.Band.{banded, band_of}
use Rattle.compare.specs.Operators.{holds-band}
use Rattle.compare.specs.OperatorFault.{operator_found, operator_none}
use Rattle.compare.specs.declared.bands.Band.{Band}
use Rattle.arguments.specs.Arguments.{judged, arguments_of}
use Rattle.arguments.specs.Arguments.Arguments.{Good, Bad}

-- what good arguments tell, after the limits' code
pub record Known (limits op : ℕ) (a b : ℤ) (band : Band) : Type 0 where
  pub within : limits ≡ 0
  pub chosen : band_of op a b ≡ Some band
  pub none : (rest : ℕ) → (limits then operator_fault op then rest) ≡ rest

module _ (limits op : ℕ) (a b : ℤ) where
  pub good_arguments : (band : Band) → arguments_of limits op a b ≡ Good band → Known limits op a b band
  unfolding arguments_of judged
  good_arguments band = go limits refl (band_of op a b) refl
    where
      go : (code : ℕ) → limits ≡ code → (c : Option Band) → band_of op a b ≡ c → judged code c ≡ Good band
          → Known limits op a b band
      go zero e (Some x) f g =
          let same : x ≡ band = cc in
          record {
            within = e;
            chosen = f ∙ ap Some same;
            none = λ rest. then_none _ _ e ∙ then_none _ _ (operator_none op a b x f);
          }
      go zero e None f g = let z : ◌≡◌ {A = ℕ} 0 1 = cc in absurd (omega arith)
      go (suc code) e c f g = let z : ◌≡◌ {A = ℕ} 0 1 = cc in absurd (omega arith)

  -- a scan refused for its arguments
  pub scan-bad : (rest m : ℕ) (test : ℕ → Bool) (before : List ℕ) (r : Answer) (code : ℕ)
      → arguments_of limits op a b ≡ Bad code → r ≡ refusal code
      → outcome r before ≡ scanned (limits then operator_fault op then rest) m test before
  unfolding arguments_of judged
  scan-bad rest m test before r code = go limits refl (band_of op a b) refl
    where
      go : (found : ℕ) → limits ≡ found → (c : Option Band) → band_of op a b ≡ c → judged found c ≡ Bad code
          → r ≡ refusal code
          → outcome r before ≡ scanned (limits then operator_fault op then rest) m test before
      go zero e (Some x) f g k = let z : ◌≡◌ {A = ℕ} 0 1 = cc in absurd (omega arith)
      go zero e None f g k =
          let three : 3 ≡ code = cc in
          refused_is _ _ _ r code _ k
          (then_none _ _ e ∙ then_found _ _ _ (operator_found op a b f ∙ three) (λ z. omega arith))
          (λ z. omega arith)
      go (suc found) e c f g k =
          let same : suc found ≡ code = cc in
          refused_is _ _ _ r code _ k (then_found _ _ _ (e ∙ same) (λ z. omega arith)) (λ z. omega arith)

  -- a scan with good arguments answers by its band, whose test is the comparison's
  pub scan_good : (rest n : ℕ) (entries : ℕ → ℤ) (before after : List ℕ) (r : Answer) (band : Band)
      → arguments_of limits op a b ≡ Good band
      → ((i : ℕ) → i < n → Within 64 (entries i))
      → outcome r after ≡ scanned rest n (λ i. banded band (entries i)) before
      → outcome r after ≡ scanned (limits then operator_fault op then rest) n (λ i. holds op a b (entries i)) before
  scan_good rest n entries before after r band e small done =
      let known = good_arguments band e in
      let same : (i : ℕ) → i < n → banded band (entries i) ≡ holds op a b (entries i) =
      λ i l. holds-band op a b (entries i) band (small i l) known.chosen in
      done ∙ ap (λ (code : ℕ). scanned code n (λ i. banded band (entries i)) before) (sym (known.none rest))
      ∙ scanned-ext _ n _ _ before same
