-- Every scan answers as a comparison of one entry after another does, by its own contract; that of dictionary
-- columns: proofs/InTurn.
use Rattle.std.specs.Prelude.{◌≡◌, Bool, List, ℕ, ℤ, length}
use Rattle.std.proofs.Common.{◌∙◌}
use Rattle.rules.specs.Bits.{ceil, bytes}
use Rattle.rules.specs.Bitmap.{tally}
use Rattle.rules.specs.Comparison.{holds}
use Rattle.rules.specs.Answer.{◌then◌, operator_fault, room_fault, Outcome, answered}
use Rattle.rules.specs.Answer.Outcome.{outcome}
use Rattle.rules.specs.Horizontal as Horizontal
use Rattle.rules.specs.Vertical as Vertical
use Rattle.rules.specs.Runs as Runs
use Rattle.rules.specs.Delta as Delta
use Rattle.promises.specs.Scans.{in_turn, one-after_another}
use Rattle.promises.specs.Layouts.{Layout}
use Rattle.promises.specs.Horizontal.{horizontal}
use Rattle.promises.specs.Vertical.{vertical}
use Rattle.promises.specs.Runs.{runs}
use Rattle.promises.specs.Delta.{delta}
use Rattle.promises.specs.Calls.{EveryHorizontalScan, EveryVerticalScan, EveryRunsScan, EveryDeltaScan}

module _ {K A : Type 0} (L : Layout K A) where
  -- the layout's faults in their order; else the bits of its entries, each put behind those before it, and how many
  -- are set
  abbrev pub one_by_one : List ℕ → K → ℕ → ℕ → ℤ → ℤ → List ℕ → Outcome ℕ
  one_by_one page k n op a b before =
      let test : ℕ → Bool = λ i. holds op a b (L.whole (L.entry page k n i)) in
      answered
      (L.limits k n then operator_fault op then room_fault (length before) (ceil n 8) then L.fault page k n)
      (tally n test) (bytes (ceil n 8) (in_turn n test)) before

pub horizontal-scan : EveryHorizontalScan (λ κs a r e. outcome r e.1.1.1.1.1.1.0.now
    ≡ one_by_one horizontal a.0.now a.1.0 a.1.1.0 a.1.1.1.0 a.1.1.1.1.0
    a.1.1.1.1.1.0 a.1.1.1.1.1.1.0.now)
unfolding Horizontal.scan
horizontal-scan κs a r e contract = contract ∙ one-after_another _ _ _ _

pub vertical-scan : EveryVerticalScan (λ κs a r e. outcome r e.1.1.1.1.1.1.0.now
    ≡ one_by_one vertical a.0.now a.1.0 a.1.1.0 a.1.1.1.0 a.1.1.1.1.0
    a.1.1.1.1.1.0 a.1.1.1.1.1.1.0.now)
unfolding Vertical.scan
vertical-scan κs a r e contract = contract ∙ one-after_another _ _ _ _

pub runs-scan : EveryRunsScan (λ κs a r e. outcome r e.1.1.1.1.1.1.0.now
    ≡ one_by_one runs a.0.now a.1.0 a.1.1.0 a.1.1.1.0 a.1.1.1.1.0
    a.1.1.1.1.1.0 a.1.1.1.1.1.1.0.now)
unfolding Runs.scan
runs-scan κs a r e contract = contract ∙ one-after_another _ _ _ _

pub delta-scan : EveryDeltaScan (λ κs a r e. outcome r e.1.1.1.1.1.0.now
    ≡ one_by_one (delta 32) a.0.now tt a.1.0 a.1.1.0 a.1.1.1.0 a.1.1.1.1.0
    a.1.1.1.1.1.0.now)
unfolding Delta.scan
delta-scan κs a r e contract = contract ∙ one-after_another _ _ _ _
