-- `runs_read::handing::one_run` meets its contract: as the run says, case by case.
use mathlib.Core.Path.{◌≡◌, sym, ap, ◌∙◌}
use mathlib.Core.List.{List}
use Prim.Native.Nat.{ℕ, ◌*◌, ◌≤◌}
use lib.ListN.{length}
use Rattle.std.specs.Prelude.{Ok}
use native.Mathlib.Omega.{arith}
use Rattle.rules.specs.Runs.{run_of, one_at, handed_back, one_run}
use Rattle.rules.specs.Runs.Run.{Packed}
use Rattle.runs_read.specs.One.{one-packed}
use Rattle.runs_read.proofs.handing.one_run.Goals as goal

pub returns-in-Err : goal.returns-in-Err
unfolding one_run
returns-in-Err c = rw c.code.ensures (ap (handed_back _) (sym (ap run_of c.in-Err.is) ∙ c.run_from.ensures))

pub returns-in-Ok-Repeated : goal.returns-in-Ok-Repeated
unfolding one_run
returns-in-Ok-Repeated c = ap (handed_back _) (sym (ap run_of (c.in-Ok-Repeated.is ∙ ap Ok c.in-Ok-Repeated.field-0-is)) ∙ c.run_from.ensures)

-- a packed run's groups are few, and its body lies on the page
lies : (w n covered : ℕ) (page : List ℕ) (at : ℕ) {groups start next : ℕ}
    → one_at w n covered page at ≡ Packed groups start next
    → (8 * groups ≤ 16391) × (start ≤ next) × (next ≤ length page)
lies w n covered page at e = let p = one-packed w n covered page at e in (p.1, omega arith, p.4)

pub overflow_mul-info : goal.overflow_mul-info
overflow_mul-info c = omega (arith, lies _ _ _ _ _ (sym c.run_from.ensures ∙ ap run_of (c.in-Ok-Packed.is ∙ ap Ok c.in-Ok-Packed.field-0-is)))

pub slice_bounds-result-count : goal.slice_bounds-result-count
slice_bounds-result-count c = (lies _ _ _ _ _ (sym c.run_from.ensures ∙ ap run_of (c.in-Ok-Packed.is ∙ ap Ok c.in-Ok-Packed.field-0-is))).1

pub slice_bounds-result-start : goal.slice_bounds-result-start
slice_bounds-result-start c = (lies _ _ _ _ _ (sym c.run_from.ensures ∙ ap run_of (c.in-Ok-Packed.is ∙ ap Ok c.in-Ok-Packed.field-0-is))).1

pub slice_bounds-result-end-in-Ok-Packed : goal.slice_bounds-result-end-in-Ok-Packed
slice_bounds-result-end-in-Ok-Packed c = (lies _ _ _ _ _ (sym c.run_from.ensures ∙ ap run_of (c.in-Ok-Packed.is ∙ ap Ok c.in-Ok-Packed.field-0-is))).2

pub returns-in-Ok-Packed : goal.returns-in-Ok-Packed
unfolding one_run
returns-in-Ok-Packed c = ap (handed_back _) (sym (ap run_of (c.in-Ok-Packed.is ∙ ap Ok c.in-Ok-Packed.field-0-is)) ∙ c.run_from.ensures)
