-- `runs_read::plain::found_at` meets its contract: what its plain header does not refuse is the run that stands there.
use mathlib.Core.Path.{◌≡◌, sym, ap, ◌∙◌}
use Prim.Native.Nat.{ℕ}
use native.Mathlib.Omega.{arith}
use Rattle.runs_read.specs.FoundRuns.{found_of}
use Rattle.runs_read.specs.Headers.{by_plain}
use Rattle.runs_read.proofs.plain.found_at.Goals as goal

pub returns-in-Repeated : goal.returns-in-Repeated
returns-in-Repeated c =
    let a = c.args in
    by_plain a.page.now a.at a.w a.left (sym (ap found_of c.in-Repeated.is) ∙ c.plain_at.ensures)
    (λ code e. let z : ◌≡◌ {A = ℕ} 0 1 = cc in omega arith)

pub returns-in-Packed : goal.returns-in-Packed
returns-in-Packed c =
    let a = c.args in
    by_plain a.page.now a.at a.w a.left (sym (ap found_of c.in-Packed.is) ∙ c.plain_at.ensures)
    (λ code e. let z : ◌≡◌ {A = ℕ} 0 1 = cc in omega arith)
