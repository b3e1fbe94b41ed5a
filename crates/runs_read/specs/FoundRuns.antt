-- A run as a loop takes it: what it tells of the page.
use Rattle.std.specs.Prelude.{◌≡◌, List, ℕ, ◌+◌, ◌*◌, ◌<◌, ◌≤◌, length}
use Rattle.std.proofs.Math.Path.{sym, ap}
use Rattle.std.proofs.Common.{◌∙◌, arith}
use Rattle.rules.specs.Refusals.{code}
use Rattle.rules.specs.Runs.{Run, run_at}
use Rattle.rules.specs.Runs.Run.{Repeated, Packed, Refused}
use Rattle.runs_read.specs.RunRead.{ran_repeated, ran_packed}
use Rattle.runs_read.specs.declared.plain.Found.{Found}
use Rattle.runs_read.specs.declared.plain.Found.TheVariants as As

abbrev pub found_of : Found → Run
found_of (As.Repeated count value next) = Repeated count value next
found_of (As.Packed groups start next) = Packed groups start next
found_of (As.Refused r) = Refused (code r)

module _ (w left : ℕ) (page : List ℕ) (at : ℕ) {found : Found} (given : found_of found ≡ run_at w left page at)
  where
    pub found_repeated : {count value next : ℕ} → found ≡ As.Repeated count value next
        → (run_at w left page at ≡ Repeated count value next) × (0 < count) × (count ≤ left)
    found_repeated {count} {value} {next} is =
        let q : run_at w left page at ≡ Repeated count value next = sym given ∙ ap found_of is in
        let r = ran_repeated w left page at q in
        (q, r.0, r.1)

    pub found_packed : {groups start next : ℕ} → found ≡ As.Packed groups start next
        → (run_at w left page at ≡ Packed groups start next) × (0 < groups) × (8 * groups ≤ left + 7)
        × (start + w * groups ≤ length page)
    found_packed {groups} {start} {next} is =
        let q : run_at w left page at ≡ Packed groups start next = sym given ∙ ap found_of is in
        let r = ran_packed w left page at q in
        (q, r.0, r.1, omega arith)
