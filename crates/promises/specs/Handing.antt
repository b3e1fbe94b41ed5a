-- The form of one run that hands back a part of the page: that part lies on the page, and it is the one that the
-- numbers of the other form name.
use Rattle.std.specs.Prelude.{◌≡◌, refl, List, ℕ, ◌+◌, ◌≤◌, length, take, drop}
use Rattle.rules.specs.Runs.{one_run, one_answer}
use Rattle.rules.specs.Runs.Handed.{handed}
use Rattle.runs_read.proofs.handing.one_run.Kinds as one_run_kinds
use Rattle.runs_read.proofs.handing.one_run.Reads as one_run_reads
use Rattle.promises.specs.OneRun.{same-told, on_page}
use Rattle.promises.specs.Calls.{Every}

-- `size` bytes of the page, from `from` on
pub record PartOf (page : List ℕ) (from size : ℕ) (part : List ℕ) : Type 0 where
  pub part_is : part ≡ take size (drop from page)
  pub lies : from + size ≤ length page

pub handed_part : (w n covered : ℕ) (page : List ℕ) (at : ℕ) {part numbers : List ℕ}
    → handed part numbers ≡ one_run w n covered page at
    → PartOf page (one_answer w n covered page at).body_at (one_answer w n covered page at).body_len part
handed_part w n covered page at contract =
    record { part_is = cc (same-told w n covered page at refl); lies = on_page w n covered page at refl }

-- over the function's own contract
pub one-run : Every 2 one_run_kinds.ps one_run_kinds.r one_run_reads.Learnt
    (λ κs a r e. let x = one_answer a.1.1.0 a.1.1.1.0 a.1.1.1.1.0 a.0.now a.1.0 in
    PartOf a.0.now x.body_at x.body_len r.now)
one-run κs a r e contract = handed_part _ _ _ _ _ contract
