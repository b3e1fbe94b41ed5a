-- A run is read just where one stands by the published grammar.
use Rattle.std.specs.Prelude.{◌≡◌, List, ◌↔◌, ℕ, drop}
use Rattle.std.proofs.Common.{arith}
use Rattle.rules.specs.Runs.{run_at, answer_of}
use Rattle.rules.specs.Runs.{Run}
use Rattle.rules.specs.Runs.Run.{Repeated, Packed, Refused}
use Rattle.runs_read.specs.Sound.{StandsAs, one-sound}
use Rattle.promises.specs.RunThere.{RunThere, run-told}

module _ (w left : ℕ) (page : List ℕ) (at : ℕ) where
  -- what is read without a fault is a run of the grammar
  run-stands : (r : Run) → StandsAs w left page at r → (answer_of r).code ≡ 0 → RunThere w left page at
  run-stands (Refused code) fault none = absurd (omega arith)
  run-stands (Repeated count value to) one none =
      record { bytes = one.bytes; behind = drop to page; piece = _; is_run = one.run; there = one.there }
  run-stands (Packed groups start to) one none =
      record { bytes = one.bytes; behind = drop to page; piece = _; is_run = one.run; there = one.there }

  pub run-exact : (answer_of (run_at w left page at)).code ≡ 0 ↔ RunThere w left page at
  run-exact = (run-stands (run_at w left page at) (one-sound w left page at), λ s. (run-told w left page at s).accepts)
