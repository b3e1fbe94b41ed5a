-- The scan of dictionary columns answers as a comparison of one entry after another does.
use Rattle.std.specs.Prelude.{◌≡◌}
use Rattle.std.proofs.Common.{◌∙◌}
use Rattle.rules.specs.Answer.Outcome.{outcome}
use Rattle.rules.specs.Dictionary as Dictionary
use Rattle.promises.specs.Scans.{one-after_another}
use Rattle.promises.proofs.Dictionary.{dictionary}
use Rattle.promises.specs.Calls.{EveryDictionaryScan}
use Rattle.promises.specs.InTurn.{one_by_one}

pub dictionary-scan : EveryDictionaryScan (λ κs a r e. outcome r e.1.1.1.1.1.1.0.now
    ≡ one_by_one dictionary a.1.0.now a.0.now a.1.1.0 a.1.1.1.0 a.1.1.1.1.0
    a.1.1.1.1.1.0 a.1.1.1.1.1.1.0.now)
unfolding Dictionary.scan
dictionary-scan κs a r e contract = contract ∙ one-after_another _ _ _ _
