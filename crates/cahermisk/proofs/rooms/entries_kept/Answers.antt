-- `cahermisk::rooms::entries_kept` meets its contract.
use mathlib.Core.Path.{sym, ◌∙◌}
use Rattle.answers.specs.Laws.{code_some}
use Rattle.cahermisk.specs.Rooms.{within, beyond}
use Rattle.cahermisk.proofs.rooms.entries_kept.Goals as goal

pub returns-in-Err : goal.returns-in-Err
returns-in-Err c = sym (beyond _ _ (λ none. code_some _ (c.in-Err.ensures ∙ none)))

pub returns-in-Ok : goal.returns-in-Ok
returns-in-Ok c = sym (within _ _ (sym c.in-Ok.ensures))
