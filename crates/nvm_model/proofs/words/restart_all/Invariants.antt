use Rattle.nvm_model.specs.Word.{trimmed}
use Rattle.nvm_model.specs.Progress.{Changing}
use Rattle.nvm_model.proofs.words.restart_all.Given as goal

abbrev pub invariant-loop-at : goal.invariant-loop-at
invariant-loop-at l = Changing 0 (λ _k word. trimmed word) 0 l.at l.fn.words.items l.words.items
