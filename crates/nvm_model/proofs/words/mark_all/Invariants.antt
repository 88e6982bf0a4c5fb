use Rattle.nvm_model.specs.Word.{marked}
use Rattle.nvm_model.specs.Progress.{Changing}
use Rattle.nvm_model.proofs.words.mark_all.Given as goal

abbrev pub invariant-loop-place : goal.invariant-loop-place
invariant-loop-place l = Changing l.interval (λ _k word. marked word) l.first l.place l.fn.words.items l.words.items
