use Rattle.nvm_model.specs.Progress.{Reserved}
use Rattle.nvm_model.proofs.words.reserve_line.Given as goal

abbrev pub invariant-loop-place : goal.invariant-loop-place
invariant-loop-place l = Reserved l.first l.place l.fn.words.items l.words.items
