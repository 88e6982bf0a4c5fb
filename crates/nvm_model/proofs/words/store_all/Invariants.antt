use Rattle.std.proofs.Common.{slice_index}
use Rattle.nvm_model.specs.Word.{stored}
use Rattle.nvm_model.specs.Progress.{Storing}
use Rattle.nvm_model.proofs.words.store_all.Given as goal

abbrev pub invariant-loop-place : goal.invariant-loop-place
invariant-loop-place l = Storing l.interval (λ k word. stored (slice_index l.value.words k) word) l.first l.place l.fn.words.items l.words.items
