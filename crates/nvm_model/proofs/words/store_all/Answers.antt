use Rattle.std.proofs.Common.{slice_index, arith}
use Rattle.nvm_model.specs.Word.{stored}
use Rattle.nvm_model.proofs.HeldLaws.{Storing-more}
use Rattle.nvm_model.proofs.words.store_all.Goals as goal

pub loop-place-preserved : goal.loop-place-preserved
loop-place-preserved c = Storing-more c.args.interval (λ k word. stored (slice_index c.args.value.now.words k) word) c.args.first c.loop-place.place c.args.words.now.items c.loop-place.words.items c.index_mut.result.now c.store.new.self c.loop-place.invariant (omega arith) c.index_mut.ensures.value c.store.ensures
