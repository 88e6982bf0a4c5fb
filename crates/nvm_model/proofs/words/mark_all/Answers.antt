use Rattle.nvm_model.specs.Word.{marked}
use Rattle.nvm_model.proofs.HeldLaws.{Changing-more}
use Rattle.std.proofs.Common.{arith}
use Rattle.nvm_model.proofs.words.mark_all.Goals as goal

pub loop-place-preserved : goal.loop-place-preserved
loop-place-preserved c = Changing-more c.args.interval (λ _k word. marked word) c.args.first c.loop-place.place c.args.words.now.items c.loop-place.words.items c.index_mut.result.now c.mark.new.self c.loop-place.invariant (omega arith) c.index_mut.ensures.value c.mark.ensures
