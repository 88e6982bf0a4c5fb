use Rattle.nvm_model.specs.Word.{trimmed}
use Rattle.nvm_model.proofs.HeldLaws.{Changing-next}
use Rattle.std.proofs.Common.{arith}
use Rattle.nvm_model.proofs.words.restart_all.Goals as goal

pub loop-at-preserved : goal.loop-at-preserved
loop-at-preserved c = Changing-next 0 (λ _k word. trimmed word) c.loop-at.at c.args.words.now.items c.loop-at.words.items c.index_mut.result.now c.restart.new.self c.loop-at.invariant (omega arith) c.index_mut.ensures.value c.restart.ensures
