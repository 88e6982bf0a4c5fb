use Rattle.nvm_model.specs.Held.{helds_of}
use Rattle.nvm_model.proofs.HeldLaws.{restarted_of}
use Rattle.nvm_model.specs.Contents.{memory_of}
use Rattle.nvm_model.proofs.MemoryLaws.{memory_restarted, memory_fenced}
use Rattle.nvm_model.proofs.state.NvmState.fence.Goals as goal

pub returns-then-self-clause-words : goal.returns-then-self-clause-words
unfolding memory_of
returns-then-self-clause-words c = memory_restarted c.args.self.now.interval (helds_of c.args.self.now.words.items) (helds_of c.restart_all.new.words.items) (restarted_of c.args.self.now.words.items c.restart_all.new.words.items c.restart_all.ensures)

pub returns-else-self-clause-words : goal.returns-else-self-clause-words
unfolding memory_of
returns-else-self-clause-words c = memory_fenced c.args.self.now.interval (helds_of c.args.self.now.words.items) c.args.self.now.up_to
