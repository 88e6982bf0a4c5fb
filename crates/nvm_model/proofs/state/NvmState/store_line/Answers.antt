use Rattle.std.proofs.Common.{ap, slice_index}
use Rattle.nvm_model.specs.Word.{stored}
use Rattle.nvm_model.specs.Held.{helds_of, words_in}
use Rattle.nvm_model.specs.Contents.{memory_of, memory_from}
use Rattle.nvm_model.proofs.HeldLaws.{on_err}
use Rattle.nvm_model.proofs.MemoryLaws.{memory_changed_at}
use Rattle.nvm_model.proofs.state.NvmState.store_line.Goals as goal

pub returns-in_err-reserve_line-clause-unchanged : goal.returns-in_err-reserve_line-clause-unchanged
unfolding memory_of
returns-in_err-reserve_line-clause-unchanged c = on_err c.from_residual.result (ap (λ helds. memory_from (words_in c.args.self.now.interval helds)) c.reserve_line.ensures.held)

pub returns-clause-stored : goal.returns-clause-stored
unfolding memory_of
returns-clause-stored c =
    memory_changed_at c.args.self.now.interval (λ k word. stored (slice_index c.args.value.now.words k) word) c.index_of-first.result c.args.line
    (helds_of c.args.self.now.words.items) (helds_of c.reserve_line.new.words.items) (helds_of c.store_all.new.words.items) c.index_of-first.ensures.value c.reserve_line.ensures.held c.store_all.ensures
