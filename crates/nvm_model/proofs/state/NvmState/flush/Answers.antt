use Rattle.std.proofs.Common.{◌∙◌, refl}
use Rattle.nvm_model.specs.Word.{marked}
use Rattle.nvm_model.specs.Held.{helds_of, words_in}
use Rattle.nvm_model.specs.Contents.{memory_of}
use Rattle.nvm_model.proofs.MemoryLaws.{memory_changed_at, memory_marked}
use Rattle.nvm_model.proofs.state.NvmState.flush.Goals as goal

pub returns-clause-words : goal.returns-clause-words
unfolding memory_of
returns-clause-words c =
    memory_changed_at c.args.self.now.interval (λ _k word. marked word) c.index_of-first.result c.args.line
    (helds_of c.args.self.now.words.items) (helds_of c.args.self.now.words.items) (helds_of c.mark_all.new.words.items) c.index_of-first.ensures.value refl c.mark_all.ensures
    ∙ memory_marked (words_in c.args.self.now.interval (helds_of c.args.self.now.words.items)) c.args.line
