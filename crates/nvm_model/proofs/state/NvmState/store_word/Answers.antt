use Rattle.std.proofs.Common.{◌∙◌, ap}
use Rattle.std.proofs.lemmas.List.{length-map}
use Rattle.std.proofs.lemmas.Result.{on_ok_weaker, on_err_weaker}
use Rattle.nvm_model.specs.Held.{held_of, helds_of, words_in}
use Rattle.nvm_model.specs.Contents.{memory_of, memory_from}
use Rattle.nvm_model.proofs.MemoryLaws.{memory_stored_at}
use Rattle.nvm_model.proofs.state.NvmState.store_word.Goals as goal

pub returns-clause-stored : goal.returns-clause-stored
unfolding memory_of
returns-clause-stored c = on_ok_weaker c.store_at.result (λ e. ap (λ helds. memory_from (words_in c.args.self.now.interval helds)) e
    ∙ memory_stored_at c.args.self.now.interval (helds_of c.args.self.now.words.items) c.index_of-at.result c.args.line c.args.word c.args.value c.requires.word c.index_of-at.ensures.value (rw (length-map c.args.self.now.words.items held_of) c.index_of-at.ensures.within)) c.store_at.ensures.stored

pub returns-clause-unchanged : goal.returns-clause-unchanged
unfolding memory_of
returns-clause-unchanged c = on_err_weaker c.store_at.result (λ e. ap (λ helds. memory_from (words_in c.args.self.now.interval helds)) e) c.store_at.ensures.unchanged
