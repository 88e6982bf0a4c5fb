use Rattle.std.proofs.Common.{ap, ◌∙◌}
use Rattle.nvm_model.specs.Held.{words_in}
use Rattle.nvm_model.specs.Contents.{memory_of, memory_from}
use Rattle.nvm_model.proofs.MemoryLaws.{memory_fresh}
use Rattle.nvm_model.proofs.state.NvmState.new.Goals as goal

pub returns-clause-words : goal.returns-clause-words
unfolding memory_of
returns-clause-words c = ap (λ helds. memory_from (words_in 0 helds)) c.in_ok-words.ensures ∙ memory_fresh _
