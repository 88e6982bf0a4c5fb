use Rattle.std.proofs.Common.{◌∙◌}
use Rattle.nvm_model.specs.Contents.{memory_of}
use Rattle.nvm_model.proofs.MemoryLaws.{newest_read}
use Rattle.nvm_model.proofs.state.NvmState.newest.Goals as goal

pub returns : goal.returns
unfolding memory_of
returns c = c.newest.ensures ∙ newest_read c.args.self.now.interval c.args.self.now.words.items c.index_of.result c.args.line c.args.place c.index.result.now c.requires.place c.index_of.ensures.value c.index_of.ensures.within c.index.ensures
