use Rattle.std.proofs.Common.{◌∙◌, ap, sym}
use Rattle.nvm_model.specs.Word.{oldest}
use Rattle.nvm_model.specs.Contents.{memory_of}
use Rattle.nvm_model.proofs.MemoryLaws.{word_read, newest_read, chosen_oldest, chosen_newest}
use Rattle.nvm_model.proofs.state.NvmState.chosen.Goals as goal

pub returns-then-takes_oldest : goal.returns-then-takes_oldest
unfolding memory_of
returns-then-takes_oldest c =
    c.oldest.ensures
    ∙ ap oldest (word_read c.args.self.now.interval c.args.self.now.words.items c.index_of-at.result c.args.line c.args.place c.index.result.now c.requires.place c.index_of-at.ensures.value c.index_of-at.ensures.within c.index.ensures)
    ∙ chosen_oldest c.args.choice c.index_of-at.result c.args.line c.args.place (memory_of c.args.self.now c.args.line c.args.place) c.index_of-at.ensures.value (sym c.takes_oldest.ensures ∙ c.if-takes_oldest.true)

pub returns-else-takes_oldest : goal.returns-else-takes_oldest
unfolding memory_of
returns-else-takes_oldest c =
    c.newest.ensures
    ∙ newest_read c.args.self.now.interval c.args.self.now.words.items c.index_of-at.result c.args.line c.args.place c.index-else-takes_oldest.result.now c.requires.place c.index_of-at.ensures.value c.index_of-at.ensures.within c.index-else-takes_oldest.ensures
    ∙ chosen_newest c.args.choice c.index_of-at.result c.args.line c.args.place (memory_of c.args.self.now c.args.line c.args.place) c.index_of-at.ensures.value (sym c.takes_oldest.ensures ∙ c.if-takes_oldest.false)
