use Rattle.std.proofs.Common.{◌∙◌, sym}
use Rattle.page_format.proofs.SlotLemmas.{length_rows}
use Rattle.page_format.proofs.FactLemmas.{sound_of, rows_of_leaf}
use Rattle.page_format.proofs.leaf.open_leaf.Goals as goal

pub returns-clause-count : goal.returns-clause-count
returns-clause-count c = c.page_word.ensures.value ∙ sym (length_rows c.args.page.now)

pub returns-clause-sound : goal.returns-clause-sound
returns-clause-sound c = sound_of c.args.page.now c.page_word.ensures.size c.requires

pub returns-clause-rows : goal.returns-clause-rows
returns-clause-rows c = rows_of_leaf c.args.page.now c.page_word.ensures.size c.requires

pub returns-clause-entries : goal.returns-clause-entries
returns-clause-entries c = length_rows c.args.page.now
