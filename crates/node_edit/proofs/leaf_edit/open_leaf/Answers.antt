use Rattle.page_format.proofs.FactLemmas.{sound_of, rows_of_leaf}
use Rattle.node_edit.proofs.leaf_edit.open_leaf.Goals as goal

pub leaf_rows-requires : goal.leaf_rows-requires
leaf_rows-requires c = sound_of c.args.page.now c.byte.ensures.size c.requires

pub returns-clause-sound : goal.returns-clause-sound
returns-clause-sound c = sound_of c.args.page.now c.byte.ensures.size c.requires

pub returns-clause-rows : goal.returns-clause-rows
returns-clause-rows c = rows_of_leaf c.args.page.now c.byte.ensures.size c.requires
