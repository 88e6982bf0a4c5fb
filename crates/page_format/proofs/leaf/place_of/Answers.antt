use Rattle.page_format.proofs.SlotLemmas.{slot_inside}
use Rattle.page_format.proofs.leaf.place_of.Goals as goal

pub returns-clause-inside : goal.returns-clause-inside
returns-clause-inside c = slot_inside c.args.page.now c.args.at c.requires.sound c.requires.at
