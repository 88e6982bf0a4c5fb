use Rattle.page_format.proofs.FactLemmas.{leaf_from}
use Rattle.page_format.proofs.PageFacts.{leaf_facts}
use Rattle.node_edit.proofs.LeafLaws.{enter_full}
use Rattle.node_edit.proofs.leaf_edit.enter.Goals as goal

pub returns-clause-leaf : goal.returns-clause-leaf
returns-clause-leaf c = leaf_from c.args.page.now c.args.expect.now c.byte.ensures.size c.requires.level c.top_of.ensures.top c.requires.well

pub returns-clause-order : goal.returns-clause-order
returns-clause-order c = (leaf_facts c.args.page.now c.args.expect.now c.requires.level c.requires.well).order

pub returns-clause-full : goal.returns-clause-full
returns-clause-full c = enter_full c.args.page.now c.args.expect.now c.byte.ensures.size c.requires.level c.top_of.ensures.top c.requires.well
