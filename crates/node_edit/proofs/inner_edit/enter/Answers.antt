use Rattle.page_format.proofs.BranchLemmas.{branch_from}
use Rattle.page_format.proofs.PageFacts.{level_of}
use Rattle.node_edit.proofs.ChildEdits.{children_of}
use Rattle.node_edit.proofs.inner_edit.enter.Goals as goal

pub children-requires : goal.children-requires
children-requires c = (branch_from c.args.page.now c.args.expect.now c.byte.ensures.size c.requires.level c.top_of.ensures.top c.requires.well).inner

pub returns-clause-branch : goal.returns-clause-branch
returns-clause-branch c = branch_from c.args.page.now c.args.expect.now c.byte.ensures.size c.requires.level c.top_of.ensures.top c.requires.well

pub returns-clause-level : goal.returns-clause-level
returns-clause-level c = level_of c.args.page.now c.args.expect.now c.requires.well

pub returns-clause-are : goal.returns-clause-are
returns-clause-are c = children_of c.args.page.now c.args.expect.now c.requires.level c.requires.well
