use Rattle.line_pages.proofs.NumberLaws.{same_part}
use Rattle.std.proofs.Common.{arith, ◌+◌, ◌*◌}
use Rattle.std.specs.List.{insert}
use Rattle.std.proofs.lemmas.List.Edits.{length-insert}
use Rattle.page_format.specs.Node.{children, page_level, entry_count}
use Rattle.page_edit.proofs.ChildLemmas.{branch_of}
use Rattle.page_edit.proofs.inner.inner_insert.Goals as goal

pub returns-clause-branch : goal.returns-clause-branch
returns-clause-branch c = branch_of c.insert_child.new.page (insert (children c.args.page.now) c.args.at (c.args.key, c.args.child)) (page_level c.args.page.now) c.insert_child.ensures.inner c.insert_child.ensures.children c.insert_child.ensures.level
    c.requires.branch.above (omega (arith, length-insert (children c.args.page.now) c.args.at (c.args.key, c.args.child) c.requires.at)) c.requires.order

pub returns-clause-rest : goal.returns-clause-rest
returns-clause-rest c = same_part 3904 4096 (80 + 16 * entry_count c.args.page.now) 4096 _ _ c.insert_child.ensures.rest (omega (arith, c.children.ensures.children, c.children.ensures.count, c.requires.room)) (omega arith)
