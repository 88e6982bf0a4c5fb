use Rattle.std.proofs.Common.{arith, ◌+◌, ◌*◌}
use Rattle.line_pages.proofs.NumberLaws.{same_part}
use Rattle.page_format.specs.Node.{children, page_level, entry_count}
use Rattle.page_edit.proofs.ChildLemmas.{branch_less}
use Rattle.page_edit.proofs.inner.inner_remove.Goals as goal

pub returns-clause-branch : goal.returns-clause-branch
returns-clause-branch c = branch_less c.remove_child.new.page (children c.args.page.now) c.args.at (page_level c.args.page.now) c.remove_child.ensures.inner c.remove_child.ensures.children c.remove_child.ensures.level
    c.requires.branch.above c.requires.at c.requires.branch.room c.requires.branch.order

pub returns-clause-rest : goal.returns-clause-rest
returns-clause-rest c = same_part 3904 4096 (64 + 16 * entry_count c.args.page.now) 4096 _ _ c.remove_child.ensures.rest (omega (arith, c.children.ensures.children, c.children.ensures.count, c.requires.branch.room)) (omega arith)
