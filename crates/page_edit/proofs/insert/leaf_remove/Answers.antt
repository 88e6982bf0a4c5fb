use Rattle.std.proofs.Common.{sym, subst}
use Rattle.page_format.specs.Node.{leaf_rows}
use Rattle.page_format.specs.Sound.{IsRows}
use Rattle.page_format.proofs.FactLemmas.{leaf_is}
use Rattle.page_edit.proofs.RemoveLemmas.{rows_remove}
use Rattle.page_edit.proofs.insert.leaf_remove.Goals as goal

pub returns-clause-leaf : goal.returns-clause-leaf
returns-clause-leaf c = leaf_is c.remove_here.new.page c.remove_here.ensures.sound
    (subst IsRows (sym c.remove_here.ensures.rows) (rows_remove (leaf_rows c.args.page.now) c.args.at c.open_leaf.ensures.rows))
