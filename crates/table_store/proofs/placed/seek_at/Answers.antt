use Rattle.bplus_tree.proofs.TreeDamageLaws.{node_cause, node_fails}
use Rattle.table_store.proofs.placed.seek_at.Goals as goal

pub returns-clause-cause : goal.returns-clause-cause
returns-clause-cause g c =
    let old = g.P.Pages.standing c.args.pages.now in
    node_cause old.count c.seek.new.work.page old (g.P.Pages.standing c.seek.new.pages) c.seek.result c.seek.ensures.unchanged c.seek.ensures.cause

pub returns-clause-value : goal.returns-clause-value
returns-clause-value g c = rw c.root_of-root.ensures at c.seek.ensures.value

pub returns-clause-fails : goal.returns-clause-fails
returns-clause-fails g c = node_fails (g.P.Pages.standing c.args.pages.now).count c.seek.new.work.page c.seek.result c.seek.ensures.fails
