use Rattle.bplus_tree.proofs.TreeDamageLaws.{node_cause, node_fails}
use Rattle.bplus_tree.proofs.FullLaws.{node_not_full}
use Rattle.bplus_tree.proofs.tree.seek.Goals as goal

pub returns-clause-cause : goal.returns-clause-cause
returns-clause-cause g c =
    let old = g.P.Pages.standing c.args.pages.now in
    node_cause old.count c.get.new.work.page old (g.P.Pages.standing c.get.new.pages) c.get.result c.get.ensures.unchanged c.get.ensures.cause

pub returns-clause-fails : goal.returns-clause-fails
returns-clause-fails g c = node_fails (g.P.Pages.standing c.args.pages.now).count c.get.new.work.page c.get.result c.get.ensures.fails

pub returns-clause-not_full : goal.returns-clause-not_full
returns-clause-not_full g c = node_not_full (g.P.Pages.standing c.args.pages.now).count c.get.new.work.page c.get.result c.get.ensures.fails
