use Rattle.bplus_tree.proofs.TreeDamageLaws.{take_cause, space_fails}
use Rattle.bplus_tree.proofs.FullLaws.{space_not_full}
use Rattle.bplus_tree.proofs.access.take.Goals as goal

pub returns-clause-cause : goal.returns-clause-cause
returns-clause-cause g c =
    let old = g.P.Pages.standing c.args.pages.now in
    take_cause old.count c.take_page.new.work.page old (g.P.Pages.standing c.take_page.new.pages) c.take_page.result c.take_page.ensures.unchanged c.take_page.ensures.cause

pub returns-clause-fails : goal.returns-clause-fails
returns-clause-fails g c = space_fails (g.P.Pages.standing c.args.pages.now).count c.take_page.new.work.page c.take_page.result c.take_page.ensures.fails

pub returns-clause-not_full : goal.returns-clause-not_full
returns-clause-not_full g c = space_not_full (g.P.Pages.standing c.args.pages.now).count c.take_page.new.work.page c.take_page.result c.take_page.ensures.fails
