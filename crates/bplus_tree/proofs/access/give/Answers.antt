use Rattle.bplus_tree.proofs.TreeDamageLaws.{give_cause, space_fails}
use Rattle.bplus_tree.proofs.FullLaws.{space_not_full}
use Rattle.bplus_tree.proofs.access.give.Goals as goal

pub returns-clause-cause : goal.returns-clause-cause
returns-clause-cause g c =
    let old = g.P.Pages.standing c.args.pages.now in
    give_cause old.count c.give_page.new.work.page old (g.P.Pages.standing c.give_page.new.pages) c.give_page.result c.give_page.ensures.unchanged c.give_page.ensures.cause

pub returns-clause-fails : goal.returns-clause-fails
returns-clause-fails g c = space_fails (g.P.Pages.standing c.args.pages.now).count c.give_page.new.work.page c.give_page.result c.give_page.ensures.fails

pub returns-clause-not_full : goal.returns-clause-not_full
returns-clause-not_full g c = space_not_full (g.P.Pages.standing c.args.pages.now).count c.give_page.new.work.page c.give_page.result c.give_page.ensures.fails
