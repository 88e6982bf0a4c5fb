use Rattle.bplus_tree.proofs.TreeDamageLaws.{node_cause, node_fails}
use Rattle.bplus_tree.proofs.FullLaws.{node_not_full}
use Rattle.bplus_tree.proofs.access.load.Goals as goal

pub returns-clause-cause : goal.returns-clause-cause
returns-clause-cause g c =
    let old = g.P.Pages.standing c.args.pages.now in
    node_cause old.count c.read_page.new.work.page old (g.P.Pages.standing c.read_page.new.pages) c.read_page.result c.read_page.ensures.unchanged (c.read_page.ensures.cause (record { pages = c.requires.pages; root = c.requires.root }))

pub returns-clause-fails : goal.returns-clause-fails
returns-clause-fails g c = node_fails (g.P.Pages.standing c.args.pages.now).count c.read_page.new.work.page c.read_page.result (c.read_page.ensures.fails (record { pages = c.requires.pages; root = c.requires.root }))

pub returns-clause-not_full : goal.returns-clause-not_full
returns-clause-not_full g c = node_not_full (g.P.Pages.standing c.args.pages.now).count c.read_page.new.work.page c.read_page.result (c.read_page.ensures.fails (record { pages = c.requires.pages; root = c.requires.root }))
