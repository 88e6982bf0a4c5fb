use Rattle.std.proofs.Common.{IsTrue, sym, subst}
use Rattle.line_pages.proofs.StandingLaws.{KeepsPages-trans}
use Rattle.table_store.proofs.CreateLaws.{makes_by}
use Rattle.page_alloc.specs.Space.{FailsSpace}
use Rattle.table_catalog.proofs.FailsLaws.{never_keeps}
use Rattle.table_store.proofs.creation.add_table.Goals as goal

pub returns-clause-makes : goal.returns-clause-makes
returns-clause-makes g c = λ told.
    let old = g.P.Pages.standing c.args.pages.now in
    let mid = g.P.Pages.standing c.take_one.new.pages in
    let taken = c.in_ok-page.ensures in
    makes_by c.args.limits.now old.count old.current mid.current (g.P.Pages.standing c.write_table.new.pages).current c.args.name.now c.in_ok-page.page c.args.at c.write_table.result
    (taken.taken told) taken.in_range.0 c.requires.at (c.write_table.ensures.after (subst IsTrue (sym taken.call.continues.told) told))

pub returns-clause-call : goal.returns-clause-call
returns-clause-call g c = KeepsPages-trans c.in_ok-page.ensures.call c.write_table.ensures.call

pub returns-clause-fails : goal.returns-clause-fails
returns-clause-fails g c = never_keeps (FailsSpace (g.P.Pages.standing c.args.pages.now).count c.take_one.new.work.page) c.write_table.result c.write_table.ensures.cause
