use Rattle.std.proofs.Common.{IsTrue, sym, subst}
use Rattle.line_pages.proofs.StandingLaws.{KeepsPages-trans}
use Rattle.page_alloc.proofs.Places.{give_answer}
use Rattle.page_alloc.proofs.space.give_page.Goals as goal

pub returns-clause-call : goal.returns-clause-call
returns-clause-call g c = KeepsPages-trans c.in_ok-header.ensures.call c.write_free.ensures.call

pub returns-clause-moves : goal.returns-clause-moves
returns-clause-moves g c = λ told.
    let old = g.P.Pages.standing c.args.pages.now in
    let first = g.P.Pages.standing c.read_header.new.pages in
    let new = g.P.Pages.standing c.write_free.new.pages in
    let told_on = subst IsTrue (sym c.in_ok-header.ensures.call.continues.told) told in
    give_answer old.count old.current first.current new.current c.args.page c.in_ok-header.header c.write_free.result (c.in_ok-header.ensures.keeps.current told) (c.write_free.ensures.current told_on)
    (c.in_ok-header.ensures.header told) c.in_ok-header.ensures.line.eight c.in_ok-header.ensures.fits c.requires.some
