use Rattle.std.proofs.Common.{arith, IsTrue, sym, subst}
use Rattle.page_alloc.proofs.WrittenLaws.{changed_most, rewrites_from, at_most_64}
use Rattle.bplus_tree.proofs.access.write_new.Goals as goal

pub write_changes-requires-clause-room : goal.write_changes-requires-clause-room
write_changes-requires-clause-room g c = let most = changed_most c.copy_page.new.into c.args.bytes.now in omega (arith, most, c.requires.room, c.in_ok-copy_page.ensures.reads.room)

pub returns-clause-writes : goal.returns-clause-writes
returns-clause-writes g c = λ told.
    let old = g.P.Pages.standing c.args.pages.now in
    let first = g.P.Pages.standing c.copy_page.new.pages in
    let new = g.P.Pages.standing c.write_changes.new.pages in
    let same = c.in_ok-copy_page.ensures.reads.current told in
    rewrites_from old.current first.current new.current c.args.page c.args.bytes.now c.copy_page.new.into c.write_changes.result same (c.in_ok-copy_page.ensures.bytes told)
    (c.write_changes.ensures.writes (subst IsTrue (sym c.in_ok-copy_page.ensures.call.continues.told) told))

pub returns-clause-room : goal.returns-clause-room
returns-clause-room g c =
    at_most_64 c.write_changes.result _ _ _ _ c.in_ok-copy_page.ensures.reads.room (changed_most c.copy_page.new.into c.args.bytes.now) c.write_changes.ensures.room
