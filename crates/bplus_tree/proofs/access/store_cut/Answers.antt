use Rattle.page_alloc.specs.Stops.{IsShort, spare_pages}
use Rattle.std.proofs.Common.{rules, IfErr, arith, IsTrue, sym, subst}
use Rattle.page_alloc.specs.Moves.{Takes}
use Rattle.page_alloc.specs.Written.{Rewrites}
use Rattle.page_alloc.proofs.WrittenLaws.{changed_most}
use Rattle.page_format.specs.declared.work.Work.{Work}
use Rattle.bplus_tree.proofs.Storing.{stored_cut}
use Rattle.page_alloc.proofs.SoundLaws.{sound_cut}
use Rattle.bplus_tree.proofs.access.store_cut.Goals as goal

pub write_changes-requires-clause-room : goal.write_changes-requires-clause-room
write_changes-requires-clause-room g c = let most = changed_most c.args.work.now.spare c.args.work.now.page in omega (arith, most, c.requires.room)

pub take-requires-clause-room : goal.take-requires-clause-room
take-requires-clause-room g c = let most = changed_most c.args.work.now.spare c.args.work.now.page in omega (arith, most, c.requires.room, c.in_ok-write_changes.ensures.room)

pub write_new-requires-clause-room : goal.write_new-requires-clause-room
write_new-requires-clause-room g c = let most = changed_most c.args.work.now.spare c.args.work.now.page in omega (arith, most, c.requires.room, c.in_ok-write_changes.ensures.room, c.in_ok-right.ensures.room)

pub returns-clause-room : goal.returns-clause-room
returns-clause-room g c = let most = changed_most c.args.work.now.spare c.args.work.now.page in omega (arith, most, c.in_ok-write_changes.ensures.room, c.in_ok-right.ensures.room, c.in_ok-write_new.ensures.room)

pub returns-clause-stores : goal.returns-clause-stores
returns-clause-stores g c = λ told is.
    let old = g.P.Pages.standing c.args.pages.now in
    let a = g.P.Pages.standing c.write_changes.new.pages in
    let b = g.P.Pages.standing c.take.new.pages in
    let new = g.P.Pages.standing c.write_new.new.pages in
    let told_a = subst IsTrue (sym c.in_ok-write_changes.ensures.call.continues.told) told in
    let told_b = subst IsTrue (sym c.in_ok-right.ensures.call.continues.told) told_a in
    stored_cut old.count old.current a.current b.current new.current c.args.page c.args.key c.in_ok-right.right c.args.work.now.page c.args.work.now.right (c.in_ok-write_changes.ensures.writes told is)
    (subst (λ n. Takes n a.current b.current c.in_ok-right.right) c.in_ok-write_changes.ensures.call.continues.count (c.in_ok-right.ensures.moves told_a))
    (subst (λ (w : Work). Rewrites c.in_ok-right.right w.right b.current new.current) c.in_ok-right.ensures.work (c.in_ok-write_new.ensures.writes told_b))

pub returns-in_err-right-clause-sound : goal.returns-in_err-right-clause-sound
returns-in_err-right-clause-sound g c = λ told is free is_free part fits.
    let old = g.P.Pages.standing c.args.pages.now in
    let a = g.P.Pages.standing c.write_changes.new.pages in
    let told_a = subst IsTrue (sym c.in_ok-write_changes.ensures.call.continues.told) told in
    let stops : IfErr c.take.result (IsShort (spare_pages old.count old.current free) 0) =
    sound_cut old.count a.count old.current a.current c.args.page c.args.work.now.page free c.take.result c.in_ok-write_changes.ensures.call.continues.count (c.in_ok-write_changes.ensures.writes told is) is_free part fits (c.take.ensures.sound told_a) in
    let k = subst (λ r. IfErr r (IsShort (spare_pages old.count old.current free) 0)) c.in_err-right.was stops in
    search (rules, k)
