use Rattle.std.proofs.Common.{◌≤◌, length, Result, IsTrue, IfErr, Bool, subst, sym, ap, ◌∙◌, rules}
use Rattle.line_pages.specs.declared.stop.Stop.{Stop}
use Rattle.page_alloc.specs.Stops.{IsFault}
use Rattle.rows.specs.Rows.{row_put}
use Rattle.table_catalog.specs.Catalog.{entry_rows, entry_pages}
use Rattle.line_pages.proofs.StandingLaws.{KeepsPages-trans}
use Rattle.table_store.proofs.RowsLaws.{rows_put, few_after, sound_put, place_rooted}
use Rattle.table_store.proofs.PlaceLaws.{stepped_unless}
use Rattle.bplus_tree.specs.Damage.{FailsTree}
use Rattle.table_catalog.proofs.FailsLaws.{never_keeps}
use Rattle.table_store.proofs.RecordLaws.{again_stored}
use Rattle.table_store.proofs.storing.store_row.Goals as goal

pub returns-clause-changed : goal.returns-clause-changed
returns-clause-changed g c = λ told name store is left.
    let old = g.P.Pages.standing c.args.pages.now in
    let mid = g.P.Pages.standing c.put.new.pages in
    let place = c.args.place.now in
    let key = c.args.key in
    let value = c.args.value.now in
    let limits = c.args.limits.now in
    let put = c.in_ok-fresh.ensures in
    let tree = place_rooted limits old.count old.current store name place is c.requires.fits in
    let fresh = rw c.root_of-root.ensures at (put.fresh told) in
    let rows_are = rows_put limits old.count old.current store name place is key value c.in_ok-fresh.fresh c.rows_after-rows.result (fresh (entry_rows old.current place.entry) (entry_pages old.current place.entry) tree) c.rows_after-rows.ensures in
    stepped_unless limits old.count old.current mid.current (g.P.Pages.standing c.update_place.new.pages).current name place c.put.new.root c.rows_after-rows.result (row_put key value) c.update_place.result
    c.requires.fits (rw c.root_of-root.ensures at (put.rows told)) (c.update_place.ensures.after (subst IsTrue (sym put.call.continues.told) told)) store is rows_are
    (subst (λ n. n ≤ limits.rows) (sym rows_are) (few_after limits old.count old.current store name place is key value c.requires.fits.entry.rows left))

pub returns-clause-call : goal.returns-clause-call
returns-clause-call g c = KeepsPages-trans c.in_ok-fresh.ensures.call c.update_place.ensures.call

pub returns-in_err-fresh-clause-sound : goal.returns-in_err-fresh-clause-sound
returns-in_err-fresh-clause-sound g c = λ told name store is left enough.
    let old = g.P.Pages.standing c.args.pages.now in
    let stops = rw c.root_of-root.ensures at (c.put.ensures.sound told) in
    let most : c.args.limits.now.rows ≤ 1000000 = search rules in
    let fault : IfErr c.put.result IsFault =
    sound_put c.args.limits.now old.count old.current name c.args.place.now c.args.key c.args.value.now c.put.result c.requires.fits most stops store is left enough in
    let here : IsFault c.in_err-fresh.field-0.0 = subst (λ (r : Result Bool Stop). IfErr r IsFault) c.in_err-fresh.was fault in
    search (rules, here)

pub returns-clause-fails : goal.returns-clause-fails
returns-clause-fails g c = never_keeps (FailsTree (g.P.Pages.standing c.args.pages.now).count c.put.new.work.page) c.update_place.result c.update_place.ensures.cause

pub returns-clause-again : goal.returns-clause-again
returns-clause-again g c = λ told.
    let put = c.in_ok-fresh.ensures in
    again_stored c.args.place.now c.put.new.root c.rows_after-rows.result c.in_ok-fresh.fresh c.args.key (length c.args.value.now) (g.P.Pages.standing c.args.pages.now) (g.P.Pages.standing c.put.new.pages)
    (g.P.Pages.standing c.update_place.new.pages) c.update_place.result (rw c.root_of-root.ensures at (put.again told)) (rw c.root_of-root.ensures at (put.same_root told)) (rw c.root_of-root.ensures at (put.fresh told))
    c.rows_after-rows.ensures c.update_place.ensures.unwritten
