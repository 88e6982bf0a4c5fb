use Rattle.std.proofs.Common.{◌≡◌, ◌+◌, ℕ, Result, OnOk, IfErr, IsTrue, rules, sym, subst, arith}
use Rattle.line_pages.specs.declared.stop.Stop.{Stop}
use Rattle.line_pages.proofs.StandingLaws.{KeepsPages-trans}
use Rattle.rows.specs.Rows.{row_delete}
use Rattle.page_alloc.specs.Stops.{IsFault}
use Rattle.table_catalog.specs.Catalog.{entry_in, entry_rows, entry_pages}
use Rattle.table_store.proofs.RowsLaws.{stands_in, stepped_by, rows_deleted, counted_by}
use Rattle.bplus_tree.specs.Damage.{FailsTree}
use Rattle.table_catalog.proofs.FailsLaws.{never_keeps}
use Rattle.table_store.proofs.deletion.remove_row.Goals as goal

pub returns-clause-changed : goal.returns-clause-changed
returns-clause-changed g c = λ told name store is found.
    let old = g.P.Pages.standing c.args.pages.now in
    let mid = g.P.Pages.standing c.delete_row.new.pages in
    let place = c.args.place.now in
    let gone = c.in_ok-delete_row.ensures in
    stepped_by c.args.limits.now old.count old.current mid.current (g.P.Pages.standing c.write_place.new.pages).current name place c.delete_row.new.root c.saturating_sub-rows.result (row_delete c.args.key) c.write_place.result
    c.requires.fits (rw c.root_of-root.ensures at (gone.rows told)) (c.write_place.ensures.after (subst IsTrue (sym gone.call.continues.told) told)) store is
    (rows_deleted c.args.limits.now old.count old.current store name place is c.args.key c.saturating_sub-rows.result found c.saturating_sub-rows.ensures)
    (omega (arith, c.saturating_sub-rows.ensures, c.requires.fits.entry.rows))

pub returns-clause-call : goal.returns-clause-call
returns-clause-call g c = KeepsPages-trans c.in_ok-delete_row.ensures.call c.write_place.ensures.call

pub returns-clause-counted : goal.returns-clause-counted
returns-clause-counted g c = λ told.
    let place = c.args.place.now in
    let mid = g.P.Pages.standing c.delete_row.new.pages in
    let new = g.P.Pages.standing c.write_place.new.pages in
    subst (λ (n : ℕ). OnOk c.write_place.result ((entry_in (new.current 0 (2 + place.at))).rows ≡ n)) c.saturating_sub-rows.ensures
    (counted_by mid.current new.current place c.delete_row.new.root c.saturating_sub-rows.result c.write_place.result (c.write_place.ensures.after (subst IsTrue (sym c.in_ok-delete_row.ensures.call.continues.told) told)))

pub returns-in_err-delete_row-clause-sound : goal.returns-in_err-delete_row-clause-sound
returns-in_err-delete_row-clause-sound g c = λ told name store is.
    let old = g.P.Pages.standing c.args.pages.now in
    let place = c.args.place.now in
    let stops = rw c.root_of-root.ensures at (c.delete_row.ensures.sound told) in
    let fault : IfErr c.delete_row.result IsFault = stops (entry_rows old.current place.entry) (entry_pages old.current place.entry) store.free (stands_in c.args.limits.now old.count old.current store name place is c.requires.fits) in
    let here : IsFault c.in_err-delete_row.field-0.0 = subst (λ (r : Result (Unit {0}) Stop). IfErr r IsFault) c.in_err-delete_row.was fault in
    search (rules, here)

pub returns-clause-fails : goal.returns-clause-fails
returns-clause-fails g c = never_keeps (FailsTree (g.P.Pages.standing c.args.pages.now).count c.delete_row.new.work.page) c.write_place.result c.write_place.ensures.cause
