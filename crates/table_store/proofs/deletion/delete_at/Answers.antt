use Rattle.std.proofs.Common.{◌≡◌, Bool, Result, IfErr, rules, ℕ, List, Some, true, is_some, IsTrue, sym, subst, ◌∙◌}
use Rattle.rows.specs.Rows.{row_get, row_delete}
use Rattle.table_catalog.specs.Catalog.{entries, place_of, entry_rows, entry_pages}
use Rattle.table_catalog.specs.Stored.{IsStore}
use Rattle.table_store.specs.Changed.{ChangesTable}
use Rattle.line_pages.specs.declared.stop.Stop.{Stop}
use Rattle.page_alloc.specs.Stops.{IsFault}
use Rattle.table_store.proofs.RowsLaws.{place_rooted, as_before, is_deleted, is_absent}
use Rattle.page_format.specs.Search.{Keeps}
use Rattle.bplus_tree.specs.Damage.{FailsTree}
use Rattle.table_store.proofs.deletion.delete_at.Goals as goal

pub returns-then-not-found-clause-answer : goal.returns-then-not-found-clause-answer
returns-then-not-found-clause-answer g c = λ told name store is.
    let old = g.P.Pages.standing c.args.pages.now in
    let place = c.args.place.now in
    let tree = place_rooted c.args.limits.now old.count old.current store name place is c.requires.fits in
    is_absent old.current name place is c.args.key (sym c.if-not-found.true ∙ c.in_ok-found.ensures.found told (entry_rows old.current place.entry) _ tree)

pub returns-clause-answer : goal.returns-clause-answer
returns-clause-answer g c = λ told name store is.
    let old = g.P.Pages.standing c.args.pages.now in
    let place = c.args.place.now in
    let tree = place_rooted c.args.limits.now old.count old.current store name place is c.requires.fits in
    is_deleted old.current name place is c.args.key (sym c.if-not-found.false ∙ c.in_ok-found.ensures.found told (entry_rows old.current place.entry) _ tree)

pub returns-clause-changed : goal.returns-clause-changed
returns-clause-changed g c = λ told name store is.
    let old = g.P.Pages.standing c.args.pages.now in
    let now = g.P.Pages.standing c.has_row.new.pages in
    let place = c.args.place.now in
    let found = c.in_ok-found.ensures in
    let tree = place_rooted c.args.limits.now old.count old.current store name place is c.requires.fits in
    as_before (λ n all. (name : List ℕ) → IsStore c.args.limits.now n all → place_of name 0 (entries all) ≡ Some place → is_some (row_get c.args.key (entry_rows all place.entry)) ≡ true
    → ChangesTable c.args.limits.now n all (g.P.Pages.standing c.remove_row.new.pages).current name (row_delete c.args.key))
    old.count now.count old.current now.current found.call.continues.count (found.keeps.current told) (c.in_ok-remove_row.ensures.changed (subst IsTrue (sym found.call.continues.told) told)) name store is
    (sym (found.found told (entry_rows old.current place.entry) _ tree) ∙ c.if-not-found.false)

pub returns-in_err-found-clause-sound : goal.returns-in_err-found-clause-sound
returns-in_err-found-clause-sound g c = λ told name store is.
    let old = g.P.Pages.standing c.args.pages.now in
    let place = c.args.place.now in
    let tree = place_rooted c.args.limits.now old.count old.current store name place is c.requires.fits in
    let fault : IfErr c.has_row.result IsFault = c.has_row.ensures.sound told (entry_rows old.current place.entry) (entry_pages old.current place.entry) tree in
    let here : IsFault c.in_err-found.field-0.0 = subst (λ (r : Result Bool Stop). IfErr r IsFault) c.in_err-found.was fault in
    search (rules, here)

pub returns-in_err-remove_row-clause-sound : goal.returns-in_err-remove_row-clause-sound
returns-in_err-remove_row-clause-sound g c = λ told name store is.
    let old = g.P.Pages.standing c.args.pages.now in
    let now = g.P.Pages.standing c.has_row.new.pages in
    let place = c.args.place.now in
    let found = c.in_ok-found.ensures in
    let fault : IfErr c.remove_row.result IsFault =
    as_before (λ n all. (name : List ℕ) → IsStore c.args.limits.now n all → place_of name 0 (entries all) ≡ Some place → IfErr c.remove_row.result IsFault)
    old.count now.count old.current now.current found.call.continues.count (found.keeps.current told) (c.remove_row.ensures.sound (subst IsTrue (sym found.call.continues.told) told)) name store is in
    let here : IsFault c.in_err-remove_row.field-0.0 = subst (λ (r : Result (Unit {0}) Stop). IfErr r IsFault) c.in_err-remove_row.was fault in
    search (rules, here)

pub returns-in_err-remove_row-clause-fails : goal.returns-in_err-remove_row-clause-fails
returns-in_err-remove_row-clause-fails g c =
    let here : Keeps (FailsTree (g.P.Pages.standing c.args.pages.now).count c.remove_row.new.work.page) c.in_err-remove_row.field-0.0 =
    subst (λ (n : ℕ). Keeps (FailsTree n c.remove_row.new.work.page) c.in_err-remove_row.field-0.0) c.in_ok-found.ensures.call.continues.count c.in_err-remove_row.ensures.fails in
    search (rules, here)
