use Rattle.std.proofs.Common.{◌≡◌, ◌+◌, ◌*◌, ◌/◌, ◌<◌, Result, IfErr, rules, ◌≤◌, ℕ, List, length, Some, Bool, false, is_some, IsTrue, sym, subst, ◌∙◌}
use Rattle.rows.specs.Rows.{row_get, row_put}
use Rattle.table_catalog.specs.Catalog.{entries, place_of, entry_rows, entry_pages}
use Rattle.table_catalog.specs.Stored.{IsStore}
use Rattle.table_store.specs.Changed.{root_at, ChangesTable}
use Rattle.line_pages.specs.declared.stop.Stop.{Stop}
use Rattle.page_alloc.specs.Stops.{IsFault}
use Rattle.page_format.specs.Search.{Keeps}
use Rattle.bplus_tree.specs.Damage.{FailsTree}
use Rattle.bplus_tree.proofs.LeafOfKey.{record_later}
use Rattle.page_alloc.proofs.TouchedLaws.{only_nothing}
use Rattle.table_store.proofs.RowsLaws.{place_rooted, as_before, is_full, is_stored, left_by}
use Rattle.table_store.proofs.storing.put_at.Goals as goal

pub returns-then-not-room-clause-answer : goal.returns-then-not-room-clause-answer
returns-then-not-room-clause-answer g c = λ told name store is.
    let old = g.P.Pages.standing c.args.pages.now in
    let place = c.args.place.now in
    let tree = place_rooted c.args.limits.now old.count old.current store name place is c.requires.fits in
    is_full c.args.limits.now old.count old.current store name place is c.args.key c.in_ok-room.room (c.in_ok-room.ensures.room told (entry_rows old.current place.entry) _ tree) c.if-not-room.true

pub returns-clause-answer : goal.returns-clause-answer
returns-clause-answer g c = λ told name store is.
    let old = g.P.Pages.standing c.args.pages.now in
    let place = c.args.place.now in
    let tree = place_rooted c.args.limits.now old.count old.current store name place is c.requires.fits in
    is_stored c.args.limits.now old.count old.current store name place is c.args.key c.in_ok-room.room (c.in_ok-room.ensures.room told (entry_rows old.current place.entry) _ tree) c.if-not-room.false

pub returns-clause-changed : goal.returns-clause-changed
returns-clause-changed g c = λ told name store is.
    let old = g.P.Pages.standing c.args.pages.now in
    let now = g.P.Pages.standing c.has_room.new.pages in
    let place = c.args.place.now in
    let limits = c.args.limits.now in
    let room = c.in_ok-room.ensures in
    let tree = place_rooted limits old.count old.current store name place is c.requires.fits in
    as_before (λ n all. (name : List ℕ) → IsStore limits n all → place_of name 0 (entries all) ≡ Some place → (is_some (row_get c.args.key (entry_rows all place.entry)) ≡ false → place.entry.rows + 1 ≤ limits.rows)
    → ChangesTable limits n all (g.P.Pages.standing c.store_row.new.pages).current name (row_put c.args.key c.args.value.now))
    old.count now.count old.current now.current room.call.continues.count (room.keeps.current told) (c.in_ok-store_row.ensures.changed (subst IsTrue (sym room.call.continues.told) told)) name store is
    (left_by (is_some (row_get c.args.key (entry_rows old.current place.entry))) c.in_ok-room.room place.entry.rows limits.rows (room.room told (entry_rows old.current place.entry) _ tree) c.if-not-room.false)

pub returns-in_err-room-clause-sound : goal.returns-in_err-room-clause-sound
returns-in_err-room-clause-sound g c = λ told name store is enough.
    let old = g.P.Pages.standing c.args.pages.now in
    let place = c.args.place.now in
    let tree = place_rooted c.args.limits.now old.count old.current store name place is c.requires.fits in
    let fault : IfErr c.has_room.result IsFault = c.has_room.ensures.sound told (entry_rows old.current place.entry) (entry_pages old.current place.entry) tree in
    let here : IsFault c.in_err-room.field-0.0 = subst (λ (r : Result Bool Stop). IfErr r IsFault) c.in_err-room.was fault in
    search (rules, here)

pub returns-in_err-store_row-clause-sound : goal.returns-in_err-store_row-clause-sound
returns-in_err-store_row-clause-sound g c = λ told name store is enough.
    let old = g.P.Pages.standing c.args.pages.now in
    let now = g.P.Pages.standing c.has_room.new.pages in
    let place = c.args.place.now in
    let limits = c.args.limits.now in
    let room = c.in_ok-room.ensures in
    let tree = place_rooted limits old.count old.current store name place is c.requires.fits in
    let fault : IfErr c.store_row.result IsFault =
    as_before (λ n all. (name : List ℕ) → IsStore limits n all → place_of name 0 (entries all) ≡ Some place → (is_some (row_get c.args.key (entry_rows all place.entry)) ≡ false → place.entry.rows + 1 ≤ limits.rows)
    → 1 + limits.tables * (limits.rows / 2 + 8) ≤ n → IfErr c.store_row.result IsFault)
    old.count now.count old.current now.current room.call.continues.count (room.keeps.current told) (c.store_row.ensures.sound (subst IsTrue (sym room.call.continues.told) told)) name store is
    (left_by (is_some (row_get c.args.key (entry_rows old.current place.entry))) c.in_ok-room.room place.entry.rows limits.rows (room.room told (entry_rows old.current place.entry) (entry_pages old.current place.entry) tree) c.if-not-room.false) enough in
    let here : IsFault c.in_err-store_row.field-0.0 = subst (λ (r : Result (Unit {0}) Stop). IfErr r IsFault) c.in_err-store_row.was fault in
    search (rules, here)

pub returns-in_err-store_row-clause-fails : goal.returns-in_err-store_row-clause-fails
returns-in_err-store_row-clause-fails g c =
    let here : Keeps (FailsTree (g.P.Pages.standing c.args.pages.now).count c.store_row.new.work.page) c.in_err-store_row.field-0.0 =
    subst (λ (n : ℕ). Keeps (FailsTree n c.store_row.new.work.page) c.in_err-store_row.field-0.0) c.in_ok-room.ensures.call.continues.count c.in_err-store_row.ensures.fails in
    search (rules, here)

pub returns-then-not-room-clause-again : goal.returns-then-not-room-clause-again
returns-then-not-room-clause-again g c = λ told all used rooted holds. only_nothing _ _ c.in_ok-room.ensures.nothing

pub returns-clause-again : goal.returns-clause-again
returns-clause-again g c = λ told.
    let old = g.P.Pages.standing c.args.pages.now in
    let mid = g.P.Pages.standing c.has_room.new.pages in
    let room = c.in_ok-room.ensures in
    record_later (root_at c.args.place.now) c.args.key (length c.args.value.now) old mid (g.P.Pages.standing c.store_row.new.pages) (room.keeps.current told) room.call.continues.count room.nothing
    (c.in_ok-store_row.ensures.again (subst IsTrue (sym room.call.continues.told) told))
