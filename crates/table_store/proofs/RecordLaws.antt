-- A put of a value as long as the one before writes lines of its record alone.
use Rattle.std.proofs.Common.{◌≡◌, ℕ, ◌+◌, ◌-◌, Bool, true, false, not, cond, List, ◌++◌, Some, Option, Result, Ok, Err, OnOk, refl, sym, ap, subst, ◌∙◌, nat_eq}
use Rattle.std.specs.Prelude.{is_some}
use Rattle.std.proofs.lemmas.Bool.{eq-eqb}
use Rattle.line_pages.specs.declared.stop.Stop.{Stop}
use Rattle.line_pages.specs.Standing.{Standing}
use Rattle.rows.specs.Rows.{Row, row_get}
use Rattle.node_edit.specs.Record.{HoldsLength}
use Rattle.page_alloc.specs.Written.{WritesNothing}
use Rattle.tree_search.specs.declared.root.Root.{Root}
use Rattle.tree_search.specs.Tree.{IsRooted, leaf_for}
use Rattle.bplus_tree.specs.Record.{WritesRecord, PutsRecord}
use Rattle.bplus_tree.proofs.LeafOfKey.{record_later}
use Rattle.rows.specs.declared.limits.Limits.{Limits}
use Rattle.table_catalog.specs.declared.entry.TableEntry.{TableEntry}
use Rattle.table_catalog.specs.Catalog.{entries, place_of, entry_rows, entry_pages, FitsRoot}
use Rattle.table_catalog.specs.Stored.{IsStore}
use Rattle.table_store.specs.Changed.{root_at, stays_as}
use Rattle.table_store.specs.Putting.{RewritesRecord}
use Rattle.table_store.proofs.RowsLaws.{place_rooted}

stays_true : (place : TableEntry) (root : Root) (rows : ℕ) → root ≡ root_at place → rows ≡ place.entry.rows → stays_as place root rows ≡ true
stays_true place root rows root_is rows_is =
    rw (eq-eqb place.entry.root root.page (sym (ap (λ (r : Root). r.page) root_is)), eq-eqb place.entry.levels root.levels (sym (ap (λ (r : Root). r.levels) root_is)), eq-eqb place.entry.rows rows (sym rows_is)) refl

-- the entry stays as it is, and is not written
pub again_stored : {A T : Type 0} (place : TableEntry) (root : Root) (rows : ℕ) (fresh : Bool) (key size : ℕ) (old mid new : Standing A) (result : Result T Stop) → PutsRecord (root_at place) key size old mid
    → ((all : List Row) (used : List ℕ) → IsRooted old.count old.current (root_at place) all used → HoldsLength key size all → root ≡ root_at place)
    → ((all : List Row) (used : List ℕ) → IsRooted old.count old.current (root_at place) all used → fresh ≡ not (is_some (row_get key all)))
    → rows ≡ cond fresh (place.entry.rows + 1) place.entry.rows → (stays_as place root rows ≡ true → new.touches ≡ mid.touches) → OnOk result (PutsRecord (root_at place) key size old new)
again_stored place root rows fresh key size old mid new (Ok v) again same fresh_is rows_are unwritten = λ all used rooted holds.
    let w = again all used rooted holds in
    let there : fresh ≡ false = fresh_is all used rooted ∙ ap (λ (o : Option (List ℕ)). not (is_some o)) holds.is in
    let rows_is : rows ≡ place.entry.rows = rows_are ∙ ap (λ (b : Bool). cond b (place.entry.rows + 1) place.entry.rows) there in
    record {
      added = w.added;
      touches = unwritten (stays_true place root rows (same all used rooted holds) rows_is) ∙ w.touches;
      only = w.only;
    }
again_stored place root rows fresh key size old mid new (Err e) again same fresh_is rows_are unwritten = tt

-- and after that of the name
pub again_named : {A T : Type 0} (limits : Limits) (name : List ℕ) (key size : ℕ) (there : TableEntry) (old mid new : Standing A) (result : Result T Stop) → place_of name 0 (entries old.current) ≡ Some there → FitsRoot limits old.count there
    → mid.current ≡ old.current → mid.count ≡ old.count → WritesNothing old mid → OnOk result (PutsRecord (root_at there) key size mid new) → IsStore limits old.count old.current → OnOk result (RewritesRecord name key size old new)
again_named limits name key size there old mid new (Ok v) found fits same count nothing again store = λ place is holds.
    let those : there ≡ place = cc in
    let here : HoldsLength key size (entry_rows old.current there.entry) = subst (λ (p : TableEntry). HoldsLength key size (entry_rows old.current p.entry)) (sym those) holds in
    subst (λ (p : TableEntry). WritesRecord (leaf_for old.current (p.entry.levels - 1) p.entry.root key) key old new) those
    (record_later (root_at there) key size old mid new same count nothing again (entry_rows old.current there.entry) (entry_pages old.current there.entry)
    (place_rooted limits old.count old.current store name there found fits) here)
again_named limits name key size there old mid new (Err e) found fits same count nothing again store = tt
