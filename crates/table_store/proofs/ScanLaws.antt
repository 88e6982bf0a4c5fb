-- The reads of a search for the next row of a table.
use Rattle.std.proofs.Common.{◌≡◌, ℕ, ◌+◌, ◌≤◌, length, false, List, [], ◌∷◌, ◌++◌, None, Some, Option, Result, OnOk, inl, inr, sym, ap, subst}
use Rattle.std.proofs.lemmas.Bool.{cases_Bool}
use Rattle.line_pages.specs.declared.stop.Stop.{Stop}
use Rattle.line_pages.specs.Lines.{Lines}
use Rattle.line_pages.specs.Touch.{Access, begins, begun_from, last_from}
use Rattle.line_pages.specs.Standing.{Standing, ReadsPage, AddsReads}
use Rattle.line_pages.proofs.StandingLaws.{AddsReads-trans}
use Rattle.tree_search.proofs.OpenReads.{some_adds}
use Rattle.rows.specs.Rows.{Row, Each}
use Rattle.tree_search.specs.Tree.{IsRooted}
use Rattle.tree_search.specs.Way.{AreReadsIn}
use Rattle.tree_search.proofs.SearchLaws.{on_ok, from_ok}
use Rattle.rows.specs.declared.limits.Limits.{Limits}
use Rattle.table_catalog.specs.declared.entry.TableEntry.{TableEntry}
use Rattle.table_catalog.specs.Catalog.{entries, place_of, entry_rows, entry_pages, FitsEntry}
use Rattle.table_catalog.specs.Stored.{IsStore}
use Rattle.table_store.specs.Changed.{root_at}
use Rattle.table_store.specs.Scanning.{place_pages, IsScan}
use Rattle.table_store.proofs.LookupLaws.{rooted_now, with_fact}

-- a name that no table has: page 0 alone
pub scan_none : {A : Type 0} (name : List ℕ) (old new : Standing A) → ReadsPage 0 old new → length old.touches + 1 ≤ length new.touches → AddsReads (IsScan old.current name) old new
scan_none name old new reads more =
    let a = some_adds reads more in
    with_fact a (record { rest = []; begins = a.fact; pages = tt })

-- accesses that go on in an open one are fewer
fewer_begun : (P : Access → Type 0) (access : Option Access) (all : List Access) → Each P all → Each P (begun_from access all)
fewer_begun P access [] each = tt
fewer_begun P access (a ∷ rest) each = elim (cases_Bool (begins access a.0 a.1)) [ inl e ↦ rw e each | inr e ↦ rw e each.1 ]

-- page 0, and then pages of the table's tree
pub scan_some : {A T : Type 0} (limits : Limits) (name : List ℕ) (place : TableEntry) (s0 s1 s2 : Standing A) (result : Result T Stop)
    → place_of name 0 (entries s0.current) ≡ Some place → FitsEntry limits s0.count place.entry → length s0.touches + 1 ≤ length s1.touches → s1.count ≡ s0.count → s1.current ≡ s0.current → ReadsPage 0 s0 s1
    → ((rows : List Row) (used : List ℕ) → IsRooted s1.count s1.current (root_at place) rows used → OnOk result (AddsReads (AreReadsIn used) s1 s2))
    → IsStore limits s0.count s0.current → OnOk result (AddsReads (IsScan s0.current name) s0 s2)
scan_some limits name place s0 s1 s2 result is fits more count same first reads store =
    on_ok result (λ v is_ok.
    let used = entry_pages s0.current place.entry in
    let second : AddsReads (AreReadsIn used) s1 s2 = from_ok is_ok (reads (entry_rows s0.current place.entry) used (rooted_now limits s0.count s1.count s0.current s1.current name place count same store is fits)) in
    AddsReads-trans (λ x y one each. joined name place s0.current x y is one each) (some_adds first more) second)
  where
    joined : (name : List ℕ) (place : TableEntry) (lines : Lines) (x y : List Access) → place_of name 0 (entries lines) ≡ Some place → x ≡ (0, false) ∷ [] → AreReadsIn (entry_pages lines place.entry) y
        → IsScan lines name (x ++ begun_from (last_from None x) y)
    joined name place lines x y is one each = record {
      rest = begun_from (Some (0, false)) y;
      begins = ap (λ l. l ++ begun_from (last_from None l) y) one;
      pages = subst (λ (o : Option TableEntry). AreReadsIn (place_pages lines o) (begun_from (Some (0, false)) y)) (sym is) (fewer_begun _ (Some (0, false)) y each);
    }
