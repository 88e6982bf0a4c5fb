-- The entry of a found name, and one that stays as it is.
use Rattle.std.proofs.Common.{◌≡◌, ℕ, zero, suc, ◌+◌, inl, inr, true, List, [], ◌∷◌, ◌++◌, ◌≤◌, length, Some, Result, OnOk, sym, ap, ◌∙◌, arith, nat_eq, ◌&&◌}
use Rattle.std.proofs.lemmas.Bool.{and_parts, cases_eq, eqb-true, eq-eqb}
use Rattle.line_pages.specs.declared.stop.Stop.{Stop}
use Rattle.line_pages.specs.Lines.{Lines, with_line}
use Rattle.line_pages.proofs.LineLaws.{with_line-other_page, with_line-other_line}
use Rattle.rows.specs.Rows.{Row}
use Rattle.tree_search.specs.declared.root.Root.{Root}
use Rattle.bplus_tree.specs.Changes.{Changes, ChangesRows}
use Rattle.rows.specs.declared.limits.Limits.{Limits}
use Rattle.table_catalog.specs.declared.entry.Entry.{Entry}
use Rattle.table_catalog.specs.declared.entry.TableEntry.{TableEntry}
use Rattle.table_catalog.specs.Catalog.{entry_in, entries_from, entries, table_count, place_of, entry_rows, entry_pages, FitsRoot}
use Rattle.table_catalog.specs.Stored.{IsStore}
use Rattle.table_store.specs.Changed.{root_at, stays_as, Enters, ChangesTable}
use Rattle.table_store.proofs.ChangeLaws.{around}
use Rattle.table_store.proofs.RowsLaws.{place_rooted, high_within, are_part, stepped_by}

-- one entry of many stands in its line
entry_stands : (lines : Lines) (l n : ℕ) (e : Entry) (xs ys : List Entry) → entries_from lines l n ≡ xs ++ e ∷ ys → entry_in (lines 0 (l + length xs)) ≡ e
entry_stands lines l zero e [] ys is = absurd (cc)
entry_stands lines l zero e (x ∷ xs) ys is = absurd (cc)
entry_stands lines l (suc n) e [] ys is =
    let here : l + 0 ≡ l = omega arith in
    let first : entry_in (lines 0 l) ≡ e = cc in
    ap (λ (k : ℕ). entry_in (lines 0 k)) here ∙ first
entry_stands lines l (suc n) e (x ∷ xs) ys is =
    let rest : entries_from lines (suc l) n ≡ xs ++ e ∷ ys = cc in
    let next : l + suc (length xs) ≡ suc l + length xs = omega arith in
    ap (λ (k : ℕ). entry_in (lines 0 k)) next ∙ entry_stands lines (suc l) n e xs ys rest

pub place_stands : (name : List ℕ) (lines : Lines) (place : TableEntry) → place_of name 0 (entries lines) ≡ Some place → entry_in (lines 0 (2 + place.at)) ≡ place.entry
unfolding entries
place_stands name lines place found =
    let part = around name lines 2 (table_count lines) 0 (entries lines) place found in
    let at_is : 2 + place.at ≡ 2 + length part.front = omega (arith, part.at) in
    ap (λ (k : ℕ). entry_in (lines 0 k)) at_is ∙ entry_stands lines 2 (table_count lines) place.entry part.front part.back part.all

-- a line written over by itself
with_itself : (lines : Lines) (l : ℕ) → lines ≡ with_line 0 l (lines 0 l) lines
with_itself lines l = λ i p k. at p k i
  where
    at : (p k : ℕ) → lines p k ≡ with_line 0 l (lines 0 l) lines p k
    at p k =
        elim (cases_eq p 0) [
          | inl e ↦ elim (cases_eq k l) [
            | inl f ↦ rw (eq-eqb p 0 e, eq-eqb k l f) (ap (λ (n : ℕ). lines n k) e ∙ ap (λ (n : ℕ). lines 0 n) f)
            | inr ne ↦ sym (with_line-other_line 0 l (lines 0 l) lines p k ne)
          ]
          | inr ne ↦ sym (with_line-other_page 0 l (lines 0 l) lines p k ne)
        ]

-- an entry that stays as it is, as one that was written
pub stays_entered : (lines : Lines) (place : TableEntry) (root : Root) (rows : ℕ) → stays_as place root rows ≡ true → entry_in (lines 0 (2 + place.at)) ≡ place.entry → Enters lines lines place root rows
stays_entered lines place root rows stays there =
    let both = and_parts (nat_eq place.entry.root root.page && nat_eq place.entry.levels root.levels) (nat_eq place.entry.rows rows) stays in
    let of_root = and_parts (nat_eq place.entry.root root.page) (nat_eq place.entry.levels root.levels) both.0 in
    let page = eqb-true place.entry.root root.page of_root.0 in
    let levels = eqb-true place.entry.levels root.levels of_root.1 in
    let number = eqb-true place.entry.rows rows both.1 in
    record {
      line = lines 0 (2 + place.at);
      entry = there
          ∙ ap (λ (n : ℕ). record { field = place.entry.field; root = n; levels = place.entry.levels; rows = place.entry.rows }) page
          ∙ ap (λ (n : ℕ). record { field = place.entry.field; root = root.page; levels = n; rows = place.entry.rows }) levels
          ∙ ap (λ (n : ℕ). record { field = place.entry.field; root = root.page; levels = root.levels; rows = n }) number;
      after = with_itself lines (2 + place.at);
      unused = λ zero. zero;
    }

-- a change of the table's tree leaves the entry
entry_stays : (limits : Limits) (count : ℕ) (old mid : Lines) (store : IsStore limits count old) (name : List ℕ) (place : TableEntry) (root : Root) (step : List Row → List Row) → place_of name 0 (entries old) ≡ Some place → FitsRoot limits count place
    → ChangesRows count old mid (root_at place) root step → entry_in (mid 0 (2 + place.at)) ≡ place.entry
entry_stays limits count old mid store name place root step found fits changes =
    let change : Changes count old mid (root_at place) root (entry_pages old place.entry) store.free (step (entry_rows old place.entry)) =
    changes (entry_rows old place.entry) (entry_pages old place.entry) store.free (place_rooted limits count old store name place found fits) store.is_free (are_part limits count old store name place found) (high_within limits count old store name place found).1 in
    ap entry_in (change.entries (2 + place.at) (λ e. omega (arith, e))) ∙ place_stands name old place found

-- the tree changes, and then the entry is written unless it stays as it is
pub stepped_unless : {T : Type 0} (limits : Limits) (count : ℕ) (old mid new : Lines) (name : List ℕ) (place : TableEntry) (root : Root) (rows : ℕ) (step : List Row → List Row) (result : Result T Stop) → FitsRoot limits count place
    → ChangesRows count old mid (root_at place) root step → (entry_in (mid 0 (2 + place.at)) ≡ place.entry → OnOk result (Enters mid new place root rows)) → (store : IsStore limits count old) → place_of name 0 (entries old) ≡ Some place
    → rows ≡ length (step (entry_rows old place.entry)) → rows ≤ limits.rows → OnOk result (ChangesTable limits count old new name step)
stepped_unless limits count old mid new name place root rows step result fits changes enters store found rows_are few =
    stepped_by limits count old mid new name place root rows step result fits changes (enters (entry_stays limits count old mid store name place root step found fits changes)) store found rows_are few
