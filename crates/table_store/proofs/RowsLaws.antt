-- A row that is put into a table, or taken out.
use Rattle.std.proofs.Common.{◌≡◌, ◌≢◌, ℕ, suc, ◌+◌, ◌-◌, ◌*◌, ◌/◌, ◌<◌, ◌≤◌, ◌||◌, nat_lt, not, if◌then◌else◌, inl, inr, Bool, true, false, cond, List, [], ◌∷◌, ◌++◌, length, None, Some, Result, Ok, Err, OnOk, IfErr, refl, sym, ap, subst, ◌∙◌, arith, nat_eq, nat_lt, nat_le}
use Rattle.std.specs.Prelude.{is_some}
use Rattle.std.proofs.lemmas.Bool.{cases_Bool, and_parts, leb-true, ltb-true, lt-ltb, le-ltb, eqb-true, ne_eqb, cases_lt, cases_eq}
use Rattle.line_pages.specs.declared.stop.Stop.{Stop}
use Rattle.nvm_model.specs.declared.line.Line.{Line}
use Rattle.line_pages.specs.declared.stop.Stop.TheVariants.{Nvm, Ssd, Damaged}
use Rattle.damage.specs.declared.evidence.Evidence.TheVariants.{Super, Frames, Log, Page, Walk}
use Rattle.line_pages.specs.Lines.{Lines}
use Rattle.line_pages.proofs.LineLaws.{with_line-here, with_line-other_line}
use Rattle.rows.specs.Rows.{Row, keys, last_key, row_get, row_put, row_delete, Ascends}
use Rattle.tree_search.specs.declared.root.Root.{Root}
use Rattle.page_alloc.specs.Space.{word, kind_of, high_of, free_head, FitsHeader}
use Rattle.tree_search.specs.Tree.{IsRooted}
use Rattle.page_alloc.specs.Moves.{below, ArePart}
use Rattle.bplus_tree.specs.Changes.{Changes, ChangesRows}
use Rattle.page_alloc.specs.Stops.{IsFault, pages_at_hand}
use Rattle.bplus_tree.specs.Damage.{IsLack, StandsIn}
use Rattle.page_alloc.proofs.CountedLaws.{times-append}
use Rattle.rows.proofs.RowLaws.{above_bound, row_get-none_above}
use Rattle.tree_search.proofs.OrderLaws.{tree_rows-ascend}
use Rattle.rows.specs.declared.limits.Limits.{Limits}
use Rattle.table_catalog.specs.declared.entry.Entry.{Entry}
use Rattle.table_catalog.specs.declared.entry.TableEntry.{TableEntry}
use Rattle.table_catalog.specs.Catalog.{entry_in, entries, table_count, tables, place_of, catalog_checks, entry_rows, entry_pages, FitsRoot}
use Rattle.table_catalog.specs.Stored.{all_pages, IsStore}
use Rattle.rows.specs.Tables.{rows_of, with_rows}
use Rattle.table_store.specs.Changed.{root_at, Enters, ChangesTable}
use Rattle.table_store.specs.Putting.{stored_of}
use Rattle.table_store.specs.Deleting.{deleted_of}
use Rattle.table_store.specs.declared.answer.Stored.TheVariants.{Done as Put, TableFull}
use Rattle.table_store.specs.declared.answer.Deleted.TheVariants.{Done as Gone, Absent}
use Rattle.table_catalog.proofs.CatalogLaws.{AllHold, all_hold}
use Rattle.table_catalog.proofs.TableLaws.{tree_of_place, pages_of_place, rooted, rows_by}
use Rattle.table_store.proofs.RoomLaws.{room_for_table}
use Rattle.table_store.proofs.ChangeLaws.{around, rows_changed, high_new, other_pages}

-- how many rows there are after a put, and after a row was taken out
pub put_length : (low high key : ℕ) (value : List ℕ) (rows : List Row) → Ascends low high (keys rows)
    → length (row_put key value rows) ≡ cond (is_some (row_get key rows)) (length rows) (length rows + 1)
put_length low high key value [] up = refl
put_length low high key value (row ∷ rows) up =
    elim (cases_Bool (nat_lt row.0 key)) [
      | inl less ↦
          let other = ne_eqb row.0 key (λ e. omega (arith, e, ltb-true row.0 key less)) in
          rw (less, other) (more (is_some (row_get key rows)) (length (row_put key value rows)) (length rows) (put_length (row.0 + 1) high key value rows up.2))
      | inr same ↦ elim (cases_Bool (nat_eq row.0 key)) [
        | inl here ↦ rw (same, here) refl
        | inr other ↦
            let above : key < row.0 + 1 = omega (arith, not_less row.0 key same) in
            let none : row_get key rows ≡ None = row_get-none_above key rows (above_bound (row.0 + 1) high key rows above up.2) in
            rw (same, other, none) (omega arith)
      ]
    ]
  where
    more : (found : Bool) (after before : ℕ) → after ≡ cond found before (before + 1) → suc after ≡ cond found (suc before) (suc before + 1)
    more true after before is = ap suc is
    more false after before is = omega (arith, is)

    not_less : (a b : ℕ) → nat_lt a b ≡ false → b ≤ a
    not_less a b is = elim (cases_lt a b) [ inl lt ↦ let broken = sym (lt-ltb a b lt) ∙ is in absurd (cc) | inr ge ↦ ge ]

pub delete_length : (key : ℕ) (rows : List Row) → is_some (row_get key rows) ≡ true → length (row_delete key rows) + 1 ≡ length rows
delete_length key [] found = absurd (cc)
delete_length key (row ∷ rows) found =
    elim (cases_Bool (nat_eq row.0 key)) [
      | inl here ↦ rw here (omega arith)
      | inr other ↦ let ih = delete_length key rows (rw other at found) in rw other (omega (arith, ih))
    ]

module _ (limits : Limits) (count : ℕ) (old : Lines) (store : IsStore limits count old) (name : List ℕ) (place : TableEntry) (found : place_of name 0 (entries old) ≡ Some place) where
  -- the entry has the number of its rows, which ascend
  pub rows_counted : length (entry_rows old place.entry) ≡ place.entry.rows
  rows_counted = (tree_of_place count old name 0 (entries old) place found store.trees).1

  pub rows_ascend : Ascends 0 last_key (keys (entry_rows old place.entry))
  rows_ascend = tree_rows-ascend count old (place.entry.levels - 1) place.entry.root 0 last_key true (tree_of_place count old name 0 (entries old) place found store.trees).0

  pub place_rooted : FitsRoot limits count place → IsRooted count old (root_at place) (entry_rows old place.entry) (entry_pages old place.entry)
  place_rooted fits = rooted limits count count old name place (root_at place) store found fits.entry refl

  pub high_within : (1 ≤ high_of old) × (high_of old ≤ count)
  high_within =
      let held : AllHold (catalog_checks limits count old) = all_hold (catalog_checks limits count old) store.catalog in
      let high = and_parts (nat_le 1 (high_of old)) (nat_le (high_of old) count) held.1.1.0 in
      (leb-true 1 (high_of old) high.0, leb-true (high_of old) count high.1)

  -- its pages and the free ones
  pub are_part : ArePart old (entry_pages old place.entry ++ store.free)
  are_part n =
      omega (arith, store.exact n, pages_of_place old name n 0 (entries old) place found, times-append n (entry_pages old place.entry) store.free, times-append n (all_pages old (entries old)) store.free)

  -- the tree changes, and then the entry is written
  pub table_stepped : (mid new : Lines) (root : Root) (rows : ℕ) (step : List Row → List Row) → FitsRoot limits count place → ChangesRows count old mid (root_at place) root step → Enters mid new place root rows
      → rows ≡ length (step (entry_rows old place.entry)) → rows ≤ limits.rows → ChangesTable limits count old new name step
  table_stepped mid new root rows step fits changes enters rows_are few =
      let used = entry_pages old place.entry in
      let change : Changes count old mid (root_at place) root used store.free (step (entry_rows old place.entry)) =
      changes (entry_rows old place.entry) used store.free (place_rooted fits) store.is_free are_part high_within.1 in
      let after = step (entry_rows old place.entry) in
      let entry = enters.entry ∙ ap (λ (n : ℕ). record { field = place.entry.field; root = root.page; levels = root.levels; rows = n }) rows_are in
      let few_after : length after ≤ limits.rows = omega (arith, rows_are, few) in
      let all = rows_changed limits count old mid new store name place found root after change enters.line entry enters.after few_after in
      let high : high_of new ≡ high_of mid = high_new limits count old mid new store name place found root after change enters.line entry enters.after few_after in
      record {
        store = all.0;
        tables_are = λ rows is.
            let same : Some rows ≡ Some (entry_rows old place.entry) = sym is ∙ rows_by name old 0 (entries old) (Some place) found in
            let those : entry_rows old place.entry ≡ rows = cc in
            all.1 ∙ ap (λ (r : List Row). with_rows name (step r) (tables old)) those;
        beyond = λ n above.
            let other : n ≢ 0 = λ e. omega (arith, e, above, high, change.moves.higher, high_within.0) in
            let out : below n (high_of old) ≡ 0 = rw (le-ltb n (high_of old) (omega (arith, above, high, change.moves.higher))) refl in
            other_pages limits count old mid new store name place found root after change enters.line entry enters.after few_after n other
            ∙ change.moves.others n other (omega (arith, are_part n, out)) (inr (omega (arith, above, high)));
        unused = λ l low zero.
            let at = 2 + place.at in
            elim (cases_eq l at) [
              | inl here ↦
                  let was = ap (λ (line : Line). word line 7) (change.entries at (λ e. omega (arith, e))) ∙ subst (λ (k : ℕ). word (old 0 k) 7 ≡ 0) here zero in
                  ap (λ (k : ℕ). word (new 0 k) 7) here ∙ ap (λ (all : Lines). word (all 0 at) 7) enters.after
                  ∙ ap (λ (line : Line). word line 7) (with_line-here 0 at enters.line mid) ∙ enters.unused was
              | inr other ↦
                  ap (λ (all : Lines). word (all 0 l) 7) enters.after
                  ∙ ap (λ (line : Line). word line 7) (with_line-other_line 0 at enters.line mid 0 l other ∙ change.entries l (λ e. omega (arith, e, low))) ∙ zero
            ];
      }

-- by the answer of the call that writes
pub stepped_by : {T : Type 0} (limits : Limits) (count : ℕ) (old mid new : Lines) (name : List ℕ) (place : TableEntry) (root : Root) (rows : ℕ) (step : List Row → List Row) (result : Result T Stop) → FitsRoot limits count place
    → ChangesRows count old mid (root_at place) root step → OnOk result (Enters mid new place root rows) → (store : IsStore limits count old) → place_of name 0 (entries old) ≡ Some place
    → rows ≡ length (step (entry_rows old place.entry)) → rows ≤ limits.rows → OnOk result (ChangesTable limits count old new name step)
stepped_by limits count old mid new name place root rows step (Ok v) fits changes enters store found rows_are few = table_stepped limits count old store name place found mid new root rows step fits changes enters rows_are few
stepped_by limits count old mid new name place root rows step (Err e) fits changes enters store found rows_are few = tt

-- the number of rows that a put and a deletion leave
pub rows_put : (limits : Limits) (count : ℕ) (old : Lines) (store : IsStore limits count old) (name : List ℕ) (place : TableEntry) (is : place_of name 0 (entries old) ≡ Some place) (key : ℕ) (value : List ℕ) (fresh : Bool) (rows : ℕ)
    → fresh ≡ not (is_some (row_get key (entry_rows old place.entry))) → rows ≡ cond fresh (place.entry.rows + 1) place.entry.rows → rows ≡ length (row_put key value (entry_rows old place.entry))
rows_put limits count old store name place is key value fresh rows fresh_is rows_is =
    rows_is ∙ ap (λ (b : Bool). cond b (place.entry.rows + 1) place.entry.rows) fresh_is
    ∙ cond_not (is_some (row_get key (entry_rows old place.entry))) (place.entry.rows + 1) place.entry.rows
    ∙ ap (λ (n : ℕ). cond (is_some (row_get key (entry_rows old place.entry))) n (n + 1)) (sym (rows_counted limits count old store name place is))
    ∙ sym (put_length 0 last_key key value (entry_rows old place.entry) (rows_ascend limits count old store name place is))
  where
    cond_not : (b : Bool) (x y : ℕ) → cond (not b) x y ≡ cond b y x
    cond_not true x y = refl
    cond_not false x y = refl

pub rows_deleted : (limits : Limits) (count : ℕ) (old : Lines) (store : IsStore limits count old) (name : List ℕ) (place : TableEntry) (is : place_of name 0 (entries old) ≡ Some place) (key rows : ℕ)
    → is_some (row_get key (entry_rows old place.entry)) ≡ true → rows ≡ place.entry.rows - 1 → rows ≡ length (row_delete key (entry_rows old place.entry))
rows_deleted limits count old store name place is key rows found rows_is =
    omega (arith, rows_is, rows_counted limits count old store name place is, delete_length key (entry_rows old place.entry) found)

-- no more rows than there may be: the key is there, or one row more may be
pub few_after : (limits : Limits) (count : ℕ) (old : Lines) (store : IsStore limits count old) (name : List ℕ) (place : TableEntry) (is : place_of name 0 (entries old) ≡ Some place) (key : ℕ) (value : List ℕ) → place.entry.rows ≤ limits.rows
    → (is_some (row_get key (entry_rows old place.entry)) ≡ false → place.entry.rows + 1 ≤ limits.rows) → length (row_put key value (entry_rows old place.entry)) ≤ limits.rows
few_after limits count old store name place is key value few left =
    let all = entry_rows old place.entry in
    within (is_some (row_get key all)) (length all) (length (row_put key value all)) (put_length 0 last_key key value all (rows_ascend limits count old store name place is)) (rows_counted limits count old store name place is) left
  where
    within : (b : Bool) (n m : ℕ) → m ≡ cond b n (n + 1) → n ≡ place.entry.rows → (b ≡ false → place.entry.rows + 1 ≤ limits.rows) → m ≤ limits.rows
    within true n m m_is n_is left = omega (arith, m_is, n_is, few)
    within false n m m_is n_is left = omega (arith, m_is, n_is, left refl)

-- what was said of the pages as they are now, the pages being as they were
pub as_before : (P : ℕ → Lines → Type 0) (n0 n1 : ℕ) (old now : Lines) → n1 ≡ n0 → now ≡ old → P n1 now → P n0 old
as_before P n0 n1 old now count same is = subst (λ (n : ℕ). P n old) count (subst (λ (all : Lines). P n1 all) same is)

-- the answers of a put and of a deletion at a known name
stored_by : (limits : Limits) (count : ℕ) (old : Lines) (store : IsStore limits count old) (name : List ℕ) (place : TableEntry) (is : place_of name 0 (entries old) ≡ Some place) (key : ℕ)
    → stored_of limits key (rows_of name (tables old)) ≡ (if (is_some (row_get key (entry_rows old place.entry)) || nat_lt place.entry.rows limits.rows) then Put else TableFull)
stored_by limits count old store name place is key =
    ap (stored_of limits key) (rows_by name old 0 (entries old) (Some place) is)
    ∙ ap (λ (n : ℕ). if (is_some (row_get key (entry_rows old place.entry)) || nat_lt n limits.rows) then Put else TableFull) (rows_counted limits count old store name place is)

pub is_full : (limits : Limits) (count : ℕ) (old : Lines) (store : IsStore limits count old) (name : List ℕ) (place : TableEntry) (is : place_of name 0 (entries old) ≡ Some place) (key : ℕ) (room : Bool)
    → room ≡ (is_some (row_get key (entry_rows old place.entry)) || nat_lt place.entry.rows limits.rows) → room ≡ false → TableFull ≡ stored_of limits key (rows_of name (tables old))
is_full limits count old store name place is key room room_is none = sym (stored_by limits count old store name place is key ∙ ap (λ (b : Bool). if b then Put else TableFull) (sym room_is ∙ none))

pub is_stored : (limits : Limits) (count : ℕ) (old : Lines) (store : IsStore limits count old) (name : List ℕ) (place : TableEntry) (is : place_of name 0 (entries old) ≡ Some place) (key : ℕ) (room : Bool)
    → room ≡ (is_some (row_get key (entry_rows old place.entry)) || nat_lt place.entry.rows limits.rows) → room ≡ true → Put ≡ stored_of limits key (rows_of name (tables old))
is_stored limits count old store name place is key room room_is some = sym (stored_by limits count old store name place is key ∙ ap (λ (b : Bool). if b then Put else TableFull) (sym room_is ∙ some))

-- a table that takes a row has the key, or room for one row more
pub left_by : (found room : Bool) (rows most : ℕ) → room ≡ (found || nat_lt rows most) → room ≡ true → found ≡ false → rows + 1 ≤ most
left_by true room rows most room_is some absent = absurd (cc)
left_by false room rows most room_is some absent = let below = ltb-true rows most (sym room_is ∙ some) in omega (arith, below)

pub is_deleted : (old : Lines) (name : List ℕ) (place : TableEntry) (is : place_of name 0 (entries old) ≡ Some place) (key : ℕ) → true ≡ is_some (row_get key (entry_rows old place.entry)) → Gone ≡ deleted_of key (rows_of name (tables old))
is_deleted old name place is key found = sym (ap (deleted_of key) (rows_by name old 0 (entries old) (Some place) is) ∙ rw (sym found) refl)

pub is_absent : (old : Lines) (name : List ℕ) (place : TableEntry) (is : place_of name 0 (entries old) ≡ Some place) (key : ℕ) → false ≡ is_some (row_get key (entry_rows old place.entry)) → Absent ≡ deleted_of key (rows_of name (tables old))
is_absent old name place is key absent = sym (ap (deleted_of key) (rows_by name old 0 (entries old) (Some place) is) ∙ rw (sym absent) refl)

-- the entry as it was written
pub counted_by : {T : Type 0} (mid new : Lines) (place : TableEntry) (root : Root) (rows : ℕ) (result : Result T Stop) → OnOk result (Enters mid new place root rows) → OnOk result ((entry_in (new 0 (2 + place.at))).rows ≡ rows)
counted_by mid new place root rows (Ok v) enters =
    let line : new 0 (2 + place.at) ≡ enters.line = ap (λ (all : Lines). all 0 (2 + place.at)) enters.after ∙ with_line-here 0 (2 + place.at) enters.line mid in
    ap (λ (l : Line). (entry_in l).rows) line ∙ ap (λ (e : Entry). e.rows) enters.entry
counted_by mid new place root rows (Err e) enters = tt

module _ (limits : Limits) (count : ℕ) (old : Lines) (store : IsStore limits count old) (name : List ℕ) (place : TableEntry) (found : place_of name 0 (entries old) ≡ Some place) where
  fits_header : FitsHeader count (old 0 0)
  fits_header =
      let held : AllHold (catalog_checks limits count old) = all_hold (catalog_checks limits count old) store.catalog in
      let high = high_within limits count old store name place found in
      record {
        kind = eqb-true (kind_of old 0) 4 held.0;
        some = high.0;
        within = high.1;
        head = ltb-true (free_head old) (high_of old) held.1.1.1.0;
      }

  -- the tree of the name beside the free list
  pub stands_in : FitsRoot limits count place → StandsIn count old (root_at place) (entry_rows old place.entry) (entry_pages old place.entry) store.free
  stands_in fits = record {
    rooted = place_rooted limits count old store name place found fits;
    is_free = store.is_free;
    parted = are_part limits count old store name place found;
    header = fits_header;
  }

  -- its pages are enough for so many rows
  pub enough_at_hand : (rows : ℕ) → rows ≤ limits.rows → 1 + limits.tables * (limits.rows / 2 + 8) ≤ count → rows / 2 + 8 ≤ pages_at_hand count old (entry_pages old place.entry) store.free
  enough_at_hand rows few enough =
      let part = around name old 2 (table_count old) 0 (entries old) place found in
      let room = room_for_table limits count old store part.front place.entry part.back part.all enough in
      omega (arith, room, few, (high_within limits count old store name place found).1)

-- a put that lacks nothing stops for a fault alone
pub no_lack : (at_hand after before : ℕ) (stop : Stop) → after / 2 + 8 ≤ at_hand → before ≤ 1000000 → IsLack at_hand after before stop → IsFault stop
no_lack at_hand after before Nvm enough few lack = tt
no_lack at_hand after before Ssd enough few lack = tt
no_lack at_hand after before (Damaged (Page page level low high check)) enough few lack =
    elim lack [ inl short ↦ absurd (omega (arith, short.1, enough)) | inr many ↦ absurd (omega (arith, many.1, few)) ]
no_lack at_hand after before (Damaged (Super words check)) enough few lack = lack
no_lack at_hand after before (Damaged (Frames first second entry check)) enough few lack = lack
no_lack at_hand after before (Damaged (Log offset line tail check)) enough few lack = lack
no_lack at_hand after before (Damaged (Walk page kept found check)) enough few lack = lack

pub sound_put : {T : Type 0} (limits : Limits) (count : ℕ) (old : Lines) (name : List ℕ) (place : TableEntry) (key : ℕ) (value : List ℕ) (result : Result T Stop) → FitsRoot limits count place → limits.rows ≤ 1000000
    → ((rows : List Row) (used free : List ℕ) → StandsIn count old (root_at place) rows used free → IfErr result (IsLack (pages_at_hand count old used free) (length (row_put key value rows)) (length rows)))
    → IsStore limits count old → place_of name 0 (entries old) ≡ Some place → (is_some (row_get key (entry_rows old place.entry)) ≡ false → place.entry.rows + 1 ≤ limits.rows)
    → 1 + limits.tables * (limits.rows / 2 + 8) ≤ count → IfErr result IsFault
sound_put limits count old name place key value (Ok v) fits most stops store is left enough = tt
sound_put limits count old name place key value (Err e) fits most stops store is left enough =
    let few = few_after limits count old store name place is key value fits.entry.rows left in
    no_lack (pages_at_hand count old (entry_pages old place.entry) store.free) (length (row_put key value (entry_rows old place.entry))) (length (entry_rows old place.entry)) e
    (enough_at_hand limits count old store name place is (length (row_put key value (entry_rows old place.entry))) few enough)
    (omega (arith, rows_counted limits count old store name place is, fits.entry.rows, most))
    (stops (entry_rows old place.entry) (entry_pages old place.entry) store.free (stands_in limits count old store name place is fits))
