-- A table whose rows change: its tree by the calls on trees, and then its entry.
use Rattle.std.proofs.Common.{◌≡◌, ◌≢◌, ℕ, zero, suc, ◌+◌, ◌-◌, ◌<◌, ◌≤◌, nat_le, inl, inr, true, List, [], ◌∷◌, ◌++◌, map, length, Some, refl, sym, ap, subst, ◌∙◌, arith}
use Rattle.std.specs.Prelude.{bytes_eq, ◌⊎◌}
use Rattle.std.proofs.lemmas.Bool.{cases_Bool, and_parts, leb-true, lt-ltb}
use Rattle.nvm_model.specs.declared.line.Line.{Line}
use Rattle.line_pages.specs.Lines.{Lines, with_line}
use Rattle.line_pages.proofs.LineLaws.{with_line-here, with_line-other_page, with_line-other_line}
use Rattle.rows.specs.Rows.{Row}
use Rattle.rows.specs.Rows.{last_key}
use Rattle.tree_search.specs.declared.root.Root.{Root}
use Rattle.page_alloc.specs.Space.{word, high_of, free_head, IsFreeFrom, IsFreeList}
use Rattle.page_alloc.specs.Counted.{times, SameOn}
use Rattle.tree_search.specs.Tree.{tree_pages}
use Rattle.page_alloc.specs.Moves.{below, Moves}
use Rattle.bplus_tree.specs.Changes.{Changes}
use Rattle.page_alloc.proofs.CountedLaws.{times-append}
use Rattle.tree_search.proofs.TreeLaws.{tree_rows-same, tree_pages-same, IsTree-same}
use Rattle.page_alloc.proofs.SpaceLaws.{free_from-same}
use Rattle.rows.specs.declared.limits.Limits.{Limits}
use Rattle.table_catalog.specs.declared.entry.Entry.{Entry}
use Rattle.table_catalog.specs.declared.entry.TableEntry.{TableEntry}
use Rattle.table_catalog.specs.Catalog.{entry_in, entries_from, entries, table_count, name_of, table_of, place_of, tables, catalog_checks, entry_rows, entry_pages}
use Rattle.table_catalog.specs.Stored.{HasTree, all_pages, IsStore}
use Rattle.rows.specs.Tables.{with_rows}
use Rattle.table_catalog.proofs.CatalogLaws.{AllHold, all_hold}
use Rattle.table_store.specs.Changed.{root_at}
use Rattle.table_catalog.proofs.TableLaws.{pages_of_place}
use Rattle.table_store.proofs.RoomLaws.{length-entries}
use Rattle.table_store.proofs.FrameLaws.{table_changed}

-- the entries before that of a name, and behind it
pub record Around (name : List ℕ) (lines : Lines) (l n i : ℕ) (es : List Entry) (place : TableEntry) : Type 0 where
  pub front : List Entry
  pub back : List Entry
  pub all : es ≡ front ++ place.entry ∷ back
  pub at : place.at ≡ i + length front
  pub inside : length front < length es
  pub named : bytes_eq (name_of place.entry) name ≡ true
  pub tables : (old : Lines) (rows : List Row) → with_rows name rows (map (table_of old) es) ≡ map (table_of old) front ++ (name_of place.entry, rows) ∷ map (table_of old) back

pub around : (name : List ℕ) (lines : Lines) (l n i : ℕ) (es : List Entry) (place : TableEntry) → place_of name i es ≡ Some place → Around name lines l n i es place
around name lines l n i [] place is = absurd (cc)
around name lines l n i (e ∷ es) place is =
    elim (cases_Bool (bytes_eq (name_of e) name)) [
      | inl same ↦
          let here : Some (record { at = i; entry = e }) ≡ Some place = rw same at is in
          let place_is : place ≡ record { at = i; entry = e } = cc in
          subst (λ (p : TableEntry). Around name lines l n i (e ∷ es) p) (sym place_is) (record {
            front = [];
            back = es;
            all = refl;
            at = omega arith;
            inside = omega arith;
            named = same;
            tables = λ old rows. rw same refl;
          })
      | inr other ↦
          let rest = around name lines l n (suc i) es place (rw other at is) in
          record {
            front = e ∷ rest.front;
            back = rest.back;
            all = ap (λ xs. e ∷ xs) rest.all;
            at = omega (arith, rest.at);
            inside = omega (arith, rest.inside);
            named = rest.named;
            tables = λ old rows. rw other (ap (λ ts. table_of old e ∷ ts) (rest.tables old rows));
          }
    ]

-- one entry of many is written anew
entries-changed : (f g : Lines) (l n k : ℕ) (e : Entry) (xs ys : List Entry) → k ≡ length xs → k < n → ((j : ℕ) → l ≤ j → j ≢ l + k → g 0 j ≡ f 0 j) → entries_from f l n ≡ xs ++ e ∷ ys
    → entries_from g l n ≡ xs ++ entry_in (g 0 (l + k)) ∷ ys
entries-changed f g l zero k e xs ys size inside others is = absurd (omega arith)
entries-changed f g l (suc n) k e [] ys size inside others is =
    let here : l ≡ l + k = omega (arith, size) in
    let rest : entries_from f (suc l) n ≡ ys = cc in
    ap (λ es. entry_in (g 0 l) ∷ es) (entries-same f g (suc l) n (λ j low. others j (omega (arith, low)) (λ eq. omega (arith, eq, low, size))) ∙ rest) ∙ ap (λ (j : ℕ). entry_in (g 0 j) ∷ ys) here
  where
    entries-same : (f g : Lines) (l n : ℕ) → ((j : ℕ) → l ≤ j → g 0 j ≡ f 0 j) → entries_from g l n ≡ entries_from f l n
    entries-same f g l zero same = refl
    entries-same f g l (suc n) same = ap (λ (line : Line). entry_in line ∷ entries_from g (suc l) n) (same l (omega arith)) ∙ ap (λ es. entry_in (f 0 l) ∷ es) (entries-same f g (suc l) n (λ j low. same j (omega (arith, low))))
entries-changed f g l (suc n) k e (x ∷ xs) ys size inside others is =
    let rest : entries_from f (suc l) n ≡ xs ++ e ∷ ys = cc in
    let first : entry_in (f 0 l) ≡ x = cc in
    let place : suc l + length xs ≡ l + k = omega (arith, size) in
    ap (λ (line : Line). entry_in line ∷ entries_from g (suc l) n) (others l (omega arith) (λ eq. omega (arith, eq, size)))
    ∙ ap (λ (a : Entry). a ∷ entries_from g (suc l) n) first
    ∙ ap (λ es. x ∷ es) (entries-changed f g (suc l) n (length xs) e xs ys refl (omega (arith, size, inside)) (λ j low other. others j (omega (arith, low)) (λ eq. other (eq ∙ sym place))) rest)
    ∙ ap (λ (j : ℕ). x ∷ (xs ++ entry_in (g 0 j) ∷ ys)) place

module _ (limits : Limits) (count : ℕ) (old mid new : Lines) (store : IsStore limits count old) (name : List ℕ) (place : TableEntry) (found : place_of name 0 (entries old) ≡ Some place)
    (root : Root) (rows : List Row) (change : Changes count old mid (root_at place) root (entry_pages old place.entry) store.free rows)
    (line : Line) (entry : entry_in line ≡ record { field = place.entry.field; root = root.page; levels = root.levels; rows = length rows })
    (after : new ≡ with_line 0 (2 + place.at) line mid) (few_rows : length rows ≤ limits.rows) where
  part : Around name old 2 (table_count old) 0 (entries old) place
  part = around name old 2 (table_count old) 0 (entries old) place found

  abbrev entry' : Entry
  entry' = record { field = place.entry.field; root = root.page; levels = root.levels; rows = length rows }

  header : new 0 0 ≡ mid 0 0
  header = ap (λ (all : Lines). all 0 0) after ∙ with_line-other_line 0 (2 + place.at) line mid 0 0 (λ e. omega (arith, e))

  pub other_pages : (n : ℕ) → n ≢ 0 → new n ≡ mid n
  other_pages n other = ap (λ (all : Lines). all n) after ∙ (λ i l. same l i)
    where
      same : (l : ℕ) → with_line 0 (2 + place.at) line mid n l ≡ mid n l
      same l = with_line-other_page 0 (2 + place.at) line mid n l other

  pub high_new : high_of new ≡ high_of mid
  high_new = ap (λ (h : Line). word h 2) header

  entries_new : entries new ≡ part.front ++ entry' ∷ part.back
  unfolding entries
  entries_new =
      let number : table_count new ≡ table_count old = ap (λ (h : Line). word h 1) header ∙ change.moves.tables in
      let at_is : 2 + place.at ≡ 2 + length part.front = omega (arith, part.at) in
      let here : new 0 (2 + length part.front) ≡ line = ap (new 0) (sym at_is) ∙ ap (λ (all : Lines). all 0 (2 + place.at)) after ∙ with_line-here 0 (2 + place.at) line mid in
      let others = λ (j : ℕ) (low : 2 ≤ j) (other : j ≢ 2 + length part.front). other_line j low (λ e. other (e ∙ at_is)) in
      ap (entries_from new 2) number
      ∙ entries-changed old new 2 (table_count old) (length part.front) place.entry part.front part.back refl (omega (arith, part.inside, length-entries old)) others part.all
      ∙ ap (λ (e : Entry). part.front ++ e ∷ part.back) (ap entry_in here ∙ entry)
    where
      other_line : (j : ℕ) → 2 ≤ j → j ≢ 2 + place.at → new 0 j ≡ old 0 j
      other_line j low other = ap (λ (all : Lines). all 0 j) after ∙ with_line-other_line 0 (2 + place.at) line mid 0 j other ∙ change.entries j (λ e. omega (arith, e, low))

  is_free : IsFreeList new change.free'
  is_free =
      subst (λ (first : ℕ). IsFreeFrom new first change.free') (sym (ap (λ (h : Line). word h 3) header))
      (free_from-same mid new (free_head mid) change.free' (omega (arith, high_new)) (λ n among. first_line n) change.moves.is_free)
    where
      first_line : (n : ℕ) → new n 0 ≡ mid n 0
      first_line n = ap (λ (all : Lines). all n 0) after ∙ with_line-other_line 0 (2 + place.at) line mid n 0 (λ e. omega (arith, e))

  -- page 0 is in no tree
  not_catalog : times 0 change.used' ≡ 0
  not_catalog =
      let held : AllHold (catalog_checks limits count old) = all_hold (catalog_checks limits count old) store.catalog in
      let high = and_parts (nat_le 1 (high_of old)) (nat_le (high_of old) count) held.1.1.0 in
      let low : 0 < high_of old = leb-true 1 (high_of old) high.0 in
      let was : below 0 (high_of old) ≡ 1 = rw (lt-ltb 0 (high_of old) low) refl in
      let is : below 0 (high_of mid) ≡ 1 = rw (lt-ltb 0 (high_of mid) (omega (arith, low, change.moves.higher))) refl in
      let all = store.exact 0 in
      let own = pages_of_place old name 0 0 (entries old) place found in
      omega (arith, was, is, all, own, change.moves.kept 0, times-append 0 change.used' change.free', times-append 0 (entry_pages old place.entry) store.free, times-append 0 (all_pages old (entries old)) store.free)

  in_tree : SameOn (tree_pages mid (root.levels - 1) root.page) mid new
  in_tree n among =
      other_pages n (λ e. let there = change.tree.tree.used_are in omega (arith, among, not_catalog, ap (times n) there, ap (λ (k : ℕ). times k change.used') e))

  pages_new : entry_pages new entry' ≡ change.used'
  pages_new = tree_pages-same mid new (root.levels - 1) root.page in_tree ∙ sym change.tree.tree.used_are

  rows_new : entry_rows new entry' ≡ rows
  rows_new = tree_rows-same mid new (root.levels - 1) root.page in_tree ∙ sym change.tree.tree.rows_are

  moves_new : Moves count old new (entry_pages old place.entry) (entry_pages new entry') store.free change.free'
  moves_new = record {
    is_free = is_free;
    higher = omega (arith, high_new, change.moves.higher);
    within = omega (arith, high_new, change.moves.within);
    kept = λ n. ap (λ l. times n (l ++ change.free') + below n (high_of old)) pages_new ∙ change.moves.kept n ∙ ap (λ k. times n (entry_pages old place.entry ++ store.free) + below n k) (sym high_new);
    others = λ n other apart range. other_pages n other ∙ change.moves.others n other apart (moved n range);
    kind = ap (λ (h : Line). word h 0) header ∙ change.moves.kind;
    tables = ap (λ (h : Line). word h 1) header ∙ change.moves.tables;
  }
    where
      moved : (n : ℕ) → (n < high_of old) ⊎ (high_of new ≤ n) → (n < high_of old) ⊎ (high_of mid ≤ n)
      moved n (inl low) = inl low
      moved n (inr above) = inr (omega (arith, above, high_new))

  -- the store is in order again, the table has these rows, and the other tables are as they were
  pub rows_changed : IsStore limits count new × (tables new ≡ with_rows name rows (tables old))
  rows_changed =
      let tree : HasTree count new entry' = (IsTree-same count mid new (root.levels - 1) root.page 0 last_key true in_tree change.tree.tree.is_tree, ap length rows_new) in
      let all = table_changed limits count old new store part.front place.entry entry' part.back part.all entries_new change.free' moves_new tree refl change.tree.some_levels change.tree.few_levels few_rows in
      (all.0, all.1 ∙ ap (λ r. map (table_of old) part.front ++ (name_of place.entry, r) ∷ map (table_of old) part.back) rows_new ∙ sym (part.tables old rows))
