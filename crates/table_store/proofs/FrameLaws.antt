-- A change of one table's tree leaves the other tables.
use Rattle.std.proofs.Common.{◌≡◌, ◌≢◌, ℕ, zero, suc, ◌+◌, ◌-◌, ◌<◌, ◌≤◌, inl, inr, Bool, true, cond, List, [], ◌∷◌, ◌++◌, map, length, refl, sym, ap, subst, ◌∙◌, arith, nat_lt, nat_le, nat_eq, ◌&&◌, append_assoc}
use Rattle.std.specs.List.{list_all}
use Rattle.std.proofs.lemmas.Bool.{ltb-true, leb-true, lt-ltb, le-ltb, le-leb, eq-eqb, and_parts, and_from, cases_lt}
use Rattle.std.proofs.lemmas.List.{map-append}
use Rattle.rows.specs.declared.limits.Limits.{Limits}
use Rattle.line_pages.specs.Lines.{Lines}
use Rattle.page_alloc.specs.Space.{high_of, free_head, IsFreeList}
use Rattle.rows.specs.Rows.{Each, last_key}
use Rattle.page_alloc.specs.Counted.{times, SameOn}
use Rattle.tree_search.specs.Tree.{tree_pages}
use Rattle.table_catalog.specs.declared.entry.Entry.{Entry}
use Rattle.table_catalog.specs.Catalog.{entries, name_of, name_in, is_name_field, table_of, is_entry, names_differ, catalog_checks, entry_rows, entry_pages, tables}
use Rattle.table_catalog.specs.Stored.{HasTree, all_pages, IsStore}
use Rattle.page_alloc.specs.Moves.{below, Moves, AreExactly}
use Rattle.page_alloc.proofs.CountedLaws.{times-append, SameOn-left, SameOn-right}
use Rattle.tree_search.proofs.TreeLaws.{tree_rows-same, tree_pages-same, IsTree-same}
use Rattle.table_catalog.proofs.CatalogLaws.{AllHold, all_hold, none_fails}

pub list_all-append : {X : Type 0} (p : X → Bool) (xs ys : List X) → list_all p xs ≡ true → list_all p ys ≡ true → list_all p (xs ++ ys) ≡ true
list_all-append p [] ys first second = second
list_all-append p (x ∷ xs) ys first second = let parts = and_parts (p x) (list_all p xs) first in rw (parts.0, list_all-append p xs ys parts.1 second) refl

pub list_all-left : {X : Type 0} (p : X → Bool) (xs ys : List X) → list_all p (xs ++ ys) ≡ true → list_all p xs ≡ true
list_all-left p [] ys all = refl
list_all-left p (x ∷ xs) ys all = let parts = and_parts (p x) (list_all p (xs ++ ys)) all in rw (parts.0, list_all-left p xs ys parts.1) refl

pub list_all-right : {X : Type 0} (p : X → Bool) (xs ys : List X) → list_all p (xs ++ ys) ≡ true → list_all p ys ≡ true
list_all-right p [] ys all = all
list_all-right p (x ∷ xs) ys all = let parts = and_parts (p x) (list_all p (xs ++ ys)) all in list_all-right p xs ys parts.1

pub list_all-map : {X : Type 0} (p q : X → Bool) (xs : List X) → ((x : X) → p x ≡ true → q x ≡ true) → list_all p xs ≡ true → list_all q xs ≡ true
list_all-map p q [] to all = refl
list_all-map p q (x ∷ xs) to all = let parts = and_parts (p x) (list_all p xs) all in rw (to x parts.0, list_all-map p q xs to parts.1) refl

-- an entry stays in range where the high water rises
pub is_entry-higher : (limits : Limits) (old new : Lines) (entry : Entry) → high_of old ≤ high_of new → is_entry limits old entry ≡ true → is_entry limits new entry ≡ true
is_entry-higher limits old new entry higher is =
    let p5 = and_parts (is_name_field entry.field && nat_le 1 entry.root && nat_lt entry.root (high_of old) && nat_le 1 entry.levels && nat_le entry.levels 4) (nat_le entry.rows limits.rows) is in
    let p4 = and_parts (is_name_field entry.field && nat_le 1 entry.root && nat_lt entry.root (high_of old) && nat_le 1 entry.levels) (nat_le entry.levels 4) p5.0 in
    let p3 = and_parts (is_name_field entry.field && nat_le 1 entry.root && nat_lt entry.root (high_of old)) (nat_le 1 entry.levels) p4.0 in
    let p2 = and_parts (is_name_field entry.field && nat_le 1 entry.root) (nat_lt entry.root (high_of old)) p3.0 in
    let root : nat_lt entry.root (high_of new) ≡ true = lt-ltb entry.root (high_of new) (omega (arith, ltb-true entry.root (high_of old) p2.1)) in
    rw (p2.0, root, p3.1, p4.1, p5.1) refl

-- the same tables where their pages are the same
pub record Stay (count : ℕ) (old new : Lines) (es : List Entry) : Type 0 where
  pub trees : Each (HasTree count old) es → Each (HasTree count new) es
  pub pages : all_pages new es ≡ all_pages old es
  pub rows : map (table_of new) es ≡ map (table_of old) es

pub tables-stay : (count : ℕ) (old new : Lines) (es : List Entry) → SameOn (all_pages old es) old new → Stay count old new es
tables-stay count old new [] same = record { trees = λ all. all; pages = refl; rows = refl }
tables-stay count old new (e ∷ es) same =
    let here = SameOn-left (entry_pages old e) (all_pages old es) old new same in
    let ih = tables-stay count old new es (SameOn-right (entry_pages old e) (all_pages old es) old new same) in
    let rows = tree_rows-same old new (e.levels - 1) e.root here in
    record {
      trees = λ all. ((IsTree-same count old new (e.levels - 1) e.root 0 last_key true here all.0.0, ap length rows ∙ all.0.1), ih.trees all.1);
      pages = rw (tree_pages-same old new (e.levels - 1) e.root here, ih.pages) refl;
      rows = rw (rows, ih.rows) refl;
    }

pub all_pages-append : (lines : Lines) (xs ys : List Entry) → all_pages lines (xs ++ ys) ≡ all_pages lines xs ++ all_pages lines ys
all_pages-append lines [] ys = refl
all_pages-append lines (x ∷ xs) ys = ap (λ r. entry_pages lines x ++ r) (all_pages-append lines xs ys) ∙ sym (append_assoc (entry_pages lines x) (all_pages lines xs) (all_pages lines ys))

Each-front : {X : Type 0} (P : X → Type 0) (xs ys : List X) → Each P (xs ++ ys) → Each P xs
Each-front P [] ys all = tt
Each-front P (x ∷ xs) ys all = (all.0, Each-front P xs ys all.1)

Each-back : {X : Type 0} (P : X → Type 0) (xs ys : List X) → Each P (xs ++ ys) → Each P ys
Each-back P [] ys all = all
Each-back P (x ∷ xs) ys all = Each-back P xs ys all.1

pub Each-join : {X : Type 0} (P : X → Type 0) (xs ys : List X) → Each P xs → Each P ys → Each P (xs ++ ys)
Each-join P [] ys first second = second
Each-join P (x ∷ xs) ys first second = (first.0, Each-join P xs ys first.1 second)

pub head_is_low : (lines : Lines) (free : List ℕ) → 1 ≤ high_of lines → IsFreeList lines free → free_head lines < high_of lines
head_is_low lines [] some is = omega (arith, is)
head_is_low lines (page ∷ free) some is = omega (arith, is.0, is.2)

root_in_tree : (lines : Lines) (level page : ℕ) → 1 ≤ times page (tree_pages lines level page)
root_in_tree lines zero page = rw (eq-eqb page page refl) (omega arith)
root_in_tree lines (suc level) page = rw (eq-eqb page page refl) (omega arith)

pub below_one : (n high : ℕ) → 1 ≤ below n high → n < high
below_one n high some = elim (cases_lt n high) [ inl lt ↦ lt | inr ge ↦ let none = rw (le-ltb n high ge) at some in absurd (omega (arith, none)) ]

pub not_zero : (n : ℕ) → ◌≡◌ {A = ℕ} (cond (nat_eq 0 n) 1 0) 0 → n ≢ 0
not_zero n none e = let one = rw (eq-eqb 0 n (sym e)) at none in omega (arith, one)

-- The frame of a table: its tree and its entry change, and all the other tables are as they were.
module _ (limits : Limits) (count : ℕ) (old new : Lines) (store : IsStore limits count old) (xs : List Entry) (e e' : Entry) (ys : List Entry)
    (was : entries old ≡ xs ++ e ∷ ys) (is : entries new ≡ xs ++ e' ∷ ys) (free' : List ℕ)
    (moves : Moves count old new (entry_pages old e) (entry_pages new e') store.free free') where
  abbrev used : List ℕ
  used = entry_pages old e

  abbrev used' : List ℕ
  used' = entry_pages new e'

  spread : (lines : Lines) (x : Entry) (n : ℕ) → times n (all_pages lines (xs ++ x ∷ ys)) ≡ times n (all_pages lines xs) + (times n (entry_pages lines x) + times n (all_pages lines ys))
  spread lines x n = ap (times n) (all_pages-append lines xs (x ∷ ys)) ∙ times-append n (all_pages lines xs) (entry_pages lines x ++ all_pages lines ys)
      ∙ ap (λ k. times n (all_pages lines xs) + k) (times-append n (entry_pages lines x) (all_pages lines ys))

  before : (n : ℕ) → ◌≡◌ {A = ℕ} (cond (nat_eq 0 n) 1 0 + (times n (all_pages old xs) + (times n used + times n (all_pages old ys)) + times n store.free)) (below n (high_of old))
  before n = ap (λ k. cond (nat_eq 0 n) 1 0 + (k + times n store.free)) (sym (spread old e n))
      ∙ ap (λ es. cond (nat_eq 0 n) 1 0 + (times n (all_pages old es) + times n store.free)) (sym was)
      ∙ ap (λ k. cond (nat_eq 0 n) 1 0 + k) (sym (times-append n (all_pages old (entries old)) store.free)) ∙ store.exact n

  other_same : (zs : List Entry) → ((n : ℕ) → times n (all_pages old zs) ≤ times n (all_pages old xs) + times n (all_pages old ys)) → SameOn (all_pages old zs) old new
  other_same zs among n some =
      let all = before n in
      let lt : n < high_of old = below_one n (high_of old) (omega (arith, all, some, among n)) in
      let one : below n (high_of old) ≡ 1 = (rw (lt-ltb n (high_of old) lt) refl) in
      moves.others n (not_zero n (omega (arith, all, some, among n, one))) (omega (arith, times-append n used store.free, all, some, among n, one)) (inl lt)

  stay_front : Stay count old new xs
  stay_front = tables-stay count old new xs (other_same xs (λ n. omega arith))

  stay_back : Stay count old new ys
  stay_back = tables-stay count old new ys (other_same ys (λ n. omega arith))

  exact_after : AreExactly (high_of new) (0 ∷ (all_pages new (entries new) ++ free'))
  exact_after n =
      let all = before n in
      let front = ap (times n) stay_front.pages in
      let back = ap (times n) stay_back.pages in
      let whole = ap (λ es. times n (all_pages new es)) is ∙ spread new e' n in
      omega (arith, times-append n (all_pages new (entries new)) free', whole, front, back, all, moves.kept n, times-append n used' free', times-append n used store.free)

  -- the changed entry is in range: its root is a page of its tree
  entry_here : is_entry limits old e ≡ true → e'.field ≡ e.field → 1 ≤ e'.levels → e'.levels ≤ 4 → e'.rows ≤ limits.rows → is_entry limits new e' ≡ true
  entry_here ok same_field some_levels few_levels few_rows =
      let p5 = and_parts (is_name_field e.field && nat_le 1 e.root && nat_lt e.root (high_of old) && nat_le 1 e.levels && nat_le e.levels 4) (nat_le e.rows limits.rows) ok in
      let p4 = and_parts (is_name_field e.field && nat_le 1 e.root && nat_lt e.root (high_of old) && nat_le 1 e.levels) (nat_le e.levels 4) p5.0 in
      let p3 = and_parts (is_name_field e.field && nat_le 1 e.root && nat_lt e.root (high_of old)) (nat_le 1 e.levels) p4.0 in
      let p2 = and_parts (is_name_field e.field && nat_le 1 e.root) (nat_lt e.root (high_of old)) p3.0 in
      let named = and_parts (is_name_field e.field) (nat_le 1 e.root) p2.0 in
      let n = e'.root in
      let whole = ap (λ es. times n (all_pages new es)) is ∙ spread new e' n in
      let all = exact_after n in
      let inside = root_in_tree new (e'.levels - 1) e'.root in
      let split = times-append n (all_pages new (entries new)) free' in
      let low : n < high_of new = below_one n (high_of new) (omega (arith, all, split, whole, inside)) in
      let one : below n (high_of new) ≡ 1 = (rw (lt-ltb n (high_of new) low) refl) in
      let other : n ≢ 0 = not_zero n (omega (arith, all, split, whole, inside, one)) in
      rw (ap is_name_field same_field ∙ named.0, le-leb 1 n (omega (arith, other)), lt-ltb n (high_of new) low, le-leb 1 e'.levels some_levels, le-leb e'.levels 4 few_levels, le-leb e'.rows limits.rows few_rows) refl

  pub table_changed : HasTree count new e' → e'.field ≡ e.field → 1 ≤ e'.levels → e'.levels ≤ 4 → e'.rows ≤ limits.rows
      → IsStore limits count new × (tables new ≡ map (table_of old) xs ++ ((name_of e, entry_rows new e') ∷ map (table_of old) ys))
  table_changed tree same_field some_levels few_levels few_rows =
      let held : AllHold (catalog_checks limits count old) = all_hold (catalog_checks limits count old) store.catalog in
      let high = and_parts (nat_le 1 (high_of old)) (nat_le (high_of old) count) held.1.1.0 in
      let some_high : 1 ≤ high_of new = omega (arith, leb-true 1 (high_of old) high.0, moves.higher) in
      let entry_parts = and_parts (list_all (is_entry limits old) (entries old)) (names_differ (map name_of (entries old))) held.1.1.1.1.0 in
      let old_entries : list_all (is_entry limits old) (xs ++ e ∷ ys) ≡ true = subst (λ es. list_all (is_entry limits old) es ≡ true) was entry_parts.0 in
      let rest_ok = and_parts (is_entry limits old e) (list_all (is_entry limits old) ys) (list_all-right (is_entry limits old) xs (e ∷ ys) old_entries) in
      let higher = λ (x : Entry) (ok : is_entry limits old x ≡ true). is_entry-higher limits old new x moves.higher ok in
      let same_names : map name_of (entries new) ≡ map name_of (entries old) =
      ap (map name_of) is ∙ map-append name_of xs (e' ∷ ys) ∙ ap (λ f. map name_of xs ++ name_in f ∷ map name_of ys) same_field ∙ sym (map-append name_of xs (e ∷ ys)) ∙ ap (map name_of) (sym was) in
      let here = entry_here rest_ok.0 same_field some_levels few_levels few_rows in
      let after_entries : list_all (is_entry limits new) (xs ++ e' ∷ ys) ≡ true =
      list_all-append (is_entry limits new) xs (e' ∷ ys) (list_all-map (is_entry limits old) (is_entry limits new) xs higher (list_all-left (is_entry limits old) xs (e ∷ ys) old_entries))
      (rw (here, list_all-map (is_entry limits old) (is_entry limits new) ys higher rest_ok.1) refl) in
      let old_trees : Each (HasTree count old) (xs ++ e ∷ ys) = subst (Each (HasTree count old)) was store.trees in (
        record {
          catalog = none_fails (catalog_checks limits count new) (
            subst (λ k. nat_eq k 4 ≡ true) (sym moves.kind) held.0,
            (
              subst (λ k. nat_le k limits.tables ≡ true) (sym moves.tables) held.1.0,
              (
                and_from (nat_le 1 (high_of new)) (nat_le (high_of new) count) (le-leb 1 (high_of new) some_high) (le-leb (high_of new) count moves.within),
                (
                  lt-ltb (free_head new) (high_of new) (head_is_low new free' some_high moves.is_free),
                  (
                    and_from (list_all (is_entry limits new) (entries new)) (names_differ (map name_of (entries new)))
                        (subst (λ es. list_all (is_entry limits new) es ≡ true) (sym is) after_entries) (ap names_differ same_names ∙ entry_parts.1),
                    tt,
                  ),
                ),
              ),
            ),
          );
          trees = subst (Each (HasTree count new)) (sym is)
              (Each-join (HasTree count new) xs (e' ∷ ys) (stay_front.trees (Each-front (HasTree count old) xs (e ∷ ys) old_trees)) (tree, stay_back.trees (Each-back (HasTree count old) xs (e ∷ ys) old_trees).1));
          free = free';
          is_free = moves.is_free;
          exact = exact_after;
        },
        ap (map (table_of new)) is ∙ map-append (table_of new) xs (e' ∷ ys)
            ∙ rw (stay_front.rows, stay_back.rows, same_field) refl,
      )
