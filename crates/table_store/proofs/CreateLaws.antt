-- A table that is made leaves the others, and the store is in order again.
use Rattle.std.proofs.Common.{◌≡◌, ◌≢◌, ℕ, zero, suc, ◌+◌, ◌<◌, ◌≤◌, inl, inr, Bool, true, false, not, cond, List, [], ◌∷◌, ◌++◌, map, length, None, Some, Result, Ok, Err, OnOk, refl, sym, ap, subst, ◌∙◌, arith, nat_lt, nat_le, nat_eq}
use Rattle.std.specs.Prelude.{bytes_eq, is_some}
use Rattle.std.specs.List.{list_all, list_any}
use Rattle.std.proofs.lemmas.Bool.{cases_Bool, cases_eq, leb-true, lt-ltb, le-ltb, le-leb, eq-eqb, and_parts, and_from}
use Rattle.std.proofs.lemmas.List.{map-append, get_or-set_same, get_or-set_other}
use Rattle.nvm_model.specs.declared.line.Line.{Line}
use Rattle.line_pages.specs.declared.stop.Stop.{Stop}
use Rattle.line_pages.specs.Lines.{Lines, with_line}
use Rattle.line_pages.proofs.LineLaws.{with_line-here, with_line-other_page, with_line-other_line}
use Rattle.rows.specs.Rows.{Each}
use Rattle.page_alloc.specs.Space.{word, with_word, kind_of, high_of, free_head, IsFreeFrom, IsFreeList}
use Rattle.page_alloc.specs.Counted.{times, SameOn}
use Rattle.page_alloc.specs.Moves.{below, Moves, AreExactly, SameEntries, Takes}
use Rattle.page_alloc.proofs.CountedLaws.{times-append}
use Rattle.page_alloc.proofs.SpaceLaws.{free_from-same}
use Rattle.rows.specs.declared.limits.Limits.{Limits}
use Rattle.table_catalog.specs.declared.entry.Entry.{Entry}
use Rattle.rows.specs.Names.{is_name}
use Rattle.table_catalog.specs.Catalog.{entry_in, entries, entries_from, table_count, name_of, table_of, tables, place_of, is_entry, names_differ, catalog_checks}
use Rattle.table_catalog.specs.Stored.{HasTree, all_pages, IsStore}
use Rattle.rows.specs.Tables.{is_known}
use Rattle.table_store.specs.Created.{new_entry, leaf_line, Written, Makes, created_of, IsCreated}
use Rattle.table_catalog.specs.declared.entry.TableEntry.{TableEntry}
use Rattle.table_store.specs.declared.answer.Created.TheVariants.{Made, Present, NoSlot}
use Rattle.table_catalog.proofs.CatalogLaws.{AllHold, all_hold, none_fails, known_by}
use Rattle.table_store.proofs.RoomLaws.{length-entries}
use Rattle.table_store.proofs.EntryLaws.{name_back, field_named}
use Rattle.table_store.proofs.LeafLaws.{leaf_is_tree, leaf_has_none}
use Rattle.table_store.proofs.FrameLaws.{list_all-append, list_all-map, is_entry-higher, Stay, tables-stay, all_pages-append, Each-join, head_is_low, below_one, not_zero}

entries_grow : (f g : Lines) (l n : ℕ) → ((k : ℕ) → l ≤ k → k < l + n → g 0 k ≡ f 0 k) → entries_from g l (suc n) ≡ entries_from f l n ++ entry_in (g 0 (l + n)) ∷ []
entries_grow f g l zero same = let here : l ≡ l + 0 = omega arith in ap (λ (k : ℕ). entry_in (g 0 k) ∷ []) here
entries_grow f g l (suc n) same =
    let next : suc l + n ≡ l + suc n = omega arith in
    let rest = entries_grow f g (suc l) n (λ k low high. same k (omega arith) (omega arith)) in
    ap (λ (line : Line). entry_in line ∷ entries_from g (suc l) (suc n)) (same l (omega arith) (omega arith))
    ∙ ap (λ es. entry_in (f 0 l) ∷ es) (rest ∙ ap (λ (k : ℕ). entries_from f (suc l) n ++ entry_in (g 0 k) ∷ []) next)

-- a name that no entry has differs from all
any_last : (p : List ℕ → Bool) (xs : List (List ℕ)) (y : List ℕ) → list_any p xs ≡ false → p y ≡ false → list_any p (xs ++ y ∷ []) ≡ false
any_last p [] y none last = rw last refl
any_last p (x ∷ xs) y none last =
    elim (cases_Bool (p x)) [
      | inl e ↦ let broken = rw e at none in absurd (cc)
      | inr e ↦ rw e (any_last p xs y (rw e at none) last)
    ]

differ_last : (name : List ℕ) (i : ℕ) (es : List Entry) → place_of name i es ≡ None → names_differ (map name_of es) ≡ true → names_differ (map name_of es ++ name ∷ []) ≡ true
differ_last name i [] none differ = refl
differ_last name i (e ∷ es) none differ =
    elim (cases_Bool (bytes_eq (name_of e) name)) [
      | inl same ↦ let broken = rw same at none in absurd (cc)
      | inr other ↦
          let p = and_parts (not (list_any (bytes_eq (name_of e)) (map name_of es))) (names_differ (map name_of es)) differ in
          let here = any_last (bytes_eq (name_of e)) (map name_of es) name (not_any p.0) other in
          rw (here, differ_last name (suc i) es (rw other at none) p.1) refl
    ]
  where
    not_any : {b : Bool} → not b ≡ true → b ≡ false
    not_any {b = true} e = absurd (cc)
    not_any {b = false} e = refl

module _ (limits : Limits) (count : ℕ) (old mid new : Lines) (store : IsStore limits count old) (name : List ℕ) (page at : ℕ) (free' : List ℕ)
    (moves : Moves count old mid [] (page ∷ []) store.free free') (same_entries : SameEntries old mid) (written : Written mid new name page at)
    (at_is : at ≡ table_count old) (some : 1 ≤ page) (few : at < limits.tables) (unknown : place_of name 0 (entries old) ≡ None) (named : is_name name ≡ true) where
  abbrev es : List Entry
  es = entries old

  abbrev entry : Entry
  entry = new_entry name page

  header_new : new 0 0 ≡ with_word 1 (at + 1) (mid 0 0)
  header_new = ap (λ (all : Lines). all 0 0) written.after ∙ with_line-here 0 0 (with_word 1 (at + 1) (mid 0 0)) (with_line 0 (2 + at) written.line (with_line page 0 leaf_line mid))

  word_new : (w : ℕ) → w ≢ 1 → word (new 0 0) w ≡ word (mid 0 0) w
  word_new w other = ap (λ (line : Line). word line w) header_new ∙ get_or-set_other (mid 0 0).words 1 w (at + 1) 0 other

  count_new : word (new 0 0) 1 ≡ at + 1
  count_new = ap (λ (line : Line). word line 1) header_new ∙ get_or-set_same (mid 0 0).words 1 (at + 1) 0 (omega (arith, written.header.eight))

  high_new : high_of new ≡ high_of mid
  high_new = word_new 2 (λ e. omega (arith, e))

  other_pages : (n : ℕ) → n ≢ 0 → n ≢ page → new n ≡ mid n
  other_pages n other apart = ap (λ (all : Lines). all n) written.after ∙ (λ i l. same l i)
    where
      same : (l : ℕ) → with_line 0 0 (with_word 1 (at + 1) (mid 0 0)) (with_line 0 (2 + at) written.line (with_line page 0 leaf_line mid)) n l ≡ mid n l
      same l =
          with_line-other_page 0 0 (with_word 1 (at + 1) (mid 0 0)) (with_line 0 (2 + at) written.line (with_line page 0 leaf_line mid)) n l other
          ∙ with_line-other_page 0 (2 + at) written.line (with_line page 0 leaf_line mid) n l other
          ∙ with_line-other_page page 0 leaf_line mid n l apart

  leaf_new : new page 0 ≡ leaf_line
  leaf_new =
      let other : page ≢ 0 = λ e. omega (arith, e, some) in
      ap (λ (all : Lines). all page 0) written.after
      ∙ with_line-other_page 0 0 (with_word 1 (at + 1) (mid 0 0)) (with_line 0 (2 + at) written.line (with_line page 0 leaf_line mid)) page 0 other
      ∙ with_line-other_page 0 (2 + at) written.line (with_line page 0 leaf_line mid) page 0 other
      ∙ with_line-here page 0 leaf_line mid

  entry_new : new 0 (2 + at) ≡ written.line
  entry_new =
      ap (λ (all : Lines). all 0 (2 + at)) written.after
      ∙ with_line-other_line 0 0 (with_word 1 (at + 1) (mid 0 0)) (with_line 0 (2 + at) written.line (with_line page 0 leaf_line mid)) 0 (2 + at) (λ e. omega (arith, e))
      ∙ with_line-here 0 (2 + at) written.line (with_line page 0 leaf_line mid)

  last_unused : word (new 0 (2 + at)) 7 ≡ 0
  last_unused = ap (λ (line : Line). word line 7) entry_new ∙ written.unused

  other_lines : (k : ℕ) → 2 ≤ k → k ≢ 2 + at → new 0 k ≡ old 0 k
  other_lines k low apart =
      ap (λ (all : Lines). all 0 k) written.after
      ∙ with_line-other_line 0 0 (with_word 1 (at + 1) (mid 0 0)) (with_line 0 (2 + at) written.line (with_line page 0 leaf_line mid)) 0 k (λ e. omega (arith, e, low))
      ∙ with_line-other_line 0 (2 + at) written.line (with_line page 0 leaf_line mid) 0 k apart
      ∙ with_line-other_line page 0 leaf_line mid 0 k (λ e. omega (arith, e, low))
      ∙ same_entries k (λ e. omega (arith, e, low))

  other_entries : (k : ℕ) → 2 ≤ k → k < 2 + at → new 0 k ≡ old 0 k
  other_entries k low high = other_lines k low (λ e. omega (arith, e, high))

  entries_new : entries new ≡ es ++ entry ∷ []
  unfolding entries
  entries_new =
      let number : word (new 0 0) 1 ≡ suc at = omega (arith, count_new) in
      ap (entries_from new 2) number ∙ entries_grow old new 2 at other_entries
      ∙ ap (λ (line : Line). entries_from old 2 at ++ entry_in line ∷ []) entry_new
      ∙ ap (λ (e : Entry). entries_from old 2 at ++ e ∷ []) written.entry
      ∙ ap (λ (k : ℕ). entries_from old 2 k ++ entry ∷ []) at_is

  before : (n : ℕ) → ◌≡◌ {A = ℕ} (cond (nat_eq 0 n) 1 0 + (times n (all_pages old es) + times n store.free)) (below n (high_of old))
  before n = ap (λ k. cond (nat_eq 0 n) 1 0 + k) (sym (times-append n (all_pages old es) store.free)) ∙ store.exact n

  taken : (n : ℕ) → ◌≡◌ {A = ℕ} (cond (nat_eq page n) 1 0 + times n free' + below n (high_of old)) (times n store.free + below n (high_of mid))
  taken n = moves.kept n

  both : (n : ℕ) → ◌≡◌ {A = ℕ} (cond (nat_eq 0 n) 1 0 + times n (all_pages old es) + cond (nat_eq page n) 1 0 + times n free') (below n (high_of mid))
  both n = omega (arith, before n, taken n)

  below_least : (n high : ℕ) → below n high ≤ 1
  below_least n high = elim (cases_Bool (nat_lt n high)) [ inl e ↦ rw e (omega arith) | inr e ↦ rw e (omega arith) ]

  page_low : page < high_of mid
  page_low = below_one page (high_of mid) (let here = eq-eqb page page refl in let all = rw here at (both page) in omega (arith, all))

  not_page : (n : ℕ) → ◌≡◌ {A = ℕ} (cond (nat_eq page n) 1 0) 0 → n ≢ page
  not_page n none e = let one = rw (eq-eqb page n (sym e)) at none in omega (arith, one)

  same_tables : SameOn (all_pages old es) old new
  same_tables n among =
      let all = both n in
      let least = below_least n (high_of mid) in
      let other : n ≢ 0 = not_zero n (omega (arith, all, among, least)) in
      let apart : n ≢ page = not_page n (omega (arith, all, among, least)) in
      let low : n < high_of old = below_one n (high_of old) (omega (arith, before n, among)) in
      other_pages n other apart ∙ moves.others n other (omega (arith, before n, among, below_least n (high_of old))) (inl low)

  stay : Stay count old new es
  stay = tables-stay count old new es same_tables

  is_free : IsFreeList new free'
  is_free =
      let not_in_free : (n : ℕ) → 1 ≤ times n free' → new n 0 ≡ mid n 0 = λ n among.
      let apart : n ≢ page = not_page n (omega (arith, both n, among, below_least n (high_of mid))) in
      let other : n ≢ 0 = not_zero n (omega (arith, both n, among, below_least n (high_of mid))) in
      ap (λ (ls : ℕ → Line). ls 0) (other_pages n other apart) in
      subst (λ (first : ℕ). IsFreeFrom new first free') (sym (word_new 3 (λ e. omega (arith, e))))
      (free_from-same mid new (free_head mid) free' (omega (arith, high_new)) not_in_free moves.is_free)

  exact_new : AreExactly (high_of new) (0 ∷ (all_pages new (entries new) ++ free'))
  exact_new n =
      let whole : times n (all_pages new (entries new)) ≡ times n (all_pages old es) + (cond (nat_eq page n) 1 0 + 0) =
      ap (λ l. times n (all_pages new l)) entries_new ∙ ap (times n) (all_pages-append new es (entry ∷ [])) ∙ times-append n (all_pages new es) (page ∷ [])
      ∙ ap (λ l. times n l + (cond (nat_eq page n) 1 0 + 0)) stay.pages in
      omega (arith, times-append n (all_pages new (entries new)) free', whole, both n, ap (below n) high_new)

  tree_new : HasTree count new entry
  tree_new = (leaf_is_tree count new page leaf_new, ap length (leaf_has_none new page leaf_new))

  listed_new : is_entry limits new entry ≡ true
  listed_new =
      rw (field_named name named, le-leb 1 page some, lt-ltb page (high_of new) (omega (arith, page_low, high_new)), le-leb 0 limits.rows (omega arith)) refl

  pub table_made : Makes limits count old new name
  table_made =
      let held : AllHold (catalog_checks limits count old) = all_hold (catalog_checks limits count old) store.catalog in
      let high = and_parts (nat_le 1 (high_of old)) (nat_le (high_of old) count) held.1.1.0 in
      let some_high : 1 ≤ high_of mid = omega (arith, leb-true 1 (high_of old) high.0, moves.higher) in
      let parts = and_parts (list_all (is_entry limits old) es) (names_differ (map name_of es)) held.1.1.1.1.0 in
      let higher = λ (x : Entry) (ok : is_entry limits old x ≡ true). is_entry-higher limits old new x (omega (arith, high_new, moves.higher)) ok in
      let all_listed : list_all (is_entry limits new) (es ++ entry ∷ []) ≡ true =
      list_all-append (is_entry limits new) es (entry ∷ []) (list_all-map (is_entry limits old) (is_entry limits new) es higher parts.0) (rw listed_new refl) in
      let names : map name_of (entries new) ≡ map name_of es ++ name ∷ [] =
      ap (map name_of) entries_new ∙ map-append name_of es (entry ∷ []) ∙ ap (λ l. map name_of es ++ l ∷ []) (name_back name) in
      let kind : word (new 0 0) 0 ≡ kind_of old 0 = word_new 0 (λ e. omega (arith, e)) ∙ moves.kind in
      let head : free_head new ≡ free_head mid = word_new 3 (λ e. omega (arith, e)) in
      record {
        store = record {
          catalog = none_fails (catalog_checks limits count new) (
            subst (λ k. nat_eq k 4 ≡ true) (sym kind) held.0,
            (
              le-leb (word (new 0 0) 1) limits.tables (omega (arith, count_new, few)),
              (
                and_from (nat_le 1 (high_of new)) (nat_le (high_of new) count) (le-leb 1 (high_of new) (omega (arith, some_high, high_new))) (le-leb (high_of new) count (omega (arith, moves.within, high_new))),
                (
                  lt-ltb (free_head new) (high_of new) (omega (arith, head, high_new, head_is_low mid free' some_high moves.is_free)),
                  (
                    and_from (list_all (is_entry limits new) (entries new)) (names_differ (map name_of (entries new)))
                        (subst (λ l. list_all (is_entry limits new) l ≡ true) (sym entries_new) all_listed) (ap names_differ names ∙ differ_last name 0 es unknown parts.1),
                    tt,
                  ),
                ),
              ),
            ),
          );
          trees = subst (Each (HasTree count new)) (sym entries_new) (Each-join (HasTree count new) es (entry ∷ []) (stay.trees store.trees) (tree_new, tt));
          free = free';
          is_free = is_free;
          exact = exact_new;
        };
        tables_are = ap (map (table_of new)) entries_new ∙ map-append (table_of new) es (entry ∷ [])
            ∙ rw (stay.rows, name_back name, leaf_has_none new page leaf_new) refl;
        beyond = λ n above.
            let other : n ≢ 0 = λ e. omega (arith, e, above, some_high, high_new) in
            let apart : n ≢ page = λ e. omega (arith, e, above, page_low, high_new) in
            let out : nat_lt n (high_of old) ≡ false = le-ltb n (high_of old) (omega (arith, above, high_new, moves.higher)) in
            let all = rw out at (before n) in
            other_pages n other apart ∙ moves.others n other (omega (arith, all)) (inr (omega (arith, above, high_new)));
        unused = λ l low zero. elim (cases_eq l (2 + at)) [
          | inl here ↦ ap (λ (k : ℕ). word (new 0 k) 7) here ∙ last_unused
          | inr other ↦ ap (λ (line : Line). word line 7) (other_lines l low other) ∙ zero
        ];
        unused_last = subst (λ (k : ℕ). word (new 0 (2 + k)) 7 ≡ 0) at_is last_unused;
      }

-- by the answer of the call that writes
pub makes_by : {T : Type 0} (limits : Limits) (count : ℕ) (old mid new : Lines) (name : List ℕ) (page at : ℕ) (result : Result T Stop) → Takes count old mid page → 1 ≤ page → at < limits.tables
    → OnOk result (Written mid new name page at) → at ≡ table_count old → place_of name 0 (entries old) ≡ None → IsStore limits count old → OnOk result (Makes limits count old new name)
makes_by limits count old mid new name page at (Ok v) takes some few written at_is unknown store =
    let taken = takes store.free store.is_free in
    table_made limits count old mid new store name page at taken.rest taken.moves taken.entries written at_is some few unknown written.named
makes_by limits count old mid new name page at (Err e) takes some few written at_is unknown store = tt

pub unknown_by : (name : List ℕ) (lines : Lines) → place_of name 0 (entries lines) ≡ None → is_known name (tables lines) ≡ false
unknown_by name lines none = sym (known_by name lines 0 (entries lines)) ∙ ap is_some none

pub tables-length : (lines : Lines) → length (tables lines) ≡ table_count lines
tables-length lines = as_many lines (entries lines) ∙ length-entries lines
  where
    as_many : (lines : Lines) (es : List Entry) → length (map (table_of lines) es) ≡ length es
    as_many lines [] = refl
    as_many lines (e ∷ es) = ap suc (as_many lines es)

pub made_is : (limits : Limits) (count : ℕ) (old new : Lines) (name : List ℕ) (at : ℕ) → at ≡ table_count old → place_of name 0 (entries old) ≡ None → at < limits.tables → Makes limits count old new name
    → IsCreated limits count old new name Made
made_is limits count old new name at at_is unknown few makes = (unknown_by name old unknown, omega (arith, tables-length old, at_is, few), makes)

pub no_slot_is : (limits : Limits) (count : ℕ) (old new : Lines) (name : List ℕ) (at : ℕ) → at ≡ table_count old → place_of name 0 (entries old) ≡ None → at ≤ limits.tables → limits.tables ≤ at
    → IsCreated limits count old new name NoSlot
no_slot_is limits count old new name at at_is unknown most full = (unknown_by name old unknown, omega (arith, tables-length old, at_is, most, full))

-- a name that was found
pub present_is : (name : List ℕ) (lines : Lines) (place : TableEntry) → place_of name 0 (entries lines) ≡ Some place → is_known name (tables lines) ≡ true
present_is name lines place is = sym (known_by name lines 0 (entries lines)) ∙ ap is_some is

-- the answer by the tables that there are
pub made_by : (limits : Limits) (lines : Lines) (name : List ℕ) (at : ℕ) → at ≡ table_count lines → place_of name 0 (entries lines) ≡ None → at < limits.tables → Made ≡ created_of limits name (tables lines)
made_by limits lines name at at_is unknown few = rw (unknown_by name lines unknown, lt-ltb (length (tables lines)) limits.tables (omega (arith, tables-length lines, at_is, few))) refl

pub no_slot_by : (limits : Limits) (lines : Lines) (name : List ℕ) (at : ℕ) → at ≡ table_count lines → place_of name 0 (entries lines) ≡ None → limits.tables ≤ at → NoSlot ≡ created_of limits name (tables lines)
no_slot_by limits lines name at at_is unknown full = rw (unknown_by name lines unknown, le-ltb (length (tables lines)) limits.tables (omega (arith, tables-length lines, at_is, full))) refl

pub present_by : (limits : Limits) (lines : Lines) (name : List ℕ) → is_known name (tables lines) ≡ true → Present ≡ created_of limits name (tables lines)
present_by limits lines name known = rw known refl
