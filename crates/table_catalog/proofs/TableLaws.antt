-- The tables of a store in order.
use Rattle.std.proofs.Common.{◌≡◌, ℕ, suc, ◌+◌, ◌≤◌, inl, inr, cond, List, [], ◌∷◌, ◌++◌, map, refl, sym, ap, subst, ◌∙◌, arith, None, Some, Option, Result, Ok, Err, IfErr, nat_lt, nat_eq}
use Rattle.std.specs.Prelude.{bytes_eq}
use Rattle.std.proofs.lemmas.Bool.{cases_Bool}
use Rattle.line_pages.specs.declared.stop.Stop.{Stop}
use Rattle.line_pages.specs.declared.stop.Stop.TheVariants.{Nvm, Ssd, Damaged}
use Rattle.line_pages.specs.Lines.{Lines}
use Rattle.line_pages.specs.Standing.{Standing, HasCause}
use Rattle.rows.specs.Rows.{Each}
use Rattle.tree_search.specs.declared.root.Root.{Root}
use Rattle.page_alloc.specs.Space.{high_of}
use Rattle.page_alloc.specs.Counted.{times}
use Rattle.tree_search.specs.Tree.{IsRooted}
use Rattle.page_alloc.specs.Moves.{below}
use Rattle.page_alloc.specs.Stops.{IsFault}
use Rattle.page_alloc.proofs.CountedLaws.{times-append}
use Rattle.rows.specs.declared.limits.Limits.{Limits}
use Rattle.table_catalog.specs.declared.entry.Entry.{Entry}
use Rattle.table_catalog.specs.declared.entry.TableEntry.{TableEntry}
use Rattle.table_catalog.specs.Catalog.{entries, name_of, table_of, place_of, entry_rows, entry_pages, FitsEntry, IsCatalogDamage}
use Rattle.table_catalog.specs.Stored.{HasTree, all_pages, IsStore, place_rows}
use Rattle.rows.specs.Tables.{rows_of}

-- a catalog in order is never damaged
pub sound_catalog : {A T : Type 0} (limits : Limits) (count : ℕ) (lines : Lines) (told : Type 0) (buffer : List ℕ) (old new : Standing A) (result : Result T Stop) → told → IsStore limits count lines
    → HasCause (λ e. told → IsCatalogDamage limits count lines buffer e) old new result → IfErr result IsFault
sound_catalog limits count lines told buffer old new (Ok v) t store cause = tt
sound_catalog limits count lines told buffer old new (Err Nvm) t store cause = tt
sound_catalog limits count lines told buffer old new (Err Ssd) t store cause = tt
sound_catalog limits count lines told buffer old new (Err (Damaged e)) t store cause = let broken = sym (cause.failed t).first ∙ store.catalog in absurd (cc)

-- the tree of the entry that a name has
pub tree_of_place : (count : ℕ) (lines : Lines) (name : List ℕ) (i : ℕ) (es : List Entry) (place : TableEntry) → place_of name i es ≡ Some place → Each (HasTree count lines) es → HasTree count lines place.entry
tree_of_place count lines name i [] place is trees = absurd (cc)
tree_of_place count lines name i (e ∷ es) place is trees =
    elim (cases_Bool (bytes_eq (name_of e) name)) [
      | inl same ↦ let here = rw same at is in let entry : e ≡ place.entry = ap (λ (o : Option TableEntry). entry_or e o) here in subst (HasTree count lines) entry trees.0
      | inr other ↦ tree_of_place count lines name (suc i) es place (rw other at is) trees.1
    ]
  where
    entry_or : Entry → Option TableEntry → Entry
    entry_or e None = e
    entry_or e (Some p) = p.entry

pub pages_of_place : (lines : Lines) (name : List ℕ) (n i : ℕ) (es : List Entry) (place : TableEntry) → place_of name i es ≡ Some place → times n (entry_pages lines place.entry) ≤ times n (all_pages lines es)
pages_of_place lines name n i [] place is = absurd (cc)
pages_of_place lines name n i (e ∷ es) place is =
    elim (cases_Bool (bytes_eq (name_of e) name)) [
      | inl same ↦
          let here = rw same at is in
          let entry : e ≡ place.entry = ap (λ (o : Option TableEntry). entry_or e o) here in
          subst (λ (x : Entry). times n (entry_pages lines x) ≤ times n (entry_pages lines e ++ all_pages lines es)) entry (omega (arith, times-append n (entry_pages lines e) (all_pages lines es)))
      | inr other ↦ let rest = pages_of_place lines name n (suc i) es place (rw other at is) in omega (arith, rest, times-append n (entry_pages lines e) (all_pages lines es))
    ]
  where
    entry_or : Entry → Option TableEntry → Entry
    entry_or e None = e
    entry_or e (Some p) = p.entry

once_below : (a b c d n high : ℕ) → d + (a + b) ≡ below n high → c ≤ a → c ≤ 1
once_below a b c d n high all part = elim (cases_Bool (nat_lt n high)) [ inl e ↦ let one = rw e at all in omega (arith, one, part) | inr e ↦ let none = rw e at all in omega (arith, none, part) ]

-- the tree of a known name, as calls on trees take it
pub rooted : (limits : Limits) (count high : ℕ) (lines : Lines) (name : List ℕ) (place : TableEntry) (root : Root) → IsStore limits count lines → place_of name 0 (entries lines) ≡ Some place → FitsEntry limits high place.entry
    → root ≡ record { page = place.entry.root; levels = place.entry.levels } → IsRooted count lines root (entry_rows lines place.entry) (entry_pages lines place.entry)
rooted limits count high lines name place root store is fits root_is =
    let tree = tree_of_place count lines name 0 (entries lines) place is store.trees in
    subst (λ (r : Root). IsRooted count lines r (entry_rows lines place.entry) (entry_pages lines place.entry)) (sym root_is) (record {
      some_levels = fits.some_levels;
      few_levels = fits.few_levels;
      tree = record {
        is_tree = tree.0;
        rows_are = refl;
        used_are = refl;
        once = λ n. once_below (times n (all_pages lines (entries lines))) (times n store.free) (times n (entry_pages lines place.entry)) (cond (nat_eq 0 n) 1 0) n (high_of lines)
            (ap (λ k. cond (nat_eq 0 n) 1 0 + k) (sym (times-append n (all_pages lines (entries lines)) store.free)) ∙ store.exact n) (pages_of_place lines name n 0 (entries lines) place is);
      };
    })

-- the rows of a name are those of its entry's tree
pub rows_by : (name : List ℕ) (lines : Lines) (i : ℕ) (es : List Entry) (place : Option TableEntry) → place_of name i es ≡ place → rows_of name (map (table_of lines) es) ≡ place_rows lines place
rows_by name lines i [] place is = ap (place_rows lines) is
rows_by name lines i (e ∷ es) place is =
    elim (cases_Bool (bytes_eq (name_of e) name)) [
      | inl same ↦ rw same (ap (place_rows lines) (rw same at is))
      | inr other ↦ rw other (rows_by name lines (suc i) es place (rw other at is))
    ]
