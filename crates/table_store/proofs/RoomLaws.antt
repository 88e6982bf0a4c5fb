-- How many pages a store has in use, and that a table always finds room.
use Rattle.std.proofs.Common.{◌≡◌, ◌≢◌, ◌<◌, not, None, Result, Ok, Err, IfErr, nat_eq, ◌||◌, ℕ, zero, suc, ◌+◌, ◌-◌, ◌*◌, ◌/◌, ◌≤◌, Bool, true, List, [], ◌∷◌, ◌++◌, map, length, refl, sym, ap, subst, ◌∙◌, arith, nat_le, nat_lt, ◌&&◌, length-append, suc-mul, add-mul, zero-mul, one-mul, mul-le-mul_right}
use Rattle.std.specs.List.{list_all}
use Rattle.std.proofs.lemmas.Bool.{leb-true, and_parts, eq-eqb, ne_eqb}
use Rattle.rows.specs.declared.limits.Limits.{Limits}
use Rattle.line_pages.specs.Lines.{Lines}
use Rattle.page_alloc.specs.Space.{high_of, free_head, is_free_page, take_checks, IsFreeList, IsSpaceDamage}
use Rattle.rows.specs.Rows.{Each, last_key}
use Rattle.damage.specs.Checks.{first_failure}
use Rattle.table_catalog.specs.declared.entry.Entry.{Entry}
use Rattle.line_pages.specs.declared.stop.Stop.{Stop}
use Rattle.line_pages.specs.declared.stop.Stop.TheVariants.{Nvm, Ssd, Damaged}
use Rattle.line_pages.specs.Standing.{Standing, HasCause}
use Rattle.page_alloc.specs.Stops.{IsFault}
use Rattle.table_catalog.specs.Catalog.{entries, entries_from, table_count, name_of, is_name_field, is_entry, names_differ, catalog_checks, entry_pages}
use Rattle.table_catalog.specs.Stored.{HasTree, all_pages, IsStore}
use Rattle.table_catalog.proofs.CatalogLaws.{AllHold, all_hold, none_fails}
use Rattle.tree_search.proofs.SizeLaws.{page_bound}
use Rattle.page_alloc.proofs.SpaceLaws.{length-exactly}

-- the high water is the number of pages in use: page 0, those of the tables and the free ones
pub pages_total : (limits : Limits) (count : ℕ) (lines : Lines) (store : IsStore limits count lines) → high_of lines ≡ 1 + length (all_pages lines (entries lines)) + length store.free
pages_total limits count lines store =
    sym (length-exactly (high_of lines) (0 ∷ (all_pages lines (entries lines) ++ store.free)) store.exact) ∙ omega (arith, length-append (all_pages lines (entries lines)) store.free)

few_rows : (limits : Limits) (lines : Lines) (entry : Entry) → is_entry limits lines entry ≡ true → entry.rows ≤ limits.rows
few_rows limits lines entry is =
    leb-true entry.rows limits.rows (and_parts (is_name_field entry.field && nat_le 1 entry.root && nat_lt entry.root (high_of lines) && nat_le 1 entry.levels && nat_le entry.levels 4) (nat_le entry.rows limits.rows) is).1

-- the pages of some tables
pub tables_bound : (limits : Limits) (count : ℕ) (lines : Lines) (es : List Entry) → list_all (is_entry limits lines) es ≡ true → Each (HasTree count lines) es
    → length (all_pages lines es) ≤ length es * (limits.rows / 2 + 8)
tables_bound limits count lines [] ok trees = omega (arith, zero-mul (limits.rows / 2 + 8))
tables_bound limits count lines (e ∷ es) ok trees =
    let parts = and_parts (is_entry limits lines e) (list_all (is_entry limits lines) es) ok in
    let ih = tables_bound limits count lines es parts.1 trees.1 in
    let own = page_bound count lines (e.levels - 1) e.root 0 last_key true trees.0.0 in
    let bound : length (entry_pages lines e) ≤ limits.rows / 2 + 8 = omega (arith, own, trees.0.1, few_rows limits lines e parts.0) in
    omega (arith, bound, ih, suc-mul (length es) (limits.rows / 2 + 8), length-append (entry_pages lines e) (all_pages lines es))

entries_from-length : (lines : Lines) (l n : ℕ) → length (entries_from lines l n) ≡ n
entries_from-length lines l zero = refl
entries_from-length lines l (suc n) = ap suc (entries_from-length lines (suc l) n)

pub length-entries : (lines : Lines) → length (entries lines) ≡ table_count lines
unfolding entries
length-entries lines = entries_from-length lines 2 (table_count lines)

parts-all : {X : Type 0} (p : X → Bool) (xs ys : List X) → list_all p (xs ++ ys) ≡ true → (list_all p xs ≡ true) × (list_all p ys ≡ true)
parts-all p [] ys all = (refl, all)
parts-all p (x ∷ xs) ys all = let r = and_parts (p x) (list_all p (xs ++ ys)) all in let t = parts-all p xs ys r.1 in (rw (r.0, t.0) refl, t.1)

parts-each : {X : Type 0} (P : X → Type 0) (xs ys : List X) → Each P (xs ++ ys) → Each P xs × Each P ys
parts-each P [] ys all = (tt, all)
parts-each P (x ∷ xs) ys all = let r = parts-each P xs ys all.1 in ((all.0, r.0), r.1)

all_pages-length : (lines : Lines) (xs ys : List Entry) → length (all_pages lines (xs ++ ys)) ≡ length (all_pages lines xs) + length (all_pages lines ys)
all_pages-length lines [] ys = omega arith
all_pages-length lines (x ∷ xs) ys =
    omega (arith, all_pages-length lines xs ys, length-append (entry_pages lines x) (all_pages lines (xs ++ ys)), length-append (entry_pages lines x) (all_pages lines xs))

-- Where a store has pages for all its tables, a table has, with its own pages, the free ones and those never used, as many as a tree of the largest number of rows may need.
pub room_for_table : (limits : Limits) (count : ℕ) (lines : Lines) (store : IsStore limits count lines) (xs : List Entry) (e : Entry) (ys : List Entry) → entries lines ≡ xs ++ e ∷ ys
    → 1 + limits.tables * (limits.rows / 2 + 8) ≤ count → limits.rows / 2 + 8 + high_of lines ≤ length (entry_pages lines e) + length store.free + count
room_for_table limits count lines store xs e ys is enough =
    let share = limits.rows / 2 + 8 in
    let held : AllHold (catalog_checks limits count lines) = all_hold (catalog_checks limits count lines) store.catalog in
    let few : length xs + (1 + length ys) ≤ limits.tables =
    omega (arith, leb-true (table_count lines) limits.tables held.1.0, length-entries lines, ap length is, length-append xs (e ∷ ys)) in
    let ok = and_parts (list_all (is_entry limits lines) (entries lines)) (names_differ (map name_of (entries lines))) held.1.1.1.1.0 in
    let in_range = parts-all (is_entry limits lines) xs (e ∷ ys) (subst (λ es. list_all (is_entry limits lines) es ≡ true) is ok.0) in
    let trees = parts-each (HasTree count lines) xs (e ∷ ys) (subst (Each (HasTree count lines)) is store.trees) in
    let front = tables_bound limits count lines xs in_range.0 trees.0 in
    let back = tables_bound limits count lines ys (and_parts (is_entry limits lines e) (list_all (is_entry limits lines) ys) in_range.1).1 trees.1.1 in
    let all = pages_total limits count lines store in
    let spread = ap (λ es. length (all_pages lines es)) is ∙ all_pages-length lines xs (e ∷ ys) in
    let own = length-append (entry_pages lines e) (all_pages lines ys) in
    let grow : (length xs + (1 + length ys)) * share ≤ limits.tables * share = mul-le-mul_right share few in
    let product : (length xs + (1 + length ys)) * share ≡ length xs * share + (share + length ys * share) =
    add-mul (length xs) (1 + length ys) share ∙ ap (λ k. length xs * share + k) (add-mul 1 (length ys) share ∙ ap (λ k. k + length ys * share) (one-mul share)) in
    omega (arith, all, spread, own, front, back, grow, product, enough)

-- Where a store has pages for all the tables that it may have, and has not all of them, there is a page to take.
pub page_left : (limits : Limits) (count : ℕ) (lines : Lines) (store : IsStore limits count lines) → table_count lines < limits.tables → 1 + limits.tables * (limits.rows / 2 + 8) ≤ count
    → store.free ≡ [] → high_of lines ≢ count
page_left limits count lines store fewer enough none full =
    let share = limits.rows / 2 + 8 in
    let held : AllHold (catalog_checks limits count lines) = all_hold (catalog_checks limits count lines) store.catalog in
    let ok = and_parts (list_all (is_entry limits lines) (entries lines)) (names_differ (map name_of (entries lines))) held.1.1.1.1.0 in
    let held_pages = tables_bound limits count lines (entries lines) ok.0 store.trees in
    let all = pages_total limits count lines store in
    let grow : suc (length (entries lines)) * share ≤ limits.tables * share = mul-le-mul_right share (omega (arith, fewer, length-entries lines)) in
    omega (arith, all, held_pages, grow, suc-mul (length (entries lines)) share, enough, ap length none, full)

pub takes : (limits : Limits) (count : ℕ) (lines : Lines) (store : IsStore limits count lines) → (store.free ≡ [] → high_of lines ≢ count) → first_failure (take_checks count lines) ≡ None
takes limits count lines store left =
    let held : AllHold (catalog_checks limits count lines) = all_hold (catalog_checks limits count lines) store.catalog in
    none_fails (take_checks count lines) (held.0, (held.1.1.0, (held.1.1.1.0, (by_free count lines store.free store.is_free left))))
  where
    by_free : (count : ℕ) (lines : Lines) (free : List ℕ) → IsFreeList lines free → (free ≡ [] → high_of lines ≢ count)
        → ((nat_eq (free_head lines) 0 || is_free_page lines (free_head lines)) ≡ true) × ((not (nat_eq (free_head lines) 0 && nat_eq (high_of lines) count) ≡ true) × Unit {0})
    by_free count lines [] is left = (rw (eq-eqb (free_head lines) 0 is) refl, (rw (eq-eqb (free_head lines) 0 is, ne_eqb (high_of lines) count (left refl)) refl, tt))
    by_free count lines (page ∷ free) is left =
        let some : free_head lines ≢ 0 = λ e. is.1 (sym is.0 ∙ e) in
        let ok : is_free_page lines (free_head lines) ≡ true = subst (λ (n : ℕ). is_free_page lines n ≡ true) (sym is.0) is.3 in
        (rw (ne_eqb (free_head lines) 0 some) ok, (rw (ne_eqb (free_head lines) 0 some) refl, tt))

pub sound_take : {A T : Type 0} (limits : Limits) (count : ℕ) (lines : Lines) (told : Type 0) (buffer : List ℕ) (old new : Standing A) (result : Result T Stop) → told → IsStore limits count lines
    → table_count lines < limits.tables → 1 + limits.tables * (limits.rows / 2 + 8) ≤ count
    → HasCause (λ e. told → IsSpaceDamage (take_checks count lines) lines buffer e) old new result → IfErr result IsFault
sound_take limits count lines told buffer old new (Ok v) t store fewer enough cause = tt
sound_take limits count lines told buffer old new (Err Nvm) t store fewer enough cause = tt
sound_take limits count lines told buffer old new (Err Ssd) t store fewer enough cause = tt
sound_take limits count lines told buffer old new (Err (Damaged e)) t store fewer enough cause =
    let broken = sym (cause.failed t).first ∙ takes limits count lines store (page_left limits count lines store fewer enough) in absurd (cc)
