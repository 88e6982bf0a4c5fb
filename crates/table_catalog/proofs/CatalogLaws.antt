-- What the checks of the catalog give, and the look-up of a name among its entries.
use Rattle.std.proofs.Common.{◌≡◌, ℕ, zero, suc, ◌+◌, ◌-◌, ◌<◌, ◌≤◌, inl, inr, Bool, true, false, List, [], ◌∷◌, ◌++◌, map, refl, sym, ap, subst, ◌∙◌, arith, None, Some, Option, nat_le, nat_lt, ◌&&◌}
use Rattle.std.specs.Prelude.{slice_index, slice_range, bytes_eq, is_some}
use Rattle.std.specs.List.{list_all}
use Rattle.std.proofs.lemmas.Bool.{cases_Bool, and_parts, leb-true, ltb-true}
use Rattle.nvm_model.specs.declared.line.Line.{Line}
use Rattle.line_pages.specs.Lines.{Lines}
use Rattle.damage.specs.Checks.{first_failure}
use Rattle.page_alloc.specs.Space.{word, high_of}
use Rattle.rows.specs.declared.limits.Limits.{Limits}
use Rattle.table_catalog.specs.declared.entry.Entry.{Entry}
use Rattle.rows.specs.Names.{is_name_byte}
use Rattle.table_catalog.specs.Catalog.{entry_in, entries_from, entries, table_count, name_in, name_of, names_differ, is_zero, is_name_field, is_listed, is_entry, header_checks, catalog_checks, FitsCatalog, FitsEntry, place_of, table_of}
use Rattle.rows.specs.Tables.{is_known}
use Rattle.table_catalog.specs.declared.entry.TableEntry.{TableEntry}

-- each of the checks passes
abbrev pub AllHold : {X : Type 0} → List (X × Bool) → Type 0
AllHold [] = Unit {0}
AllHold (check ∷ rest) = (check.1 ≡ true) × AllHold rest

pub all_hold : {X : Type 0} (list : List (X × Bool)) → first_failure list ≡ None → AllHold list
all_hold [] none = tt
all_hold (check ∷ rest) none =
    elim (cases_Bool check.1) [
      | inl holds ↦ (holds, all_hold rest (rw holds at none))
      | inr fails ↦ let there = rw fails at none in absurd (cc)
    ]

pub none_fails : {X : Type 0} (list : List (X × Bool)) → AllHold list → first_failure list ≡ None
none_fails [] all = refl
none_fails (check ∷ rest) all = rw all.0 (none_fails rest all.1)

-- the first failure of more checks
pub first_more : {X : Type 0} (xs ys : List (X × Bool)) (c : X) → first_failure xs ≡ Some c → first_failure (xs ++ ys) ≡ Some c
first_more [] ys c e = absurd (cc)
first_more (x ∷ xs) ys c e =
    elim (cases_Bool x.1) [
      | inl holds ↦ rw holds (first_more xs ys c (rw holds at e))
      | inr fails ↦ let there = rw fails at e in rw fails there
    ]

pub first_last : {X : Type 0} (xs : List (X × Bool)) (c : X) (b : Bool) → first_failure xs ≡ None → b ≡ false → first_failure (xs ++ (c, b) ∷ []) ≡ Some c
first_last [] c b none fails = rw fails refl
first_last (x ∷ xs) c b none fails =
    elim (cases_Bool x.1) [
      | inl holds ↦ rw holds (first_last xs c b (rw holds at none) fails)
      | inr broken ↦ let there = rw broken at none in absurd (cc)
    ]

pub fits_catalog : (limits : Limits) (count : ℕ) (header : Line) → first_failure (header_checks limits count header) ≡ None → FitsCatalog limits count header
fits_catalog limits count header none =
    let held : AllHold (header_checks limits count header) = all_hold (header_checks limits count header) none in
    let high = and_parts (nat_le 1 (word header 2)) (nat_le (word header 2) count) held.1.1.0 in
    record {
      passes = none;
      tables = leb-true (word header 1) limits.tables held.1.0;
      some = leb-true 1 (word header 2) high.0;
      within = leb-true (word header 2) count high.1;
    }

short_name : (field : List ℕ) → is_name_field field ≡ true → slice_index field 0 ≤ 31
unfolding is_name_field
short_name field is =
    let p2 = and_parts (nat_le 1 (slice_index field 0) && nat_le (slice_index field 0) 31 && list_all is_name_byte (name_in field)) (list_all is_zero (slice_range field (1 + slice_index field 0) 32)) is in
    let p1 = and_parts (nat_le 1 (slice_index field 0) && nat_le (slice_index field 0) 31) (list_all is_name_byte (name_in field)) p2.0 in
    leb-true (slice_index field 0) 31 (and_parts (nat_le 1 (slice_index field 0)) (nat_le (slice_index field 0) 31) p1.0).1

pub fits_entry : (limits : Limits) (high : ℕ) (e : Entry) → is_listed limits high e ≡ true → FitsEntry limits high e
fits_entry limits high e is =
    let p5 = and_parts (is_name_field e.field && nat_le 1 e.root && nat_lt e.root high && nat_le 1 e.levels && nat_le e.levels 4) (nat_le e.rows limits.rows) is in
    let p4 = and_parts (is_name_field e.field && nat_le 1 e.root && nat_lt e.root high && nat_le 1 e.levels) (nat_le e.levels 4) p5.0 in
    let p3 = and_parts (is_name_field e.field && nat_le 1 e.root && nat_lt e.root high) (nat_le 1 e.levels) p4.0 in
    let p2 = and_parts (is_name_field e.field && nat_le 1 e.root) (nat_lt e.root high) p3.0 in
    let named = and_parts (is_name_field e.field) (nat_le 1 e.root) p2.0 in
    record {
      some_page = leb-true 1 e.root named.1;
      page = ltb-true e.root high p2.1;
      some_levels = leb-true 1 e.levels p3.1;
      few_levels = leb-true e.levels 4 p4.1;
      rows = leb-true e.rows limits.rows p5.1;
      short = short_name e.field named.0;
    }

-- one entry that is out of range
one_fails : (p : Entry → Bool) (lines : Lines) (l n i : ℕ) → i < n → p (entry_in (lines 0 (l + i))) ≡ false → list_all p (entries_from lines l n) ≡ false
one_fails p lines l zero i inside fails = absurd (omega arith)
one_fails p lines l (suc n) zero inside fails =
    let same : l + 0 ≡ l = omega arith in
    let here : p (entry_in (lines 0 l)) ≡ false = subst (λ (k : ℕ). p (entry_in (lines 0 k)) ≡ false) same fails in
    rw here refl
one_fails p lines l (suc n) (suc i) inside fails =
    let next : l + suc i ≡ suc l + i = omega arith in
    let rest = one_fails p lines (suc l) n i (omega arith) (subst (λ (k : ℕ). p (entry_in (lines 0 k)) ≡ false) next fails) in
    elim (cases_Bool (p (entry_in (lines 0 l)))) [ inl e ↦ rw e rest | inr e ↦ rw e refl ]

pub odd_entry : (limits : Limits) (count : ℕ) (lines : Lines) (header : Line) (i : ℕ) (entry : Entry) → header ≡ lines 0 0 → FitsCatalog limits count header → i < word header 1
    → entry ≡ entry_in (lines 0 (2 + i)) → is_listed limits (word header 2) entry ≡ false → first_failure (catalog_checks limits count lines) ≡ Some 35
unfolding entries
odd_entry limits count lines header i entry header_is fits inside entry_is fails =
    let high : word header 2 ≡ high_of lines = ap (λ (h : Line). word h 2) header_is in
    let within : i < table_count lines = subst (λ (h : Line). i < word h 1) header_is inside in
    let there : is_entry limits lines (entry_in (lines 0 (2 + i))) ≡ false = subst (λ (e : Entry). is_entry limits lines e ≡ false) entry_is (subst (λ (h : ℕ). is_listed limits h entry ≡ false) high fails) in
    first_last (header_checks limits count (lines 0 0)) 35 (list_all (is_entry limits lines) (entries lines) && names_differ (map name_of (entries lines)))
    (subst (λ (h : Line). first_failure (header_checks limits count h) ≡ None) header_is fits.passes)
    (rw (one_fails (is_entry limits lines) lines 2 (table_count lines) i within there) refl)

pub odd_header : (limits : Limits) (count : ℕ) (lines : Lines) (header : Line) (check : ℕ) → header ≡ lines 0 0 → first_failure (header_checks limits count header) ≡ Some check
    → first_failure (catalog_checks limits count lines) ≡ Some check
odd_header limits count lines header check is first =
    first_more (header_checks limits count (lines 0 0)) ((35, list_all (is_entry limits lines) (entries lines) && names_differ (map name_of (entries lines))) ∷ []) check
    (subst (λ (h : Line). first_failure (header_checks limits count h) ≡ Some check) is first)

-- the look-up at its start, at an entry with another name, at the entry, and at its end
pub place_start : (name : List ℕ) (lines : Lines) (n : ℕ) → n ≡ table_count lines → place_of name 0 (entries lines) ≡ place_of name 0 (entries_from lines 2 (n - 0))
unfolding entries
place_start name lines n is = let same : table_count lines ≡ n - 0 = omega (arith, is) in ap (λ (k : ℕ). place_of name 0 (entries_from lines 2 k)) same

from_more : (lines : Lines) (i n : ℕ) → i < n → entries_from lines (2 + i) (n - i) ≡ entry_in (lines 0 (2 + i)) ∷ entries_from lines (2 + (i + 1)) (n - (i + 1))
from_more lines i n inside =
    let left : n - i ≡ suc (n - (i + 1)) = omega arith in
    let next : suc (2 + i) ≡ 2 + (i + 1) = omega arith in
    ap (λ (k : ℕ). entries_from lines (2 + i) k) left ∙ ap (λ (k : ℕ). entry_in (lines 0 (2 + i)) ∷ entries_from lines k (n - (i + 1))) next

pub place_step : (name : List ℕ) (lines : Lines) (whole : Option TableEntry) (i n : ℕ) (entry : Entry) → i < n → whole ≡ place_of name i (entries_from lines (2 + i) (n - i)) → entry ≡ entry_in (lines 0 (2 + i))
    → bytes_eq (name_of entry) name ≡ false → whole ≡ place_of name (i + 1) (entries_from lines (2 + (i + 1)) (n - (i + 1)))
place_step name lines whole i n entry inside so_far entry_is other =
    let there : bytes_eq (name_of (entry_in (lines 0 (2 + i)))) name ≡ false = subst (λ (e : Entry). bytes_eq (name_of e) name ≡ false) entry_is other in
    let next : suc i ≡ i + 1 = omega arith in
    so_far ∙ ap (place_of name i) (from_more lines i n inside) ∙ rw there (ap (λ (k : ℕ). place_of name k (entries_from lines (2 + (i + 1)) (n - (i + 1)))) next)

pub place_found : (name : List ℕ) (lines : Lines) (whole : Option TableEntry) (i n : ℕ) (entry : Entry) → i < n → whole ≡ place_of name i (entries_from lines (2 + i) (n - i)) → entry ≡ entry_in (lines 0 (2 + i))
    → bytes_eq (name_of entry) name ≡ true → Some (record { at = i; entry = entry }) ≡ whole
place_found name lines whole i n entry inside so_far entry_is same =
    let there : bytes_eq (name_of (entry_in (lines 0 (2 + i)))) name ≡ true = subst (λ (e : Entry). bytes_eq (name_of e) name ≡ true) entry_is same in
    ap (λ (e : Entry). Some (record { at = i; entry = e })) entry_is ∙ sym (so_far ∙ ap (place_of name i) (from_more lines i n inside) ∙ rw there refl)

pub place_none : (name : List ℕ) (lines : Lines) (whole : Option TableEntry) (i n : ℕ) → n ≤ i → whole ≡ place_of name i (entries_from lines (2 + i) (n - i)) → None ≡ whole
place_none name lines whole i n end so_far = let none : n - i ≡ 0 = omega arith in sym (so_far ∙ ap (λ (k : ℕ). place_of name i (entries_from lines (2 + i) k)) none)

-- a name is known exactly where an entry has it
pub known_by : (name : List ℕ) (lines : Lines) (i : ℕ) (es : List Entry) → is_some (place_of name i es) ≡ is_known name (map (table_of lines) es)
known_by name lines i [] = refl
known_by name lines i (e ∷ es) = elim (cases_Bool (bytes_eq (name_of e) name)) [ inl same ↦ rw same refl | inr other ↦ rw other (known_by name lines (suc i) es) ]
