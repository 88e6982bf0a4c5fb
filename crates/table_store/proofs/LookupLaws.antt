-- A look-up of a key in a table.
use Rattle.std.proofs.Common.{Bool, Ok, Err, ◌≡◌, ◌≢◌, ℕ, zero, suc, ◌+◌, ◌-◌, ◌≤◌, cond, length-append, inl, inr, true, false, not, List, [], ◌∷◌, ◌++◌, map, length, refl, sym, ap, subst, ◌∙◌, arith, None, Option, Some, Result, IfOk, IfErr, OnOk, nat_eq}
use Rattle.std.proofs.lemmas.Bool.{cases_Bool, ne_eqb, and_left}
use Rattle.line_pages.specs.declared.stop.Stop.{Stop}
use Rattle.line_pages.specs.Lines.{Lines}
use Rattle.line_pages.specs.Touch.{Access, begins, accesses_from, begun_from, last_from}
use Rattle.line_pages.specs.Standing.{Standing, ReadsPage, AddsReads}
use Rattle.line_pages.proofs.TouchLaws.{accesses_from-begun}
use Rattle.line_pages.proofs.StandingLaws.{page_adds, AddsReads-trans}
use Rattle.rows.specs.Rows.{Row}
use Rattle.line_pages.specs.Bytes.{bytes_of}
use Rattle.page_format.specs.Node.{children}
use Rattle.tree_search.specs.Tree.{IsRooted, path, child_for}
use Rattle.tree_search.proofs.OpenReads.{some_adds}
use Rattle.tree_search.specs.Way.{IsPath, ReadsPath}
use Rattle.page_alloc.specs.Stops.{IsFault}
use Rattle.tree_search.proofs.SearchLaws.{on_ok, from_ok}
use Rattle.rows.specs.declared.limits.Limits.{Limits}
use Rattle.table_catalog.specs.declared.entry.TableEntry.{TableEntry}
use Rattle.table_catalog.specs.Catalog.{entries, tables, place_of, lookup_touches, entry_rows, entry_pages, FitsEntry}
use Rattle.table_store.specs.Changed.{root_at}
use Rattle.table_catalog.specs.Stored.{IsStore}
use Rattle.rows.specs.Tables.{rows_of}
use Rattle.table_store.specs.Getting.{IsLookup, ReadsTable, place_levels, place_path}
use Rattle.table_catalog.proofs.TableLaws.{rooted, rows_by}

-- the answers at a name that no table has, and at one that a table has
pub named_none : {N : Type 0} (no_table : N) (of : Option (List Row) → N) (name : List ℕ) (lines : Lines) → no_table ≡ of None → place_of name 0 (entries lines) ≡ None → no_table ≡ of (rows_of name (tables lines))
named_none no_table of name lines is none = is ∙ ap of (sym (rows_by name lines 0 (entries lines) None none))

pub known_some : {N E : Type 0} (is_no_table : N → Bool) (known : Bool) (result : Result N E) → known ≡ true → IfOk result (λ answer. is_no_table answer ≡ false) → IfOk result (λ answer. is_no_table answer ≡ not known)
known_some is_no_table known (Ok answer) is named = named ∙ sym (ap not is)
known_some is_no_table known (Err e) is named = tt

-- a tree that was found in pages that are the same
pub rooted_now : (limits : Limits) (n0 n1 : ℕ) (old now : Lines) (name : List ℕ) (place : TableEntry) → n1 ≡ n0 → now ≡ old → IsStore limits n0 old → place_of name 0 (entries old) ≡ Some place → FitsEntry limits n0 place.entry
    → IsRooted n1 now (root_at place) (entry_rows old place.entry) (entry_pages old place.entry)
rooted_now limits n0 n1 old now name place count same store is fits =
    subst (λ (n : ℕ). IsRooted n now (root_at place) (entry_rows old place.entry) (entry_pages old place.entry)) (sym count)
    (subst (λ (all : Lines). IsRooted n0 all (root_at place) (entry_rows old place.entry) (entry_pages old place.entry)) (sym same) (rooted limits n0 n0 old name place (root_at place) store is fits refl))

pub answer_in : {N E : Type 0} (of : Option (List Row) → N) (limits : Limits) (n0 n1 : ℕ) (old now : Lines) (name : List ℕ) (place : TableEntry) (result : Result N E) → n1 ≡ n0 → now ≡ old
    → place_of name 0 (entries old) ≡ Some place → FitsEntry limits n0 place.entry
    → ((rows : List Row) (used : List ℕ) → IsRooted n1 now (root_at place) rows used → IfOk result (λ answer. answer ≡ of (Some rows)))
    → IsStore limits n0 old → IfOk result (λ answer. answer ≡ of (rows_of name (tables old)))
answer_in {N = N} of limits n0 n1 old now name place result count same is fits answers store =
    subst (λ (x : N). IfOk result (λ answer. answer ≡ x)) (ap of (sym (rows_by name old 0 (entries old) (Some place) is)))
    (answers (entry_rows old place.entry) (entry_pages old place.entry) (rooted_now limits n0 n1 old now name place count same store is fits))

pub sound_in : {T : Type 0} (limits : Limits) (n0 n1 : ℕ) (old now : Lines) (name : List ℕ) (place : TableEntry) (result : Result T Stop) → n1 ≡ n0 → now ≡ old
    → place_of name 0 (entries old) ≡ Some place → FitsEntry limits n0 place.entry
    → ((rows : List Row) (used : List ℕ) → IsRooted n1 now (root_at place) rows used → IfErr result IsFault)
    → IsStore limits n0 old → IfErr result IsFault
sound_in limits n0 n1 old now name place result count same is fits answers store =
    answers (entry_rows old place.entry) (entry_pages old place.entry) (rooted_now limits n0 n1 old now name place count same store is fits)

-- another fact about the same reads
pub with_fact : {A : Type 0} {First Then : List Access → Type 0} {a b : Standing A} → (reads : AddsReads First a b) → Then (accesses_from None reads.added) → AddsReads Then a b
with_fact reads then_is = record {
  added = reads.added;
  touches = reads.touches;
  visits = reads.visits;
  begun = reads.begun;
  access = reads.access;
  reads = reads.reads;
  fact = then_is;
}

-- a name that no table has: page 0 alone
pub way_none : {A : Type 0} (limits : Limits) (name : List ℕ) (key : ℕ) (old new : Standing A) → place_of name 0 (entries old.current) ≡ None → old.access ≡ None → ReadsPage 0 old new
    → AddsReads (IsLookup limits old.count old.current name key) old new
way_none limits name key old new none closed reads =
    let a = page_adds reads (ap (λ o. begins o 0 false) closed) in
    with_fact a (record {
      rest = [];
      begins = a.fact;
      levels = sym (ap place_levels none);
      pages = λ store. sym (ap (λ o. map (λ p. (p, false)) (place_path old.current key o)) none);
    })

-- accesses none of which goes on in an open one
begun_all : (access : Access) (y : List Access) → length (begun_from (Some access) y) ≡ length y → begun_from (Some access) y ≡ y
begun_all access [] same = refl
begun_all access (a ∷ rest) same =
    elim (cases_Bool (begins (Some access) a.0 a.1)) [
      | inl e ↦ rw e refl
      | inr e ↦ let less = rw e at same in absurd (omega (arith, less))
    ]

-- page 0, and then the way through the table's tree
pub way_some : {A T : Type 0} (limits : Limits) (name : List ℕ) (key : ℕ) (place : TableEntry) (s0 s1 s2 : Standing A) (result : Result T Stop)
    → place_of name 0 (entries s0.current) ≡ Some place → FitsEntry limits s0.count place.entry → s0.access ≡ None → s1.count ≡ s0.count → s1.current ≡ s0.current → ReadsPage 0 s0 s1
    → (begins s1.access place.entry.root false ≡ true → OnOk result (AddsReads (IsPath s1.count s1.current (root_at place) key) s1 s2))
    → (begins s1.access place.entry.root false ≡ true → OnOk result (s2.visits ≡ s1.visits + place.entry.levels))
    → OnOk result (AddsReads (IsLookup limits s0.count s0.current name key) s0 s2)
way_some limits name key place s0 s1 s2 result is fits closed count same first way visits =
    on_ok result (λ v is_ok.
    let other : 0 ≢ place.entry.root = λ e. omega (arith, e, fits.some_page) in
    let apart : begins (Some (0, false)) place.entry.root false ≡ true = ap not (and_left (nat_eq 0 place.entry.root) true (ne_eqb 0 place.entry.root other)) in
    let fresh : begins s1.access place.entry.root false ≡ true = ap (λ o. begins o place.entry.root false) first.access ∙ apart in
    let second : AddsReads (IsPath s1.count s1.current (root_at place) key) s1 s2 = from_ok is_ok (way fresh) in
    let risen : s2.visits ≡ s1.visits + place.entry.levels = from_ok is_ok (visits fresh) in
    let begun_is = second.begun ∙ ap (λ o. accesses_from o second.added) first.access ∙ accesses_from-begun (Some (0, false)) second.added in
    let kept = begun_all (0, false) (accesses_from None second.added) (omega (arith, second.visits, risen, ap length begun_is, second.fact.levels)) in
    let strong : AddsReads (λ y. IsPath s1.count s1.current (root_at place) key y × (begun_from (Some (0, false)) y ≡ y)) s1 s2 = with_fact second (second.fact, kept) in
    AddsReads-trans (λ x y one both. joined limits name key place s0.count s1.count s0.current s1.current x y is fits count same one both.0 both.1)
    (page_adds first (ap (λ o. begins o 0 false) closed)) strong)
  where
    joined : (limits : Limits) (name : List ℕ) (key : ℕ) (place : TableEntry) (n0 n1 : ℕ) (old now : Lines) (x y : List Access) → place_of name 0 (entries old) ≡ Some place → FitsEntry limits n0 place.entry → n1 ≡ n0 → now ≡ old
        → x ≡ (0, false) ∷ [] → IsPath n1 now (root_at place) key y → begun_from (Some (0, false)) y ≡ y → IsLookup limits n0 old name key (x ++ begun_from (last_from None x) y)
    joined limits name key place n0 n1 old now x y is fits count same one way goes = record {
      rest = y;
      begins = ap (λ l. l ++ begun_from (last_from None l) y) one ∙ ap (λ l. (0, false) ∷ l) goes;
      levels = way.levels ∙ sym (ap place_levels is);
      pages = λ store.
          way.pages (entry_rows old place.entry) (entry_pages old place.entry) (rooted_now limits n0 n1 old now name place count same store is fits)
          ∙ ap (λ (all : Lines). map (λ p. (p, false)) (place_path all key (Some place))) same
          ∙ sym (ap (λ o. map (λ p. (p, false)) (place_path old key o)) is);
    }

-- a look-up of a name touches a line at least
pub lookup_more : {A : Type 0} (name : List ℕ) (old new : Standing A) → new.touches ≡ old.touches ++ lookup_touches old.access old.current name → length old.touches + 1 ≤ length new.touches
lookup_more name old new lines = omega (arith, ap length lines, length-append old.touches (lookup_touches old.access old.current name))

path_first : (lines : Lines) (level page key : ℕ) → (rest : List ℕ) × (path lines level page key ≡ page ∷ rest)
path_first lines zero page key = ([], refl)
path_first lines (suc level) page key = (path lines level (child_for key 0 (children (bytes_of lines page))) key, refl)

-- whatever access is open: page 0, and then the key's path
pub table_none : {A : Type 0} (name : List ℕ) (key : ℕ) (old new : Standing A) → place_of name 0 (entries old.current) ≡ None → length old.touches + 1 ≤ length new.touches → ReadsPage 0 old new → AddsReads (ReadsTable old.current name key) old new
table_none name key old new none more reads =
    let a = some_adds reads more in
    with_fact a (a.fact ∙ sym (ap (λ o. (0, false) ∷ map (λ p. (p, false)) (place_path old.current key o)) none))

pub table_some : {A T : Type 0} (limits : Limits) (name : List ℕ) (key : ℕ) (place : TableEntry) (s0 s1 s2 : Standing A) (result : Result T Stop)
    → place_of name 0 (entries s0.current) ≡ Some place → FitsEntry limits s0.count place.entry → length s0.touches + 1 ≤ length s1.touches → s1.count ≡ s0.count → s1.current ≡ s0.current → ReadsPage 0 s0 s1
    → ((rows : List Row) (used : List ℕ) → IsRooted s1.count s1.current (root_at place) rows used → OnOk result (AddsReads (ReadsPath s1.current (root_at place) key) s1 s2))
    → IsStore limits s0.count s0.current → OnOk result (AddsReads (ReadsTable s0.current name key) s0 s2)
table_some limits name key place s0 s1 s2 result is fits more count same first reads store =
    on_ok result (λ v is_ok.
    let second : AddsReads (ReadsPath s1.current (root_at place) key) s1 s2 =
    from_ok is_ok (reads (entry_rows s0.current place.entry) (entry_pages s0.current place.entry) (rooted_now limits s0.count s1.count s0.current s1.current name place count same store is fits)) in
    AddsReads-trans (λ x y one way. joined name key place s0.current s1.current x y is same (λ e. omega (arith, e, fits.some_page)) one way) (some_adds first more) second)
  where
    joined : (name : List ℕ) (key : ℕ) (place : TableEntry) (old now : Lines) (x y : List Access) → place_of name 0 (entries old) ≡ Some place → now ≡ old → 0 ≢ place.entry.root → x ≡ (0, false) ∷ []
        → ReadsPath now (root_at place) key y → ReadsTable old name key (x ++ begun_from (last_from None x) y)
    joined name key place old now x y is same other one way =
        let f = path_first now (place.entry.levels - 1) place.entry.root key in
        let begins_y : y ≡ (place.entry.root, false) ∷ map (λ p. (p, false)) f.0 = way ∙ ap (λ l. map (λ p. (p, false)) l) f.1 in
        let apart : begins (Some (0, false)) place.entry.root false ≡ true = ap not (and_left (nat_eq 0 place.entry.root) true (ne_eqb 0 place.entry.root other)) in
        let goes : begun_from (Some (0, false)) y ≡ y =
        ap (begun_from (Some (0, false))) begins_y ∙ ap (λ b. cond b ((place.entry.root, false) ∷ map (λ p. (p, false)) f.0) (map (λ p. (p, false)) f.0)) apart ∙ sym begins_y in
        ap (λ l. l ++ begun_from (last_from None l) y) one ∙ ap (λ l. (0, false) ∷ l) (goes ∙ way ∙ ap (λ (all : Lines). map (λ p. (p, false)) (place_path all key (Some place))) same)
        ∙ sym (ap (λ o. (0, false) ∷ map (λ p. (p, false)) (place_path old key o)) is)
