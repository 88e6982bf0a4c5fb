-- A search goes down one level.
use Rattle.std.proofs.Common.{◌≡◌, ◌≢◌, ℕ, zero, suc, ◌+◌, ◌-◌, ◌≤◌, Bool, true, false, not, cond, List, [], ◌∷◌, ◌++◌, map, length, take, drop, Option, Some, None, Result, Ok, Err, IfOk, IfErr, OnOk, refl, sym, ap, subst, ◌∙◌, arith, nat_eq, take-append-drop, slice_get}
use Rattle.std.proofs.lemmas.Bool.{eq-eqb, ne_eqb, and_left}
use Rattle.line_pages.specs.declared.stop.Stop.{Stop}
use Rattle.page_format.specs.declared.root.Expect.{Expect}
use Rattle.page_format.specs.declared.spot.Spot.TheVariants.{Row, Gap, Child}
use Rattle.line_pages.specs.Touch.{Access, begins, begun_from, last_from}
use Rattle.line_pages.proofs.StandingLaws.{AddsReads-trans, ReadsPage-trans}
use Rattle.tree_search.proofs.OpenReads.{some_adds, reads_more}
use Rattle.line_pages.proofs.TouchLaws.{accesses_from-begun}
use Rattle.page_format.proofs.PageFacts.{leaf_facts}
use Rattle.page_alloc.specs.Stops.{IsFault}
use Rattle.line_pages.specs.Lines.{Lines}
use Rattle.line_pages.specs.Standing.{Standing, ReadsPage, AddsReads}
use Rattle.line_pages.specs.Bytes.{bytes_of}
use Rattle.rows.specs.Rows.{keys, row_get, Ascends, last_key}
use Rattle.rows.specs.Rows as rows
use Rattle.page_format.specs.Node.{leaf_rows, IsWellFormed, page_level}
use Rattle.tree_search.specs.Tree.{IsTree, tree_rows, path}
use Rattle.page_format.specs.Search.{IsSpot, IsSafeSpot}
use Rattle.tree_search.specs.declared.root.Root.{Root}
use Rattle.tree_search.specs.Way.{IsWay, ReadsPath}
use Rattle.rows.proofs.RowLaws.{row_get-behind, row_get-none_above}
use Rattle.tree_search.proofs.OrderLaws.{Descends, descends}

pub on_ok : {T E P : Type 0} (r : Result T E) → ((v : T) → r ≡ Ok v → P) → OnOk r P
on_ok (Ok v) f = f v refl
on_ok (Err e) f = tt

pub from_ok : {T E P : Type 0} {r : Result T E} {v : T} → r ≡ Ok v → OnOk r P → P
from_ok {P = P} e h = subst (λ q. OnOk q P) e h

pub well_formed_top : (count : ℕ) (lines : Lines) (level page low high : ℕ) (root : Bool) → IsTree count lines level page low high root
    → IsWellFormed (bytes_of lines page) (record { level = level; low = low; high = high; root = root; pages = count })
well_formed_top count lines zero page low high root is = is
well_formed_top count lines (suc level) page low high root is = is.0

got_above : (low high at : ℕ) (row : rows.Row) (all : List rows.Row) → Ascends low high (keys all) → slice_get all at ≡ Some row → low ≤ row.0
got_above low high at row [] up got = absurd (cc)
got_above low high zero row (first ∷ rest) up got = let e : first.0 ≡ row.0 = cc in omega (arith, up.0, e)
got_above low high (suc at) row (first ∷ rest) up got = let ih = got_above (first.0 + 1) high at row rest up.2 got in omega (arith, ih, up.0)

-- the row at a place is the one that its key finds
pub row_at : (low high at : ℕ) (row : rows.Row) (all : List rows.Row) → Ascends low high (keys all) → slice_get all at ≡ Some row → Some row.1 ≡ row_get row.0 all
row_at low high at row [] up got = absurd (cc)
row_at low high zero row (first ∷ rest) up got = let e : first ≡ row = cc in rw (eq-eqb first.0 row.0 (ap (λ (r : rows.Row). r.0) e)) (ap (λ (r : rows.Row). Some r.1) (sym e))
row_at low high (suc at) row (first ∷ rest) up got =
    let more = got_above (first.0 + 1) high at row rest up.2 got in
    rw (ne_eqb first.0 row.0 (λ e. omega (arith, more, e))) (row_at (first.0 + 1) high at row rest up.2 got)

pub gap_none : (bytes : List ℕ) (expect : Expect) (key at : ℕ) → IsSpot bytes expect key (Gap at) → row_get key (leaf_rows bytes) ≡ None
gap_none bytes expect key at spot =
    let all = leaf_rows bytes in
    ap (row_get key) (sym (take-append-drop at all)) ∙ row_get-behind key (take at all) (drop at all) spot.2 ∙ row_get-none_above key (drop at all) spot.3

-- what the child that the search names means in a tree
pub child_of_spot : (lines : Lines) (expect : Expect) (page key at child low high level : ℕ) → expect.level ≡ suc level → IsTree expect.pages lines expect.level page expect.low expect.high expect.root
    → expect.low ≤ key → key ≤ expect.high → IsSafeSpot expect key (Child at child low high) → IsSpot (bytes_of lines page) expect key (Child at child low high)
    → Descends expect.pages lines level page key (record { page = child; low = low; high = high })
child_of_spot lines expect page key at child low high level is_level tree above within safe spot =
    descends expect.pages lines level page expect.low expect.high expect.root key at (record { page = child; low = low; high = high })
    (subst (λ l. IsTree expect.pages lines l page expect.low expect.high expect.root) is_level tree) spot above within safe.4 safe.5

pub one_above : (level : ℕ) → 1 ≤ level → level ≡ suc (level - 1)
one_above level some = omega arith

-- one access to the page, and then the way from the child
pub way_on : {A T : Type 0} (expect : Expect) (page key at child low high : ℕ) (s0 s1 s2 : Standing A) (result : Result T Stop)
    → expect.low ≤ key → key ≤ expect.high → IsSafeSpot expect key (Child at child low high)
    → (IsTree expect.pages s0.current expect.level page expect.low expect.high expect.root → IsSpot (bytes_of s0.current page) expect key (Child at child low high))
    → AddsReads (λ pages. pages ≡ (page, false) ∷ []) s0 s1 → s1.access ≡ Some (page, false) → s1.current ≡ s0.current
    → page_level (bytes_of s0.current page) ≡ expect.level → OnOk result (page_level (bytes_of s1.current child) ≡ expect.level - 1)
    → (begins s1.access child false ≡ true → OnOk result (AddsReads (IsWay s1.current child (record { level = expect.level - 1; low = low; high = high; root = false; pages = expect.pages }) key) s1 s2))
    → OnOk result (AddsReads (IsWay s0.current page expect key) s0 s2)
way_on expect page key at child low high s0 s1 s2 result above within safe spot first open_one same level child_level rest =
    on_ok result (λ v is_ok.
    let is_level = one_above expect.level safe.0 in
    let lower : page_level (bytes_of s0.current child) ≡ expect.level - 1 = ap (λ lines. page_level (bytes_of lines child)) (sym same) ∙ from_ok is_ok child_level in
    let other : page ≢ child = λ e. omega (arith, level, lower, ap (λ p. page_level (bytes_of s0.current p)) e, is_level) in
    let apart : begins (Some (page, false)) child false ≡ true = ap not (and_left (nat_eq page child) true (ne_eqb page child other)) in
    let fresh : begins s1.access child false ≡ true = ap (λ o. begins o child false) open_one ∙ apart in
    let second = from_ok is_ok (rest fresh) in
    AddsReads-trans (λ x y one way. joined expect page key child at low high s0.current s1.current x y is_level same one way apart
    (λ tree. child_of_spot s0.current expect page key at child low high (expect.level - 1) is_level tree above within safe (spot tree)))
    first second)
  where
    joined : (expect : Expect) (page key child at low high : ℕ) (lines now : Lines) (x y : List Access) → expect.level ≡ suc (expect.level - 1) → now ≡ lines → x ≡ (page, false) ∷ []
        → IsWay now child (record { level = expect.level - 1; low = low; high = high; root = false; pages = expect.pages }) key y → begins (Some (page, false)) child false ≡ true
        → (IsTree expect.pages lines expect.level page expect.low expect.high expect.root → Descends expect.pages lines (expect.level - 1) page key (record { page = child; low = low; high = high }))
        → IsWay lines page expect key (x ++ begun_from (last_from None x) y)
    joined expect page key child at low high lines now x y is_level same one way apart down =
        let goes : begun_from (Some (page, false)) y ≡ y =
        ap (begun_from (Some (page, false))) way.begins ∙ ap (λ b. cond b ((child, false) ∷ way.rest) way.rest) apart ∙ sym way.begins in
        let all : x ++ begun_from (last_from None x) y ≡ (page, false) ∷ y = ap (λ l. l ++ begun_from (last_from None l) y) one ∙ ap (λ l. (page, false) ∷ l) goes in
        record {
          rest = y;
          begins = all;
          levels = ap length all ∙ omega (arith, way.levels, is_level);
          pages = λ tree.
              let d = down tree in
              all ∙ ap (λ xs. (page, false) ∷ xs) (way.pages (subst (λ l. IsTree expect.pages l (expect.level - 1) child low high false) (sym same) d.tree))
              ∙ ap (λ l. (page, false) ∷ map (λ p. (p, false)) (path l (expect.level - 1) child key)) same
              ∙ sym (ap (λ l. map (λ p. (p, false)) (path lines l page key)) is_level ∙ ap (map (λ p. (p, false))) d.way);
        }

pub found_child : {T E : Type 0} (Seen : T → Option (List ℕ) → Type 0) (old new : Lines) (expect : Expect) (page key at child low high : ℕ) (result : Result T E) → new ≡ old
    → IsTree expect.pages old expect.level page expect.low expect.high expect.root → expect.low ≤ key → key ≤ expect.high
    → IsSafeSpot expect key (Child at child low high) → IsSpot (bytes_of old page) expect key (Child at child low high)
    → (IsTree expect.pages new (expect.level - 1) child low high false → IfOk result (λ found. Seen found (row_get key (tree_rows new (expect.level - 1) child))))
    → IfOk result (λ found. Seen found (row_get key (tree_rows old expect.level page)))
found_child Seen old new expect page key at child low high result same tree above within safe spot below =
    let is_level = one_above expect.level safe.0 in
    let down = child_of_spot old expect page key at child low high (expect.level - 1) is_level tree above within safe spot in
    let ih = subst (λ lines. IsTree expect.pages lines (expect.level - 1) child low high false → IfOk result (λ found. Seen found (row_get key (tree_rows lines (expect.level - 1) child)))) same below in
    subst (λ r. IfOk result (λ found. Seen found r)) (sym (ap (λ l. row_get key (tree_rows old l page)) is_level ∙ down.rows)) (ih down.tree)

pub sound_child : {T : Type 0} (old new : Lines) (expect : Expect) (page key at child low high : ℕ) (result : Result T Stop) → new ≡ old
    → IsTree expect.pages old expect.level page expect.low expect.high expect.root → expect.low ≤ key → key ≤ expect.high
    → IsSafeSpot expect key (Child at child low high) → IsSpot (bytes_of old page) expect key (Child at child low high)
    → (IsTree expect.pages new (expect.level - 1) child low high false → IfErr result IsFault) → IfErr result IsFault
sound_child old new expect page key at child low high result same tree above within safe spot below =
    let is_level = one_above expect.level safe.0 in
    let down = child_of_spot old expect page key at child low high (expect.level - 1) is_level tree above within safe spot in
    below (subst (λ lines. IsTree expect.pages lines (expect.level - 1) child low high false) (sym same) down.tree)

-- the row at the place that a search names
pub row_of_spot : (bytes : List ℕ) (expect : Expect) (key at : ℕ) → IsWellFormed bytes expect → IsSpot bytes expect key (Row at)
    → (row : rows.Row) × (slice_get (leaf_rows bytes) at ≡ Some row) × (Some row.1 ≡ row_get key (leaf_rows bytes))
row_of_spot bytes expect key at well spot =
    let facts = leaf_facts bytes expect spot.0 well in
    let r = keyed (leaf_rows bytes) at key spot.1 in
    (r.0, r.1, row_at expect.low expect.high at r.0 (leaf_rows bytes) facts.order r.1 ∙ ap (λ (k : ℕ). row_get k (leaf_rows bytes)) r.2)
  where
    keyed : (all : List rows.Row) (at key : ℕ) → slice_get (keys all) at ≡ Some key → (row : rows.Row) × (slice_get all at ≡ Some row) × (row.0 ≡ key)
    keyed [] at key e = absurd (cc)
    keyed (row ∷ rest) zero key e = (row, refl, (cc))
    keyed (row ∷ rest) (suc at) key e = keyed rest at key e

pub found_row : {T E : Type 0} (Seen : T → Option (List ℕ) → Type 0) (lines : Lines) (expect : Expect) (page key at : ℕ) (result : Result T E) → IsWellFormed (bytes_of lines page) expect → IsSpot (bytes_of lines page) expect key (Row at)
    → ((row : rows.Row) → slice_get (leaf_rows (bytes_of lines page)) at ≡ Some row → IfOk result (λ found. Seen found (Some row.1)))
    → IfOk result (λ found. Seen found (row_get key (tree_rows lines expect.level page)))
found_row Seen lines expect page key at result well spot reads =
    let r = row_of_spot (bytes_of lines page) expect key at well spot in
    subst (λ l. IfOk result (λ found. Seen found (row_get key (tree_rows lines l page)))) (sym spot.0)
    (subst (λ value. IfOk result (λ found. Seen found value)) r.2 (reads r.0 r.1))

pub found_gap : (lines : Lines) (expect : Expect) (page key at : ℕ) → IsSpot (bytes_of lines page) expect key (Gap at) → None ≡ row_get key (tree_rows lines expect.level page)
found_gap lines expect page key at spot =
    subst (λ level. None ≡ row_get key (tree_rows lines level page)) (sym spot.0) (sym (gap_none (bytes_of lines page) expect key at spot))

-- the way ends at a leaf
pub way_end : {A : Type 0} (expect : Expect) (page key : ℕ) (old new : Standing A) → expect.level ≡ 0 → AddsReads (λ pages. pages ≡ (page, false) ∷ []) old new → AddsReads (IsWay old.current page expect key) old new
way_end expect page key old new level a =
    record {
      added = a.added;
      touches = a.touches;
      visits = a.visits;
      begun = a.begun;
      access = a.access;
      reads = a.reads;
      fact = record {
        rest = [];
        begins = a.fact;
        levels = ap length a.fact ∙ omega (arith, level);
        pages = λ tree. a.fact ∙ sym (ap (λ l. map (λ p. (p, false)) (path old.current l page key)) level);
      };
    }

pub way_row : {A T : Type 0} (expect : Expect) (page key : ℕ) (old mid new : Standing A) (result : Result T Stop) → expect.level ≡ 0 → (ReadsPage page old new → AddsReads (λ pages. pages ≡ (page, false) ∷ []) old new) → ReadsPage page old mid
    → OnOk result (ReadsPage page mid new) → OnOk result (AddsReads (IsWay old.current page expect key) old new)
way_row expect page key old mid new (Ok v) level adds first more = way_end expect page key old new level (adds (ReadsPage-trans first more))
way_row expect page key old mid new (Err e) level adds first more = tt

pub row_touches : {A T : Type 0} (expect : Expect) (page key : ℕ) (old mid new : Standing A) (result : Result T Stop) → expect.level ≡ 0 → length old.touches + 1 ≤ length mid.touches → ReadsPage page old mid
    → OnOk result (ReadsPage page mid new) → OnOk result (AddsReads (IsWay old.current page expect key) old new)
row_touches expect page key old mid new (Ok v) level more first next = let further = reads_more page mid new next in way_end expect page key old new level (some_adds (ReadsPage-trans first next) (omega (arith, more, further)))
row_touches expect page key old mid new (Err e) level more first next = tt

-- one access to each level
pub way_visits : {A T : Type 0} (expect : Expect) (page key : ℕ) (old new : Standing A) (result : Result T Stop) → begins old.access page false ≡ true
    → OnOk result (AddsReads (IsWay old.current page expect key) old new) → OnOk result (new.visits ≡ old.visits + (expect.level + 1))
way_visits expect page key old new (Ok v) starts a =
    let all = a.begun ∙ accesses_from-begun old.access a.added ∙ ap (begun_from old.access) a.fact.begins ∙ ap (λ b. cond b ((page, false) ∷ a.fact.rest) a.fact.rest) starts ∙ sym a.fact.begins in
    a.visits ∙ ap (λ n. old.visits + n) (ap length all ∙ a.fact.levels)
way_visits expect page key old new (Err e) starts a = tt

-- the way from a root
pub path_reads : {A T : Type 0} (root : Root) (key count n : ℕ) (expect : Expect) (old new : Standing A) (result : Result T Stop) → n ≡ count → expect ≡ record { level = root.levels - 1; low = 0; high = last_key; root = true; pages = n }
    → IsTree count old.current (root.levels - 1) root.page 0 last_key true
    → (IsTree expect.pages old.current expect.level root.page expect.low expect.high expect.root → OnOk result (AddsReads (IsWay old.current root.page expect key) old new))
    → OnOk result (AddsReads (ReadsPath old.current root key) old new)
path_reads root key count n expect old new result is_count is tree reads =
    let top : Expect = record { level = root.levels - 1; low = 0; high = last_key; root = true; pages = n } in
    let here : IsTree n old.current (root.levels - 1) root.page 0 last_key true = subst (λ (m : ℕ). IsTree m old.current (root.levels - 1) root.page 0 last_key true) (sym is_count) tree in
    let way = subst (λ (e : Expect). IsTree e.pages old.current e.level root.page e.low e.high e.root → OnOk result (AddsReads (IsWay old.current root.page e key) old new)) is reads here in
    on_ok result (λ v is_ok. path_of (from_ok is_ok way) here)
  where
    path_of : {A : Type 0} {old new : Standing A} {e : Expect} → AddsReads (IsWay old.current root.page e key) old new → IsTree e.pages old.current e.level root.page e.low e.high e.root
        → AddsReads (λ begun. begun ≡ map (λ p. (p, false)) (path old.current e.level root.page key)) old new
    path_of reads tree = record {
      added = reads.added;
      touches = reads.touches;
      visits = reads.visits;
      begun = reads.begun;
      access = reads.access;
      reads = reads.reads;
      fact = reads.fact.pages tree;
    }
