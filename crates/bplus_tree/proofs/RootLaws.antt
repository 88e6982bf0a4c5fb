-- The tree of a root: what its calls may lack.
use Rattle.std.proofs.Common.{◌≡◌, ℕ, ◌+◌, ◌-◌, ◌/◌, ◌<◌, ◌≤◌, inl, inr, true, List, [], ◌∷◌, ◌++◌, length, Result, IfErr, refl, sym, ap, subst, ◌∙◌, arith}
use Rattle.std.proofs.lemmas.Bool.{cases_lt, cases_eq, lt-ltb, le-ltb, eq-eqb, ne_eqb}
use Rattle.line_pages.specs.declared.stop.Stop.{Stop}
use Rattle.line_pages.specs.Lines.{Lines}
use Rattle.rows.specs.Rows.{Row, row_put, last_key}
use Rattle.tree_search.specs.declared.root.Root.{Root}
use Rattle.bplus_tree.specs.declared.path.Node.{Node}
use Rattle.bplus_tree.specs.declared.outcome.Outcome.TheVariants.{Cut}
use Rattle.page_alloc.specs.Space.{IsFreeList, FitsHeader}
use Rattle.tree_search.specs.Tree.{tree_rows}
use Rattle.page_alloc.specs.Moves.{ArePart}
use Rattle.bplus_tree.specs.Damage.{StandsIn, IsLack}
use Rattle.page_alloc.specs.Stops.{StopsFor, IsShort, spare_pages, pages_at_hand}
use Rattle.bplus_tree.specs.Edit.{Edits}
use Rattle.bplus_tree.specs.Path.{StandsAt, TakesFor, root_place}
use Rattle.tree_search.proofs.SizeLaws.{page_most}
use Rattle.page_alloc.proofs.SoundLaws.{moved_header}
use Rattle.page_alloc.proofs.LackLaws.{stops_wider}

pub length-row_put : (key : ℕ) (value : List ℕ) (rows : List Row) → length rows ≤ length (row_put key value rows)
length-row_put key value [] = omega arith
length-row_put key value (row ∷ rows) =
    let ih = length-row_put key value rows in
    elim (cases_lt row.0 key) [
      | inl lt ↦ rw (lt-ltb row.0 key lt) (omega (arith, ih))
      | inr ge ↦
          elim (cases_eq row.0 key) [
            | inl e ↦ rw (le-ltb row.0 key ge, eq-eqb row.0 key e) (omega arith)
            | inr ne ↦ rw (le-ltb row.0 key ge, ne_eqb row.0 key ne) (omega arith)
          ]
    ]

-- the tree of a root, as the place at the top of the way has it
pub root_stands : (count n : ℕ) (lines : Lines) (root : Root) (top : Node) (rows : List Row) (used free : List ℕ) → n ≡ count → top ≡ root_place root n → StandsIn count lines root rows used free
    → StandsAt lines top.page top.expect free
root_stands count n lines root top rows used free is_count is s =
    subst (λ (p : Node). StandsAt lines p.page p.expect free) (sym is) (subst (λ (m : ℕ). StandsAt lines root.page (root_place root m).expect free) (sym is_count) (record {
      tree = s.rooted.tree.is_tree;
      is_free = s.is_free;
      parted = subst (λ (u : List ℕ). ArePart lines (u ++ free)) s.rooted.tree.used_are s.parted;
      within = s.header.within;
    }))

-- few pages to be had are few at hand
few_at_hand : (count : ℕ) (lines : Lines) (root : Root) (rows : List Row) (used free : List ℕ) (after : ℕ) → StandsIn count lines root rows used free → length rows ≤ after → spare_pages count lines free ≤ 4
    → pages_at_hand count lines used free < after / 2 + 8
few_at_hand count lines root rows used free after s more few =
    let tree = s.rooted.tree in
    let most = page_most count lines (root.levels - 1) root.page 0 last_key true tree.is_tree in
    omega (arith, most, ap length tree.used_are, ap length tree.rows_are, more, few)

pub put_lack : {T : Type 0} (count n : ℕ) (lines : Lines) (root : Root) (top : Node) (rows : List Row) (used free : List ℕ) (key : ℕ) (value : List ℕ) (result : Result T Stop) → n ≡ count → top ≡ root_place root n → StandsIn count lines root rows used free
    → IfErr result (StopsFor (spare_pages count lines free ≤ top.expect.level) (1000000 < length (tree_rows lines top.expect.level top.page)))
    → IfErr result (IsLack (pages_at_hand count lines used free) (length (row_put key value rows)) (length rows))
put_lack count n lines root top rows used free key value result is_count is s stops =
    let level : top.expect.level ≡ root.levels - 1 = ap (λ (p : Node). p.expect.level) is in
    stops_wider (spare_pages count lines free ≤ top.expect.level) (pages_at_hand count lines used free < length (row_put key value rows) / 2 + 8)
    (1000000 < length (tree_rows lines top.expect.level top.page)) (1000000 < length rows)
    (λ few. few_at_hand count lines root rows used free (length (row_put key value rows)) s (length-row_put key value rows) (omega (arith, few, level, s.rooted.few_levels)))
    (λ many.
    let there = subst (λ (p : Node). 1000000 < length (tree_rows lines p.expect.level p.page)) is many in
    omega (arith, there, ap length s.rooted.tree.rows_are)) result stops

-- the same where the page for a new root is taken
pub take_lack : {T : Type 0} (count n m : ℕ) (lines mid : Lines) (root : Root) (top : Node) (rows : List Row) (used free : List ℕ) (key : ℕ) (value : List ℕ) (separator right : ℕ) (result : Result T Stop) → n ≡ count → top ≡ root_place root n → m ≡ count
    → StandsIn count lines root rows used free → Edits lines mid top.page top.expect (Cut separator right) (row_put key value) → TakesFor count lines mid top.page top.expect (Cut separator right)
    → (FitsHeader m (mid 0 0) → (free : List ℕ) → IsFreeList mid free → IfErr result (IsShort (spare_pages m mid free) 0))
    → IfErr result (IsLack (pages_at_hand count lines used free) (length (row_put key value rows)) (length rows))
take_lack count n m lines mid root top rows used free key value separator right result is_count is is_mid s edits takes sound =
    let stands = root_stands count n lines root top rows used free is_count is s in
    let pages : top.expect.pages ≡ count = ap (λ (p : Node). p.expect.pages) is ∙ is_count in
    let level : top.expect.level ≡ root.levels - 1 = ap (λ (p : Node). p.expect.level) is in
    let b = edits free stands.tree stands.is_free stands.parted stands.within in
    let taken = takes free b.rest separator right refl stands b.moves.is_free in
    let header = subst (λ (k : ℕ). FitsHeader k (mid 0 0)) pages (moved_header b.moves (subst (λ (k : ℕ). FitsHeader k (lines 0 0)) (sym pages) s.header)) in
    let stops = subst (λ (k : ℕ). FitsHeader k (mid 0 0) → IfErr result (IsShort (spare_pages k mid b.rest) 0)) is_mid (λ fits. sound fits b.rest b.moves.is_free) header in
    stops_wider (spare_pages count mid b.rest ≤ 0) (pages_at_hand count lines used free < length (row_put key value rows) / 2 + 8) ⊥ (1000000 < length rows)
    (λ none. few_at_hand count lines root rows used free (length (row_put key value rows)) s (length-row_put key value rows) (omega (arith, none, taken, level, s.rooted.few_levels)))
    (λ never. absurd never) result stops

-- the tree after calls that changed no line
pub stands_on : (count n : ℕ) (lines mid : Lines) (root : Root) (rows : List Row) (used free : List ℕ) → n ≡ count → mid ≡ lines → StandsIn count lines root rows used free → StandsIn n mid root rows used free
stands_on count n lines mid root rows used free is_count same s =
    subst (λ (k : ℕ). StandsIn k mid root rows used free) (sym is_count) (subst (λ (l : Lines). StandsIn count l root rows used free) (sym same) s)
