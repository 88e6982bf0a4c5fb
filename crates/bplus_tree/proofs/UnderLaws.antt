-- The pages under a page of a tree before and after a change, from the leaf of the key up.
use Rattle.std.proofs.Common.{◌≡◌, ◌≢◌, ℕ, zero, suc, ◌+◌, ◌-◌, ◌<◌, ◌≤◌, ◌⊎◌, Bool, true, false, List, [], ◌∷◌, ◌++◌, Some, IsTrue, refl, sym, ap, subst, ◌∙◌, arith, slice_get}
use Rattle.line_pages.specs.Lines.{Lines}
use Rattle.line_pages.specs.Bytes.{bytes_of}
use Rattle.page_format.specs.declared.root.Expect.{Expect}
use Rattle.rows.specs.Rows.{Row, last_key}
use Rattle.page_format.specs.Room.{leaf_floor}
use Rattle.page_format.specs.Sound.{row_bytes}
use Rattle.page_format.specs.Spans.{Span, spans}
use Rattle.page_format.specs.Node.{children, IsWellFormed}
use Rattle.node_edit.specs.Record.{FitsLeaf}
use Rattle.tree_search.specs.declared.root.Root.{Root}
use Rattle.tree_search.specs.Tree.{IsTree, IsRooted, tree_pages, tree_rows, child_for, path}
use Rattle.page_alloc.specs.Space.{high_of, IsFreeList}
use Rattle.page_alloc.specs.Moves.{ArePart, Moves}
use Rattle.bplus_tree.specs.declared.outcome.Outcome.{Outcome}
use Rattle.bplus_tree.specs.declared.outcome.Outcome.TheVariants.{Whole, Short, Cut, Alone}
use Rattle.bplus_tree.specs.declared.path.Node.{Node}
use Rattle.bplus_tree.specs.declared.path.Passed.{Passed}
use Rattle.bplus_tree.specs.Edit.{Became, Edits, MendsPages, own}
use Rattle.bplus_tree.specs.Path.{LeadsTo, Settles, MayFollow, StandsAt, root_place}
use Rattle.bplus_tree.specs.PageChanges.{rows_at, children_at, ChangesOnly, LeafHolds, JoinsSibling, HoldsAbove, HasChild, ChangesUnder, RootHolds, ChangesPages, CutsLeaf}
use Rattle.tree_search.proofs.OrderLaws.{descends}
use Rattle.tree_search.proofs.SearchLaws.{well_formed_top}
use Rattle.bplus_tree.proofs.Editing.{IsLocal, at_level, short_below}
use Rattle.bplus_tree.proofs.LeafOfKey.{same_first}
use Rattle.bplus_tree.proofs.StandLaws.{way_down, stands_child, above_child}
use Rattle.bplus_tree.proofs.PageLaws.{only_moved, leaf_holds, added_holds}

abbrev at_expect : ℕ → ℕ → ℕ → Bool → ℕ → Expect
at_expect level low high root pages = record { level = level; low = low; high = high; root = root; pages = pages }

pub expect_is : (e : Expect) (level pages : ℕ) (root : Bool) → e.level ≡ level → e.root ≡ root → e.pages ≡ pages → e ≡ record { level = level; low = e.low; high = e.high; root = root; pages = pages }
expect_is e level pages root is_level is_root is_pages =
    ap (λ (l : ℕ). at_expect l e.low e.high e.root e.pages) is_level
    ∙ ap (λ (r : Bool). at_expect level e.low e.high r e.pages) is_root
    ∙ ap (λ (n : ℕ). at_expect level e.low e.high root n) is_pages

-- at the leaf
pub leaf_under : (key : ℕ) (leaf : Node) (old mid new : Lines) (outcome : Outcome) (step : List Row → List Row) → leaf.expect.level ≡ 0 → mid ≡ old → Edits mid new leaf.page leaf.expect outcome step
    → (IsWellFormed (bytes_of mid leaf.page) leaf.expect → FitsLeaf (leaf.expect.root ≡ true) (step (rows_at mid leaf.page)) → outcome ≡ Whole)
    → ((free : List ℕ) → IsFreeList mid free → ArePart mid (leaf.page ∷ free) → high_of mid ≤ leaf.expect.pages → CutsLeaf (step (rows_at mid leaf.page)) new leaf.page outcome)
    → (free : List ℕ) → StandsAt old leaf.page leaf.expect free → ChangesUnder step key old new leaf.expect.level leaf.page leaf.expect.root outcome
leaf_under key leaf old mid new outcome step level same edits fits cuts free stands =
    let e = leaf.expect in
    let page = leaf.page in
    let edits_old = subst (λ (lines : Lines). Edits lines new page e outcome step) same edits in
    let well = well_formed_top e.pages old e.level page e.low e.high e.root stands.tree in
    let whole = subst (λ (lines : Lines). IsWellFormed (bytes_of lines page) e → FitsLeaf (e.root ≡ true) (step (rows_at lines page)) → outcome ≡ Whole) same fits well in
    let part : ArePart old (page ∷ free) = subst (λ (l : ℕ). ArePart old (tree_pages old l page ++ free)) level stands.parted in
    let cut = subst (λ (lines : Lines). (free : List ℕ) → IsFreeList lines free → ArePart lines (page ∷ free) → high_of lines ≤ e.pages → CutsLeaf (step (rows_at lines page)) new page outcome) same cuts free stands.is_free part stands.within in
    let b = subst (λ (l : ℕ). Became e.pages old new l page e.low e.high e.root outcome (step (tree_rows old l page)) free) level (edits_old free stands.tree stands.is_free stands.parted stands.within) in
    subst (λ (l : ℕ). ChangesUnder step key old new l page e.root outcome) (sym level) (
      leaf_holds e old new page outcome (step (rows_at old page)) free b whole cut,
      only_moved e.pages old new (page ∷ []) _ free b.rest stands.is_free b.moves,
    )

-- the child that the way goes on to is that of the key
child_is : (told : Bool) (lines : Lines) (count key : ℕ) (from : Passed) (to : Node) (free : List ℕ) → IsTrue told → LeadsTo told lines count key from to → StandsAt lines from.place.page from.place.expect free
    → child_for key 0 (children (bytes_of lines from.place.page)) ≡ to.page
child_is told lines count key from to free t way stands =
    let e = from.place.expect in
    let page = from.place.page in
    let level = to.expect.level in
    let s : Span = record { page = to.page; low = to.expect.low; high = to.expect.high } in
    let found = way.found t (well_formed_top e.pages lines e.level page e.low e.high e.root stands.tree) in
    let d = descends e.pages lines level page e.low e.high e.root key way.at s (subst (λ (l : ℕ). IsTree e.pages lines l page e.low e.high e.root) way.level stands.tree) found
    (omega (arith, way.after, way.above)) (omega (arith, way.within, way.before)) way.above way.within in
    let rest : path lines level (child_for key 0 (children (bytes_of lines page))) key ≡ path lines level to.page key = let whole = d.way in cc in
    same_first lines level key (child_for key 0 (children (bytes_of lines page))) to.page rest

-- what becomes of the page above
above_of : (told : Bool) (count key : ℕ) (old mid new : Lines) (passed : Passed) (child : Node) (before outcome : Outcome) (step : List Row → List Row) (free : List ℕ) → IsLocal key step → IsTrue told → LeadsTo told old count key passed child
    → Edits old mid child.page child.expect before step → Settles mid new passed before outcome → MayFollow before outcome → StandsAt old passed.place.page passed.place.expect free
    → ChangesUnder step key old mid child.expect.level child.page child.expect.root before → HoldsAbove mid new child.expect.level passed.place.page passed.place.expect.root child.expect.low before outcome
above_of told count key old mid new passed child Whole outcome step free local t way edits settles follows stands under = (settles, follows)
above_of told count key old mid new passed child (Alone other) outcome step free local t way edits settles follows stands under = (settles, follows)
above_of told count key old mid new passed child (Cut separator right) outcome step free local t way edits adds follows stands under =
    let e = passed.place.expect in
    let page = passed.place.page in
    let s = stands_child told old count key passed child free t way stands in
    let b = edits free s.tree s.is_free s.parted s.within in
    let above = above_child told old mid count key passed child (tree_pages mid child.expect.level child.page ++ tree_pages mid child.expect.level right) free b.rest child.expect.pages t way stands b.moves in
    let a = adds b.rest b.moves.is_free above.parted (omega (arith, b.moves.within, way.pages)) in
    (added_holds e mid new page _ outcome b.rest (λ ground. omega (arith, ground, way.level)) a, only_moved e.pages mid new (page ∷ []) (own page outcome) b.rest a.stored.rest b.moves.is_free a.stored.moves)
above_of told count key old mid new passed child Short outcome step free local t way edits settles follows stands under =
    let e = passed.place.expect in
    let page = passed.place.page in
    let level = child.expect.level in
    let d = way_down told old count key passed child free t way stands in
    let spot = way.found t (subst (λ (l : ℕ). IsWellFormed (bytes_of old page) (at_level e l)) (sym way.level) d.stands.tree.0) in
    let below = subst (λ (x : Expect). Edits old mid child.page x Short step) (expect_is child.expect level e.pages false refl way.root way.pages) edits in
    let s = short_below e old mid level page key child.page child.expect.low child.expect.high way.at step free local spot way.above way.within below d.stands.tree d.stands.is_free d.stands.parted d.stands.within in
    let mends = subst (λ (l : ℕ). MendsPages mid new page (at_level e l) child.expect.low outcome) way.level (subst (λ (low : ℕ). MendsPages mid new page e low outcome) way.low settles.1) in
    mends level s.rest s.mendable (λ ground.
    let leaf = subst (λ (l : ℕ). ChangesUnder step key old mid l child.page child.expect.root Short) ground under in
    subst (λ (n : ℕ). row_bytes (rows_at mid n) < leaf_floor) s.child_is (subst (λ (rows : List Row). row_bytes rows < leaf_floor) (sym leaf.0.0) leaf.0.2))

-- a page up
pub under_on : (told : Bool) (count key : ℕ) (old mid new : Lines) (passed : Passed) (child : Node) (before outcome : Outcome) (step : List Row → List Row) (free : List ℕ) → IsLocal key step → IsTrue told → LeadsTo told old count key passed child
    → Edits old mid child.page child.expect before step → Settles mid new passed before outcome → MayFollow before outcome → StandsAt old passed.place.page passed.place.expect free
    → ChangesUnder step key old mid child.expect.level child.page child.expect.root before → ChangesUnder step key old new passed.place.expect.level passed.place.page passed.place.expect.root outcome
under_on told count key old mid new passed child before outcome step free local t way edits settles follows stands under =
    let e = passed.place.expect in
    let page = passed.place.page in
    let level = child.expect.level in
    let d = way_down told old count key passed child free t way stands in
    let first = sym (child_is told old count key passed child free t way stands) in
    let has : HasChild (children_at old page) child.expect.low child.page = record { front = d.spot.xs; back = d.spot.ys; are = d.spot.is } in
    let lower = subst (λ (r : Bool). ChangesUnder step key old mid level child.page r before) way.root under in
    let above = above_of told count key old mid new passed child before outcome step free local t way edits settles follows stands under in
    subst (λ (l : ℕ). ChangesUnder step key old new l page e.root outcome) (sym way.level) (
      child.expect.low,
      mid,
      before,
      subst (λ (c : ℕ). HasChild (children_at old page) child.expect.low c) first has,
      subst (λ (c : ℕ). ChangesUnder step key old mid level c false before) first lower,
      above,
    )

-- from the root
pub root_pages : (count n key : ℕ) (old mid new : Lines) (root root' : Root) (top : Node) (outcome : Outcome) (step : List Row → List Row) → n ≡ count → top ≡ root_place root n → Edits old mid top.page top.expect outcome step
    → ((free : List ℕ) → StandsAt old top.page top.expect free → ChangesUnder step key old mid top.expect.level top.page top.expect.root outcome)
    → ((rest : List ℕ) → IsFreeList mid rest → RootHolds mid new root root' outcome) → ChangesPages count key old new root root' step
root_pages count n key old mid new root root' top outcome step is_count is edits under above rows used free rooted is_free part within =
    let stands : StandsAt old top.page top.expect free =
    subst (λ (p : Node). StandsAt old p.page p.expect free) (sym is) (subst (λ (m : ℕ). StandsAt old root.page (root_place root m).expect free) (sym is_count) (record {
      tree = rooted.tree.is_tree;
      is_free = is_free;
      parted = subst (λ (u : List ℕ). ArePart old (u ++ free)) rooted.tree.used_are part;
      within = within;
    })) in
    let b = edits free stands.tree stands.is_free stands.parted stands.within in
    record {
      between = mid;
      outcome = outcome;
      under = subst (λ (p : Node). ChangesUnder step key old mid p.expect.level p.page p.expect.root outcome) is (under free stands);
      top = above b.rest b.moves.is_free;
    }
