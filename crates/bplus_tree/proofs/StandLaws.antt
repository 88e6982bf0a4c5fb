-- Trees beside a free list along the way to a key.
use Rattle.std.proofs.Common.{◌≡◌, ℕ, suc, ◌+◌, ◌≤◌, Bool, false, List, [], ◌∷◌, ◌++◌, IsTrue, Result, IfErr, refl, sym, ap, subst, arith}
use Rattle.line_pages.specs.declared.stop.Stop.{Stop}
use Rattle.line_pages.specs.Lines.{Lines}
use Rattle.line_pages.specs.Bytes.{bytes_of}
use Rattle.rows.specs.Rows.{Row}
use Rattle.page_format.specs.Spans.{spans}
use Rattle.page_format.specs.Node.{Child, children, IsWellFormed}
use Rattle.bplus_tree.specs.declared.outcome.Outcome.{Outcome}
use Rattle.bplus_tree.specs.declared.outcome.Outcome.TheVariants.{Whole, Short, Cut, Alone}
use Rattle.bplus_tree.specs.declared.path.Node.{Node}
use Rattle.bplus_tree.specs.declared.path.Passed.{Passed}
use Rattle.page_alloc.specs.Space.{free_head, IsFreeList, FitsHeader}
use Rattle.page_alloc.specs.Counted.{times}
use Rattle.tree_search.specs.Tree.{IsTree, tree_pages, tree_rows, pages_of}
use Rattle.page_alloc.specs.Moves.{ArePart, Moves}
use Rattle.page_alloc.specs.Stops.{StopsFor, IsShort, spare_pages}
use Rattle.bplus_tree.specs.Edit.{Became, Edits, own}
use Rattle.bplus_tree.specs.Path.{LeadsTo, Leads, Settles, MayFollow, StandsAt, TakesFor}
use Rattle.page_alloc.proofs.CountedLaws.{times-append, SameOn-first}
use Rattle.tree_search.proofs.OrderLaws.{IsChildTree, Each-get, Located, located}
use Rattle.page_alloc.proofs.SpaceLaws.{free_from-unique}
use Rattle.page_alloc.proofs.Places.{Moves-widen, part_after, same_beside}
use Rattle.bplus_tree.proofs.Editing.{at_level, child_part, three_pages}
use Rattle.page_alloc.proofs.LackLaws.{stops_wider, at_hand-kept}
use Rattle.tree_search.proofs.SearchLaws.{well_formed_top}

-- the child that the way goes on to, in the page that it leaves
pub record WayDown (lines : Lines) (from : Node) (to : Node) (free : List ℕ) : Type 0 where
  pub stands : StandsAt lines from.page (at_level from.expect (suc to.expect.level)) free
  pub spot : Located (children (bytes_of lines from.page)) from.expect.high (record { page = to.page; low = to.expect.low; high = to.expect.high })
  pub below : IsTree from.expect.pages lines to.expect.level to.page to.expect.low to.expect.high false

pub way_down : (told : Bool) (lines : Lines) (count key : ℕ) (from : Passed) (to : Node) (free : List ℕ) → IsTrue told → LeadsTo told lines count key from to → StandsAt lines from.place.page from.place.expect free
    → WayDown lines from.place to free
way_down told lines count key from to free t way stands =
    let e = from.place.expect in
    let page = from.place.page in
    let level = to.expect.level in
    let inner = subst (λ (l : ℕ). StandsAt lines page (at_level e l) free) way.level stands in
    let spot = way.found t (subst (λ (l : ℕ). IsWellFormed (bytes_of lines page) (at_level e l)) (sym way.level) inner.tree.0) in
    record {
      stands = inner;
      spot = located (children (bytes_of lines page)) e.high way.at (record { page = to.page; low = to.expect.low; high = to.expect.high }) spot;
      below = Each-get (IsChildTree e.pages lines level) (spans (children (bytes_of lines page)) e.high) way.at (record { page = to.page; low = to.expect.low; high = to.expect.high }) inner.tree.1 spot;
    }

pub stands_child : (told : Bool) (lines : Lines) (count key : ℕ) (from : Passed) (to : Node) (free : List ℕ) → IsTrue told → LeadsTo told lines count key from to → StandsAt lines from.place.page from.place.expect free
    → StandsAt lines to.page to.expect free
stands_child told lines count key from to free t way stands =
    let level = to.expect.level in
    let d = way_down told lines count key from to free t way stands in
    record {
      tree = subst (λ (n : ℕ). IsTree n lines level to.page to.expect.low to.expect.high to.expect.root) (sym way.pages)
          (subst (λ (r : Bool). IsTree from.place.expect.pages lines level to.page to.expect.low to.expect.high r) (sym way.root) d.below);
      is_free = stands.is_free;
      parted = child_part lines level from.place.page d.spot.xs d.spot.ys (to.expect.low, to.page) free d.spot.is d.stands.parted;
      within = omega (arith, stands.within, way.pages);
    }

pub leads_stands : (told : Bool) (lines : Lines) (count key : ℕ) (top bottom : Node) (path : List Passed) (free : List ℕ) → IsTrue told → Leads told lines count key top path bottom
    → StandsAt lines top.page top.expect free → StandsAt lines bottom.page bottom.expect free
leads_stands told lines count key top bottom [] free t leads stands = subst (λ (p : Node). StandsAt lines p.page p.expect free) leads stands
leads_stands told lines count key top bottom (passed ∷ path) free t leads stands =
    let here = subst (λ (p : Node). StandsAt lines p.page p.expect free) (sym leads.0) stands in
    leads_stands told lines count key leads.1 bottom path free t leads.3 (stands_child told lines count key passed leads.1 free t leads.2 here)

-- the page above a child that was changed
pub record AboveChild (old mid : Lines) (page : ℕ) (rest : List ℕ) : Type 0 where
  pub parted : ArePart mid (page ∷ rest)
  pub same : mid page ≡ old page

pub above_child : (told : Bool) (old mid : Lines) (count key : ℕ) (from : Passed) (to : Node) (used' free rest : List ℕ) (n : ℕ) → IsTrue told → LeadsTo told old count key from to → StandsAt old from.place.page from.place.expect free
    → Moves n old mid (tree_pages old to.expect.level to.page) used' free rest → AboveChild old mid from.place.page rest
above_child told old mid count key from to used' free rest n t way stands m =
    let page = from.place.page in
    let level = to.expect.level in
    let d = way_down told old count key from to free t way stands in
    let c : Child = (to.expect.low, to.page) in
    let wide = page ∷ tree_pages old level to.page in
    let whole : ArePart old (wide ++ free) =
    λ i. omega (
      arith,
      d.stands.parted i,
      ap (λ all. times i (pages_of old level all)) d.spot.is,
      three_pages old level d.spot.xs (c ∷ []) d.spot.ys i,
      times-append i (tree_pages old level to.page) [],
      times-append i (tree_pages old (suc level) page) free,
      times-append i wide free,
    ) in
    let moved = Moves-widen wide (page ∷ used') m (λ i. omega arith) (λ i. omega arith) in
    let after = part_after whole moved in
    record {
      parted = λ i. omega (arith, after i, times-append i (page ∷ used') rest, times-append i (page ∷ []) rest);
      same = SameOn-first page [] old mid (same_beside wide (page ∷ []) whole m (λ i. omega arith));
    }

-- how many pages are taken for a leaf that is cut
pub takes_leaf : (count : ℕ) (old new : Lines) (leaf : Node) (outcome : Outcome) (step : List Row → List Row) → leaf.expect.level ≡ 0 → leaf.expect.pages ≡ count → Edits old new leaf.page leaf.expect outcome step
    → TakesFor count old new leaf.page leaf.expect outcome
takes_leaf count old new leaf outcome step level is_count edits free rest key right is stands is_rest =
    let b = subst (λ (o : Outcome). Became leaf.expect.pages old new leaf.expect.level leaf.page leaf.expect.low leaf.expect.high leaf.expect.root o (step (tree_rows old leaf.expect.level leaf.page)) free) is
    (edits free stands.tree stands.is_free stands.parted stands.within) in
    let moves = subst (λ (l : ℕ). Moves leaf.expect.pages old new (tree_pages old l leaf.page) (tree_pages new l leaf.page ++ tree_pages new l right) free b.rest) level b.moves in
    let kept = subst (λ (n : ℕ). 2 + spare_pages n new b.rest ≡ 1 + spare_pages n old free) is_count (at_hand-kept moves) in
    let same : b.rest ≡ rest = free_from-unique new (free_head new) b.rest rest b.moves.is_free is_rest in
    let now = subst (λ (r : List ℕ). 2 + spare_pages count new r ≡ 1 + spare_pages count old free) same kept in
    omega (arith, now)

-- and for the pages above it
pub takes_above : (told : Bool) (count key : ℕ) (old mid new : Lines) (passed : Passed) (child : Node) (before outcome : Outcome) (step : List Row → List Row) → IsTrue told → passed.place.expect.pages ≡ count → LeadsTo told old count key passed child
    → Edits old mid child.page child.expect before step → TakesFor count old mid child.page child.expect before → Settles mid new passed before outcome → MayFollow before outcome
    → TakesFor count old new passed.place.page passed.place.expect outcome
takes_above told count key old mid new passed child Whole outcome step t is_count way edits takes settles follows free rest k r is stands is_rest = let whole = follows in absurd (cc)
takes_above told count key old mid new passed child (Alone other) outcome step t is_count way edits takes settles follows free rest k r is stands is_rest = let whole = follows in absurd (cc)
takes_above told count key old mid new passed child Short outcome step t is_count way edits takes settles follows free rest k r is stands is_rest = absurd (follows k r is)
takes_above told count key old mid new passed child (Cut separator right) outcome step t is_count way edits takes adds follows free rest k r is stands is_rest =
    let e = passed.place.expect in
    let page = passed.place.page in
    let s = stands_child told old count key passed child free t way stands in
    let b = edits free s.tree s.is_free s.parted s.within in
    let taken = takes free b.rest separator right refl s b.moves.is_free in
    let above = above_child told old mid count key passed child (tree_pages mid child.expect.level child.page ++ tree_pages mid child.expect.level right) free b.rest child.expect.pages t way stands b.moves in
    let a = adds b.rest b.moves.is_free above.parted (omega (arith, b.moves.within, way.pages)) in
    let moves = subst (λ (o : Outcome). Moves e.pages mid new (page ∷ []) (own page o) b.rest a.stored.rest) is a.stored.moves in
    let kept = subst (λ (n : ℕ). 2 + spare_pages n new a.stored.rest ≡ 1 + spare_pages n mid b.rest) is_count (at_hand-kept moves) in
    let same : a.stored.rest ≡ rest = free_from-unique new (free_head new) a.stored.rest rest a.stored.moves.is_free is_rest in
    let now = subst (λ (x : List ℕ). 2 + spare_pages count new x ≡ 1 + spare_pages count mid b.rest) same kept in
    omega (arith, now, taken, way.level)

-- the stops at a leaf
pub leaf_stops : {T : Type 0} (count n : ℕ) (old first : Lines) (leaf : Node) (free : List ℕ) (most : ℕ) (Full : Type 0) (result : Result T Stop) → leaf.expect.level ≡ 0 → n ≡ count → first ≡ old
    → StandsAt old leaf.page leaf.expect free → FitsHeader count (old 0 0)
    → ((free : List ℕ) → IsWellFormed (bytes_of first leaf.page) leaf.expect → IsFreeList first free → ArePart first (leaf.page ∷ free) → FitsHeader n (first 0 0) → IfErr result (IsShort (spare_pages n first free) 0))
    → IfErr result (StopsFor (spare_pages count old free ≤ most) Full)
leaf_stops count n old first leaf free most Full result level is_count same stands fits sound =
    let well = well_formed_top leaf.expect.pages old leaf.expect.level leaf.page leaf.expect.low leaf.expect.high leaf.expect.root stands.tree in
    let part = subst (λ (l : ℕ). ArePart old (tree_pages old l leaf.page ++ free)) level stands.parted in
    stops_wider (spare_pages count old free ≤ 0) (spare_pages count old free ≤ most) ⊥ Full (λ none. omega (arith, none)) (λ never. absurd never) result
    (subst (λ (m : ℕ). FitsHeader m (old 0 0) → IfErr result (IsShort (spare_pages m old free) 0)) is_count
    (subst (λ (lines : Lines). IsWellFormed (bytes_of lines leaf.page) leaf.expect → IsFreeList lines free → ArePart lines (leaf.page ∷ free) → FitsHeader n (lines 0 0) → IfErr result (IsShort (spare_pages n lines free) 0)) same (sound free)
    well stands.is_free part) fits)
