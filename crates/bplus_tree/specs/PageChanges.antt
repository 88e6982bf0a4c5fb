-- What the pages on the way to a key hold after a put or a delete, and that no others of the tree change.
use Rattle.std.specs.Prelude.{◌≡◌, ◌≢◌, ℕ, zero, suc, ◌+◌, ◌-◌, ◌<◌, ◌≤◌, ◌⊎◌, Bool, true, false, List, [], ◌∷◌, ◌++◌, Option, None, Some, length}
use Rattle.line_pages.specs.Lines.{Lines}
use Rattle.line_pages.specs.Bytes.{bytes_of}
use Rattle.rows.specs.Rows.{Row}
use Rattle.page_format.specs.Room.{leaf_floor, inner_room, inner_floor}
use Rattle.page_format.specs.Sound.{row_bytes}
use Rattle.page_format.specs.Node.{Child, leaf_rows, children}
use Rattle.page_edit.specs.Join.{unused_word}
use Rattle.node_edit.specs.declared.pair.Pair.{Pair}
use Rattle.node_edit.specs.Edit.{both, joined, child_put}
use Rattle.node_edit.specs.Record.{FitsLeaf}
use Rattle.node_edit.specs.Cuts.{CutsRows, CutsChildren, JoinsRows, JoinsChildren}
use Rattle.tree_search.specs.declared.root.Root.{Root}
use Rattle.tree_search.specs.Tree.{IsRooted, child_for}
use Rattle.page_alloc.specs.Counted.{times}
use Rattle.page_alloc.specs.Space.{high_of, IsFreeList}
use Rattle.page_alloc.specs.Moves.{ArePart}
use Rattle.bplus_tree.specs.declared.outcome.Outcome.{Outcome}
use Rattle.bplus_tree.specs.declared.outcome.Outcome.TheVariants.{Whole, Short, Cut, Alone}

-- the rows and the children that a page holds
abbrev pub rows_at : Lines → ℕ → List Row
rows_at lines page = leaf_rows (bytes_of lines page)

abbrev pub children_at : Lines → ℕ → List Child
children_at lines page = children (bytes_of lines page)

-- No page changes but these, page 0, those that are free and those that were never used.
pub record ChangesOnly (pages : List ℕ) (old new : Lines) : Type 0 where
  pub free : List ℕ
  pub is_free : IsFreeList old free
  pub others : (n : ℕ) → n ≢ 0 → n < high_of old → times n (pages ++ free) ≡ 0 → new n ≡ old n

-- A leaf that is to have these rows holds them where it has room for them, and is short where they are too few for one that is
-- no root. Else it holds the left part of the cut, and a further page the right one.
abbrev pub LeafHolds : Lines → ℕ → Bool → List Row → Outcome → Type 0
LeafHolds lines page root rows Whole = (rows_at lines page ≡ rows) × FitsLeaf (root ≡ true) rows
LeafHolds lines page root rows Short = (rows_at lines page ≡ rows) × (root ≡ false) × (row_bytes rows < leaf_floor)
LeafHolds lines page root rows (Cut separator right) = CutsRows rows (rows_at lines page) (rows_at lines right) separator
LeafHolds lines page root rows (Alone child) = ⊥

-- The same of an inner page and its children; a root that would have one child alone gives way to it.
abbrev pub InnerHolds : Lines → ℕ → Bool → List Child → Outcome → Type 0
InnerHolds lines page root all Whole = (children_at lines page ≡ all) × (length all ≤ inner_room) × ((root ≡ true) ⊎ (inner_floor ≤ length all))
InnerHolds lines page root all Short = (children_at lines page ≡ all) × (root ≡ false) × (length all < inner_floor)
InnerHolds lines page root all (Cut separator right) = CutsChildren all (children_at lines page) (children_at lines right) separator
InnerHolds lines page root all (Alone child) = (root ≡ true) × (low : ℕ) × (all ≡ (low, child) ∷ [])

-- Two neighbours after a join, leaves at level 0 and inner pages above: the left one keeps its number and has all where it has
-- room for them, else their entries are cut between the two.
abbrev pub PairHolds : ℕ → List ℕ → List ℕ → List ℕ → List ℕ → Option ℕ → Type 0
PairHolds zero one two left right cut = JoinsRows (leaf_rows one ++ leaf_rows two) (leaf_rows left) (leaf_rows right) cut
PairHolds (suc level) one two left right cut = JoinsChildren (children one ++ children two) (children left) (children right) cut

-- The page above a child that fell short, whose first key is this: the child is joined with its right sibling, or with the left
-- one where it is the last child.
pub record JoinsSibling (old new : Lines) (level page : ℕ) (root : Bool) (key : ℕ) (outcome : Outcome) : Type 0 where
  pub pair : Pair
  pub front : List Child
  pub back : List Child
  pub are : children_at old page ≡ front ++ (both pair ++ back)
  pub sibling : (pair.low ≡ key) ⊎ ((pair.middle ≡ key) × (back ≡ []))
  pub cut : Option ℕ
  pub joins : PairHolds level (bytes_of old pair.left) (bytes_of old pair.right) (bytes_of new pair.left) (bytes_of new pair.right) cut
  pub above : InnerHolds new page root (front ++ (joined pair cut ++ back)) outcome
  pub only : ChangesOnly (page ∷ pair.left ∷ pair.right ∷ []) old new

-- The page above a child that became this: after a cut it has the right part as a further child from the separator on.
abbrev pub HoldsAbove : Lines → Lines → ℕ → ℕ → Bool → ℕ → Outcome → Outcome → Type 0
HoldsAbove old new level page root key Whole outcome = (new ≡ old) × (outcome ≡ Whole)
HoldsAbove old new level page root key Short outcome = JoinsSibling old new level page root key outcome
HoldsAbove old new level page root key (Cut separator right) outcome =
    InnerHolds new page root (child_put separator right (children_at old page)) outcome × ChangesOnly (page ∷ []) old new
HoldsAbove old new level page root key (Alone child) outcome = (new ≡ old) × (outcome ≡ Whole)

-- some children have this one, from this key on
pub record HasChild (all : List Child) (key page : ℕ) : Type 0 where
  pub front : List Child
  pub back : List Child
  pub are : all ≡ front ++ ((key, page) ∷ back)

-- The rows of the leaf of a key go through a step, and then the pages above it follow, one level after the other.
abbrev pub ChangesUnder : (List Row → List Row) → ℕ → Lines → Lines → ℕ → ℕ → Bool → Outcome → Type 0
ChangesUnder step key old new zero page root outcome = LeafHolds new page root (step (rows_at old page)) outcome × ChangesOnly (page ∷ []) old new
ChangesUnder step key old new (suc level) page root outcome =
    (first : ℕ) × (between : Lines) × (below : Outcome)
    × HasChild (children_at old page) first (child_for key 0 (children_at old page))
    × ChangesUnder step key old between level (child_for key 0 (children_at old page)) false below
    × HoldsAbove between new level page root first below outcome

-- A new root has the two parts of the old one as its children, and its unused word is 0.
pub record IsRootOver (old new : Lines) (root root' : Root) (separator right : ℕ) : Type 0 where
  pub levels : root'.levels ≡ root.levels + 1
  pub children_are : children_at new root'.page ≡ (0, root.page) ∷ (separator, right) ∷ []
  pub unused : unused_word (bytes_of new root'.page) ≡ 0
  pub only : ChangesOnly [] old new

-- the root of a tree whose page became this
abbrev pub RootHolds : Lines → Lines → Root → Root → Outcome → Type 0
RootHolds old new root root' Whole = (new ≡ old) × (root' ≡ root)
RootHolds old new root root' Short = (new ≡ old) × (root' ≡ root)
RootHolds old new root root' (Cut separator right) = IsRootOver old new root root' separator right
RootHolds old new root root' (Alone child) = (new ≡ old) × (root' ≡ record { page = child; levels = root.levels - 1 })

-- The pages of a tree before and after the rows of a key's leaf went through a step.
pub record PagesChanged (step : List Row → List Row) (key : ℕ) (old new : Lines) (root root' : Root) : Type 0 where
  pub between : Lines
  pub outcome : Outcome
  pub under : ChangesUnder step key old between (root.levels - 1) root.page true outcome
  pub top : RootHolds between new root root' outcome

-- It is said where there is a tree beside a free list.
abbrev pub ChangesPages : ℕ → ℕ → Lines → Lines → Root → Root → (List Row → List Row) → Type 0
ChangesPages count key old new root root' step =
    (rows : List Row) (used free : List ℕ) → IsRooted count old root rows used → IsFreeList old free → ArePart old (used ++ free) → high_of old ≤ count
    → PagesChanged step key old new root root'

-- a leaf that was cut holds the left part, and a further page the right one
abbrev pub CutsLeaf : List Row → Lines → ℕ → Outcome → Type 0
CutsLeaf rows lines page Whole = Unit {0}
CutsLeaf rows lines page Short = Unit {0}
CutsLeaf rows lines page (Cut separator right) = CutsRows rows (rows_at lines page) (rows_at lines right) separator
CutsLeaf rows lines page (Alone child) = Unit {0}
