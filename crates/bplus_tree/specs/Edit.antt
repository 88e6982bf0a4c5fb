-- What the calls that change a tree do to the pages under a page.
use Rattle.std.specs.Prelude.{◌≡◌, ◌≢◌, ℕ, suc, ◌+◌, ◌-◌, ◌*◌, ◌<◌, ◌≤◌, ◌⊎◌, Bool, true, false, List, [], ◌∷◌, ◌++◌, Option, None, Some, max, length}
use Rattle.line_pages.specs.Lines.{Lines}
use Rattle.line_pages.specs.Bytes.{bytes_of}
use Rattle.page_format.specs.declared.root.Expect.{Expect}
use Rattle.rows.specs.Rows.{Row, Each}
use Rattle.page_format.specs.Spans.{Span, reach, spans}
use Rattle.page_format.specs.Node.{Child, children, entry_count, IsWellFormed}
use Rattle.tree_search.specs.declared.root.Root.{Root}
use Rattle.node_edit.specs.declared.fit.Fit.{Fit}
use Rattle.node_edit.specs.declared.fit.Fit.TheVariants as fits
use Rattle.bplus_tree.specs.declared.outcome.Outcome.{Outcome}
use Rattle.bplus_tree.specs.declared.outcome.Outcome.TheVariants.{Whole, Short, Cut, Alone}
use Rattle.node_edit.specs.declared.pair.Pair.{Pair}
use Rattle.page_alloc.specs.Space.{high_of, IsFreeList}
use Rattle.tree_search.specs.Tree.{IsTree, tree_rows, tree_pages, pages_of, rows_of}
use Rattle.page_alloc.specs.Moves.{ArePart, Moves, SameEntries, Gives}
use Rattle.page_alloc.specs.Written.{Rewrites}
use Rattle.node_edit.specs.Edit.{Fits, Mended, both, child_put, joined}
use Rattle.node_edit.specs.Cuts.{CutsChildren}
use Rattle.page_format.specs.Room.{leaf_floor}
use Rattle.page_format.specs.Sound.{row_bytes}
use Rattle.bplus_tree.specs.PageChanges.{PairHolds, JoinsSibling, rows_at}

-- what stands for a page afterwards: its pages, its rows, and that it is a tree, or two that part at a key
abbrev pub pages_left : Lines → ℕ → ℕ → Outcome → List ℕ
pages_left lines level page Whole = tree_pages lines level page
pages_left lines level page Short = tree_pages lines level page
pages_left lines level page (Cut key right) = tree_pages lines level page ++ tree_pages lines level right
pages_left lines level page (Alone child) = tree_pages lines (level - 1) child

abbrev pub rows_left : Lines → ℕ → ℕ → Outcome → List Row
rows_left lines level page Whole = tree_rows lines level page
rows_left lines level page Short = tree_rows lines level page
rows_left lines level page (Cut key right) = tree_rows lines level page ++ tree_rows lines level right
rows_left lines level page (Alone child) = tree_rows lines (level - 1) child

abbrev pub TreeLeft : ℕ → Lines → ℕ → ℕ → ℕ → ℕ → Bool → Outcome → Type 0
TreeLeft count lines level page low high root Whole = IsTree count lines level page low high root
TreeLeft count lines level page low high root Short = IsTree count lines level page low high true
TreeLeft count lines level page low high root (Cut key right) = IsTree count lines level page low (key - 1) false × IsTree count lines level right key high false
TreeLeft count lines level page low high root (Alone child) = (root ≡ true) × (1 ≤ level) × IsTree count lines (level - 1) child low high true

-- The tree under a page before and after: with these rows, in what stands for the page.
pub record Became (count : ℕ) (old new : Lines) (level page low high : ℕ) (root : Bool) (outcome : Outcome) (rows' : List Row) (free : List ℕ) : Type 0 where
  pub rest : List ℕ
  pub moves : Moves count old new (tree_pages old level page) (pages_left new level page outcome) free rest
  pub entries : SameEntries old new
  pub tree : TreeLeft count new level page low high root outcome
  pub rows : rows_left new level page outcome ≡ rows'

-- A call that changes the rows of the tree under a page by `step`. It is said where there is a tree and a free list.
abbrev pub Edits : Lines → Lines → ℕ → Expect → Outcome → (List Row → List Row) → Type 0
Edits old new page expect outcome step =
    (free : List ℕ) → IsTree expect.pages old expect.level page expect.low expect.high expect.root → IsFreeList old free → ArePart old (tree_pages old expect.level page ++ free)
    → high_of old ≤ expect.pages
    → Became expect.pages old new expect.level page expect.low expect.high expect.root outcome (step (tree_rows old expect.level page)) free

-- what an outcome has, whatever the pages hold
abbrev pub IsSafe : ℕ → Expect → Outcome → Type 0
IsSafe count expect Whole = Unit {0}
IsSafe count expect Short = Unit {0}
IsSafe count expect (Cut key right) = (expect.low < key) × (key ≤ expect.high) × (1 ≤ right) × (right < count)
IsSafe count expect (Alone child) = (1 ≤ expect.level) × (1 ≤ child) × (child < count)

-- a root at level 3 is not cut
abbrev pub StaysBelow : Expect → Outcome → Type 0
StaysBelow expect Whole = Unit {0}
StaysBelow expect Short = Unit {0}
StaysBelow expect (Cut key right) = expect.root ≡ true → expect.level ≢ 3
StaysBelow expect (Alone child) = Unit {0}

-- some children in place of others
pub record Turns (count : ℕ) (old new : Lines) (level : ℕ) (ss ms : List Child) (high : ℕ) (rows' : List Row) (free : List ℕ) : Type 0 where
  pub rest : List ℕ
  pub moves : Moves count old new (pages_of old level ss) (pages_of new level ms) free rest
  pub entries : SameEntries old new
  pub trees : Each (λ (s : Span). IsTree count new level s.page s.low s.high false) (spans ms high)
  pub rows : rows_of new level ms ≡ rows'

abbrev pub Joins : ℕ → Lines → Lines → ℕ → Pair → Option ℕ → Type 0
Joins count old new level pair cut =
    (free : List ℕ) (left_loose right_loose : Bool) → IsTree count old level pair.left pair.low (pair.middle - 1) left_loose → IsTree count old level pair.right pair.middle pair.high right_loose
    → (left_loose ≡ false) ⊎ (right_loose ≡ false) → IsFreeList old free → ArePart old (pages_of old level (both pair) ++ free) → high_of old ≤ count
    → Turns count old new level (both pair) (joined pair cut) pair.high (rows_of old level (both pair)) free

-- the pages that are left of two neighbours
abbrev pub left_pages : Pair → Option ℕ → List ℕ
left_pages pair None = pair.left ∷ []
left_pages pair (Some key) = pair.left ∷ pair.right ∷ []

-- two neighbours that were joined, by the pages that hold their entries
pub record PairJoined (count : ℕ) (old new : Lines) (level : ℕ) (pair : Pair) (cut : Option ℕ) (free : List ℕ) : Type 0 where
  pub rest : List ℕ
  pub moves : Moves count old new (pair.left ∷ pair.right ∷ []) (left_pages pair cut) free rest
  pub holds : PairHolds level (bytes_of old pair.left) (bytes_of old pair.right) (bytes_of new pair.left) (bytes_of new pair.right) cut

-- It is said where one of two leaves is below the floor.
abbrev pub JoinsPair : ℕ → Lines → Lines → ℕ → Pair → Option ℕ → Type 0
JoinsPair count old new level pair cut =
    (free : List ℕ) → IsFreeList old free → ArePart old (pair.left ∷ pair.right ∷ free) → high_of old ≤ count
    → (level ≡ 0 → (row_bytes (rows_at old pair.left) < leaf_floor) ⊎ (row_bytes (rows_at old pair.right) < leaf_floor))
    → PairJoined count old new level pair cut free

-- A page of this tree, whose child at a key may be below the floor, beside a free list.
pub record IsMendable (lines : Lines) (page : ℕ) (expect : Expect) (key level : ℕ) (free : List ℕ) : Type 0 where
  pub is_level : expect.level ≡ suc level
  pub xs : List Child
  pub ys : List Child
  pub s : Child
  pub at_key : s.0 ≡ key
  pub are : children (bytes_of lines page) ≡ xs ++ ((s ∷ []) ++ ys)
  pub well : IsWellFormed (bytes_of lines page) expect
  pub front : Each (λ (t : Span). IsTree expect.pages lines level t.page t.low t.high false) (spans xs (s.0 - 1))
  pub short : IsTree expect.pages lines level s.1 s.0 (reach ys expect.high) true
  pub back : Each (λ (t : Span). IsTree expect.pages lines level t.page t.low t.high false) (spans ys expect.high)
  pub is_free : IsFreeList lines free
  pub parted : ArePart lines ((page ∷ pages_of lines level (children (bytes_of lines page))) ++ free)
  pub within : high_of lines ≤ expect.pages

-- Such a page is mended: its rows stay.
abbrev pub Mends : Lines → Lines → ℕ → Expect → ℕ → Outcome → Type 0
Mends old new page expect key outcome =
    (level : ℕ) (free : List ℕ) → IsMendable old page expect key level free
    → Became expect.pages old new expect.level page expect.low expect.high expect.root outcome (rows_of old level (children (bytes_of old page))) free

-- The child is joined with a sibling where it is below the floor.
abbrev pub MendsPages : Lines → Lines → ℕ → Expect → ℕ → Outcome → Type 0
MendsPages old new page expect key outcome =
    (level : ℕ) (free : List ℕ) → (m : IsMendable old page expect key level free) → (level ≡ 0 → row_bytes (rows_at old m.s.1) < leaf_floor)
    → JoinsSibling old new level page expect.root key outcome

-- the pages that were written
abbrev pub own : ℕ → Outcome → List ℕ
own page Whole = page ∷ []
own page Short = page ∷ []
own page (Cut key right) = page ∷ right ∷ []
own page (Alone child) = page ∷ []

abbrev pub Shows : Lines → ℕ → Outcome → List ℕ → List ℕ → Type 0
Shows lines page Whole left right = bytes_of lines page ≡ left
Shows lines page Short left right = bytes_of lines page ≡ left
Shows lines page (Cut key more) left right = (bytes_of lines page ≡ left) × (bytes_of lines more ≡ right)
Shows lines page (Alone child) left right = ⊥

-- a cut at a key
abbrev pub IsCutAt : ℕ → ℕ → Outcome → Type 0
IsCutAt count at Whole = ⊥
IsCutAt count at Short = ⊥
IsCutAt count at (Cut key right) = (key ≡ at) × (1 ≤ right) × (right < count)
IsCutAt count at (Alone child) = ⊥

-- the outcome that the bytes of a page lead to
abbrev pub IsOutcome : ℕ → Fit → Outcome → Type 0
IsOutcome count fits.Whole outcome = outcome ≡ Whole
IsOutcome count fits.Short outcome = outcome ≡ Short
IsOutcome count (fits.Cut at) outcome = IsCutAt count at outcome

-- the bytes of a page, and those of a further page where it was cut, stand in the store
pub record Stored (count : ℕ) (old new : Lines) (page : ℕ) (outcome : Outcome) (left right free : List ℕ) : Type 0 where
  pub rest : List ℕ
  pub moves : Moves count old new (page ∷ []) (own page outcome) free rest
  pub entries : SameEntries old new
  pub shows : Shows new page outcome left right

abbrev pub Stores : ℕ → Lines → Lines → ℕ → Outcome → List ℕ → List ℕ → Type 0
Stores count old new page outcome left right =
    (free : List ℕ) → IsFreeList old free → ArePart old (page ∷ free) → high_of old ≤ count → Stored count old new page outcome left right free

-- One more child for an inner page, whose children and their pages are written already.
pub record Added (old new : Lines) (page : ℕ) (expect : Expect) (all : List Child) (outcome : Outcome) (free : List ℕ) : Type 0 where
  pub left : List ℕ
  pub right : List ℕ
  pub fit : Fit
  pub stored : Stored expect.pages old new page outcome left right free
  pub held : Fits children expect left right all fit
  pub is : IsOutcome expect.pages fit outcome
  pub long : fit ≢ fits.Short
  pub parts : (key : ℕ) → fit ≡ fits.Cut key → CutsChildren all (children left) (children right) key

abbrev pub AddsChild : Lines → Lines → ℕ → Expect → ℕ → ℕ → Outcome → Type 0
AddsChild old new page expect key child outcome =
    (free : List ℕ) → IsFreeList old free → ArePart old (page ∷ free) → high_of old ≤ expect.pages
    → Added old new page expect (child_put key child (children (bytes_of old page))) outcome free

-- the root after a call that did not cut it
abbrev pub root_left : Root → Outcome → Root
root_left root Whole = root
root_left root Short = root
root_left root (Cut key right) = root
root_left root (Alone child) = record { page = child; levels = root.levels - 1 }

-- the lines that are written for a page of which so many changed
abbrev pub spent : ℕ → Fit → ℕ
spent n fits.Whole = n
spent n fits.Short = n
spent n (fits.Cut key) = 129

-- the lines that were written for a tree of this level
abbrev pub IsSpent : ℕ → ℕ → ℕ → Outcome → Type 0
IsSpent level old new Whole = old ≤ new + max (129 * level + 129) (189 * level + 33)
IsSpent level old new Short = old ≤ new + (189 * level + 33)
IsSpent level old new (Cut key right) = old ≤ new + (129 * level + 129)
IsSpent level old new (Alone child) = old ≤ new + max (129 * level + 129) (189 * level + 33)

-- two neighbours that were written: the left one with these bytes, and the right one given back, or written too
pub record WritesJoined (count : ℕ) (old new : Lines) (pair : Pair) (left : List ℕ) : Type 0 where
  pub between : Lines
  pub first : Rewrites pair.left left old between
  pub gives : Gives count between new pair.right

pub record WritesDivided (old new : Lines) (pair : Pair) (left right : List ℕ) : Type 0 where
  pub between : Lines
  pub first : Rewrites pair.left left old between
  pub second : Rewrites pair.right right between new

abbrev pub after_fit : Fit → Outcome
after_fit fits.Whole = Whole
after_fit fits.Short = Short
after_fit (fits.Cut key) = Whole

-- The page above after a join: written with its children, or given back where one is left.
pub record MendWritten (old new : Lines) (page : ℕ) (expect : Expect) (pair : Pair) (cut : Option ℕ) (outcome : Outcome) : Type 0 where
  pub fit : Fit
  pub bytes : List ℕ
  pub mended : Mended expect (bytes_of old page) bytes pair cut fit
  pub wrote : Rewrites page bytes old new
  pub uncut : (key : ℕ) → fit ≢ fits.Cut key
  pub short : fit ≡ fits.Short → (expect.root ≡ false) × (length (children bytes) < 80)
  pub is : outcome ≡ after_fit fit

pub record MendGiven (count : ℕ) (old new : Lines) (page : ℕ) (pair : Pair) (cut : Option ℕ) (outcome : Outcome) : Type 0 where
  pub few : entry_count (bytes_of old page) < 3
  pub none : cut ≡ None
  pub gives : Gives count old new page
  pub is : outcome ≡ Alone pair.left

abbrev pub Rewritten : ℕ → Lines → Lines → ℕ → Expect → Pair → Option ℕ → Outcome → Type 0
Rewritten count old new page expect pair cut outcome = MendWritten old new page expect pair cut outcome ⊎ MendGiven count old new page pair cut outcome
