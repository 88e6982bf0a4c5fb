-- The way down to a key, and what becomes of the pages on it.
use Rattle.std.specs.Prelude.{◌≡◌, ◌≢◌, ℕ, suc, ◌+◌, ◌-◌, ◌<◌, ◌≤◌, Bool, true, false, List, [], ◌∷◌, ◌++◌, Some, slice_get, IsTrue}
use Rattle.line_pages.specs.Lines.{Lines}
use Rattle.line_pages.specs.Bytes.{bytes_of}
use Rattle.page_format.specs.declared.root.Expect.{Expect}
use Rattle.page_format.specs.Search.{is_root_span}
use Rattle.rows.specs.Rows.{last_key}
use Rattle.page_format.specs.Spans.{spans}
use Rattle.page_format.specs.Node.{children, entry_count, IsWellFormed}
use Rattle.tree_search.specs.declared.root.Root.{Root}
use Rattle.bplus_tree.specs.declared.outcome.Outcome.{Outcome}
use Rattle.bplus_tree.specs.declared.outcome.Outcome.TheVariants.{Whole, Short, Cut, Alone}
use Rattle.bplus_tree.specs.declared.path.Node.{Node}
use Rattle.bplus_tree.specs.declared.path.Passed.{Passed}
use Rattle.line_pages.specs.declared.stop.Stop.{Stop}
use Rattle.page_alloc.specs.Space.{high_of, IsFreeList}
use Rattle.tree_search.specs.Tree.{IsTree, tree_pages}
use Rattle.page_alloc.specs.Moves.{ArePart}
use Rattle.page_alloc.specs.Stops.{IsFault, StopsFor, spare_pages}
use Rattle.bplus_tree.specs.Edit.{IsMendable, Mends, MendsPages, AddsChild}

-- the place of a root
abbrev pub root_place : Root → ℕ → Node
root_place root count = record { page = root.page; expect = record { level = root.levels - 1; low = 0; high = last_key; root = true; pages = count } }

-- A page of the store, which is a root exactly where its bounds are those of all keys.
pub record IsPlace (count : ℕ) (place : Node) : Type 0 where
  pub some : 1 ≤ place.page
  pub page : place.page < count
  pub pages : place.expect.pages ≡ count
  pub root : is_root_span place.expect.low place.expect.high ≡ true → place.expect.root ≡ true
  pub span : place.expect.root ≡ true → is_root_span place.expect.low place.expect.high ≡ true

-- The way of a key goes from a page to this child of it, whose bounds have the key between them.
pub record LeadsTo (told : Bool) (lines : Lines) (count key : ℕ) (from : Passed) (to : Node) : Type 0 where
  pub place : IsPlace count from.place
  pub level : from.place.expect.level ≡ suc to.expect.level
  pub pages : to.expect.pages ≡ from.place.expect.pages
  pub root : to.expect.root ≡ false
  pub low : from.low ≡ to.expect.low
  pub after : from.place.expect.low ≤ to.expect.low
  pub above : to.expect.low ≤ key
  pub within : key ≤ to.expect.high
  pub before : to.expect.high ≤ from.place.expect.high
  pub at : ℕ
  pub found : IsTrue told → IsWellFormed (bytes_of lines from.place.page) from.place.expect
      → slice_get (spans (children (bytes_of lines from.place.page)) from.place.expect.high) at ≡ Some (record { page = to.page; low = to.expect.low; high = to.expect.high })

-- The way of a key goes from the top over these pages to the bottom.
abbrev pub Leads : Bool → Lines → ℕ → ℕ → Node → List Passed → Node → Type 0
Leads told lines count key top [] bottom = top ≡ bottom
Leads told lines count key top (passed ∷ rest) bottom = (passed.place ≡ top) × (next : Node) × LeadsTo told lines count key passed next × Leads told lines count key next rest bottom

-- what was done to a page above a child that became this
abbrev pub Settles : Lines → Lines → Passed → Outcome → Outcome → Type 0
Settles old new passed Whole outcome = new ≡ old
Settles old new passed Short outcome =
    Mends old new passed.place.page passed.place.expect passed.low outcome × MendsPages old new passed.place.page passed.place.expect passed.low outcome
Settles old new passed (Cut key right) outcome = AddsChild old new passed.place.page passed.place.expect key right outcome
Settles old new passed (Alone child) outcome = new ≡ old

-- Only a page whose child was cut is cut, and only one whose child fell short falls short.
abbrev pub MayFollow : Outcome → Outcome → Type 0
MayFollow Whole outcome = outcome ≡ Whole
MayFollow Short outcome = (key right : ℕ) → outcome ≢ Cut key right
MayFollow (Cut key right) outcome = outcome ≢ Short
MayFollow (Alone child) outcome = outcome ≡ Whole

-- the lines that are written for it
abbrev pub room_above : Outcome → ℕ
room_above Whole = 0
room_above Short = 189
room_above (Cut key right) = 129
room_above (Alone child) = 0

-- a tree under a page beside a free list
pub record StandsAt (lines : Lines) (page : ℕ) (expect : Expect) (free : List ℕ) : Type 0 where
  pub tree : IsTree expect.pages lines expect.level page expect.low expect.high expect.root
  pub is_free : IsFreeList lines free
  pub parted : ArePart lines (tree_pages lines expect.level page ++ free)
  pub within : high_of lines ≤ expect.pages

-- what stands above a child that became this
abbrev pub StandsAbove : Lines → Passed → Outcome → List ℕ → Type 0
StandsAbove lines passed Whole free = Unit {0}
StandsAbove lines passed Short free = (level : ℕ) × IsMendable lines passed.place.page passed.place.expect passed.low level free
StandsAbove lines passed (Cut key right) free = IsWellFormed (bytes_of lines passed.place.page) passed.place.expect × IsFreeList lines free × ArePart lines (passed.place.page ∷ free)
StandsAbove lines passed (Alone child) free = Unit {0}

-- a page at level 3 that has all the children that it has room for
abbrev pub IsFullAt : Lines → ℕ → Expect → Type 0
IsFullAt lines page expect = (expect.level ≡ 3) × (entry_count (bytes_of lines page) ≡ 240)

-- the stops there: damage only where the child was cut, and no page is left or the page is full
abbrev pub StopsAbove : ℕ → Lines → Passed → Outcome → List ℕ → Stop → Type 0
StopsAbove count lines passed Whole free stop = IsFault stop
StopsAbove count lines passed Short free stop = IsFault stop
StopsAbove count lines passed (Cut key right) free stop = StopsFor (spare_pages count lines free ≤ 0) (IsFullAt lines passed.place.page passed.place.expect) stop
StopsAbove count lines passed (Alone child) free stop = IsFault stop

-- Where the page was cut, so many pages were taken at most.
abbrev pub TakesFor : ℕ → Lines → Lines → ℕ → Expect → Outcome → Type 0
TakesFor count old new page expect outcome =
    (free rest : List ℕ) (key right : ℕ) → outcome ≡ Cut key right → StandsAt old page expect free → IsFreeList new rest
    → spare_pages count old free ≤ spare_pages count new rest + (expect.level + 1)
