-- Why a put stops for a full root, or where no page is left: the leaf of the key has no room for the row.
use Rattle.std.specs.Prelude.{◌≡◌, ◌≢◌, ℕ, zero, suc, ◌<◌, List}
use Rattle.damage.specs.declared.evidence.Evidence.TheVariants.{Super, Frames, Log, Page, Walk}
use Rattle.line_pages.specs.declared.stop.Stop.{Stop}
use Rattle.line_pages.specs.declared.stop.Stop.TheVariants.{Nvm, Ssd, Damaged}
use Rattle.line_pages.specs.Lines.{Lines}
use Rattle.line_pages.specs.Bytes.{bytes_of}
use Rattle.rows.specs.Rows.{Row}
use Rattle.page_format.specs.Room.{leaf_room}
use Rattle.page_format.specs.Sound.{row_bytes}
use Rattle.page_format.specs.Node.{children, entry_count}
use Rattle.tree_search.specs.declared.root.Root.{Root}
use Rattle.tree_search.specs.Tree.{child_for}
use Rattle.bplus_tree.specs.declared.outcome.Outcome.{Outcome}
use Rattle.bplus_tree.specs.declared.outcome.Outcome.TheVariants.{Whole, Short, Cut, Alone}
use Rattle.bplus_tree.specs.declared.path.Passed.{Passed}
use Rattle.bplus_tree.specs.LineChanges.{leaf_after}

-- a stop by another check than that of a full root
abbrev pub NotFull : Stop → Type 0
NotFull Nvm = Unit {0}
NotFull Ssd = Unit {0}
NotFull (Damaged (Page page level low high check)) = check ≢ 39
NotFull (Damaged (Super words check)) = ⊥
NotFull (Damaged (Frames first second entry check)) = ⊥
NotFull (Damaged (Log offset line tail check)) = ⊥
NotFull (Damaged (Walk page kept found check)) = ⊥

-- A stop for a full root names this page, which is at a level where a root is full.
abbrev pub NamesFull : ℕ → Type 0 → Stop → Type 0
NamesFull at IsHigh Nvm = Unit {0}
NamesFull at IsHigh Ssd = Unit {0}
NamesFull at IsHigh (Damaged (Page page level low high check)) = check ≡ 39 → (page ≡ at) × IsHigh
NamesFull at IsHigh (Damaged (Super words check)) = Unit {0}
NamesFull at IsHigh (Damaged (Frames first second entry check)) = Unit {0}
NamesFull at IsHigh (Damaged (Log offset line tail check)) = Unit {0}
NamesFull at IsHigh (Damaged (Walk page kept found check)) = Unit {0}

-- a stop for a full root names the page of the root, in a tree of four levels
abbrev pub NamesRoot : Root → Stop → Type 0
NamesRoot root stop = NamesFull root.page (root.levels ≡ 4) stop

-- the same of a page above a child that became this: only where the child was cut
abbrev pub NamesAbove : Passed → Outcome → Stop → Type 0
NamesAbove passed Whole stop = NotFull stop
NamesAbove passed Short stop = NotFull stop
NamesAbove passed (Cut key right) stop = NamesFull passed.place.page (passed.place.expect.level ≡ 3) stop
NamesAbove passed (Alone child) stop = NotFull stop

-- a page is cut only where this holds
abbrev pub CutsFor : Type 0 → Outcome → Type 0
CutsFor Reason Whole = Unit {0}
CutsFor Reason Short = Unit {0}
CutsFor Reason (Cut key right) = Reason
CutsFor Reason (Alone child) = Unit {0}

-- Damage comes only where a page has no room, and by the check of a full root only where the root is full.
abbrev pub IsNeeded : Type 0 → Type 0 → Stop → Type 0
IsNeeded NoRoom IsFull Nvm = Unit {0}
IsNeeded NoRoom IsFull Ssd = Unit {0}
IsNeeded NoRoom IsFull (Damaged (Page page level low high check)) = NoRoom × (check ≡ 39 → IsFull)
IsNeeded NoRoom IsFull (Damaged (Super words check)) = ⊥
IsNeeded NoRoom IsFull (Damaged (Frames first second entry check)) = ⊥
IsNeeded NoRoom IsFull (Damaged (Log offset line tail check)) = ⊥
IsNeeded NoRoom IsFull (Damaged (Walk page kept found check)) = ⊥

-- the same of an inner page above a child that became this
abbrev pub NeededAbove : Lines → Passed → Outcome → Stop → Type 0
NeededAbove lines passed Whole stop = Unit {0}
NeededAbove lines passed Short stop = Unit {0}
NeededAbove lines passed (Cut key right) stop = IsNeeded (entry_count (bytes_of lines passed.place.page) ≡ 240) (passed.place.expect.level ≡ 3) stop
NeededAbove lines passed (Alone child) stop = Unit {0}

-- rows that one leaf has no room for
abbrev pub IsOverfull : List Row → Type 0
IsOverfull rows = leaf_room < row_bytes rows

-- No page on the way of a key has room: each inner one has 240 children, and the leaf none for the row.
abbrev pub IsWayFull : Lines → ℕ → ℕ → ℕ → List ℕ → Type 0
IsWayFull lines zero page key value = IsOverfull (leaf_after lines 0 page key value)
IsWayFull lines (suc level) page key value = (entry_count (bytes_of lines page) ≡ 240) × IsWayFull lines level (child_for key 0 (children (bytes_of lines page))) key value

-- Damage that a put answers under a page comes only where the leaf of the key has no room for the row, and by the check of a
-- full root only where no page on the way to it has room.
abbrev pub MustCut : Lines → ℕ → ℕ → ℕ → List ℕ → Stop → Type 0
MustCut lines level page key value stop = IsNeeded (IsOverfull (leaf_after lines level page key value)) (IsWayFull lines level page key value) stop
