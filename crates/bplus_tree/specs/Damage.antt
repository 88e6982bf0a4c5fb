-- What the evidence of damage that a call on a tree answers shows.
use Rattle.std.specs.Prelude.{◌≡◌, ℕ, ◌+◌, ◌/◌, ◌<◌, ◌⊎◌, Bool, true, List, ◌++◌, IsTrue}
use Rattle.damage.specs.declared.evidence.Evidence.{Evidence}
use Rattle.damage.specs.declared.evidence.Evidence.TheVariants.{Super, Frames, Log, Page, Walk}
use Rattle.line_pages.specs.declared.stop.Stop.{Stop}
use Rattle.line_pages.specs.Lines.{Lines}
use Rattle.line_pages.specs.Bytes.{bytes_of}
use Rattle.page_format.specs.Node.{entry_count}
use Rattle.rows.specs.Rows.{Row}
use Rattle.page_format.specs.Search.{is_root_span, IsNodeDamage, FailsNode}
use Rattle.tree_search.specs.declared.root.Root.{Root}
use Rattle.page_alloc.specs.Space.{take_checks, IsSpaceDamage, FailsSpace, IsFreeList, FitsHeader}
use Rattle.tree_search.specs.Tree.{IsRooted}
use Rattle.page_alloc.specs.Moves.{ArePart}
use Rattle.page_alloc.specs.Stops.{StopsFor}

-- a root at level 3 that has all the children that a page has room for, and would have to be cut
abbrev pub IsFullRoot : ℕ → Lines → List ℕ → Evidence → Type 0
IsFullRoot count lines buffer (Page page level low high check) =
    (page < count) × (buffer ≡ bytes_of lines page) × (level ≡ 3) × (is_root_span low high ≡ true) × (check ≡ 39) × (entry_count buffer ≡ 240)
IsFullRoot count lines buffer (Super words check) = ⊥
IsFullRoot count lines buffer (Frames first second entry check) = ⊥
IsFullRoot count lines buffer (Log offset line tail check) = ⊥
IsFullRoot count lines buffer (Walk page kept found check) = ⊥

-- Where the store is told, and these are its lines at the stop: the page that the evidence names has the buffer's bytes, and
-- fails the check that it names, as a page of a tree, before a page is taken, or as a full root.
unfoldable pub IsTreeDamage : Bool → ℕ → Lines → List ℕ → Evidence → Type 0
IsTreeDamage told count lines buffer evidence =
    IsTrue told → IsNodeDamage count lines buffer evidence ⊎ (IsSpaceDamage (take_checks count lines) lines buffer evidence ⊎ IsFullRoot count lines buffer evidence)

-- the buffer is a root at level 3 that has all the children that a page has room for
abbrev pub FailsRoot : ℕ → List ℕ → Evidence → Type 0
FailsRoot count buffer (Page page level low high check) =
    (page < count) × (level ≡ 3) × (is_root_span low high ≡ true) × (check ≡ 39) × (entry_count buffer ≡ 240)
FailsRoot count buffer (Super words check) = ⊥
FailsRoot count buffer (Frames first second entry check) = ⊥
FailsRoot count buffer (Log offset line tail check) = ⊥
FailsRoot count buffer (Walk page kept found check) = ⊥

-- Whatever the store holds: the buffer fails the check that the evidence names, as a page of a tree, before a page is taken,
-- or as a full root.
unfoldable pub FailsTree : ℕ → List ℕ → Evidence → Type 0
FailsTree count buffer evidence = FailsNode count buffer evidence ⊎ (FailsSpace count buffer evidence ⊎ FailsRoot count buffer evidence)

-- A tree beside a free list, under a header in order.
pub record StandsIn (count : ℕ) (lines : Lines) (root : Root) (rows : List Row) (used free : List ℕ) : Type 0 where
  pub rooted : IsRooted count lines root rows used
  pub is_free : IsFreeList lines free
  pub parted : ArePart lines (used ++ free)
  pub header : FitsHeader count (lines 0 0)

-- A stop of a put: no page is left where fewer are at hand than a tree of the rows afterwards may have, or a root is full,
-- and the tree had more than a million rows.
abbrev pub IsLack : ℕ → ℕ → ℕ → Stop → Type 0
IsLack at_hand after before stop = StopsFor (at_hand < after / 2 + 8) (1000000 < before) stop
