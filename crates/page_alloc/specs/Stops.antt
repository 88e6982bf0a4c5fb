-- The stops of calls on pages in order.
use Rattle.std.specs.Prelude.{◌≡◌, ℕ, ◌+◌, ◌-◌, ◌≤◌, ◌⊎◌, List, length}
use Rattle.damage.specs.declared.evidence.Evidence.TheVariants.{Super, Frames, Log, Page, Walk}
use Rattle.line_pages.specs.declared.stop.Stop.{Stop}
use Rattle.line_pages.specs.declared.stop.Stop.TheVariants.{Nvm, Ssd, Damaged}
pub use Rattle.line_pages.specs.Standing.{IsFault}
use Rattle.line_pages.specs.Lines.{Lines}
use Rattle.page_alloc.specs.Space.{high_of}

-- the pages that can be taken: the free ones, and those above the high water
abbrev pub spare_pages : ℕ → Lines → List ℕ → ℕ
spare_pages count lines free = length free + (count - high_of lines)

-- the pages that a tree has or can take
abbrev pub pages_at_hand : ℕ → Lines → List ℕ → List ℕ → ℕ
pages_at_hand count lines used free = length used + spare_pages count lines free

-- A stop where the pages are in order: a fault, or a page is to be taken and none is left, or a full root would have to be
-- cut, each of these two only where its reason holds.
abbrev pub StopsFor : Type 0 → Type 0 → Stop → Type 0
StopsFor none_left full_root Nvm = Unit {0}
StopsFor none_left full_root Ssd = Unit {0}
StopsFor none_left full_root (Damaged (Page page level low high check)) = ((check ≡ 37) × none_left) ⊎ ((check ≡ 39) × full_root)
StopsFor none_left full_root (Damaged (Super words check)) = ⊥
StopsFor none_left full_root (Damaged (Frames first second entry check)) = ⊥
StopsFor none_left full_root (Damaged (Log offset line tail check)) = ⊥
StopsFor none_left full_root (Damaged (Walk page kept found check)) = ⊥

-- where at most so many pages could be taken
abbrev pub IsShort : ℕ → ℕ → Stop → Type 0
IsShort spare most stop = StopsFor (spare ≤ most) ⊥ stop
