-- What the calls on a tree do to its rows.
use Rattle.std.specs.Prelude.{ℕ, ◌+◌, ◌/◌, ◌≤◌, List, ◌++◌, length}
use Rattle.tree_search.specs.declared.root.Root.{Root}
use Rattle.line_pages.specs.Lines.{Lines}
use Rattle.page_alloc.specs.Space.{high_of, IsFreeList}
use Rattle.rows.specs.Rows.{Row}
use Rattle.tree_search.specs.Tree.{IsRooted}
use Rattle.page_alloc.specs.Moves.{ArePart, Moves, SameEntries}

-- The tree of a root before a call and after it: it has these rows, and at most so many pages.
pub record Changes (count : ℕ) (old new : Lines) (root root' : Root) (used free : List ℕ) (rows' : List Row) : Type 0 where
  pub used' : List ℕ
  pub free' : List ℕ
  pub moves : Moves count old new used used' free free'
  pub entries : SameEntries old new
  pub tree : IsRooted count new root' rows' used'
  pub bound : length used' ≤ length rows' / 2 + 8

-- A call that changes the rows of a tree by `step`, as its callers use it.
abbrev pub ChangesRows : ℕ → Lines → Lines → Root → Root → (List Row → List Row) → Type 0
ChangesRows count old new root root' step =
    (rows : List Row) (used free : List ℕ) → IsRooted count old root rows used → IsFreeList old free → ArePart old (used ++ free) → high_of old ≤ count
    → Changes count old new root root' used free (step rows)
