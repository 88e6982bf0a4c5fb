-- A value put by the lines of its leaf that change alone.
use Rattle.std.specs.Prelude.{◌≡◌, ℕ, ◌+◌, ◌-◌, ◌≤◌, IsTrue, true, List}
use Rattle.rows.specs.Rows.{Row, row_put}
use Rattle.page_format.specs.Node.{leaf_rows}
use Rattle.line_pages.specs.Lines.{Lines}
use Rattle.line_pages.specs.Bytes.{bytes_of}
use Rattle.line_pages.specs.Standing.{Standing}
use Rattle.tree_search.specs.declared.root.Root.{Root}
use Rattle.bplus_tree.specs.declared.path.Node.{Node}
use Rattle.bplus_tree.specs.declared.outcome.Outcome.{Outcome}
use Rattle.bplus_tree.specs.declared.outcome.Outcome.TheVariants.{Whole}
use Rattle.tree_search.specs.Tree.{IsTree, IsRooted, leaf_for}
use Rattle.page_alloc.specs.Written.{Differs, WritesOnly, lines_changed}
use Rattle.node_edit.specs.Record.{FitsLeaf}

-- Lines are written of this leaf alone, and of it those alone that differ before and after, each once.
pub record WritesChange {A : Type 0} (leaf : ℕ) (old new : Standing A) : Type 0 where
  pub only : WritesOnly leaf (Differs (bytes_of old.current leaf) (bytes_of new.current leaf)) old new
  pub once : old.room ≤ new.room + lines_changed (bytes_of old.current leaf) (bytes_of new.current leaf)

-- the rows of a key's leaf with a value put at the key
abbrev pub leaf_after : Lines → ℕ → ℕ → ℕ → List ℕ → List Row
leaf_after lines level page key value = row_put key value (leaf_rows (bytes_of lines (leaf_for lines level page key)))

-- A put under a page, where the leaf of the key is neither cut nor joined: the page is as full as it has to be, and the lines
-- of the leaf that change are written alone.
pub record PutsChange {A : Type 0} (top : Node) (key : ℕ) (value : List ℕ) (old new : Standing A) (outcome : Outcome) : Type 0 where
  pub is : IsTrue old.told → IsTree top.expect.pages old.current top.expect.level top.page top.expect.low top.expect.high top.expect.root
      → FitsLeaf ((top.expect.level ≡ 0) × (top.expect.root ≡ true)) (leaf_after old.current top.expect.level top.page key value)
      → (outcome ≡ Whole) × WritesChange (leaf_for old.current top.expect.level top.page key) old new

-- The same from a root, over all keys: the rows of the leaf afterwards take no more bytes than it has room for, and no fewer
-- than it has to have, unless it is the root.
abbrev pub PutsLines : {A : Type 0} → Root → ℕ → List ℕ → Standing A → Standing A → Type 0
PutsLines root key value old new =
    (rows : List Row) (used : List ℕ) → IsRooted old.count old.current root rows used → FitsLeaf (root.levels ≡ 1) (leaf_after old.current (root.levels - 1) root.page key value)
    → WritesChange (leaf_for old.current (root.levels - 1) root.page key) old new
