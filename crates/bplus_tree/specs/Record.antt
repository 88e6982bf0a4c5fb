-- A value put by the lines of its record alone.
use Rattle.std.specs.Prelude.{◌≡◌, ℕ, ◌-◌, IsTrue, List}
use Rattle.rows.specs.Rows.{Row}
use Rattle.line_pages.specs.Bytes.{bytes_of}
use Rattle.line_pages.specs.Standing.{Standing}
use Rattle.tree_search.specs.declared.root.Root.{Root}
use Rattle.bplus_tree.specs.declared.path.Node.{Node}
use Rattle.bplus_tree.specs.declared.outcome.Outcome.{Outcome}
use Rattle.bplus_tree.specs.declared.outcome.Outcome.TheVariants.{Whole}
use Rattle.tree_search.specs.Tree.{IsTree, IsRooted, tree_rows, leaf_for}
use Rattle.page_alloc.specs.Written.{Meets, WritesOnly}
use Rattle.node_edit.specs.Record.{HoldsLength, record_at}

-- lines are written of the key's record in its leaf alone, as it stands before
abbrev pub WritesRecord : {A : Type 0} → ℕ → ℕ → Standing A → Standing A → Type 0
WritesRecord leaf key old new = WritesOnly leaf (Meets (record_at key (bytes_of old.current leaf))) old new

-- A put under a page, where the key has a value of that length: the page is as full as before, and lines of the key's record
-- alone are written.
pub record PutsAgain {A : Type 0} (top : Node) (key size : ℕ) (old new : Standing A) (outcome : Outcome) : Type 0 where
  pub is : IsTrue old.told → IsTree top.expect.pages old.current top.expect.level top.page top.expect.low top.expect.high top.expect.root → HoldsLength key size (tree_rows old.current top.expect.level top.page)
      → (outcome ≡ Whole) × WritesRecord (leaf_for old.current top.expect.level top.page key) key old new

-- the same from a root, over all keys
abbrev pub PutsRecord : {A : Type 0} → Root → ℕ → ℕ → Standing A → Standing A → Type 0
PutsRecord root key size old new =
    (rows : List Row) (used : List ℕ) → IsRooted old.count old.current root rows used → HoldsLength key size rows → WritesRecord (leaf_for old.current (root.levels - 1) root.page key) key old new
