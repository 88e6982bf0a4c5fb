-- Changes that go by the lines of a leaf, and the lines that they touch.
use Rattle.std.specs.Prelude.{◌≡◌, ℕ, ◌+◌, ◌-◌, ◌*◌, ◌==◌, ◌&&◌, if◌then◌else◌, Bool, true, IsTrue, List, length}
use Rattle.rows.specs.Rows.{Row, row_delete}
use Rattle.page_format.specs.Node.{leaf_rows, entry_count}
use Rattle.line_pages.specs.Lines.{Lines}
use Rattle.line_pages.specs.Bytes.{bytes_of}
use Rattle.line_pages.specs.Cost.{Costs}
use Rattle.line_pages.specs.Standing.{Standing}
use Rattle.node_edit.specs.Edit.{place_of, has_key}
use Rattle.leaf_lines.specs.Put.{fits_beside, put_cost}
use Rattle.leaf_lines.specs.Removal.{keeps_floor, removal_cost}
use Rattle.tree_search.specs.declared.root.Root.{Root}
use Rattle.tree_search.specs.Tree.{IsTree, IsRooted, leaf_for}
use Rattle.bplus_tree.specs.declared.path.Node.{Node}
use Rattle.bplus_tree.specs.declared.outcome.Outcome.{Outcome}
use Rattle.bplus_tree.specs.declared.outcome.Outcome.TheVariants.{Whole}
use Rattle.bplus_tree.specs.LineChanges.{WritesChange}

-- At most so many lines are touched, reads and writes together, and lines are written of this leaf alone, of it those alone that differ
-- before and after, each once.
pub record ByLines {A : Type 0} (leaf most : ℕ) (old new : Standing A) : Type 0 where
  pub touched : Costs most old new
  pub written : WritesChange leaf old new

-- the most lines of a leaf that a put touches after the search, and that a delete does
abbrev pub put_lines : ℕ → ℕ → List ℕ → ℕ
put_lines key long bytes = put_cost (if has_key key (leaf_rows bytes) then 0 else entry_count bytes - place_of key (leaf_rows bytes)) long

abbrev pub delete_lines : List ℕ → ℕ
delete_lines bytes = removal_cost (entry_count bytes)

-- whether a leaf, that is a root or is not, has as many bytes as it has to without the row of a key
abbrev pub keeps_without : ℕ → Bool → List ℕ → Bool
keeps_without key root bytes = keeps_floor root (row_delete key (leaf_rows bytes))

-- A change under a page goes by the lines of the key's leaf where that leaf allows it: the page is as full as it has to be, and the
-- lines are touched that the search takes, 10 of an inner page and 28 of the leaf, and those of the change.
pub record GoesByLines {A : Type 0} (top : Node) (key : ℕ) (allows : Bool → List ℕ → Bool) (cost : List ℕ → ℕ) (old new : Standing A) (outcome : Outcome) : Type 0 where
  pub is : IsTrue old.told → IsTree top.expect.pages old.current top.expect.level top.page top.expect.low top.expect.high top.expect.root
      → allows ((top.expect.level == 0) && top.expect.root) (bytes_of old.current (leaf_for old.current top.expect.level top.page key)) ≡ true
      → (outcome ≡ Whole)
      × ByLines (leaf_for old.current top.expect.level top.page key) (10 * top.expect.level + 28 + cost (bytes_of old.current (leaf_for old.current top.expect.level top.page key))) old new

-- the leaf of a key in the tree of a root
abbrev pub leaf_of : Lines → Root → ℕ → ℕ
leaf_of lines root key = leaf_for lines (root.levels - 1) root.page key

-- The same from a root, over all keys, where the searches take so many lines.
abbrev pub KeepsToLeaf : {A : Type 0} → Root → ℕ → (Bool → List ℕ → Bool) → (List ℕ → ℕ) → ℕ → Standing A → Standing A → Type 0
KeepsToLeaf root key allows cost search old new =
    (rows : List Row) (used : List ℕ) → IsRooted old.count old.current root rows used → allows (root.levels == 1) (bytes_of old.current (leaf_of old.current root key)) ≡ true
    → ByLines (leaf_of old.current root key) (search + cost (bytes_of old.current (leaf_of old.current root key))) old new

-- a put of a value that has its place beside the other records of its leaf
abbrev pub PutsBeside : {A : Type 0} → Root → ℕ → ℕ → ℕ → Standing A → Standing A → Type 0
PutsBeside root key long search old new = KeepsToLeaf root key (λ is_root. fits_beside is_root key long) (put_lines key long) search old new

-- a delete after which the leaf of the key has as many bytes as it has to, as it has where the key is not there
abbrev pub DeletesAlone : {A : Type 0} → Root → ℕ → ℕ → Standing A → Standing A → Type 0
DeletesAlone root key search old new = KeepsToLeaf root key (keeps_without key) delete_lines search old new
