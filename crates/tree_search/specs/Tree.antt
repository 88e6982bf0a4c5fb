-- Trees over pages.
use Rattle.std.specs.Prelude.{◌≡◌, ℕ, zero, suc, ◌-◌, ◌≤◌, Bool, true, false, List, [], ◌∷◌, nat_lt, if◌then◌else◌, flat_map}
use Rattle.tree_search.specs.declared.root.Root.{Root}
use Rattle.line_pages.specs.Lines.{Lines}
use Rattle.line_pages.specs.Bytes.{bytes_of}
use Rattle.rows.specs.Rows.{Each, last_key, Row}
use Rattle.page_format.specs.Spans.{Span, spans}
use Rattle.page_format.specs.Node.{Child, leaf_rows, children, IsWellFormed}
use Rattle.page_alloc.specs.Counted.{times}

-- The page heads a well-formed tree of this level, which stands among `count` pages. A leaf has level 0.
abbrev pub IsTree : ℕ → Lines → ℕ → ℕ → ℕ → ℕ → Bool → Type 0
IsTree count lines zero page low high root =
    IsWellFormed (bytes_of lines page) (record { level = 0; low = low; high = high; root = root; pages = count })
IsTree count lines (suc level) page low high root =
    IsWellFormed (bytes_of lines page) (record { level = suc level; low = low; high = high; root = root; pages = count })
    × Each (λ (s : Span). IsTree count lines level s.page s.low s.high false) (spans (children (bytes_of lines page)) high)

-- the rows of a tree, and its pages: those of the children one after the other
abbrev pub tree_rows : Lines → ℕ → ℕ → List Row
tree_rows lines zero page = leaf_rows (bytes_of lines page)
tree_rows lines (suc level) page = flat_map (λ (child : Child). tree_rows lines level child.1) (children (bytes_of lines page))

abbrev pub tree_pages : Lines → ℕ → ℕ → List ℕ
tree_pages lines zero page = page ∷ []
tree_pages lines (suc level) page = page ∷ flat_map (λ (child : Child). tree_pages lines level child.1) (children (bytes_of lines page))

-- The tree under a page, with its rows in order and the pages that it uses, none twice.
pub record Tree (count : ℕ) (lines : Lines) (page level low high : ℕ) (root : Bool) (rows : List Row) (used : List ℕ) : Type 0 where
  pub is_tree : IsTree count lines level page low high root
  pub rows_are : rows ≡ tree_rows lines level page
  pub used_are : used ≡ tree_pages lines level page
  pub once : (n : ℕ) → times n used ≤ 1

-- The tree of a root of 1 to 4 levels, over all keys.
pub record IsRooted (count : ℕ) (lines : Lines) (root : Root) (rows : List Row) (used : List ℕ) : Type 0 where
  pub some_levels : 1 ≤ root.levels
  pub few_levels : root.levels ≤ 4
  pub tree : Tree count lines root.page (root.levels - 1) 0 last_key true rows used

-- the child whose keys reach from its own first key to the next one's: the last one that begins at or before the key
abbrev pub child_for : ℕ → ℕ → List Child → ℕ
child_for key so_far [] = so_far
child_for key so_far (child ∷ rest) = if nat_lt key child.0 then so_far else child_for key child.1 rest

-- the pages on the way to a key, from the root to the leaf
abbrev pub path : Lines → ℕ → ℕ → ℕ → List ℕ
path lines zero page key = page ∷ []
path lines (suc level) page key = page ∷ path lines level (child_for key 0 (children (bytes_of lines page))) key

-- the leaf at its end
abbrev pub leaf_for : Lines → ℕ → ℕ → ℕ → ℕ
leaf_for lines zero page key = page
leaf_for lines (suc level) page key = leaf_for lines level (child_for key 0 (children (bytes_of lines page))) key

-- the rows and the pages of some children
abbrev pub rows_of : Lines → ℕ → List Child → List Row
rows_of lines level cs = flat_map (λ (child : Child). tree_rows lines level child.1) cs

abbrev pub pages_of : Lines → ℕ → List Child → List ℕ
pages_of lines level cs = flat_map (λ (child : Child). tree_pages lines level child.1) cs
