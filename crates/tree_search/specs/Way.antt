-- The way through the pages of a tree.
use Rattle.std.specs.Prelude.{◌≡◌, ℕ, ◌+◌, ◌-◌, ◌≤◌, false, List, ◌∷◌, length, map}
use Rattle.line_pages.specs.Touch.{Access}
use Rattle.line_pages.specs.Lines.{Lines}
use Rattle.page_format.specs.declared.root.Expect.{Expect}
use Rattle.rows.specs.Rows.{Row, Each}
use Rattle.tree_search.specs.declared.root.Root.{Root}
use Rattle.page_alloc.specs.Counted.{times}
use Rattle.tree_search.specs.Tree.{IsTree, IsRooted, path}

-- The accesses of a search through the levels under a page: one to each level, and on a tree to each page of the
-- key's path, in order.
pub record IsWay (lines : Lines) (page : ℕ) (expect : Expect) (key : ℕ) (begun : List Access) : Type 0 where
  pub rest : List Access
  pub begins : begun ≡ (page, false) ∷ rest
  pub levels : length begun ≡ expect.level + 1
  pub pages : IsTree expect.pages lines expect.level page expect.low expect.high expect.root → begun ≡ map (λ p. (p, false)) (path lines expect.level page key)

-- the same from a root, over all keys
pub record IsPath (count : ℕ) (lines : Lines) (root : Root) (key : ℕ) (begun : List Access) : Type 0 where
  pub levels : length begun ≡ root.levels
  pub pages : (rows : List Row) (used : List ℕ) → IsRooted count lines root rows used → begun ≡ map (λ p. (p, false)) (path lines (root.levels - 1) root.page key)

-- one access to each page of the key's path, in order
abbrev pub ReadsPath : Lines → Root → ℕ → List Access → Type 0
ReadsPath lines root key begun = begun ≡ map (λ p. (p, false)) (path lines (root.levels - 1) root.page key)

-- reads of these pages alone
abbrev pub AreReadsIn : List ℕ → List Access → Type 0
AreReadsIn pages begun = Each (λ (a : Access). (a.1 ≡ false) × (1 ≤ times a.0 pages)) begun
