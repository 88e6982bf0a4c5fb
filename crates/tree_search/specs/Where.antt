-- Facts that hold of pages that are told, where a tree stands in them.
use Rattle.std.specs.Prelude.{ℕ, List, IsTrue}
use Rattle.line_pages.specs.declared.pages.Pages.{Ghosts}
use Rattle.rows.specs.Rows.{Row}
use Rattle.page_format.specs.declared.root.Expect.{Expect}
use Rattle.tree_search.specs.declared.root.Root.{Root}
use Rattle.tree_search.specs.Tree.{IsTree, IsRooted}

-- where a tree of this level and these bounds stands under the page
abbrev pub OnTree : {P : Type 0} → Ghosts P → P → ℕ → Expect → Type 0 → Type 0
OnTree g s page expect Fact =
    IsTrue (g.standing s).told → IsTree expect.pages (g.standing s).current expect.level page expect.low expect.high expect.root → Fact

-- where the tree under a root has these rows, in these pages
abbrev pub OnRooted : {P : Type 0} → Ghosts P → P → Root → (List Row → List ℕ → Type 0) → Type 0
OnRooted g s root Fact =
    IsTrue (g.standing s).told → (rows : List Row) (used : List ℕ) → IsRooted (g.standing s).count (g.standing s).current root rows used → Fact rows used
