-- Whether a key is new, by the search in its leaf.
use Rattle.std.proofs.Common.{◌≡◌, ◌-◌, ℕ, Bool, true, not, is_some, Result, Ok, Err, is_err, List, IsTrue, sym, ap, subst, ◌∙◌}
use Rattle.line_pages.specs.Lines.{Lines}
use Rattle.line_pages.specs.Bytes.{bytes_of}
use Rattle.line_pages.specs.Standing.{Standing}
use Rattle.rows.specs.Rows.{Row, row_get, last_key}
use Rattle.page_format.specs.declared.root.Expect.{Expect}
use Rattle.page_format.specs.Node.{leaf_rows, IsWellFormed}
use Rattle.leaf_lines.specs.Put.{IsFound}
use Rattle.tree_search.specs.declared.root.Root.{Root}
use Rattle.tree_search.specs.Tree.{IsTree, IsRooted, tree_rows}
use Rattle.tree_search.proofs.SearchLaws.{gap_none, row_of_spot}
use Rattle.bplus_tree.specs.declared.path.Node.{Node}
use Rattle.bplus_tree.specs.declared.path.Passed.{Passed}
use Rattle.bplus_tree.specs.Path.{Leads, root_place}
use Rattle.bplus_tree.proofs.LeafOfKey.{leads_leaf, leads_well}

-- in the leaf
pub fresh_in : (bytes : List ℕ) (expect : Expect) (key : ℕ) (place : Result ℕ ℕ) → IsWellFormed bytes expect → IsFound bytes expect key place
    → is_err place ≡ not (is_some (row_get key (leaf_rows bytes)))
fresh_in bytes expect key (Ok at) well spot = ap (λ value. not (is_some value)) (row_of_spot bytes expect key at well spot).2
fresh_in bytes expect key (Err at) well spot = ap (λ value. not (is_some value)) (sym (gap_none bytes expect key at spot))

-- in the tree under a page, at the end of the way to the leaf
pub fresh_under : {A : Type 0} (key : ℕ) (top leaf : Node) (path : List Passed) (old mid : Standing A) (fresh : Bool) → IsTrue old.told
    → IsTree top.expect.pages old.current top.expect.level top.page top.expect.low top.expect.high top.expect.root → Leads old.told old.current old.count key top path leaf → leaf.expect.level ≡ 0 → mid.current ≡ old.current
    → (IsWellFormed (bytes_of mid.current leaf.page) leaf.expect → fresh ≡ not (is_some (row_get key (leaf_rows (bytes_of mid.current leaf.page)))))
    → fresh ≡ not (is_some (row_get key (tree_rows old.current top.expect.level top.page)))
fresh_under key top leaf path old mid fresh told tree leads level same at_leaf =
    let there = subst (λ (lines : Lines). IsWellFormed (bytes_of lines leaf.page) leaf.expect → fresh ≡ not (is_some (row_get key (leaf_rows (bytes_of lines leaf.page))))) same at_leaf in
    let at = leads_leaf old.told old.current old.count key top leaf path told tree leads level in
    there (leads_well old.told old.current old.count key top leaf path told tree leads) ∙ ap (λ value. not (is_some value)) (sym at.rows)

-- from a root, over all keys
pub root_fresh : {A : Type 0} (root : Root) (top : Node) (n key : ℕ) (old : Standing A) (fresh : Bool) → n ≡ old.count → top ≡ root_place root n
    → (IsTree top.expect.pages old.current top.expect.level top.page top.expect.low top.expect.high top.expect.root → fresh ≡ not (is_some (row_get key (tree_rows old.current top.expect.level top.page))))
    → (rows : List Row) (used : List ℕ) → IsRooted old.count old.current root rows used → fresh ≡ not (is_some (row_get key rows))
root_fresh root top n key old fresh is_count is_top under rows used rooted =
    let at_top =
    subst (λ (p : Node). IsTree p.expect.pages old.current p.expect.level p.page p.expect.low p.expect.high p.expect.root → fresh ≡ not (is_some (row_get key (tree_rows old.current p.expect.level p.page)))) is_top under in
    at_top (subst (λ (m : ℕ). IsTree m old.current (root.levels - 1) root.page 0 last_key true) (sym is_count) rooted.tree.is_tree) ∙ ap (λ all. not (is_some (row_get key all))) (sym rooted.tree.rows_are)
