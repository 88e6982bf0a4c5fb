-- The path of a key ends at its leaf, and a value of the same length is written there alone.
use Rattle.std.proofs.Common.{◌≡◌, ℕ, zero, suc, ◌-◌, Bool, true, List, [], ◌∷◌, IsTrue, sym, ap, subst, ◌∙◌, arith}
use Rattle.line_pages.specs.Lines.{Lines}
use Rattle.line_pages.specs.Bytes.{bytes_of}
use Rattle.line_pages.specs.Standing.{Standing}
use Rattle.rows.specs.Rows.{Row, row_get, last_key}
use Rattle.page_format.specs.Spans.{Span}
use Rattle.page_format.specs.Node.{leaf_rows, children, IsWellFormed}
use Rattle.bplus_tree.specs.declared.outcome.Outcome.{Outcome}
use Rattle.bplus_tree.specs.declared.outcome.Outcome.TheVariants.{Whole}
use Rattle.tree_search.specs.declared.root.Root.{Root}
use Rattle.bplus_tree.specs.declared.path.Node.{Node}
use Rattle.bplus_tree.specs.declared.path.Passed.{Passed}
use Rattle.tree_search.specs.Tree.{IsTree, IsRooted, tree_rows, path, child_for, leaf_for}
use Rattle.bplus_tree.specs.Path.{Leads, root_place}
use Rattle.node_edit.specs.Record.{HoldsLength, record_at}
use Rattle.bplus_tree.specs.Record.{WritesRecord, PutsAgain, PutsRecord}
use Rattle.page_alloc.specs.Written.{Meets, WritesOnly, WritesNothing}
use Rattle.tree_search.proofs.SearchLaws.{well_formed_top}
use Rattle.tree_search.proofs.OrderLaws.{Descends, descends}
use Rattle.page_alloc.proofs.TouchedLaws.{only_then, only_nothing}

-- paths that are the same begin at the same page
pub same_first : (lines : Lines) (level key x y : ℕ) → path lines level x key ≡ path lines level y key → x ≡ y
same_first lines zero key x y same = cc
same_first lines (suc level) key x y same = cc

-- the leaf of a key
pub record IsLeafOf (lines : Lines) (level page key leaf : ℕ) : Type 0 where
  pub is : leaf_for lines level page key ≡ leaf
  pub rows : row_get key (tree_rows lines level page) ≡ row_get key (leaf_rows (bytes_of lines leaf))

leaf_next : (count : ℕ) (lines : Lines) (level page key leaf : ℕ) (s : Span) → Descends count lines level page key s → IsLeafOf lines level s.page key leaf → IsLeafOf lines (suc level) page key leaf
leaf_next count lines level page key leaf s d below =
    let rest : path lines level (child_for key 0 (children (bytes_of lines page))) key ≡ path lines level s.page key = cc in
    let first = same_first lines level key (child_for key 0 (children (bytes_of lines page))) s.page rest in
    record { is = ap (λ (n : ℕ). leaf_for lines level n key) first ∙ below.is; rows = d.rows ∙ below.rows }

pub leads_leaf : (told : Bool) (lines : Lines) (count key : ℕ) (top bottom : Node) (path : List Passed) → IsTrue told
    → IsTree top.expect.pages lines top.expect.level top.page top.expect.low top.expect.high top.expect.root → Leads told lines count key top path bottom → bottom.expect.level ≡ 0
    → IsLeafOf lines top.expect.level top.page key bottom.page
leads_leaf told lines count key top bottom [] t tree leads level =
    let same = ap (λ (p : Node). p.page) leads in
    let ground_level : top.expect.level ≡ 0 = ap (λ (p : Node). p.expect.level) leads ∙ level in
    subst (λ (l : ℕ). IsLeafOf lines l top.page key bottom.page) (sym ground_level) (record { is = same; rows = ap (λ (n : ℕ). row_get key (leaf_rows (bytes_of lines n))) same })
leads_leaf told lines count key top bottom (passed ∷ path) t tree leads level =
    let next = leads.1 in
    let way = leads.2 in
    let s : Span = record { page = next.page; low = next.expect.low; high = next.expect.high } in
    let from = passed.place in
    let own : IsTree from.expect.pages lines from.expect.level from.page from.expect.low from.expect.high from.expect.root =
    subst (λ (p : Node). IsTree p.expect.pages lines p.expect.level p.page p.expect.low p.expect.high p.expect.root) (sym leads.0) tree in
    let found = way.found t (well_formed_top from.expect.pages lines from.expect.level from.page from.expect.low from.expect.high from.expect.root own) in
    let d = descends from.expect.pages lines next.expect.level from.page from.expect.low from.expect.high from.expect.root key way.at s
    (subst (λ (l : ℕ). IsTree from.expect.pages lines l from.page from.expect.low from.expect.high from.expect.root) way.level own) found (omega (arith, way.after, way.above)) (omega (arith, way.within, way.before)) way.above way.within in
    let below : IsTree next.expect.pages lines next.expect.level next.page next.expect.low next.expect.high next.expect.root =
    subst (λ (n : ℕ). IsTree n lines next.expect.level next.page next.expect.low next.expect.high next.expect.root) (sym way.pages)
    (subst (λ (b : Bool). IsTree from.expect.pages lines next.expect.level next.page next.expect.low next.expect.high b) (sym way.root) d.tree) in
    let ih = leads_leaf told lines count key next bottom path t below leads.3 level in
    let here = leaf_next from.expect.pages lines next.expect.level from.page key bottom.page s d ih in
    subst (λ (p : Node). IsLeafOf lines p.expect.level p.page key bottom.page) leads.0 (subst (λ (l : ℕ). IsLeafOf lines l from.page key bottom.page) (sym way.level) here)

-- the leaf at the end of the way is well formed
pub leads_well : (told : Bool) (lines : Lines) (count key : ℕ) (top bottom : Node) (path : List Passed) → IsTrue told
    → IsTree top.expect.pages lines top.expect.level top.page top.expect.low top.expect.high top.expect.root → Leads told lines count key top path bottom → IsWellFormed (bytes_of lines bottom.page) bottom.expect
leads_well told lines count key top bottom [] t tree leads =
    subst (λ (p : Node). IsWellFormed (bytes_of lines p.page) p.expect) leads (well_formed_top top.expect.pages lines top.expect.level top.page top.expect.low top.expect.high top.expect.root tree)
leads_well told lines count key top bottom (passed ∷ path) t tree leads =
    let next = leads.1 in
    let way = leads.2 in
    let s : Span = record { page = next.page; low = next.expect.low; high = next.expect.high } in
    let from = passed.place in
    let own : IsTree from.expect.pages lines from.expect.level from.page from.expect.low from.expect.high from.expect.root =
    subst (λ (p : Node). IsTree p.expect.pages lines p.expect.level p.page p.expect.low p.expect.high p.expect.root) (sym leads.0) tree in
    let found = way.found t (well_formed_top from.expect.pages lines from.expect.level from.page from.expect.low from.expect.high from.expect.root own) in
    let d = descends from.expect.pages lines next.expect.level from.page from.expect.low from.expect.high from.expect.root key way.at s
    (subst (λ (l : ℕ). IsTree from.expect.pages lines l from.page from.expect.low from.expect.high from.expect.root) way.level own) found (omega (arith, way.after, way.above)) (omega (arith, way.within, way.before)) way.above way.within in
    let below : IsTree next.expect.pages lines next.expect.level next.page next.expect.low next.expect.high next.expect.root =
    subst (λ (n : ℕ). IsTree n lines next.expect.level next.page next.expect.low next.expect.high next.expect.root) (sym way.pages)
    (subst (λ (b : Bool). IsTree from.expect.pages lines next.expect.level next.page next.expect.low next.expect.high b) (sym way.root) d.tree) in
    leads_well told lines count key next bottom path t below leads.3

pub again_start : {A : Type 0} (key size : ℕ) (top leaf : Node) (path : List Passed) (old mid new : Standing A) (outcome : Outcome) → Leads old.told old.current old.count key top path leaf → leaf.expect.level ≡ 0
    → (IsTrue old.told → mid.current ≡ old.current) → WritesNothing old mid
    → (IsTrue old.told → IsWellFormed (bytes_of mid.current leaf.page) leaf.expect → HoldsLength key size (leaf_rows (bytes_of mid.current leaf.page)) → (outcome ≡ Whole) × WritesRecord leaf.page key mid new) → PutsAgain top key size old new outcome
again_start key size top leaf path old mid new outcome leads level same nothing wrote = record {
  is = λ told tree holds.
      let at = leads_leaf old.told old.current old.count key top leaf path told tree leads level in
      let here : HoldsLength key size (leaf_rows (bytes_of mid.current leaf.page)) =
      subst (λ (lines : Lines). HoldsLength key size (leaf_rows (bytes_of lines leaf.page))) (sym (same told)) (record { held = holds.held; is = sym at.rows ∙ holds.is; long = holds.long }) in
      let well = subst (λ (lines : Lines). IsWellFormed (bytes_of lines leaf.page) leaf.expect) (sym (same told)) (leads_well old.told old.current old.count key top leaf path told tree leads) in
      let w = wrote told well here in
      let record_is = record_at key (bytes_of old.current leaf.page) in (
        w.0,
        subst (λ (n : ℕ). WritesRecord n key old new) (sym at.is)
            (only_then leaf.page (Meets record_is) (only_nothing leaf.page (Meets record_is) nothing)
            (subst (λ (lines : Lines). WritesOnly leaf.page (Meets (record_at key (bytes_of lines leaf.page))) mid new) (same told) w.1)),
      );
}

-- the pages above such a page stay
pub again_on : {A : Type 0} (key size : ℕ) (top : Node) (old mid new : Standing A) (before after : Outcome) → PutsAgain top key size old mid before → (before ≡ Whole → new ≡ mid) → (before ≡ Whole → after ≡ Whole) → PutsAgain top key size old new after
again_on key size top old mid new before after so_far kept follows = record {
  is = λ told tree holds.
      let w = so_far.is told tree holds in
      (follows w.0, subst (λ (s : Standing _). WritesRecord (leaf_for old.current top.expect.level top.page key) key old s) (sym (kept w.0)) w.1);
}

-- the same from a root
pub root_again : {A : Type 0} (root : Root) (top : Node) (n key size : ℕ) (old new : Standing A) (outcome : Outcome) → n ≡ old.count → top ≡ root_place root n → PutsAgain top key size old new outcome → IsTrue old.told
    → (rows : List Row) (used : List ℕ) → IsRooted old.count old.current root rows used → HoldsLength key size rows
    → (outcome ≡ Whole) × WritesRecord (leaf_for old.current (root.levels - 1) root.page key) key old new
root_again root top n key size old new outcome is_count is_top puts told rows used rooted holds =
    let at_top = subst (λ (p : Node). PutsAgain p key size old new outcome) is_top puts in
    at_top.is told (subst (λ (m : ℕ). IsTree m old.current (root.levels - 1) root.page 0 last_key true) (sym is_count) rooted.tree.is_tree)
    (record { held = holds.held; is = ap (row_get key) (sym rooted.tree.rows_are) ∙ holds.is; long = holds.long })

-- and after calls that wrote nothing
pub record_later : {A : Type 0} (root : Root) (key size : ℕ) (old mid new : Standing A) → mid.current ≡ old.current → mid.count ≡ old.count → WritesNothing old mid → PutsRecord root key size mid new → PutsRecord root key size old new
record_later root key size old mid new same is_count nothing later rows used rooted holds =
    let there : IsRooted mid.count mid.current root rows used =
    subst (λ (n : ℕ). IsRooted n mid.current root rows used) (sym is_count) (subst (λ (lines : Lines). IsRooted old.count lines root rows used) (sym same) rooted) in
    let leaf = leaf_for old.current (root.levels - 1) root.page key in
    let record_is = record_at key (bytes_of old.current leaf) in
    only_then leaf (Meets record_is) (only_nothing leaf (Meets record_is) nothing)
    (subst (λ (lines : Lines). WritesOnly (leaf_for lines (root.levels - 1) root.page key) (Meets (record_at key (bytes_of lines (leaf_for lines (root.levels - 1) root.page key)))) mid new) same
    (later rows used there holds))
