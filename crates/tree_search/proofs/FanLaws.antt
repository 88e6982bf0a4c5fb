-- Some children of an inner page are replaced by others: what a put, a cut, a delete and a join do one level up.
use Rattle.std.proofs.Common.{◌≡◌, ℕ, suc, ◌+◌, ◌-◌, ◌≤◌, Bool, false, List, [], ◌∷◌, ◌++◌, refl, sym, ap, subst, ◌∙◌, arith, flat_map}
use Rattle.std.proofs.lemmas.Bool.{eq-eqb}
use Rattle.std.proofs.lemmas.List.{map-append}
use Rattle.std.proofs.lemmas.List.Concat.{flat_map-append}
use Rattle.line_pages.specs.Lines.{Lines}
use Rattle.line_pages.specs.Bytes.{bytes_of}
use Rattle.rows.specs.Rows.{Row, keys, row_put, row_delete, Ascends, Each, AllBelow, AllAbove}
use Rattle.page_format.specs.Node.{Child, children, first_keys, IsWellFormed}
use Rattle.page_alloc.specs.Counted.{times, SameOn}
use Rattle.tree_search.specs.Tree.{IsTree, tree_rows, tree_pages, Tree}
use Rattle.page_format.specs.Spans.{Span, reach, spans}
use Rattle.rows.proofs.RowLaws.{below_bound, above_bound, Each-append, row_put-amid, row_delete-amid}
use Rattle.page_alloc.proofs.CountedLaws.{times-append}
use Rattle.tree_search.proofs.TreeLaws.{Each-map, Each-both, Each-spans, flat_map-same, each_same, tree_rows-same, tree_pages-same, IsTree-same}
use Rattle.page_format.proofs.PageFacts.{inner_facts}
use Rattle.tree_search.proofs.OrderLaws.{IsChildTree, Ascends-fan, tree_rows-ascend}

pub spans-append : (xs ys : List Child) (high : ℕ) → spans (xs ++ ys) high ≡ spans xs (reach ys high) ++ spans ys high
spans-append [] ys high = refl
spans-append (x ∷ []) ys high = refl
spans-append (x ∷ y ∷ xs) ys high = ap (λ r. record { page = x.1; low = x.0; high = y.0 - 1 } ∷ r) (spans-append (y ∷ xs) ys high)

pub reach-append : (xs ys : List Child) (high : ℕ) → reach (xs ++ ys) high ≡ reach xs (reach ys high)
reach-append [] ys high = refl
reach-append (x ∷ xs) ys high = refl

Each-parts : {X : Type 0} (P : X → Type 0) (xs ys : List X) → Each P (xs ++ ys) → Each P xs × Each P ys
Each-parts P [] ys all = (tt, all)
Each-parts P (x ∷ xs) ys all = let r = Each-parts P xs ys all.1 in ((all.0, r.0), r.1)

pub spans-parts : (P : Span → Type 0) (xs ys : List Child) (high : ℕ) → Each P (spans (xs ++ ys) high) → Each P (spans xs (reach ys high)) × Each P (spans ys high)
spans-parts P xs ys high all = Each-parts P (spans xs (reach ys high)) (spans ys high) (subst (Each P) (spans-append xs ys high) all)

pub spans-join : (P : Span → Type 0) (xs ys : List Child) (high : ℕ) → Each P (spans xs (reach ys high)) → Each P (spans ys high) → Each P (spans (xs ++ ys) high)
spans-join P xs ys high first second = subst (Each P) (sym (spans-append xs ys high)) (Each-append P (spans xs (reach ys high)) (spans ys high) first second)

-- the rows and the pages of some children
abbrev pub rows_under : Lines → ℕ → List Child → List Row
rows_under lines level cs = flat_map (λ (child : Child). tree_rows lines level child.1) cs

abbrev pub pages_under : Lines → ℕ → List Child → List ℕ
pages_under lines level cs = flat_map (λ (child : Child). tree_pages lines level child.1) cs

-- children whose pages are the same are the same trees, whatever their bounds are
pub record StayUnder (count : ℕ) (old new : Lines) (level : ℕ) (cs : List Child) : Type 0 where
  pub rows : rows_under new level cs ≡ rows_under old level cs
  pub pages : pages_under new level cs ≡ pages_under old level cs
  pub trees : (high : ℕ) → Each (IsChildTree count old level) (spans cs high) → Each (IsChildTree count new level) (spans cs high)

pub stay_under : (count : ℕ) (old new : Lines) (level : ℕ) (cs : List Child) → SameOn (pages_under old level cs) old new → StayUnder count old new level cs
stay_under count old new level cs same =
    let each = each_same old new level cs same in
    record {
      rows = flat_map-same (λ (child : Child). tree_rows new level child.1) (λ (child : Child). tree_rows old level child.1) cs
          (Each-map (λ (child : Child). SameOn (tree_pages old level child.1) old new) (λ (child : Child). tree_rows new level child.1 ≡ tree_rows old level child.1) cs (λ child. tree_rows-same old new level child.1) each);
      pages = flat_map-same (λ (child : Child). tree_pages new level child.1) (λ (child : Child). tree_pages old level child.1) cs
          (Each-map (λ (child : Child). SameOn (tree_pages old level child.1) old new) (λ (child : Child). tree_pages new level child.1 ≡ tree_pages old level child.1) cs (λ child. tree_pages-same old new level child.1) each);
      trees = λ high. Each-both (λ (s : Span). SameOn (tree_pages old level s.page) old new) (IsChildTree count old level) (IsChildTree count new level) (spans cs high)
          (λ s. IsTree-same count old new level s.page s.low s.high false) (Each-spans (λ p. SameOn (tree_pages old level p) old new) cs high each);
    }

-- An inner page after some of its children gave way to others: it is a tree again, with the other children's rows and pages as they were.
pub record Refanned (count : ℕ) (old new : Lines) (level page low high : ℕ) (root : Bool) (xs ms ys : List Child) : Type 0 where
  pub tree : IsTree count new (suc level) page low high root
  pub rows : tree_rows new (suc level) page ≡ rows_under old level xs ++ (rows_under new level ms ++ rows_under old level ys)
  pub pages : tree_pages new (suc level) page ≡ page ∷ (pages_under old level xs ++ (pages_under new level ms ++ pages_under old level ys))

pub refan : (count : ℕ) (old new : Lines) (level page low high : ℕ) (root : Bool) (xs ss ms ys : List Child) → children (bytes_of old page) ≡ xs ++ (ss ++ ys)
    → Each (IsChildTree count old level) (spans (children (bytes_of old page)) high) → children (bytes_of new page) ≡ xs ++ (ms ++ ys)
    → IsWellFormed (bytes_of new page) (record { level = suc level; low = low; high = high; root = root; pages = count })
    → reach (ms ++ ys) high ≡ reach (ss ++ ys) high → SameOn (pages_under old level xs) old new → SameOn (pages_under old level ys) old new
    → Each (IsChildTree count new level) (spans ms (reach ys high)) → Refanned count old new level page low high root xs ms ys
refan count old new level page low high root xs ss ms ys was trees is well first same_front same_back changed =
    let front = stay_under count old new level xs same_front in
    let back = stay_under count old new level ys same_back in
    let parts = spans-parts (IsChildTree count old level) xs (ss ++ ys) high (subst (λ cs. Each (IsChildTree count old level) (spans cs high)) was trees) in
    let back_trees = back.trees high (spans-parts (IsChildTree count old level) ss ys high parts.1).1 in
    let front_trees = subst (λ h. Each (IsChildTree count new level) (spans xs h)) (sym first) (front.trees (reach (ss ++ ys) high) parts.0) in
    record {
      tree = (
        well,
        subst (λ cs. Each (IsChildTree count new level) (spans cs high)) (sym is)
            (spans-join (IsChildTree count new level) xs (ms ++ ys) high front_trees (spans-join (IsChildTree count new level) ms ys high changed back_trees)),
      );
      rows = ap (rows_under new level) is ∙ flat_map-append (λ (child : Child). tree_rows new level child.1) xs (ms ++ ys)
          ∙ ap (λ r. rows_under new level xs ++ r) (flat_map-append (λ (child : Child). tree_rows new level child.1) ms ys) ∙ (rw (front.rows, back.rows) refl);
      pages = ap (λ r. page ∷ r) (ap (pages_under new level) is ∙ flat_map-append (λ (child : Child). tree_pages new level child.1) xs (ms ++ ys)
          ∙ ap (λ r. pages_under new level xs ++ r) (flat_map-append (λ (child : Child). tree_pages new level child.1) ms ys) ∙ (rw (front.pages, back.pages) refl));
    }

low_below : (low high z : ℕ) (ks rest : List ℕ) → Ascends low high (ks ++ z ∷ rest) → low ≤ z
low_below low high z [] rest up = up.0
low_below low high z (k ∷ ks) rest up = let ih = low_below (k + 1) high z ks rest up.2 in omega (arith, ih, up.0)

Ascends-front : (low high z : ℕ) (ks rest : List ℕ) → Ascends low high (ks ++ z ∷ rest) → Ascends low (z - 1) ks
Ascends-front low high z [] rest up = tt
Ascends-front low high z (k ∷ ks) rest up = let after = low_below (k + 1) high z ks rest up.2 in (up.0, omega (arith, after), Ascends-front (k + 1) high z ks rest up.2)

Ascends-back : (low high : ℕ) (ks rest : List ℕ) → Ascends low high (ks ++ rest) → (from : ℕ) × Ascends from high rest
Ascends-back low high [] rest up = (low, up)
Ascends-back low high (k ∷ ks) rest up = Ascends-back (k + 1) high ks rest up.2

-- The rows on both sides of some children, where a key is between the first key of those and the one before the next child's.
pub beside : (count : ℕ) (lines : Lines) (level page low high : ℕ) (root : Bool) (xs ss ys : List Child) (s : Child) (key : ℕ) → IsTree count lines (suc level) page low high root
    → children (bytes_of lines page) ≡ xs ++ ((s ∷ ss) ++ ys) → s.0 ≤ key → key ≤ reach ys high
    → AllBelow key (rows_under lines level xs) × AllAbove key (rows_under lines level ys)
beside count lines level page low high root xs ss ys s key tree was above within =
    let facts = inner_facts (bytes_of lines page) _ (λ e. cc) tree.0 in
    let order : Ascends low high (first_keys xs ++ s.0 ∷ (first_keys ss ++ first_keys ys)) =
    subst (Ascends low high) (ap first_keys was ∙ map-append (λ (child : Child). child.0) xs ((s ∷ ss) ++ ys) ∙ ap (λ r. first_keys xs ++ s.0 ∷ r) (map-append (λ (child : Child). child.0) ss ys)) facts.order in
    let parts = spans-parts (IsChildTree count lines level) xs ((s ∷ ss) ++ ys) high (subst (λ cs. Each (IsChildTree count lines level) (spans cs high)) was tree.1) in
    let back = spans-parts (IsChildTree count lines level) (s ∷ ss) ys high parts.1 in
    let later = Ascends-back low high (first_keys xs) (s.0 ∷ (first_keys ss ++ first_keys ys)) order in
    (front xs order parts.0, behind ys later.0 later.1 back.1 within)
  where
    rising : (s : Span) → IsChildTree count lines level s → Ascends s.low s.high (keys (tree_rows lines level s.page))
    rising s = tree_rows-ascend count lines level s.page s.low s.high false

    front : (xs : List Child) → Ascends low high (first_keys xs ++ s.0 ∷ (first_keys ss ++ first_keys ys)) → Each (IsChildTree count lines level) (spans xs (s.0 - 1)) → AllBelow key (rows_under lines level xs)
    front [] order trees = tt
    front (x ∷ xs) order trees =
        let before = low_below (x.0 + 1) high s.0 (first_keys xs) (first_keys ss ++ first_keys ys) order.2 in
        let own = Ascends-front low high s.0 (first_keys (x ∷ xs)) (first_keys ss ++ first_keys ys) order in
        below_bound x.0 (s.0 - 1) key (rows_under lines level (x ∷ xs)) (omega (arith, before, above))
        (Ascends-fan (tree_rows lines level) (x ∷ xs) x.0 (s.0 - 1) (eq-eqb x.0 x.0 refl) (omega arith, own.1, own.2)
        (Each-map (IsChildTree count lines level) (λ (t : Span). Ascends t.low t.high (keys (tree_rows lines level t.page))) (spans (x ∷ xs) (s.0 - 1)) rising trees))

    behind : (ys : List Child) (from : ℕ) → Ascends from high (s.0 ∷ (first_keys ss ++ first_keys ys)) → Each (IsChildTree count lines level) (spans ys high) → key ≤ reach ys high → AllAbove key (rows_under lines level ys)
    behind [] from order trees within = tt
    behind (y ∷ ys) from order trees within =
        let after = low_below (s.0 + 1) high y.0 (first_keys ss) (first_keys ys) order.2 in
        let own = Ascends-back (s.0 + 1) high (first_keys ss) (first_keys (y ∷ ys)) order.2 in
        above_bound y.0 high key (rows_under lines level (y ∷ ys)) (omega (arith, after, within))
        (Ascends-fan (tree_rows lines level) (y ∷ ys) y.0 high (eq-eqb y.0 y.0 refl) (omega arith, own.1.1, own.1.2)
        (Each-map (IsChildTree count lines level) (λ (t : Span). Ascends t.low t.high (keys (tree_rows lines level t.page))) (spans (y ∷ ys) high) rising trees))

-- A put among some children is a put in the whole: the rows of the children that take their place are those with the value put in.
pub refan_put : (count : ℕ) (old new : Lines) (level page low high : ℕ) (root : Bool) (xs ss ms ys : List Child) (s : Child) (key : ℕ) (value : List ℕ) → IsTree count old (suc level) page low high root
    → children (bytes_of old page) ≡ xs ++ ((s ∷ ss) ++ ys) → s.0 ≤ key → key ≤ reach ys high → Refanned count old new level page low high root xs ms ys
    → rows_under new level ms ≡ row_put key value (rows_under old level (s ∷ ss)) → tree_rows new (suc level) page ≡ row_put key value (tree_rows old (suc level) page)
refan_put count old new level page low high root xs ss ms ys s key value tree was above within after put =
    let sides = beside count old level page low high root xs ss ys s key tree was above within in
    let whole : tree_rows old (suc level) page ≡ rows_under old level xs ++ (rows_under old level (s ∷ ss) ++ rows_under old level ys) =
    ap (rows_under old level) was ∙ flat_map-append (λ (child : Child). tree_rows old level child.1) xs ((s ∷ ss) ++ ys) ∙ ap (λ r. rows_under old level xs ++ r) (flat_map-append (λ (child : Child). tree_rows old level child.1) (s ∷ ss) ys) in
    after.rows ∙ ap (λ r. rows_under old level xs ++ (r ++ rows_under old level ys)) put
    ∙ sym (ap (row_put key value) whole ∙ row_put-amid key value (rows_under old level xs) (rows_under old level (s ∷ ss)) (rows_under old level ys) sides.0 sides.1)

-- the same for a delete
pub refan_delete : (count : ℕ) (old new : Lines) (level page low high : ℕ) (root : Bool) (xs ss ms ys : List Child) (s : Child) (key : ℕ) → IsTree count old (suc level) page low high root
    → children (bytes_of old page) ≡ xs ++ ((s ∷ ss) ++ ys) → s.0 ≤ key → key ≤ reach ys high → Refanned count old new level page low high root xs ms ys
    → rows_under new level ms ≡ row_delete key (rows_under old level (s ∷ ss)) → tree_rows new (suc level) page ≡ row_delete key (tree_rows old (suc level) page)
refan_delete count old new level page low high root xs ss ms ys s key tree was above within after deleted =
    let sides = beside count old level page low high root xs ss ys s key tree was above within in
    let whole : tree_rows old (suc level) page ≡ rows_under old level xs ++ (rows_under old level (s ∷ ss) ++ rows_under old level ys) =
    ap (rows_under old level) was ∙ flat_map-append (λ (child : Child). tree_rows old level child.1) xs ((s ∷ ss) ++ ys) ∙ ap (λ r. rows_under old level xs ++ r) (flat_map-append (λ (child : Child). tree_rows old level child.1) (s ∷ ss) ys) in
    after.rows ∙ ap (λ r. rows_under old level xs ++ (r ++ rows_under old level ys)) deleted
    ∙ sym (ap (row_delete key) whole ∙ row_delete-amid key (rows_under old level xs) (rows_under old level (s ∷ ss)) (rows_under old level ys) sides.0 sides.1)

-- each child of a tree that uses no page twice is such a tree, and the page itself is in none of them
pub record Parts (count : ℕ) (lines : Lines) (level page high : ℕ) (s : Span) : Type 0 where
  pub tree : Tree count lines s.page level s.low s.high false (tree_rows lines level s.page) (tree_pages lines level s.page)
  pub apart : times page (tree_pages lines level s.page) ≡ 0

pub tree_parts : (count : ℕ) (lines : Lines) (level page low high : ℕ) (root : Bool) → IsTree count lines (suc level) page low high root → ((n : ℕ) → times n (tree_pages lines (suc level) page) ≤ 1)
    → Each (Parts count lines level page high) (spans (children (bytes_of lines page)) high)
tree_parts count lines level page low high root tree once = go (children (bytes_of lines page)) tree.1 once
  where
    go : (cs : List Child) → Each (IsChildTree count lines level) (spans cs high) → ((n : ℕ) → times n (page ∷ pages_under lines level cs) ≤ 1) → Each (Parts count lines level page high) (spans cs high)
    go [] trees once = tt
    go (c ∷ cs) trees once = (
      record {
        tree = record { is_tree = trees.0; rows_are = refl; used_are = refl; once = λ n. omega (arith, once n, times-append n (tree_pages lines level c.1) (pages_under lines level cs)) };
        apart = let own = rw (eq-eqb page page refl) at (once page) in omega (arith, own, times-append page (tree_pages lines level c.1) (pages_under lines level cs));
      },
      go cs trees.1 (λ n. omega (arith, once n, times-append n (tree_pages lines level c.1) (pages_under lines level cs))),
    )
