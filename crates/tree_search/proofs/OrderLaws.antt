-- The rows of a tree ascend within its bounds, and a key's row is in the leaf at the end of the key's path.
use Rattle.std.proofs.Common.{◌≡◌, ℕ, zero, suc, ◌+◌, ◌-◌, ◌<◌, ◌≤◌, inl, inr, Bool, true, false, List, [], ◌∷◌, ◌++◌, length, Some, refl, sym, ap, subst, ◌∙◌, arith, nat_eq, append-nil, append_assoc, flat_map, slice_get}
use Rattle.std.proofs.lemmas.Bool.{lt-ltb, le-ltb, eqb-true, eq-eqb, cases_lt}
use Rattle.std.proofs.lemmas.List.{map-append}
use Rattle.line_pages.specs.Lines.{Lines}
use Rattle.line_pages.specs.Bytes.{bytes_of}
use Rattle.rows.specs.Rows.{Row, keys, key_of, row_get, row_next, Ascends, Each, AllBelow, AllAbove}
use Rattle.page_format.specs.Node.{Child, children, leaf_rows, children_from, entry_count, begins_at, first_keys}
use Rattle.page_format.specs.Spans.{Span, spans, reach}
use Rattle.tree_search.specs.Tree.{IsTree, tree_rows, child_for, path}
use Rattle.rows.proofs.RowLaws.{Ascends-append, below_bound, above_bound, Each-append, row_get-amid, or_else, row_next-behind, row_next-append}
use Rattle.page_format.proofs.PageFacts.{leaf_facts, inner_facts}
use Rattle.tree_search.proofs.TreeLaws.{Each-map}

-- rows that ascend in each span ascend in a row
pub Ascends-fan : (rows_at : ℕ → List Row) (cs : List Child) (low high : ℕ) → begins_at low cs ≡ true → Ascends low high (first_keys cs)
    → Each (λ (s : Span). Ascends s.low s.high (keys (rows_at s.page))) (spans cs high) → Ascends low high (keys (flat_map (λ (child : Child). rows_at child.1) cs))
Ascends-fan rows_at [] low high begins order all = tt
Ascends-fan rows_at (c ∷ []) low high begins order all =
    subst (λ rs. Ascends low high (keys rs)) (sym (append-nil (rows_at c.1)))
    (subst (λ k. Ascends k high (keys (rows_at c.1))) (eqb-true c.0 low begins) all.0)
Ascends-fan rows_at (c ∷ d ∷ cs) low high begins order all =
    let here = eqb-true c.0 low begins in
    let rest = flat_map (λ (child : Child). rows_at child.1) (d ∷ cs) in
    let next : Ascends d.0 high (first_keys (d ∷ cs)) = (omega arith, order.2.1, order.2.2) in
    let behind = Ascends-fan rows_at (d ∷ cs) d.0 high (same d.0) next all.1 in
    let first = subst (λ k. Ascends k (d.0 - 1) (keys (rows_at c.1))) here all.0 in
    subst (Ascends low high) (sym (map-append key_of (rows_at c.1) rest))
    (Ascends-append low (d.0 - 1) d.0 high (keys (rows_at c.1)) (keys rest) (omega (arith, order.2.0, here)) (omega (arith, order.2.0)) (omega (arith, order.2.1)) first behind)
  where
    same : (k : ℕ) → nat_eq k k ≡ true
    same k = eq-eqb k k refl

-- the rows of a tree ascend, and each is within its bounds
pub tree_rows-ascend : (count : ℕ) (lines : Lines) (level page low high : ℕ) (root : Bool) → IsTree count lines level page low high root → Ascends low high (keys (tree_rows lines level page))
tree_rows-ascend count lines zero page low high root is = (leaf_facts (bytes_of lines page) _ refl is).order
tree_rows-ascend count lines (suc level) page low high root is =
    let facts = inner_facts (bytes_of lines page) _ (λ e. cc) is.0 in
    Ascends-fan (tree_rows lines level) (children (bytes_of lines page)) low high facts.begins facts.order
    (Each-map (λ (s : Span). IsTree count lines level s.page s.low s.high false) (λ (s : Span). Ascends s.low s.high (keys (tree_rows lines level s.page))) (spans (children (bytes_of lines page)) high)
    (λ s. tree_rows-ascend count lines level s.page s.low s.high false) is.1)

-- The rows of an inner page around those of the child that a key belongs to.
pub record Around (rows_at : ℕ → List Row) (cs : List Child) (high key : ℕ) (Fact : Span → Type 0) : Type 0 where
  pub span : Span
  pub fact : Fact span
  pub above : span.low ≤ key
  pub within : key ≤ span.high
  pub before : List Row
  pub after : List Row
  pub rows : flat_map (λ (child : Child). rows_at child.1) cs ≡ before ++ (rows_at span.page ++ after)
  pub low_part : AllBelow key before
  pub high_part : AllAbove key after

-- The child that `child_for` names, where the first key of all is not above the key.
pub around : (rows_at : ℕ → List Row) (Fact : Span → Type 0) (c : Child) (cs : List Child) (high key : ℕ) → c.0 ≤ key → key ≤ high → Ascends c.0 high (first_keys (c ∷ cs))
    → Each Fact (spans (c ∷ cs) high) → Each (λ (s : Span). Ascends s.low s.high (keys (rows_at s.page))) (spans (c ∷ cs) high)
    → (a : Around rows_at (c ∷ cs) high key Fact) × (a.span.page ≡ child_for key c.1 cs)
around rows_at Fact c [] high key low within order facts all = (
  record {
    span = record { page = c.1; low = c.0; high = high };
    fact = facts.0;
    above = low;
    within = within;
    before = [];
    after = [];
    rows = refl;
    low_part = tt;
    high_part = tt;
  },
  refl,
)
around rows_at Fact c (d ∷ cs) high key low within order facts all =
    elim (cases_lt key d.0) [
      | inl before ↦
          let rest = flat_map (λ (child : Child). rows_at child.1) (d ∷ cs) in
          let behind : Ascends d.0 high (keys rest) = Ascends-fan rows_at (d ∷ cs) d.0 high (same d.0) (omega arith, order.2.1, order.2.2) all.1 in (
            record {
              span = record { page = c.1; low = c.0; high = d.0 - 1 };
              fact = facts.0;
              above = low;
              within = omega (arith, before);
              before = [];
              after = rest;
              rows = refl;
              low_part = tt;
              high_part = above_bound d.0 high key rest before behind;
            },
            rw (lt-ltb key d.0 before) refl,
          )
      | inr at ↦
          let next = around rows_at Fact d cs high key at within (omega arith, order.2.1, order.2.2) facts.1 all.1 in (
            record {
              span = next.0.span;
              fact = next.0.fact;
              above = next.0.above;
              within = next.0.within;
              before = rows_at c.1 ++ next.0.before;
              after = next.0.after;
              rows = ap (λ rs. rows_at c.1 ++ rs) next.0.rows ∙ sym (append_assoc (rows_at c.1) next.0.before (rows_at next.0.span.page ++ next.0.after));
              low_part = Each-append (λ (row : Row). row.0 < key) (rows_at c.1) next.0.before (below_bound c.0 (d.0 - 1) key (rows_at c.1) (omega (arith, at, order.2.0)) all.0) next.0.low_part;
              high_part = next.0.high_part;
            },
            rw (le-ltb key d.0 at) next.1,
          )
    ]
  where
    same : (k : ℕ) → nat_eq k k ≡ true
    same k = eq-eqb k k refl

children_from-length : (bytes : List ℕ) (at n : ℕ) → length (children_from bytes at n) ≡ n
children_from-length bytes at zero = refl
children_from-length bytes at (suc n) = ap suc (children_from-length bytes (at + 16) n)

pub length-children : (bytes : List ℕ) → length (children bytes) ≡ entry_count bytes
unfolding children
length-children bytes = children_from-length bytes 64 (entry_count bytes)

abbrev pub IsChildTree : ℕ → Lines → ℕ → Span → Type 0
IsChildTree count lines level s = IsTree count lines level s.page s.low s.high false

-- the child that a key belongs to, in an inner page of a tree
pub child_of_key : (count : ℕ) (lines : Lines) (level page low high : ℕ) (root : Bool) (key : ℕ) → IsTree count lines (suc level) page low high root → low ≤ key → key ≤ high
    → (a : Around (tree_rows lines level) (children (bytes_of lines page)) high key (IsChildTree count lines level)) × (a.span.page ≡ child_for key 0 (children (bytes_of lines page)))
child_of_key count lines level page low high root key is above within =
    let facts = inner_facts (bytes_of lines page) _ (λ e. cc) is.0 in
    go (children (bytes_of lines page)) (omega (arith, facts.some, length-children (bytes_of lines page))) facts.begins facts.order is.1
    (Each-map (IsChildTree count lines level) (λ (s : Span). Ascends s.low s.high (keys (tree_rows lines level s.page))) (spans (children (bytes_of lines page)) high)
    (λ s. tree_rows-ascend count lines level s.page s.low s.high false) is.1)
  where
    go : (cs : List Child) → 1 ≤ length cs → begins_at low cs ≡ true → Ascends low high (first_keys cs) → Each (IsChildTree count lines level) (spans cs high)
        → Each (λ (s : Span). Ascends s.low s.high (keys (tree_rows lines level s.page))) (spans cs high)
        → (a : Around (tree_rows lines level) cs high key (IsChildTree count lines level)) × (a.span.page ≡ child_for key 0 cs)
    go [] some begins order trees all = absurd (omega arith)
    go (c ∷ cs) some begins order trees all =
        let here = eqb-true c.0 low begins in
        let first : c.0 ≤ key = omega (arith, here, above) in
        let r = around (tree_rows lines level) (IsChildTree count lines level) c cs high key first within (omega arith, order.1, order.2) trees all in
        (r.0, rw (le-ltb key c.0 first) r.1)

-- the leaf at the end of a key's path
abbrev pub leaf_for : Lines → ℕ → ℕ → ℕ → ℕ
leaf_for lines zero page key = page
leaf_for lines (suc level) page key = leaf_for lines level (child_for key 0 (children (bytes_of lines page))) key

-- what a tree has at a key is what the leaf at the end of the key's path has there
pub row_get-on_path : (count : ℕ) (lines : Lines) (level page low high : ℕ) (root : Bool) (key : ℕ) → IsTree count lines level page low high root → low ≤ key → key ≤ high
    → row_get key (tree_rows lines level page) ≡ row_get key (leaf_rows (bytes_of lines (leaf_for lines level page key)))
row_get-on_path count lines zero page low high root key is above within = refl
row_get-on_path count lines (suc level) page low high root key is above within =
    let r = child_of_key count lines level page low high root key is above within in
    let a = r.0 in
    ap (row_get key) a.rows ∙ row_get-amid key a.before (tree_rows lines level a.span.page) a.after a.low_part a.high_part
    ∙ row_get-on_path count lines level a.span.page a.span.low a.span.high false key a.fact a.above a.within
    ∙ ap (λ p. row_get key (leaf_rows (bytes_of lines (leaf_for lines level p key)))) r.1

pub Each-get : {X : Type 0} (P : X → Type 0) (xs : List X) (at : ℕ) (x : X) → Each P xs → slice_get xs at ≡ Some x → P x
Each-get P [] at x all is = absurd (cc)
Each-get P (y ∷ ys) zero x all is = subst P (the_one is) all.0
  where
    the_one : Some y ≡ Some x → y ≡ x
    the_one e = cc
Each-get P (y ∷ ys) (suc at) x all is = Each-get P ys at x all.1 is

-- the span at a place that has the key is that of the child that `child_for` names
pub span_for : (c : Child) (cs : List Child) (high at key : ℕ) (s : Span) → Ascends c.0 high (first_keys (c ∷ cs)) → slice_get (spans (c ∷ cs) high) at ≡ Some s → s.low ≤ key → key ≤ s.high
    → (c.0 ≤ key) × (s.page ≡ child_for key c.1 cs)
span_for c [] high zero key s order is above within = let e : s ≡ record { page = c.1; low = c.0; high = high } = cc in (omega (arith, ap (λ (t : Span). t.low) e), ap (λ (t : Span). t.page) e)
span_for c [] high (suc at) key s order is above within = absurd (cc)
span_for c (d ∷ cs) high zero key s order is above within =
    let e : s ≡ record { page = c.1; low = c.0; high = d.0 - 1 } = cc in
    (omega (arith, ap (λ (t : Span). t.low) e), rw (lt-ltb key d.0 (omega (arith, ap (λ (t : Span). t.high) e, order.2.0))) (ap (λ (t : Span). t.page) e))
span_for c (d ∷ cs) high (suc at) key s order is above within =
    let next = span_for d cs high at key s (omega arith, order.2.1, order.2.2) is above within in
    (omega (arith, next.0, order.2.0), rw (le-ltb key d.0 next.0) next.1)

-- What a right answer with a child means in a tree.
pub record Descends (count : ℕ) (lines : Lines) (level page key : ℕ) (s : Span) : Type 0 where
  pub tree : IsTree count lines level s.page s.low s.high false
  pub rows : row_get key (tree_rows lines (suc level) page) ≡ row_get key (tree_rows lines level s.page)
  pub way : path lines (suc level) page key ≡ page ∷ path lines level s.page key

pub descends : (count : ℕ) (lines : Lines) (level page low high : ℕ) (root : Bool) (key at : ℕ) (s : Span) → IsTree count lines (suc level) page low high root
    → slice_get (spans (children (bytes_of lines page)) high) at ≡ Some s → low ≤ key → key ≤ high → s.low ≤ key → key ≤ s.high → Descends count lines level page key s
descends count lines level page low high root key at s is found above within s_above s_within =
    let facts = inner_facts (bytes_of lines page) _ (λ e. cc) is.0 in
    let r = child_of_key count lines level page low high root key is above within in
    let a = r.0 in
    let here : s.page ≡ child_for key 0 (children (bytes_of lines page)) = named (children (bytes_of lines page)) facts.begins facts.order found in
    let same : a.span.page ≡ s.page = r.1 ∙ sym here in
    record {
      tree = Each-get (IsChildTree count lines level) (spans (children (bytes_of lines page)) high) at s is.1 found;
      rows = ap (row_get key) a.rows ∙ row_get-amid key a.before (tree_rows lines level a.span.page) a.after a.low_part a.high_part ∙ ap (λ p. row_get key (tree_rows lines level p)) same;
      way = ap (λ p. page ∷ path lines level p key) (sym here);
    }
  where
    named : (cs : List Child) → begins_at low cs ≡ true → Ascends low high (first_keys cs) → slice_get (spans cs high) at ≡ Some s → s.page ≡ child_for key 0 cs
    named [] begins order got = absurd (cc)
    named (c ∷ cs) begins order got = let r = span_for c cs high at key s (omega arith, order.1, order.2) got s_above s_within in rw (le-ltb key c.0 r.0) r.1

-- the next row is that of the child to which the key belongs, or else the first one behind that child
pub row_next-around : (rows_at : ℕ → List Row) (cs : List Child) (high from : ℕ) (Fact : Span → Type 0) (a : Around rows_at cs high from Fact)
    → row_next from (flat_map (λ (child : Child). rows_at child.1) cs) ≡ or_else (row_next from (rows_at a.span.page)) (row_next from a.after)
row_next-around rows_at cs high from Fact a =
    ap (row_next from) a.rows ∙ row_next-behind from a.before (rows_at a.span.page ++ a.after) a.low_part ∙ row_next-append from (rows_at a.span.page) a.after

-- where all rows are above the key, the next one is the first
pub row_next-first : (from : ℕ) (row : Row) (rest : List Row) → AllAbove from (row ∷ rest) → row_next from (row ∷ rest) ≡ Some row
row_next-first from row rest above = rw (le-ltb row.0 from (omega (arith, above.0))) refl

-- the child that a search names, among the others
pub record Located (cs : List Child) (high : ℕ) (s : Span) : Type 0 where
  pub xs : List Child
  pub ys : List Child
  pub is : cs ≡ xs ++ (((s.low, s.page) ∷ []) ++ ys)
  pub reach_is : reach ys high ≡ s.high

pub located : (cs : List Child) (high at : ℕ) (s : Span) → slice_get (spans cs high) at ≡ Some s → Located cs high s
located [] high at s got = absurd (cc)
located (c ∷ cs) high zero s got =
    let e : record { page = c.1; low = c.0; high = reach cs high } ≡ s = cc in
    record { xs = []; ys = cs; is = ap (λ (t : Span). (t.low, t.page) ∷ cs) e; reach_is = ap (λ (t : Span). t.high) e }
located (c ∷ cs) high (suc at) s got =
    let r = located cs high at s got in
    record { xs = c ∷ r.xs; ys = r.ys; is = ap (λ t. c ∷ t) r.is; reach_is = r.reach_is }
