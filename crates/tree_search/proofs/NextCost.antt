-- What the search for the next row costs.
use Rattle.std.proofs.Common.{◌≡◌, ◌≢◌, ℕ, suc, ◌+◌, ◌-◌, ◌*◌, ◌<◌, ◌≤◌, false, Option, Some, None, Result, Ok, Err, OnOk, IfOk, refl, sym, ap, subst, ◌∙◌, arith, slice_get, length}
use Rattle.line_pages.specs.Lines.{Lines}
use Rattle.line_pages.specs.Bytes.{bytes_of}
use Rattle.line_pages.specs.Standing.{Standing}
use Rattle.line_pages.specs.Cost.{lines_of, AddsLines, Costs}
use Rattle.line_pages.proofs.CostLaws.{AddsLines-weaker, Costs-trans, Costs-weaker, length-lines_of}
use Rattle.page_format.specs.declared.root.Expect.{Expect}
use Rattle.rows.specs.Rows.{Row, row_next}
use Rattle.page_format.specs.Spans.{spans}
use Rattle.page_format.specs.Node.{children}
use Rattle.page_format.proofs.PageFacts.{inner_facts}
use Rattle.page_search.specs.Cost.{search_lines}
use Rattle.tree_search.specs.Tree.{IsTree, tree_rows}
use Rattle.tree_search.specs.Next.{Reaches, lines_for, next_lines, first_lines}
use Rattle.tree_search.proofs.CostLaws.{leaf_lines, inner_lines, costs_then}
use Rattle.tree_search.proofs.NextLaws.{some_next, pow_some, begins_behind}
use Rattle.tree_search.proofs.NextReads.{child_tree}
use Rattle.tree_search.proofs.OrderLaws.{tree_rows-ascend}
use Rattle.tree_search.proofs.SizeLaws.{rows_below}

-- the number of a leaf's rows is in line 0
pub count_line : {A : Type 0} {old new : Standing A} → AddsLines (λ lines. lines ≡ lines_of 8 8) old new → Costs 1 old new
count_line read = AddsLines-weaker (λ x is. omega (arith, ap length is, length-lines_of 8 8)) read

-- a row that is there
pub some_costs : {A E : Type 0} (none some : ℕ) (old new : Standing A) (r : Result (Option Row) E) → IfOk r (λ row. row ≢ None) → OnOk r (Costs some old new) → IfOk r (λ row. Costs (lines_for none some row) old new)
some_costs none some old new (Ok None) there costs = absurd (there refl)
some_costs none some old new (Ok (Some row)) there costs = costs
some_costs none some old new (Err e) there costs = tt

pub is_there : {E : Type 0} {found : Option Row} (r : Result (Option Row) E) → found ≢ None → IfOk r (λ row. row ≡ found) → IfOk r (λ row. row ≢ None)
is_there (Ok row) some is = λ none. some (sym is ∙ none)
is_there (Err e) some is = tt

-- a leaf, and then its row
pub next_leaf : {A E : Type 0} (level : ℕ) (old mid new : Standing A) (r : Result (Option Row) E) → level ≡ 0 → Costs (search_lines level) old mid → IfOk r (λ row. Costs (lines_for 1 12 row) mid new)
    → IfOk r (λ row. Costs (next_lines level row) old new)
next_leaf level old mid new (Ok None) leaf first rest = Costs-weaker (omega (arith, leaf_lines level leaf)) (Costs-trans first rest)
next_leaf level old mid new (Ok (Some row)) leaf first rest = Costs-weaker (omega (arith, leaf_lines level leaf)) (Costs-trans first rest)
next_leaf level old mid new (Err e) leaf first rest = tt

pub first_leaf : {A E : Type 0} (level : ℕ) (old mid new : Standing A) (r : Result (Option Row) E) → level ≡ 0 → Costs (search_lines level) old mid → IfOk r (λ row. Costs (lines_for 1 12 row) mid new)
    → OnOk r (Costs (first_lines level) old new)
first_leaf level old mid new (Ok None) leaf first rest = Costs-weaker (omega (arith, leaf_lines level leaf)) (Costs-trans first rest)
first_leaf level old mid new (Ok (Some row)) leaf first rest = Costs-weaker (omega (arith, leaf_lines level leaf)) (Costs-trans first rest)
first_leaf level old mid new (Err e) leaf first rest = tt

-- an inner page, and then a child that has the row
pub next_some : {A : Type 0} (level : ℕ) (row : Row) (old mid new : Standing A) → 1 ≤ level → Costs (search_lines level) old mid → Costs (next_lines (level - 1) (Some row)) mid new → Costs (next_lines level (Some row)) old new
next_some level row old mid new some first rest = Costs-weaker (omega (arith, inner_lines level some, some)) (Costs-trans first rest)

pub first_some : {A : Type 0} (level : ℕ) (old mid new : Standing A) → 1 ≤ level → Costs (search_lines level) old mid → Costs (first_lines (level - 1)) mid new → Costs (first_lines level) old new
first_some level old mid new some first rest = Costs-weaker (omega (arith, inner_lines level some, some)) (Costs-trans first rest)

-- or one that has none, and then the search behind it
pub next_none : {A E : Type 0} (level : ℕ) (old mid last new : Standing A) (r : Result (Option Row) E) → 1 ≤ level → Costs (search_lines level) old mid → Costs (next_lines (level - 1) None) mid last
    → IfOk r (λ row. Costs (lines_for 0 (first_lines level) row) last new) → IfOk r (λ row. Costs (next_lines level row) old new)
next_none level old mid last new (Ok None) some first lower rest = Costs-weaker (omega (arith, inner_lines level some, some)) (Costs-trans (Costs-trans first lower) rest)
next_none level old mid last new (Ok (Some row)) some first lower rest = Costs-weaker (omega (arith, inner_lines level some, some)) (Costs-trans (Costs-trans first lower) rest)
next_none level old mid last new (Err e) some first lower rest = tt

-- a child has a row, which is the first from its low bound on
pub first_row : (count : ℕ) (lines : Lines) (level page low high from : ℕ) → IsTree count lines level page low high false → from ≤ low → row_next from (tree_rows lines level page) ≢ None
first_row count lines level page low high from tree le =
    some_next from (tree_rows lines level page) (omega (arith, rows_below count lines level page low high tree, pow_some level)) low high (tree_rows-ascend count lines level page low high false tree) le

-- behind a child that reaches up to a key the search goes down from the next child's low bound
pub after_costs : {A E : Type 0} (e : Expect) (page at child low top high : ℕ) (old mid new : Standing A) (r : Result (Option Row) E) → mid.current ≡ old.current → 1 ≤ e.level
    → IsTree e.pages old.current e.level page e.low e.high e.root → Reaches (children (bytes_of old.current page)) e.high high → high < e.high
    → slice_get (spans (children (bytes_of old.current page)) e.high) at ≡ Some (record { page = child; low = low; high = top }) → low ≤ high + 1 → high + 1 ≤ top
    → Costs (search_lines e.level) old mid → (IsTree e.pages mid.current (e.level - 1) child low top false → IfOk r (λ row. row ≡ row_next (high + 1) (tree_rows mid.current (e.level - 1) child)))
    → (IsTree e.pages mid.current (e.level - 1) child low top false → high + 1 ≡ low → OnOk r (Costs (first_lines (e.level - 1)) mid new))
    → IfOk r (λ row. Costs (lines_for 0 (first_lines e.level) row) old new)
after_costs e page at child low top high old mid new r same some tree reached less spot above within first is costs =
    let is_level : e.level ≡ suc (e.level - 1) = omega (arith, some) in
    let down : IsTree e.pages old.current (suc (e.level - 1)) page e.low e.high e.root = subst (λ (l : ℕ). IsTree e.pages old.current l page e.low e.high e.root) is_level tree in
    let facts = inner_facts (bytes_of old.current page) _ (λ z. cc) down.0 in
    let begins = begins_behind e.low e.high high at (children (bytes_of old.current page)) (record { page = child; low = low; high = top }) facts.order reached less spot above within in
    let below = child_tree e old.current mid.current page at child low top same some tree spot in
    some_costs 0 (first_lines e.level) old new r (is_there r (first_row e.pages mid.current (e.level - 1) child low top (high + 1) below (omega (arith, begins))) (is below))
    (costs_then (search_lines e.level) (first_lines (e.level - 1)) (first_lines e.level) old mid new r (omega (arith, inner_lines e.level some, some)) first (costs below (sym begins)))

-- whatever it answers
pub at_most : {A E : Type 0} (level most : ℕ) (old new : Standing A) (r : Result (Option Row) E) → 20 * level + 69 ≤ most → IfOk r (λ row. Costs (next_lines level row) old new) → OnOk r (Costs most old new)
at_most level most old new (Ok None) less costs = Costs-weaker (omega (arith, less)) costs
at_most level most old new (Ok (Some row)) less costs = Costs-weaker (omega (arith, less)) costs
at_most level most old new (Err e) less costs = tt
