use Rattle.std.proofs.Common.{ℕ, ◌-◌, ◌+◌, ◌*◌, ◌≤◌, true, List, IfOk, OnOk, arith, sym, subst}
use Rattle.line_pages.specs.Cost.{Costs}
use Rattle.line_pages.specs.Standing.{AddsReads}
use Rattle.tree_search.specs.Way.{AreReadsIn}
use Rattle.rows.specs.Rows.{last_key}
use Rattle.tree_search.specs.Tree.{IsTree, tree_pages}
use Rattle.tree_search.proofs.NextCost.{at_most}
use Rattle.page_format.specs.declared.root.Expect.{Expect}
use Rattle.tree_search.specs.Next.{most_visits, next_lines}
use Rattle.tree_search.proofs.NextLaws.{most_of_four}
use Rattle.tree_search.proofs.next.next_from.Goals as goal

pub returns-clause-few : goal.returns-clause-few
returns-clause-few g c =
    let most = most_of_four (c.args.root.now.levels - 1) (omega (arith, c.requires.few_levels)) in
    let few = subst (λ (e : Expect). (g.P.Pages.standing c.next_in.new.pages).visits + 2 ≤ (g.P.Pages.standing c.args.pages.now).visits + most_visits e.level) c.root_expect-expect.ensures c.next_in.ensures.few in
    omega (arith, most, few)

pub returns-clause-cost : goal.returns-clause-cost
returns-clause-cost g c = λ told rows used rooted.
    let old = g.P.Pages.standing c.args.pages.now in
    let new = g.P.Pages.standing c.next_in.new.pages in
    let root = c.args.root.now in
    let tree = subst (λ (n : ℕ). IsTree n old.current (root.levels - 1) root.page 0 last_key true) (sym c.page_count.ensures.count) rooted.tree.is_tree in
    let lower = subst (λ (e : Expect). IsTree e.pages old.current e.level root.page e.low e.high e.root → IfOk c.next_in.result (λ row. Costs (next_lines e.level row) old new)) c.root_expect-expect.ensures (c.next_in.ensures.cost told) in
    at_most (root.levels - 1) (20 * root.levels + 49) old new c.next_in.result (omega (arith, c.requires.some_levels)) (lower tree)

pub returns-clause-touches : goal.returns-clause-touches
returns-clause-touches g c = λ told rows used rooted.
    let old = g.P.Pages.standing c.args.pages.now in
    let new = g.P.Pages.standing c.next_in.new.pages in
    let root = c.args.root.now in
    let tree = subst (λ (n : ℕ). IsTree n old.current (root.levels - 1) root.page 0 last_key true) (sym c.page_count.ensures.count) rooted.tree.is_tree in
    let lower = subst (λ (e : Expect). IsTree e.pages old.current e.level root.page e.low e.high e.root → OnOk c.next_in.result (AddsReads (AreReadsIn (tree_pages old.current e.level root.page)) old new)) c.root_expect-expect.ensures (c.next_in.ensures.touches told) in
    subst (λ (pages : List ℕ). OnOk c.next_in.result (AddsReads (AreReadsIn pages) old new)) (sym rooted.tree.used_are) (lower tree)
