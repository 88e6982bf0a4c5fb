use Rattle.std.proofs.Common.{◌≡◌, ℕ, ◌+◌, ◌-◌, ◌≤◌, arith, Result, Ok, Err, OnOk, subst}
use Rattle.page_format.specs.declared.root.Expect.{Expect}
use Rattle.line_pages.specs.Standing.{AddsReads}
use Rattle.tree_search.specs.Way.{IsWay}
use Rattle.tree_search.proofs.SearchLaws.{way_visits, path_reads}
use Rattle.tree_search.proofs.CostLaws.{cost_rooted}
use Rattle.tree_search.proofs.lookup.seek.Goals as goal

by_levels : {T E : Type 0} (r : Result T E) (new old levels : ℕ) → 1 ≤ levels → OnOk r (new ≡ old + (levels - 1 + 1)) → OnOk r (new ≡ old + levels)
by_levels (Ok v) new old levels some e = omega (arith, e, some)
by_levels (Err s) new old levels some e = tt

pub returns-clause-visits : goal.returns-clause-visits
returns-clause-visits g c = λ told starts.
    let old = g.P.Pages.standing c.args.pages.now in
    let new = g.P.Pages.standing c.seek_in.new.pages in
    let root = c.args.root.now in
    by_levels c.seek_in.result new.visits old.visits root.levels c.requires.some_levels
    (subst (λ (e : Expect). OnOk c.seek_in.result (new.visits ≡ old.visits + (e.level + 1))) c.root_expect-expect.ensures
    (way_visits c.root_expect-expect.result root.page c.args.key old new c.seek_in.result starts (c.seek_in.ensures.way told starts)))

pub returns-clause-cost : goal.returns-clause-cost
returns-clause-cost g c = λ told rows used rooted.
    let old = g.P.Pages.standing c.args.pages.now in
    let root = c.args.root.now in
    cost_rooted old (g.P.Pages.standing c.seek_in.new.pages) c.seek_in.result c.root_expect-expect.result root.page root.levels c.page_count.result old.count
    c.root_expect-expect.ensures c.page_count.ensures.count c.requires.some_levels rooted.tree.is_tree (c.seek_in.ensures.cost told)

pub returns-clause-touches : goal.returns-clause-touches
returns-clause-touches g c = λ told rows used rooted.
    let old = g.P.Pages.standing c.args.pages.now in
    let root = c.args.root.now in
    path_reads root c.args.key old.count c.page_count.result c.root_expect-expect.result old (g.P.Pages.standing c.seek_in.new.pages) c.seek_in.result c.page_count.ensures.count c.root_expect-expect.ensures rooted.tree.is_tree
    (c.seek_in.ensures.touches told)
