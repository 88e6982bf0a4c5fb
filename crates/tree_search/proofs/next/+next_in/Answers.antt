use Rattle.std.proofs.Common.{rules, slice_get, ◌≡◌, ◌+◌, ◌-◌, ◌≤◌, ℕ, Option, Some, None, IsTrue, IfOk, IfErr, arith, sym, subst, ap, ◌∙◌}
use Rattle.line_pages.specs.Lines.{Lines}
use Rattle.line_pages.specs.Bytes.{bytes_of}
use Rattle.page_format.specs.declared.root.Expect.{Expect}
use Rattle.rows.specs.Rows.{Row, row_next}
use Rattle.page_format.specs.Node.{leaf_rows, children, IsWellFormed}
use Rattle.page_format.proofs.PageFacts.{leaf_facts}
use Rattle.tree_search.specs.Tree.{IsTree, tree_rows}
use Rattle.page_alloc.specs.Stops.{IsFault}
use Rattle.line_pages.specs.Cost.{Costs}
use Rattle.line_pages.proofs.StandingLaws.{KeepsPages-trans, KeepsPages-stops, KeepsPages-then}
use Rattle.tree_search.specs.Next.{Reaches, most_visits, lines_for, next_lines, first_lines}
use Rattle.tree_search.proofs.SearchLaws.{well_formed_top, sound_child}
use Rattle.tree_search.proofs.NextLaws.{reaches, most_some, most_twice, next_past, next_gap, next_row, after_child, child_answer, some_in_child, none_in_child}
use Rattle.tree_search.proofs.OrderLaws.{tree_rows-ascend}
use Rattle.page_search.proofs.OpenLaws.{then_reads}
use Rattle.tree_search.proofs.NextReads.{child_tree, reads_under, reads_child, reads_on, reads_top}
use Rattle.tree_search.proofs.NextCost.{next_leaf, first_leaf, next_some, first_some, next_none, first_row, after_costs}
use Rattle.tree_search.proofs.next.+next_in.Goals as goal

pub next_after-returns-then-high-expect-clause-few : goal.next_after-returns-then-high-expect-clause-few
next_after-returns-then-high-expect-clause-few g t c = let most = most_some (c.args.expect.now.level - 1) in omega (arith, most)

pub next_after-returns-in_err-child-clause-few : goal.next_after-returns-in_err-child-clause-few
next_after-returns-in_err-child-clause-few g t c = let most = most_some (c.args.expect.now.level - 1) in omega (arith, most, c.in_err-child.ensures.few)

pub next_in-returns-in_err-at-clause-few : goal.next_in-returns-in_err-at-clause-few
next_in-returns-in_err-at-clause-few g t c = let most = most_some c.args.expect.now.level in omega (arith, most, c.in_err-at.ensures.few)

pub next_after-returns-then-high-expect-clause-row : goal.next_after-returns-then-high-expect-clause-row
next_after-returns-then-high-expect-clause-row g t c = λ told tree reached.
    let e = c.args.expect.now in
    let lines = (g.P.Pages.standing c.args.pages.now).current in
    next_past (c.args.high + 1) e.low e.high (tree_rows lines e.level c.args.page) (tree_rows-ascend e.pages lines e.level c.args.page e.low e.high e.root tree) (omega (arith, c.if-high-expect.true))

pub next_after-returns-in-Child-clause-row : goal.next_after-returns-in-Child-clause-row
next_after-returns-in-Child-clause-row g t c = λ told tree reached.
    let e = c.args.expect.now in
    let old = g.P.Pages.standing c.args.pages.now in
    let first = g.P.Pages.standing c.find.new.pages in
    let safe = rw c.in-Child.is at c.in_ok-child.ensures.safe in
    let spot = rw c.in-Child.is at (c.in_ok-child.ensures.spot told (well_formed_top e.pages old.current e.level c.args.page e.low e.high e.root tree)) in
    after_child e old.current first.current c.args.page c.in-Child.field-0 c.in-Child.child c.in-Child.low c.in-Child.top c.args.high c.next_in.result (c.in_ok-child.ensures.reads.current told) c.requires.level tree reached (omega (arith, c.if-high-expect.false))
    spot safe.4 safe.5 (rw c.child_expect-lower.ensures at (c.next_in.ensures.row (subst IsTrue (sym c.in_ok-child.ensures.call.continues.told) told)))

pub next_after-returns-in-Child-clause-sound : goal.next_after-returns-in-Child-clause-sound
next_after-returns-in-Child-clause-sound g t c = λ told tree.
    let e = c.args.expect.now in
    let old = g.P.Pages.standing c.args.pages.now in
    let new = g.P.Pages.standing c.find.new.pages in
    let spot = rw c.in-Child.is at (c.in_ok-child.ensures.spot told (well_formed_top e.pages old.current e.level c.args.page e.low e.high e.root tree)) in
    sound_child old.current new.current e c.args.page (c.args.high + 1) c.in-Child.field-0 c.in-Child.child c.in-Child.low c.in-Child.top c.next_in.result
    (c.in_ok-child.ensures.reads.current told) tree (omega (arith, c.requires.above)) (omega arith) (rw c.in-Child.is at c.in_ok-child.ensures.safe) spot
    (rw c.child_expect-lower.ensures at (c.next_in.ensures.sound (subst IsTrue (sym c.in_ok-child.ensures.call.continues.told) told)))

pub next_in-returns-in_err-row-in-Child-clause-sound : goal.next_in-returns-in_err-row-in-Child-clause-sound
next_in-returns-in_err-row-in-Child-clause-sound g t c = λ told tree.
    let e = c.args.expect.now in
    let old = g.P.Pages.standing c.args.pages.now in
    let first = g.P.Pages.standing c.find.new.pages in
    let safe = rw c.in-Child.is at c.in_ok-at.ensures.safe in
    let spot = rw c.in-Child.is at (c.in_ok-at.ensures.spot told (well_formed_top e.pages old.current e.level c.args.page e.low e.high e.root tree)) in
    let told_on = subst IsTrue (sym c.in_ok-at.ensures.call.continues.told) told in
    let h : IfErr c.next_in.result IsFault = sound_child old.current first.current e c.args.page c.args.from c.in-Child.field-0 c.in-Child.child c.in-Child.low c.in-Child.high c.next_in.result
    (c.in_ok-at.ensures.reads.current told) tree c.requires.above c.requires.within safe spot (rw c.child_expect-lower.ensures at (c.next_in.ensures.sound told_on)) in
    let k = subst (λ r. IfErr r IsFault) (c.in_err-row-in-Child.was) h in
    search (rules, k)

pub next_in-returns-in_err-row-in-Child-clause-few : goal.next_in-returns-in_err-row-in-Child-clause-few
next_in-returns-in_err-row-in-Child-clause-few g t c =
    let safe = rw c.in-Child.is at c.in_ok-at.ensures.safe in
    let twice = most_twice c.args.expect.now.level safe.0 in
    let most = most_some (c.args.expect.now.level - 1) in
    let lower = subst (λ (x : Expect). (g.P.Pages.standing c.next_in.new.pages).visits + 2 ≤ (g.P.Pages.standing c.find.new.pages).visits + most_visits x.level) c.child_expect-lower.ensures c.next_in.ensures.few in
    omega (arith, twice, most, lower, c.in_ok-at.ensures.few)

pub next_in-returns-in-Row-clause-row : goal.next_in-returns-in-Row-clause-row
next_in-returns-in-Row-clause-row g t c = λ told tree.
    let e = c.args.expect.now in
    let old = g.P.Pages.standing c.args.pages.now in
    let first = g.P.Pages.standing c.find.new.pages in
    let well = well_formed_top e.pages old.current e.level c.args.page e.low e.high e.root tree in
    let told_on = subst IsTrue (sym c.in_ok-at.ensures.call.continues.told) told in
    let spot = rw c.in-Row.is at (c.in_ok-at.ensures.spot told well) in
    let rows = leaf_rows (bytes_of old.current c.args.page) in
    let reads = subst (λ (lines : Lines). IsWellFormed (bytes_of lines c.args.page) e → IfOk c.row_from.result (λ row. row ≡ slice_get (leaf_rows (bytes_of lines c.args.page)) c.in-Row.at)) (c.in_ok-at.ensures.reads.current told) (c.row_from.ensures.row told_on) well in
    let is = next_row e.low e.high c.args.from c.in-Row.at rows (leaf_facts (bytes_of old.current c.args.page) e spot.0 well).order spot.1 in
    subst (λ (o : Option Row). IfOk c.row_from.result (λ row. row ≡ o)) (is ∙ ap (λ (l : ℕ). row_next c.args.from (tree_rows old.current l c.args.page)) (sym spot.0)) reads

pub next_in-returns-in-Gap-clause-row : goal.next_in-returns-in-Gap-clause-row
next_in-returns-in-Gap-clause-row g t c = λ told tree.
    let e = c.args.expect.now in
    let old = g.P.Pages.standing c.args.pages.now in
    let first = g.P.Pages.standing c.find.new.pages in
    let well = well_formed_top e.pages old.current e.level c.args.page e.low e.high e.root tree in
    let told_on = subst IsTrue (sym c.in_ok-at.ensures.call.continues.told) told in
    let spot = rw c.in-Gap.is at (c.in_ok-at.ensures.spot told well) in
    let rows = leaf_rows (bytes_of old.current c.args.page) in
    let reads = subst (λ (lines : Lines). IsWellFormed (bytes_of lines c.args.page) e → IfOk c.row_from-in-Gap.result (λ row. row ≡ slice_get (leaf_rows (bytes_of lines c.args.page)) c.in-Gap.at)) (c.in_ok-at.ensures.reads.current told) (c.row_from-in-Gap.ensures.row told_on) well in
    let is = next_gap c.args.from c.in-Gap.at rows spot.2 spot.3 in
    subst (λ (o : Option Row). IfOk c.row_from-in-Gap.result (λ row. row ≡ o)) (is ∙ ap (λ (l : ℕ). row_next c.args.from (tree_rows old.current l c.args.page)) (sym spot.0)) reads

pub next_in-returns-in-Some-clause-row : goal.next_in-returns-in-Some-clause-row
next_in-returns-in-Some-clause-row g t c = λ told tree.
    let e = c.args.expect.now in
    let old = g.P.Pages.standing c.args.pages.now in
    let first = g.P.Pages.standing c.find.new.pages in
    let safe = rw c.in-Child.is at c.in_ok-at.ensures.safe in
    let spot = rw c.in-Child.is at (c.in_ok-at.ensures.spot told (well_formed_top e.pages old.current e.level c.args.page e.low e.high e.root tree)) in
    let told_on = subst IsTrue (sym c.in_ok-at.ensures.call.continues.told) told in
    let answer = subst (λ (x : Expect). IsTree x.pages first.current x.level c.in-Child.child x.low x.high x.root → Some c.in-Some.row ≡ row_next c.args.from (tree_rows first.current x.level c.in-Child.child)) c.child_expect-lower.ensures
    (rw c.in-Some.is at (c.in_ok-row-in-Child.ensures.row told_on)) in
    some_in_child e old.current c.args.page c.in-Child.field-0 c.in-Child.child c.in-Child.low c.in-Child.high c.args.from c.in-Some.row safe.0 tree spot safe.4 safe.5
    (child_answer e old.current first.current c.args.page c.in-Child.field-0 c.in-Child.child c.in-Child.low c.in-Child.high c.args.from (Some c.in-Some.row) (c.in_ok-at.ensures.reads.current told) safe.0 tree spot answer)

pub next_in-returns-in-Some-clause-few : goal.next_in-returns-in-Some-clause-few
next_in-returns-in-Some-clause-few g t c =
    let safe = rw c.in-Child.is at c.in_ok-at.ensures.safe in
    let twice = most_twice c.args.expect.now.level safe.0 in
    let most = most_some (c.args.expect.now.level - 1) in
    let lower = subst (λ (x : Expect). (g.P.Pages.standing c.next_in.new.pages).visits + 2 ≤ (g.P.Pages.standing c.find.new.pages).visits + most_visits x.level) c.child_expect-lower.ensures c.next_in.ensures.few in
    omega (arith, twice, most, lower, c.in_ok-at.ensures.few)

pub next_in-returns-in-None-clause-row : goal.next_in-returns-in-None-clause-row
next_in-returns-in-None-clause-row g t c = λ told tree.
    let e = c.args.expect.now in
    let old = g.P.Pages.standing c.args.pages.now in
    let first = g.P.Pages.standing c.find.new.pages in
    let safe = rw c.in-Child.is at c.in_ok-at.ensures.safe in
    let spot = rw c.in-Child.is at (c.in_ok-at.ensures.spot told (well_formed_top e.pages old.current e.level c.args.page e.low e.high e.root tree)) in
    let told_on = subst IsTrue (sym c.in_ok-at.ensures.call.continues.told) told in
    let mid = g.P.Pages.standing c.next_in.new.pages in
    let told_mid = subst IsTrue (sym c.in_ok-row-in-Child.ensures.call.continues.told) told_on in
    let same = c.in_ok-at.ensures.reads.current told in
    let same_mid = c.in_ok-row-in-Child.ensures.keeps.current told_on ∙ same in
    let answer = subst (λ (x : Expect). IsTree x.pages first.current x.level c.in-Child.child x.low x.high x.root → None ≡ row_next c.args.from (tree_rows first.current x.level c.in-Child.child)) c.child_expect-lower.ensures
    (rw c.in-None.is at (c.in_ok-row-in-Child.ensures.row told_on)) in
    let none = child_answer e old.current first.current c.args.page c.in-Child.field-0 c.in-Child.child c.in-Child.low c.in-Child.high c.args.from None same safe.0 tree spot answer in
    none_in_child e old.current mid.current c.args.page c.in-Child.field-0 c.in-Child.child c.in-Child.low c.in-Child.high c.args.from c.next_after.result same_mid safe.0 tree spot safe.4 safe.5 none (c.next_after.ensures.row told_mid)

pub next_in-returns-in-None-clause-few : goal.next_in-returns-in-None-clause-few
next_in-returns-in-None-clause-few g t c =
    let safe = rw c.in-Child.is at c.in_ok-at.ensures.safe in
    let twice = most_twice c.args.expect.now.level safe.0 in
    let most = most_some (c.args.expect.now.level - 1) in
    let lower = subst (λ (x : Expect). (g.P.Pages.standing c.next_in.new.pages).visits + 2 ≤ (g.P.Pages.standing c.find.new.pages).visits + most_visits x.level) c.child_expect-lower.ensures c.next_in.ensures.few in
    omega (arith, twice, most, lower, c.in_ok-at.ensures.few, c.next_after.ensures.few)

pub next_after-returns-in-Child-clause-touches : goal.next_after-returns-in-Child-clause-touches
next_after-returns-in-Child-clause-touches g t c = λ told tree.
    let e = c.args.expect.now in
    let old = g.P.Pages.standing c.args.pages.now in
    let first = g.P.Pages.standing c.find.new.pages in
    let new = g.P.Pages.standing c.next_in.new.pages in
    let safe = rw c.in-Child.is at c.in_ok-child.ensures.safe in
    let spot = rw c.in-Child.is at (c.in_ok-child.ensures.spot told (well_formed_top e.pages old.current e.level c.args.page e.low e.high e.root tree)) in
    let told_on = subst IsTrue (sym c.in_ok-child.ensures.call.continues.told) told in
    let below = child_tree e old.current first.current c.args.page c.in-Child.field-0 c.in-Child.child c.in-Child.low c.in-Child.top (c.in_ok-child.ensures.reads.current told) safe.0 tree spot in
    reads_child c.args.page c.in-Child.field-0 c.in-Child.child c.in-Child.low c.in-Child.top e.high e.level old first new c.next_in.result safe.0 (c.in_ok-child.ensures.reads.current told) spot c.in_ok-child.ensures.reads
    (rw c.child_expect-lower.ensures at (c.next_in.ensures.touches told_on) below)

pub next_in-returns-in-Row-clause-touches : goal.next_in-returns-in-Row-clause-touches
next_in-returns-in-Row-clause-touches g t c = λ told tree.
    let old = g.P.Pages.standing c.args.pages.now in
    let first = g.P.Pages.standing c.find.new.pages in
    let new = g.P.Pages.standing c.row_from.new.pages in
    reads_top c.args.page c.args.expect.now.level old new c.row_from.result (then_reads old first new c.row_from.result c.in_ok-at.ensures.reads c.row_from.ensures.reads)

pub next_in-returns-in-Gap-clause-touches : goal.next_in-returns-in-Gap-clause-touches
next_in-returns-in-Gap-clause-touches g t c = λ told tree.
    let old = g.P.Pages.standing c.args.pages.now in
    let first = g.P.Pages.standing c.find.new.pages in
    let new = g.P.Pages.standing c.row_from-in-Gap.new.pages in
    reads_top c.args.page c.args.expect.now.level old new c.row_from-in-Gap.result (then_reads old first new c.row_from-in-Gap.result c.in_ok-at.ensures.reads c.row_from-in-Gap.ensures.reads)

pub next_in-returns-in-Some-clause-touches : goal.next_in-returns-in-Some-clause-touches
next_in-returns-in-Some-clause-touches g t c = λ told tree.
    let e = c.args.expect.now in
    let old = g.P.Pages.standing c.args.pages.now in
    let first = g.P.Pages.standing c.find.new.pages in
    let new = g.P.Pages.standing c.next_in.new.pages in
    let safe = rw c.in-Child.is at c.in_ok-at.ensures.safe in
    let spot = rw c.in-Child.is at (c.in_ok-at.ensures.spot told (well_formed_top e.pages old.current e.level c.args.page e.low e.high e.root tree)) in
    let told_on = subst IsTrue (sym c.in_ok-at.ensures.call.continues.told) told in
    let same = c.in_ok-at.ensures.reads.current told in
    let below = child_tree e old.current first.current c.args.page c.in-Child.field-0 c.in-Child.child c.in-Child.low c.in-Child.high same safe.0 tree spot in
    reads_under c.args.page c.in-Child.field-0 c.in-Child.child c.in-Child.low c.in-Child.high e.high e.level old first new safe.0 same spot c.in_ok-at.ensures.reads
    (rw c.child_expect-lower.ensures at (c.in_ok-row-in-Child.ensures.touches told_on) below)

pub next_in-returns-in-None-clause-touches : goal.next_in-returns-in-None-clause-touches
next_in-returns-in-None-clause-touches g t c = λ told tree.
    let e = c.args.expect.now in
    let old = g.P.Pages.standing c.args.pages.now in
    let first = g.P.Pages.standing c.find.new.pages in
    let mid = g.P.Pages.standing c.next_in.new.pages in
    let new = g.P.Pages.standing c.next_after.new.pages in
    let safe = rw c.in-Child.is at c.in_ok-at.ensures.safe in
    let spot = rw c.in-Child.is at (c.in_ok-at.ensures.spot told (well_formed_top e.pages old.current e.level c.args.page e.low e.high e.root tree)) in
    let told_on = subst IsTrue (sym c.in_ok-at.ensures.call.continues.told) told in
    let told_mid = subst IsTrue (sym c.in_ok-row-in-Child.ensures.call.continues.told) told_on in
    let same = c.in_ok-at.ensures.reads.current told in
    let same_mid = c.in_ok-row-in-Child.ensures.keeps.current told_on ∙ same in
    let below = child_tree e old.current first.current c.args.page c.in-Child.field-0 c.in-Child.child c.in-Child.low c.in-Child.high same safe.0 tree spot in
    let lower = reads_under c.args.page c.in-Child.field-0 c.in-Child.child c.in-Child.low c.in-Child.high e.high e.level old first mid safe.0 same spot c.in_ok-at.ensures.reads
    (rw c.child_expect-lower.ensures at (c.in_ok-row-in-Child.ensures.touches told_on) below) in
    reads_on c.args.page e.level old mid new c.next_after.result same_mid lower
    (c.next_after.ensures.touches told_mid (subst (λ (lines : Lines). IsTree e.pages lines e.level c.args.page e.low e.high e.root) (sym same_mid) tree))

pub next_after-returns-in-Child-clause-cost : goal.next_after-returns-in-Child-clause-cost
next_after-returns-in-Child-clause-cost g t c = λ told tree reached.
    let e = c.args.expect.now in
    let old = g.P.Pages.standing c.args.pages.now in
    let first = g.P.Pages.standing c.find.new.pages in
    let well = well_formed_top e.pages old.current e.level c.args.page e.low e.high e.root tree in
    let safe = rw c.in-Child.is at c.in_ok-child.ensures.safe in
    let spot = rw c.in-Child.is at (c.in_ok-child.ensures.spot told well) in
    let told_on = subst IsTrue (sym c.in_ok-child.ensures.call.continues.told) told in
    after_costs e c.args.page c.in-Child.field-0 c.in-Child.child c.in-Child.low c.in-Child.top c.args.high old first (g.P.Pages.standing c.next_in.new.pages) c.next_in.result
    (c.in_ok-child.ensures.reads.current told) c.requires.level tree reached (omega (arith, c.if-high-expect.false)) spot safe.4 safe.5 (c.in_ok-child.ensures.cost told well)
    (rw c.child_expect-lower.ensures at (c.next_in.ensures.row told_on)) (rw c.child_expect-lower.ensures at (c.next_in.ensures.first told_on))

pub next_in-returns-in-Row-clause-cost : goal.next_in-returns-in-Row-clause-cost
next_in-returns-in-Row-clause-cost g t c = λ told tree.
    let e = c.args.expect.now in
    let old = g.P.Pages.standing c.args.pages.now in
    let first = g.P.Pages.standing c.find.new.pages in
    let new = g.P.Pages.standing c.row_from.new.pages in
    let well = well_formed_top e.pages old.current e.level c.args.page e.low e.high e.root tree in
    let told_on = subst IsTrue (sym c.in_ok-at.ensures.call.continues.told) told in
    let spot = rw c.in-Row.is at (c.in_ok-at.ensures.spot told well) in
    let row = subst (λ (lines : Lines). IsWellFormed (bytes_of lines c.args.page) e → IfOk c.row_from.result (λ row. Costs (lines_for 1 12 row) first new)) (c.in_ok-at.ensures.reads.current told) (c.row_from.ensures.cost told_on) well in
    next_leaf e.level old first new c.row_from.result spot.0 (c.in_ok-at.ensures.cost told well) row

pub next_in-returns-in-Row-clause-first : goal.next_in-returns-in-Row-clause-first
next_in-returns-in-Row-clause-first g t c = λ told tree low.
    let e = c.args.expect.now in
    let old = g.P.Pages.standing c.args.pages.now in
    let first = g.P.Pages.standing c.find.new.pages in
    let new = g.P.Pages.standing c.row_from.new.pages in
    let well = well_formed_top e.pages old.current e.level c.args.page e.low e.high e.root tree in
    let told_on = subst IsTrue (sym c.in_ok-at.ensures.call.continues.told) told in
    let spot = rw c.in-Row.is at (c.in_ok-at.ensures.spot told well) in
    let row = subst (λ (lines : Lines). IsWellFormed (bytes_of lines c.args.page) e → IfOk c.row_from.result (λ row. Costs (lines_for 1 12 row) first new)) (c.in_ok-at.ensures.reads.current told) (c.row_from.ensures.cost told_on) well in
    first_leaf e.level old first new c.row_from.result spot.0 (c.in_ok-at.ensures.cost told well) row

pub next_in-returns-in-Gap-clause-cost : goal.next_in-returns-in-Gap-clause-cost
next_in-returns-in-Gap-clause-cost g t c = λ told tree.
    let e = c.args.expect.now in
    let old = g.P.Pages.standing c.args.pages.now in
    let first = g.P.Pages.standing c.find.new.pages in
    let new = g.P.Pages.standing c.row_from-in-Gap.new.pages in
    let well = well_formed_top e.pages old.current e.level c.args.page e.low e.high e.root tree in
    let told_on = subst IsTrue (sym c.in_ok-at.ensures.call.continues.told) told in
    let spot = rw c.in-Gap.is at (c.in_ok-at.ensures.spot told well) in
    let row = subst (λ (lines : Lines). IsWellFormed (bytes_of lines c.args.page) e → IfOk c.row_from-in-Gap.result (λ row. Costs (lines_for 1 12 row) first new)) (c.in_ok-at.ensures.reads.current told) (c.row_from-in-Gap.ensures.cost told_on) well in
    next_leaf e.level old first new c.row_from-in-Gap.result spot.0 (c.in_ok-at.ensures.cost told well) row

pub next_in-returns-in-Gap-clause-first : goal.next_in-returns-in-Gap-clause-first
next_in-returns-in-Gap-clause-first g t c = λ told tree low.
    let e = c.args.expect.now in
    let old = g.P.Pages.standing c.args.pages.now in
    let first = g.P.Pages.standing c.find.new.pages in
    let new = g.P.Pages.standing c.row_from-in-Gap.new.pages in
    let well = well_formed_top e.pages old.current e.level c.args.page e.low e.high e.root tree in
    let told_on = subst IsTrue (sym c.in_ok-at.ensures.call.continues.told) told in
    let spot = rw c.in-Gap.is at (c.in_ok-at.ensures.spot told well) in
    let row = subst (λ (lines : Lines). IsWellFormed (bytes_of lines c.args.page) e → IfOk c.row_from-in-Gap.result (λ row. Costs (lines_for 1 12 row) first new)) (c.in_ok-at.ensures.reads.current told) (c.row_from-in-Gap.ensures.cost told_on) well in
    first_leaf e.level old first new c.row_from-in-Gap.result spot.0 (c.in_ok-at.ensures.cost told well) row

pub next_in-returns-in-Some-clause-cost : goal.next_in-returns-in-Some-clause-cost
next_in-returns-in-Some-clause-cost g t c = λ told tree.
    let e = c.args.expect.now in
    let old = g.P.Pages.standing c.args.pages.now in
    let first = g.P.Pages.standing c.find.new.pages in
    let new = g.P.Pages.standing c.next_in.new.pages in
    let well = well_formed_top e.pages old.current e.level c.args.page e.low e.high e.root tree in
    let safe = rw c.in-Child.is at c.in_ok-at.ensures.safe in
    let spot = rw c.in-Child.is at (c.in_ok-at.ensures.spot told well) in
    let told_on = subst IsTrue (sym c.in_ok-at.ensures.call.continues.told) told in
    let below = child_tree e old.current first.current c.args.page c.in-Child.field-0 c.in-Child.child c.in-Child.low c.in-Child.high (c.in_ok-at.ensures.reads.current told) safe.0 tree spot in
    let lower = subst (λ (x : Expect). IsTree x.pages first.current x.level c.in-Child.child x.low x.high x.root → Costs (next_lines x.level (Some c.in-Some.row)) first new) c.child_expect-lower.ensures
    (rw c.in-Some.is at (c.in_ok-row-in-Child.ensures.cost told_on)) below in
    next_some e.level c.in-Some.row old first new safe.0 (c.in_ok-at.ensures.cost told well) lower

pub next_in-returns-in-Some-clause-first : goal.next_in-returns-in-Some-clause-first
next_in-returns-in-Some-clause-first g t c = λ told tree low.
    let e = c.args.expect.now in
    let old = g.P.Pages.standing c.args.pages.now in
    let first = g.P.Pages.standing c.find.new.pages in
    let new = g.P.Pages.standing c.next_in.new.pages in
    let well = well_formed_top e.pages old.current e.level c.args.page e.low e.high e.root tree in
    let safe = rw c.in-Child.is at c.in_ok-at.ensures.safe in
    let spot = rw c.in-Child.is at (c.in_ok-at.ensures.spot told well) in
    let told_on = subst IsTrue (sym c.in_ok-at.ensures.call.continues.told) told in
    let below = child_tree e old.current first.current c.args.page c.in-Child.field-0 c.in-Child.child c.in-Child.low c.in-Child.high (c.in_ok-at.ensures.reads.current told) safe.0 tree spot in
    let lower = subst (λ (x : Expect). IsTree x.pages first.current x.level c.in-Child.child x.low x.high x.root → c.args.from ≡ x.low → Costs (first_lines x.level) first new) c.child_expect-lower.ensures
    (c.in_ok-row-in-Child.ensures.first told_on) below (omega (arith, low, safe.3, safe.4)) in
    first_some e.level old first new safe.0 (c.in_ok-at.ensures.cost told well) lower

pub next_in-returns-in-None-clause-cost : goal.next_in-returns-in-None-clause-cost
next_in-returns-in-None-clause-cost g t c = λ told tree.
    let e = c.args.expect.now in
    let old = g.P.Pages.standing c.args.pages.now in
    let first = g.P.Pages.standing c.find.new.pages in
    let new = g.P.Pages.standing c.next_in.new.pages in
    let well = well_formed_top e.pages old.current e.level c.args.page e.low e.high e.root tree in
    let safe = rw c.in-Child.is at c.in_ok-at.ensures.safe in
    let spot = rw c.in-Child.is at (c.in_ok-at.ensures.spot told well) in
    let told_on = subst IsTrue (sym c.in_ok-at.ensures.call.continues.told) told in
    let below = child_tree e old.current first.current c.args.page c.in-Child.field-0 c.in-Child.child c.in-Child.low c.in-Child.high (c.in_ok-at.ensures.reads.current told) safe.0 tree spot in
    let same = c.in_ok-at.ensures.reads.current told in
    let told_mid = subst IsTrue (sym c.in_ok-row-in-Child.ensures.call.continues.told) told_on in
    let same_mid = c.in_ok-row-in-Child.ensures.keeps.current told_on ∙ same in
    let lower = subst (λ (x : Expect). IsTree x.pages first.current x.level c.in-Child.child x.low x.high x.root → Costs (next_lines x.level None) first new) c.child_expect-lower.ensures
    (rw c.in-None.is at (c.in_ok-row-in-Child.ensures.cost told_on)) below in
    let last = g.P.Pages.standing c.next_after.new.pages in
    let rest = subst (λ (lines : Lines). IsTree e.pages lines e.level c.args.page e.low e.high e.root → Reaches (children (bytes_of lines c.args.page)) e.high c.in-Child.high → IfOk c.next_after.result (λ row. Costs (lines_for 0 (first_lines e.level) row) new last))
    same_mid (c.next_after.ensures.cost told_mid) tree (reaches (children (bytes_of old.current c.args.page)) e.high c.in-Child.field-0 (record { page = c.in-Child.child; low = c.in-Child.low; high = c.in-Child.high }) spot) in
    next_none e.level old first new last c.next_after.result safe.0 (c.in_ok-at.ensures.cost told well) lower rest

pub next_in-returns-in-None-clause-first : goal.next_in-returns-in-None-clause-first
next_in-returns-in-None-clause-first g t c = λ told tree low.
    let e = c.args.expect.now in
    let old = g.P.Pages.standing c.args.pages.now in
    let first = g.P.Pages.standing c.find.new.pages in
    let new = g.P.Pages.standing c.next_in.new.pages in
    let well = well_formed_top e.pages old.current e.level c.args.page e.low e.high e.root tree in
    let safe = rw c.in-Child.is at c.in_ok-at.ensures.safe in
    let spot = rw c.in-Child.is at (c.in_ok-at.ensures.spot told well) in
    let told_on = subst IsTrue (sym c.in_ok-at.ensures.call.continues.told) told in
    let below = child_tree e old.current first.current c.args.page c.in-Child.field-0 c.in-Child.child c.in-Child.low c.in-Child.high (c.in_ok-at.ensures.reads.current told) safe.0 tree spot in
    let none = subst (λ (x : Expect). IsTree x.pages first.current x.level c.in-Child.child x.low x.high x.root → None ≡ row_next c.args.from (tree_rows first.current x.level c.in-Child.child)) c.child_expect-lower.ensures
    (rw c.in-None.is at (c.in_ok-row-in-Child.ensures.row told_on)) below in
    absurd (first_row e.pages first.current (e.level - 1) c.in-Child.child c.in-Child.low c.in-Child.high c.args.from below (omega (arith, low, safe.3)) (sym none))

pub next_after-returns-in-Child-clause-call : goal.next_after-returns-in-Child-clause-call
next_after-returns-in-Child-clause-call g t c = KeepsPages-trans c.in_ok-child.ensures.call c.next_in.ensures.call

pub next_in-returns-in_err-row-in-Child-clause-call : goal.next_in-returns-in_err-row-in-Child-clause-call
next_in-returns-in_err-row-in-Child-clause-call g t c = KeepsPages-stops _ (search rules) (KeepsPages-trans c.in_ok-at.ensures.call c.in_err-row-in-Child.ensures.call)

pub next_in-returns-in-Row-clause-call : goal.next_in-returns-in-Row-clause-call
next_in-returns-in-Row-clause-call g t c = KeepsPages-trans c.in_ok-at.ensures.call c.row_from.ensures.call

pub next_in-returns-in-Gap-clause-call : goal.next_in-returns-in-Gap-clause-call
next_in-returns-in-Gap-clause-call g t c = KeepsPages-trans c.in_ok-at.ensures.call c.row_from-in-Gap.ensures.call

pub next_in-returns-in-Some-clause-call : goal.next_in-returns-in-Some-clause-call
next_in-returns-in-Some-clause-call g t c = KeepsPages-then c.in_ok-at.ensures.call c.in_ok-row-in-Child.ensures.call

pub next_in-returns-in-None-clause-call : goal.next_in-returns-in-None-clause-call
next_in-returns-in-None-clause-call g t c = KeepsPages-trans (KeepsPages-trans c.in_ok-at.ensures.call c.in_ok-row-in-Child.ensures.call) c.next_after.ensures.call
