use Rattle.std.proofs.Common.{◌≡◌, ap, is_some, ◌+◌, ◌*◌, arith, OnOk, Some, slice_get, IsTrue, IfOk, sym, subst}
use Rattle.line_pages.specs.Lines.{Lines}
use Rattle.line_pages.specs.Bytes.{bytes_of}
use Rattle.rows.specs.Rows.{Row}
use Rattle.page_format.specs.Node.{IsWellFormed, leaf_rows}
use Rattle.tree_search.proofs.SearchLaws.{well_formed_top, row_of_spot, found_row, found_gap, found_child, sound_child, way_on, way_end, way_row, row_touches}
use Rattle.line_pages.specs.Cost.{Costs}
use Rattle.line_pages.proofs.CostLaws.{Costs-weaker}
use Rattle.line_pages.proofs.StandingLaws.{KeepsPages-trans, page_adds}
use Rattle.tree_search.proofs.OpenReads.{some_adds, search_touches}
use Rattle.page_search.specs.Cost.{search_lines}
use Rattle.tree_search.proofs.CostLaws.{costs_then, leaf_lines, cost_child}
use Rattle.tree_search.specs.Record.{held, HasValue}
use Rattle.tree_search.proofs.RecordLaws.{values_held}
use Rattle.tree_search.proofs.lookup.+seek_in.Goals as goal

pub returns-in-Row-clause-value : goal.returns-in-Row-clause-value
returns-in-Row-clause-value g t c = λ told tree.
    let e = c.args.expect.now in
    let lines = (g.P.Pages.standing c.args.pages.now).current in
    let well = well_formed_top e.pages lines e.level c.args.page e.low e.high e.root tree in
    found_row (HasValue c.record_at.new.work.page) lines e c.args.page c.args.key c.in-Row.at c.record_at.result well (rw c.in-Row.is at (c.in_ok-at.ensures.spot told well))
    (λ row got. values_held c.record_at.new.work.page c.record_at.result row
    (subst (λ (all : Lines). IsWellFormed (bytes_of all c.args.page) e → (r : Row) → slice_get (leaf_rows (bytes_of all c.args.page)) c.in-Row.at ≡ Some r → IfOk c.record_at.result (λ found. held c.record_at.new.work.page found ≡ Some r))
    (c.in_ok-at.ensures.reads.current told) (c.record_at.ensures.row (subst IsTrue (sym c.in_ok-at.ensures.call.continues.told) told)) well row got))

pub returns-in-Row-clause-way : goal.returns-in-Row-clause-way
returns-in-Row-clause-way g t c = λ told starts.
    let e = c.args.expect.now in
    way_row e c.args.page c.args.key (g.P.Pages.standing c.args.pages.now) (g.P.Pages.standing c.find.new.pages) (g.P.Pages.standing c.record_at.new.pages) c.record_at.result
    (rw c.in-Row.is at c.in_ok-at.ensures.safe) (λ reads. page_adds reads starts) c.in_ok-at.ensures.reads c.record_at.ensures.reads

pub returns-in-Gap-clause-value : goal.returns-in-Gap-clause-value
returns-in-Gap-clause-value g t c = λ told tree.
    let e = c.args.expect.now in
    let lines = (g.P.Pages.standing c.args.pages.now).current in
    let none = found_gap lines e c.args.page c.args.key c.in-Gap.field-0
    (rw c.in-Gap.is at (c.in_ok-at.ensures.spot told (well_formed_top e.pages lines e.level c.args.page e.low e.high e.root tree))) in
    (none, ap is_some none)

pub returns-in-Gap-clause-way : goal.returns-in-Gap-clause-way
returns-in-Gap-clause-way g t c = λ told starts.
    way_end c.args.expect.now c.args.page c.args.key (g.P.Pages.standing c.args.pages.now) (g.P.Pages.standing c.find.new.pages) (rw c.in-Gap.is at c.in_ok-at.ensures.safe) (page_adds c.in_ok-at.ensures.reads starts)

pub returns-in-Child-clause-value : goal.returns-in-Child-clause-value
returns-in-Child-clause-value g t c = λ told tree.
    let e = c.args.expect.now in
    let old = g.P.Pages.standing c.args.pages.now in
    let new = g.P.Pages.standing c.find.new.pages in
    let spot = rw c.in-Child.is at (c.in_ok-at.ensures.spot told (well_formed_top e.pages old.current e.level c.args.page e.low e.high e.root tree)) in
    found_child (HasValue c.seek_in.new.work.page) old.current new.current e c.args.page c.args.key c.in-Child.field-0 c.in-Child.child c.in-Child.low c.in-Child.high c.seek_in.result
    (c.in_ok-at.ensures.reads.current told) tree c.requires.above c.requires.within (rw c.in-Child.is at c.in_ok-at.ensures.safe) spot
    (rw c.child_expect-lower.ensures at (c.seek_in.ensures.value (subst IsTrue (sym c.in_ok-at.ensures.call.continues.told) told)))

pub returns-in-Child-clause-sound : goal.returns-in-Child-clause-sound
returns-in-Child-clause-sound g t c = λ told tree.
    let e = c.args.expect.now in
    let old = g.P.Pages.standing c.args.pages.now in
    let new = g.P.Pages.standing c.find.new.pages in
    let spot = rw c.in-Child.is at (c.in_ok-at.ensures.spot told (well_formed_top e.pages old.current e.level c.args.page e.low e.high e.root tree)) in
    sound_child old.current new.current e c.args.page c.args.key c.in-Child.field-0 c.in-Child.child c.in-Child.low c.in-Child.high c.seek_in.result
    (c.in_ok-at.ensures.reads.current told) tree c.requires.above c.requires.within (rw c.in-Child.is at c.in_ok-at.ensures.safe) spot
    (rw c.child_expect-lower.ensures at (c.seek_in.ensures.sound (subst IsTrue (sym c.in_ok-at.ensures.call.continues.told) told)))

pub returns-in-Child-clause-way : goal.returns-in-Child-clause-way
returns-in-Child-clause-way g t c = λ told starts.
    let e = c.args.expect.now in
    let old = g.P.Pages.standing c.args.pages.now in
    let new = g.P.Pages.standing c.find.new.pages in
    let told_on = subst IsTrue (sym c.in_ok-at.ensures.call.continues.told) told in
    way_on e c.args.page c.args.key c.in-Child.field-0 c.in-Child.child c.in-Child.low c.in-Child.high old new (g.P.Pages.standing c.seek_in.new.pages) c.seek_in.result
    c.requires.above c.requires.within (rw c.in-Child.is at c.in_ok-at.ensures.safe)
    (λ tree. rw c.in-Child.is at (c.in_ok-at.ensures.spot told (well_formed_top e.pages old.current e.level c.args.page e.low e.high e.root tree)))
    (page_adds c.in_ok-at.ensures.reads starts) c.in_ok-at.ensures.reads.access (c.in_ok-at.ensures.reads.current told) (c.in_ok-at.ensures.level told) (rw c.child_expect-lower.ensures at (c.seek_in.ensures.level told_on))
    (rw c.child_expect-lower.ensures at (c.seek_in.ensures.way told_on))

pub returns-in-Row-clause-cost : goal.returns-in-Row-clause-cost
returns-in-Row-clause-cost g t c = λ told tree.
    let e = c.args.expect.now in
    let old = g.P.Pages.standing c.args.pages.now in
    let mid = g.P.Pages.standing c.find.new.pages in
    let new = g.P.Pages.standing c.record_at.new.pages in
    let well = well_formed_top e.pages old.current e.level c.args.page e.low e.high e.root tree in
    let spot = rw c.in-Row.is at (c.in_ok-at.ensures.spot told well) in
    let row = row_of_spot (bytes_of old.current c.args.page) e c.args.key c.in-Row.at well spot in
    let read =
    subst (λ (all : Lines). IsWellFormed (bytes_of all c.args.page) e → (r : Row) → slice_get (leaf_rows (bytes_of all c.args.page)) c.in-Row.at ≡ Some r → OnOk c.record_at.result (Costs 11 mid new))
    (c.in_ok-at.ensures.reads.current told) (c.record_at.ensures.cost (subst IsTrue (sym c.in_ok-at.ensures.call.continues.told) told)) in
    costs_then (search_lines e.level) 11 (10 * e.level + 39) old mid new c.record_at.result (omega (arith, leaf_lines e.level spot.0)) (c.in_ok-at.ensures.cost told well) (read well row.0 row.1)

pub returns-in-Gap-clause-cost : goal.returns-in-Gap-clause-cost
returns-in-Gap-clause-cost g t c = λ told tree.
    let e = c.args.expect.now in
    let well = well_formed_top e.pages (g.P.Pages.standing c.args.pages.now).current e.level c.args.page e.low e.high e.root tree in
    let spot = rw c.in-Gap.is at (c.in_ok-at.ensures.spot told well) in
    Costs-weaker (omega (arith, leaf_lines e.level spot.0)) (c.in_ok-at.ensures.cost told well)

pub returns-in-Child-clause-cost : goal.returns-in-Child-clause-cost
returns-in-Child-clause-cost g t c = λ told tree.
    let e = c.args.expect.now in
    let old = g.P.Pages.standing c.args.pages.now in
    let mid = g.P.Pages.standing c.find.new.pages in
    let well = well_formed_top e.pages old.current e.level c.args.page e.low e.high e.root tree in
    let spot = rw c.in-Child.is at (c.in_ok-at.ensures.spot told well) in
    cost_child e c.args.page c.args.key c.in-Child.field-0 c.in-Child.child c.in-Child.low c.in-Child.high old mid (g.P.Pages.standing c.seek_in.new.pages) c.seek_in.result
    (c.in_ok-at.ensures.reads.current told) tree c.requires.above c.requires.within (rw c.in-Child.is at c.in_ok-at.ensures.safe) spot (c.in_ok-at.ensures.cost told well)
    (rw c.child_expect-lower.ensures at (c.seek_in.ensures.cost (subst IsTrue (sym c.in_ok-at.ensures.call.continues.told) told)))

pub returns-in-Row-clause-call : goal.returns-in-Row-clause-call
returns-in-Row-clause-call g t c = KeepsPages-trans c.in_ok-at.ensures.call c.record_at.ensures.call

pub returns-in-Child-clause-call : goal.returns-in-Child-clause-call
returns-in-Child-clause-call g t c = KeepsPages-trans c.in_ok-at.ensures.call c.seek_in.ensures.call

pub returns-in-Row-clause-touches : goal.returns-in-Row-clause-touches
returns-in-Row-clause-touches g t c = λ told tree.
    let e = c.args.expect.now in
    let old = g.P.Pages.standing c.args.pages.now in
    let mid = g.P.Pages.standing c.find.new.pages in
    let well = well_formed_top e.pages old.current e.level c.args.page e.low e.high e.root tree in
    row_touches e c.args.page c.args.key old mid (g.P.Pages.standing c.record_at.new.pages) c.record_at.result (rw c.in-Row.is at c.in_ok-at.ensures.safe)
    (search_touches e.level (bytes_of old.current c.args.page) old mid (c.in_ok-at.ensures.lines told well)) c.in_ok-at.ensures.reads c.record_at.ensures.reads

pub returns-in-Gap-clause-touches : goal.returns-in-Gap-clause-touches
returns-in-Gap-clause-touches g t c = λ told tree.
    let e = c.args.expect.now in
    let old = g.P.Pages.standing c.args.pages.now in
    let mid = g.P.Pages.standing c.find.new.pages in
    let well = well_formed_top e.pages old.current e.level c.args.page e.low e.high e.root tree in
    way_end e c.args.page c.args.key old mid (rw c.in-Gap.is at c.in_ok-at.ensures.safe)
    (some_adds c.in_ok-at.ensures.reads (search_touches e.level (bytes_of old.current c.args.page) old mid (c.in_ok-at.ensures.lines told well)))

pub returns-in-Child-clause-touches : goal.returns-in-Child-clause-touches
returns-in-Child-clause-touches g t c = λ told tree.
    let e = c.args.expect.now in
    let old = g.P.Pages.standing c.args.pages.now in
    let mid = g.P.Pages.standing c.find.new.pages in
    let told_on = subst IsTrue (sym c.in_ok-at.ensures.call.continues.told) told in
    let well = well_formed_top e.pages old.current e.level c.args.page e.low e.high e.root tree in
    way_on e c.args.page c.args.key c.in-Child.field-0 c.in-Child.child c.in-Child.low c.in-Child.high old mid (g.P.Pages.standing c.seek_in.new.pages) c.seek_in.result
    c.requires.above c.requires.within (rw c.in-Child.is at c.in_ok-at.ensures.safe)
    (λ here. rw c.in-Child.is at (c.in_ok-at.ensures.spot told (well_formed_top e.pages old.current e.level c.args.page e.low e.high e.root here)))
    (some_adds c.in_ok-at.ensures.reads (search_touches e.level (bytes_of old.current c.args.page) old mid (c.in_ok-at.ensures.lines told well))) c.in_ok-at.ensures.reads.access
    (c.in_ok-at.ensures.reads.current told) (c.in_ok-at.ensures.level told) (rw c.child_expect-lower.ensures at (c.seek_in.ensures.level told_on))
    (rw c.child_expect-lower.ensures at (c.seek_in.ensures.way told_on))
