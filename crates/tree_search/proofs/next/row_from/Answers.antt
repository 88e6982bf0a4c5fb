use Rattle.std.proofs.Common.{◌≡◌, [], Option, Some, IsTrue, IfOk, OnOk, slice_get, get_or, arith, sym, subst}
use Rattle.std.proofs.lemmas.Option.{slice_get-get_or}
use Rattle.line_pages.specs.Lines.{Lines}
use Rattle.line_pages.specs.Bytes.{bytes_of}
use Rattle.rows.specs.Rows.{Row}
use Rattle.page_format.specs.Node.{leaf_rows, IsWellFormed}
use Rattle.page_format.proofs.SlotLemmas.{length_rows}
use Rattle.page_search.proofs.OpenLaws.{then_reads}
use Rattle.line_pages.specs.Cost.{Costs}
use Rattle.tree_search.proofs.NextLaws.{none_at}
use Rattle.tree_search.proofs.NextCost.{count_line, some_costs, is_there}
use Rattle.tree_search.proofs.CostLaws.{costs_then}
use Rattle.tree_search.proofs.next.row_from.Goals as goal

pub returns-clause-reads : goal.returns-clause-reads
returns-clause-reads g c =
    then_reads (g.P.Pages.standing c.args.pages.now) (g.P.Pages.standing c.read_word.new.pages) (g.P.Pages.standing c.row_at.new.pages) c.row_at.result c.in_ok-count.ensures.reads c.row_at.ensures.reads

pub returns-then-at-count-clause-row : goal.returns-then-at-count-clause-row
returns-then-at-count-clause-row g c = λ told well.
    let bytes = bytes_of (g.P.Pages.standing c.args.pages.now).current c.args.page in
    sym (none_at (leaf_rows bytes) c.args.at (omega (arith, c.if-at-count.true, c.in_ok-count.ensures.value told, length_rows bytes)))

pub returns-clause-row : goal.returns-clause-row
returns-clause-row g c = λ told well.
    let old = g.P.Pages.standing c.args.pages.now in
    let bytes = bytes_of old.current c.args.page in
    let none : Row = (0, []) in
    let is = slice_get-get_or (leaf_rows bytes) c.args.at none (omega (arith, c.if-at-count.false, c.in_ok-count.ensures.value told, length_rows bytes)) in
    let told_on = subst IsTrue (sym c.in_ok-count.ensures.call.continues.told) told in
    let reads = subst (λ (lines : Lines). IsWellFormed (bytes_of lines c.args.page) c.args.expect.now → (r : Row) → slice_get (leaf_rows (bytes_of lines c.args.page)) c.args.at ≡ Some r → IfOk c.row_at.result (λ row. row ≡ Some r))
    (c.in_ok-count.ensures.reads.current told) (c.row_at.ensures.row told_on) in
    subst (λ (o : Option Row). IfOk c.row_at.result (λ row. row ≡ o)) (sym is) (reads well (get_or (leaf_rows bytes) c.args.at none) is)

pub returns-then-at-count-clause-cost : goal.returns-then-at-count-clause-cost
returns-then-at-count-clause-cost g c = λ told well. count_line c.in_ok-count.ensures.lines

pub returns-clause-cost : goal.returns-clause-cost
returns-clause-cost g c = λ told well.
    let old = g.P.Pages.standing c.args.pages.now in
    let mid = g.P.Pages.standing c.read_word.new.pages in
    let new = g.P.Pages.standing c.row_at.new.pages in
    let bytes = bytes_of old.current c.args.page in
    let none : Row = (0, []) in
    let is = slice_get-get_or (leaf_rows bytes) c.args.at none (omega (arith, c.if-at-count.false, c.in_ok-count.ensures.value told, length_rows bytes)) in
    let told_on = subst IsTrue (sym c.in_ok-count.ensures.call.continues.told) told in
    let row = subst (λ (lines : Lines). IsWellFormed (bytes_of lines c.args.page) c.args.expect.now → (r : Row) → slice_get (leaf_rows (bytes_of lines c.args.page)) c.args.at ≡ Some r → IfOk c.row_at.result (λ row. row ≡ Some r))
    (c.in_ok-count.ensures.reads.current told) (c.row_at.ensures.row told_on) in
    let read = subst (λ (lines : Lines). IsWellFormed (bytes_of lines c.args.page) c.args.expect.now → (r : Row) → slice_get (leaf_rows (bytes_of lines c.args.page)) c.args.at ≡ Some r → OnOk c.row_at.result (Costs 11 mid new))
    (c.in_ok-count.ensures.reads.current told) (c.row_at.ensures.cost told_on) in
    some_costs 1 12 old new c.row_at.result (is_there c.row_at.result (λ e. absurd (cc)) (row well (get_or (leaf_rows bytes) c.args.at none) is))
    (costs_then 1 11 12 old mid new c.row_at.result (omega arith) (count_line c.in_ok-count.ensures.lines) (read well (get_or (leaf_rows bytes) c.args.at none) is))
