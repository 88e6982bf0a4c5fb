use Rattle.std.proofs.Common.{◌*◌, IsTrue, arith, sym, subst, rules}
use Rattle.ssd_model.specs.Page.{Same}
use Rattle.line_pages.specs.Lines.{Lines}
use Rattle.line_pages.specs.Bytes.{bytes_of}
use Rattle.line_pages.proofs.CostLaws.{Costs-trans}
use Rattle.line_pages.proofs.StandingLaws.{ReadsPage-trans, KeepsPages-trans, KeepsPages-stops, KeepsPages-then}
use Rattle.line_pages.proofs.NumberLaws.{same_then, same_part}
use Rattle.leaf_lines.proofs.SpreadLaws.{alike_on}
use Rattle.leaf_lines.proofs.lines.read_spread.Goals as goal

pub returns-clause-reads : goal.returns-clause-reads
returns-clause-reads g c = ReadsPage-trans c.in_ok-read_lines.ensures.reads c.in_ok-read_lines-2.ensures.reads

pub returns-clause-known : goal.returns-clause-known
returns-clause-known g c = λ told header.
    let old = g.P.Pages.standing c.args.pages.now in
    let s = c.args.spread.now in
    let a = c.in_ok-read_lines.ensures in
    let b = c.in_ok-read_lines-2.ensures in
    let heap = subst (λ (lines : Lines). Same (64 * s.heap) (64 * s.heap_end) (bytes_of lines c.args.page) c.read_lines-2.new.into) (a.reads.current told) (b.known (subst IsTrue (sym a.call.continues.told) told)) in
    alike_on s (bytes_of old.current c.args.page) c.args.into.now c.read_lines.new.into c.read_lines-2.new.into c.requires.order header (a.known told) a.before heap b.before

pub returns-clause-costs : goal.returns-clause-costs
returns-clause-costs g c = Costs-trans c.in_ok-read_lines.ensures.costs c.in_ok-read_lines-2.ensures.costs

pub returns-in_err-read_lines-2-clause-call : goal.returns-in_err-read_lines-2-clause-call
returns-in_err-read_lines-2-clause-call g c =
    let a = c.in_ok-read_lines.ensures in
    KeepsPages-stops _ (search rules) (KeepsPages-trans a.call c.in_err-read_lines-2.ensures.call)

pub returns-clause-call : goal.returns-clause-call
returns-clause-call g c =
    let a = c.in_ok-read_lines.ensures in
    KeepsPages-then a.call c.in_ok-read_lines-2.ensures.call

pub returns-clause-header : goal.returns-clause-header
returns-clause-header g c =
    let s = c.args.spread.now in
    let order = c.requires.order in
    same_then 0 64 c.args.into.now c.read_lines.new.into c.read_lines-2.new.into (same_part 0 64 0 (64 * s.slots) _ _ c.in_ok-read_lines.ensures.before (omega arith) (omega (arith, order.some)))
    (same_part 0 64 0 (64 * s.heap) _ _ c.in_ok-read_lines-2.ensures.before (omega arith) (omega (arith, order.some, order.first, order.second)))
