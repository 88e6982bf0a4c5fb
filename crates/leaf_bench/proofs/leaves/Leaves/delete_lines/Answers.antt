use Rattle.std.proofs.Common.{◌<◌, sym, subst}
use Rattle.line_pages.specs.Lines.{Lines}
use Rattle.line_pages.specs.Bytes.{bytes_of}
use Rattle.page_format.specs.Node.{IsWellFormed, entry_count}
use Rattle.leaf_lines.proofs.FitLaws.{at_row}
use Rattle.leaf_bench.proofs.leaves.Leaves.delete_lines.Goals as goal

pub remove_by_lines-requires-clause-at : goal.remove_by_lines-requires-clause-at
remove_by_lines-requires-clause-at c = λ told well_now.
    let e = c.expect_of-expect.result in
    let look = c.in_ok-at.ensures in
    let same = look.reads.current told in
    let well = subst (λ (lines : Lines). IsWellFormed (bytes_of lines c.args.page) e) same well_now in
    let row = at_row e c.args.key c.in-Row.at _ c.expect_of-expect.ensures.level well (rw c.in-Row.is at (look.spot told well)) in
    subst (λ (lines : Lines). c.in-Row.at < entry_count (bytes_of lines c.args.page)) (sym same) row.within
