use Rattle.std.proofs.Common.{sym, subst}
use Rattle.line_pages.specs.Lines.{Lines}
use Rattle.line_pages.specs.Bytes.{bytes_of}
use Rattle.page_format.specs.Node.{IsWellFormed}
use Rattle.leaf_lines.specs.Put.{IsFound}
use Rattle.leaf_bench.proofs.leaves.Leaves.put_lines.Goals as goal

pub put_by_lines-requires-clause-spot : goal.put_by_lines-requires-clause-spot
put_by_lines-requires-clause-spot c = λ told well_now.
    let e = c.expect_of-expect.result in
    let look = c.in_ok-spot.ensures in
    let same = look.reads.current told in
    let well = subst (λ (lines : Lines). IsWellFormed (bytes_of lines c.args.page) e) same well_now in
    subst (λ (lines : Lines). IsFound (bytes_of lines c.args.page) e c.args.key c.found_place-place.result) (sym same) (c.found_place-place.ensures _ c.args.key look.safe (look.spot told well))
