use Rattle.std.proofs.Common.{◌++◌, slice_range, arith}
use Rattle.page_format.specs.Node.{leaf_rows}
use Rattle.page_format.proofs.RowLemmas.{row_bytes-append}
use Rattle.page_edit.proofs.join.push_both.Goals as goal

pub push_rows-requires-clause-room : goal.push_rows-requires-clause-room
push_rows-requires-clause-room c =
    let old = leaf_rows c.args.page.now in
    let front = slice_range (leaf_rows c.args.first.now) c.args.start c.args.end in
    let back = slice_range (leaf_rows c.args.second.now) c.args.from c.args.to in
    omega (arith, c.requires.room, row_bytes-append old (front ++ back), row_bytes-append front back, row_bytes-append old front)
