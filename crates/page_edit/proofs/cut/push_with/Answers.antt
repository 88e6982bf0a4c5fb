use Rattle.std.proofs.Common.{◌++◌, ◌∷◌, slice_range, ap, arith}
use Rattle.rows.specs.Rows.{Row}
use Rattle.page_format.specs.Node.{leaf_rows}
use Rattle.page_format.specs.Sound.{row_bytes}
use Rattle.page_format.proofs.RowLemmas.{row_bytes-append, row_bytes-cons}
use Rattle.page_edit.proofs.cut.push_with.Goals as goal

pub push_rows-requires-clause-room : goal.push_rows-requires-clause-room
push_rows-requires-clause-room c =
    let old = leaf_rows c.args.page.now in
    let rows = leaf_rows c.args.from.now in
    let row : Row = (c.args.key, c.args.value.now) in
    let front = slice_range rows c.args.start c.args.at in
    let back = slice_range rows c.args.at c.args.end in
    omega (arith, c.requires.room, row_bytes-append old (front ++ row ∷ back), row_bytes-append front (row ∷ back), row_bytes-append old front)

pub push_row-requires-clause-room : goal.push_row-requires-clause-room
push_row-requires-clause-room c =
    let old = leaf_rows c.args.page.now in
    let rows = leaf_rows c.args.from.now in
    let row : Row = (c.args.key, c.args.value.now) in
    let front = slice_range rows c.args.start c.args.at in
    let back = slice_range rows c.args.at c.args.end in
    omega (arith, c.requires.room, row_bytes-append old (front ++ row ∷ back), row_bytes-append front (row ∷ back), row_bytes-append old front, row_bytes-cons row back, ap row_bytes c.push_rows.ensures.rows)
