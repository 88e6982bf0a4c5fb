use Rattle.std.proofs.Common.{◌+◌, ◌*◌, arith}
use Rattle.line_pages.proofs.NumberLaws.{same_then, same_part}
use Rattle.page_format.specs.Node.{entry_count, heap_start}
use Rattle.page_edit.proofs.build.pack.Goals as goal

pub returns-clause-rest : goal.returns-clause-rest
returns-clause-rest c =
    let old = c.args.page.now in
    let cleared = c.clear_leaf.new.page in
    let new = c.push_rows.new.page in
    let from = 64 + 4 * entry_count new in
    let end = heap_start new in
    same_then from end old cleared new (same_part from end 32 4096 old cleared c.clear_leaf.ensures.rest (omega arith) (omega (arith, c.push_rows.ensures.packed.packed.sound.heap))) c.push_rows.ensures.rest
