use Rattle.line_pages.proofs.NumberLaws.{same_then, same_part, same_same}
use Rattle.std.proofs.Common.{arith, ◌+◌, ◌*◌}
use Rattle.page_format.specs.Node.{leaf_rows, entry_count, heap_start}
use Rattle.page_edit.proofs.BuildLemmas.{read_row, room_next, rows_next, none_yet}
use Rattle.page_edit.proofs.build.push_rows.Goals as goal

pub push_row-requires-clause-room : goal.push_row-requires-clause-room
push_row-requires-clause-room c =
    room_next (leaf_rows c.args.page.now) (leaf_rows c.args.from.now) (leaf_rows c.loop-i.page) c.args.start c.loop-i.i c.args.end (c.leaf_key.result, c.leaf_value.result.now)
    c.loop-i.invariant.rows (omega arith) (omega arith) c.requires.within (read_row (leaf_rows c.args.from.now) c.loop-i.i _ _ c.leaf_key.ensures c.leaf_value.ensures.value _) c.requires.room

pub loop-i-preserved : goal.loop-i-preserved
loop-i-preserved c = record {
  rows = rows_next (leaf_rows c.args.page.now) (leaf_rows c.args.from.now) (leaf_rows c.loop-i.page) (leaf_rows c.push_row.new.page) c.args.start c.loop-i.i (c.leaf_key.result, c.leaf_value.result.now)
      c.loop-i.invariant.rows c.push_row.ensures.rows (omega arith) (omega (arith, c.requires.within, c.loop-i-test.true)) (read_row (leaf_rows c.args.from.now) c.loop-i.i _ _ c.leaf_key.ensures c.leaf_value.ensures.value _);
  packed = c.push_row.ensures.packed;
  rest = let old = c.args.page.now in
      let now = c.loop-i.page in
      let new = c.push_row.new.page in
      let from = 64 + 4 * entry_count new in
      let end = heap_start new in
      same_then from end old now new (same_part from end (64 + 4 * entry_count now) (heap_start now) old now c.loop-i.invariant.rest (omega (arith, c.push_row.ensures.count)) (omega (arith, c.push_row.ensures.heap))) c.push_row.ensures.rest;
}

pub loop-i-init : goal.loop-i-init
loop-i-init c = record {
  rows = none_yet (leaf_rows c.args.page.now) (leaf_rows c.args.from.now) c.args.start;
  packed = c.requires.packed;
  rest = same_same (64 + 4 * entry_count c.args.page.now) (heap_start c.args.page.now) c.args.page.now;
}
