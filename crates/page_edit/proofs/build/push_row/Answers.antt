use Rattle.std.proofs.Common.{◌+◌, ◌∙◌, length, ap, arith}
use Rattle.page_format.specs.Sound.{row_bytes}
use Rattle.page_format.proofs.RowLemmas.{row_bytes-push}
use Rattle.page_edit.proofs.BuildLemmas.{pushed_rows, pushed_order}
use Rattle.page_format.specs.Node.{leaf_rows}
use Rattle.page_edit.proofs.build.push_row.Goals as goal

pub returns-clause-packed : goal.returns-clause-packed
returns-clause-packed c =
    let rows = pushed_rows (leaf_rows c.args.page.now) (leaf_rows c.insert_here.new.page) c.leaf_rows-count.result (c.args.key, c.args.value.now) c.leaf_rows-count.ensures.rows c.insert_here.ensures.rows in
    let more = ap row_bytes rows ∙ row_bytes-push (leaf_rows c.args.page.now) (c.args.key, c.args.value.now) in
    record {
      packed = record { sound = c.insert_here.ensures.sound; tight = omega (arith, c.requires.packed.packed.tight, c.insert_here.ensures.heap, c.insert_here.ensures.count, more) };
      order = pushed_order c.args.page.now c.insert_here.new.page c.leaf_rows-count.result (8 + length c.args.value.now) c.leaf_rows-count.ensures.count
          c.insert_here.ensures.heap c.insert_here.ensures.slots c.requires.packed.order;
    }
