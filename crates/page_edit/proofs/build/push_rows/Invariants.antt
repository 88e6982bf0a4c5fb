use Rattle.std.proofs.Common.{◌≡◌, ◌+◌, ◌*◌, ◌++◌, slice_range}
use Rattle.ssd_model.specs.Page.{Same}
use Rattle.page_format.specs.Node.{leaf_rows, entry_count, heap_start}
use Rattle.page_edit.specs.Packed.{IsPackedInOrder}
use Rattle.page_edit.proofs.build.push_rows.Given as goal

abbrev pub invariant-loop-i : goal.invariant-loop-i
invariant-loop-i l = record {
  rows : leaf_rows l.page ≡ leaf_rows l.fn.page ++ slice_range (leaf_rows l.from) l.start l.i;
  packed : IsPackedInOrder l.page;
  rest : Same (64 + 4 * entry_count l.page) (heap_start l.page) l.fn.page l.page;
}
