use Rattle.std.proofs.Common.{◌+◌, length, ap, sym, arith, List, ℕ}
use Rattle.page_format.specs.Node.{leaf_rows}
use Rattle.page_edit.proofs.PartLemmas.{part_le, part_next, part_none}
use Rattle.page_edit.proofs.cut.part_bytes.Goals as goal

pub loop-i-init : goal.loop-i-init
loop-i-init c = record { so_far = sym (part_none (leaf_rows c.args.page.now) c.args.start) }

pub overflow_add-total-in-loop-i : goal.overflow_add-total-in-loop-i
overflow_add-total-in-loop-i c = omega (arith, c.loop-i.invariant.so_far, c.leaf_value.ensures.few, c.requires.room, part_le (leaf_rows c.args.page.now) c.args.start c.loop-i.i)

pub loop-i-preserved : goal.loop-i-preserved
loop-i-preserved c = record {
  so_far = part_next (leaf_rows c.args.page.now) c.args.start c.loop-i.i _ c.loop-i.total (0, c.leaf_value.result.now) (omega arith) (omega (arith, c.loop-i-test.true, c.requires.within))
      (ap (λ (v : List ℕ). 12 + length v) (c.leaf_value.ensures.value (0, c.leaf_value.result.now))) c.loop-i.invariant.so_far;
}

pub returns-clause-few : goal.returns-clause-few
returns-clause-few c = omega (arith, c.loop-i.invariant.so_far, c.requires.room, part_le (leaf_rows c.args.page.now) c.args.start c.loop-i.i)
