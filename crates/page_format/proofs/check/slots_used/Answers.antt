use Rattle.std.proofs.Common.{◌+◌, ◌∙◌, drop, ap, arith}
use Rattle.page_format.specs.Node.{slots, bytes_used}
use Rattle.page_format.proofs.CheckLemmas.{slots_end, used_step}
use Rattle.page_format.proofs.check.slots_used.Goals as goal

pub loop-i-preserved : goal.loop-i-preserved
loop-i-preserved c = record {
  so_far = ap (λ n. c.loop-i.total + (4 + n) + bytes_used (drop (c.loop-i.i + 1) (slots c.args.page.now))) c.page_half.ensures.value ∙ used_step c.args.page.now c.loop-i.i c.loop-i.total (omega arith) c.loop-i.invariant.so_far;
  few = omega (arith, c.loop-i.invariant.few, c.page_half.type_inv);
}

pub returns : goal.returns
returns c = omega (arith, c.loop-i.invariant.so_far, ap bytes_used (slots_end c.args.page.now c.loop-i.i (omega arith)))
