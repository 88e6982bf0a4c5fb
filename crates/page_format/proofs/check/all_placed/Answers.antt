use Rattle.std.proofs.Common.{◌∙◌, sym, arith}
use Rattle.page_format.specs.Node.{is_in_heap}
use Rattle.page_format.specs.Sound.{slot_of}
use Rattle.page_format.proofs.CheckLemmas.{slots_step, slots_end, all_step, all_stop, all_done}
use Rattle.page_format.proofs.check.all_placed.Goals as goal

pub returns-then-not-is_placed : goal.returns-then-not-is_placed
returns-then-not-is_placed c = all_stop (is_in_heap c.args.heap) _ _ _ (slot_of c.args.page.now c.loop-i.i) c.loop-i.invariant.so_far (slots_step c.args.page.now c.loop-i.i (omega arith)) (sym c.is_placed.ensures ∙ c.if-not-is_placed.true)

pub loop-i-preserved : goal.loop-i-preserved
loop-i-preserved c = record { so_far = all_step (is_in_heap c.args.heap) _ _ _ (slot_of c.args.page.now c.loop-i.i) c.loop-i.invariant.so_far (slots_step c.args.page.now c.loop-i.i (omega arith)) (sym c.is_placed.ensures ∙ c.if-not-is_placed.false) }

pub returns : goal.returns
returns c = all_done (is_in_heap c.args.heap) _ _ c.loop-i.invariant.so_far (slots_end c.args.page.now c.loop-i.i (omega arith))
