use Rattle.std.proofs.Common.{[], ◌∙◌, get_or, sym, arith}
use Rattle.page_format.specs.Node.{has_printable_value, leaf_rows}
use Rattle.page_format.proofs.CheckLemmas.{all_step, all_stop, rows_step}
use Rattle.page_format.proofs.check.values_printable.Goals as goal

pub returns-then-not-is_text : goal.returns-then-not-is_text
returns-then-not-is_text c = all_stop has_printable_value _ _ _ (get_or (leaf_rows c.args.page.now) c.loop-i.i (0, [])) c.loop-i.invariant.so_far (rows_step (leaf_rows c.args.page.now) c.loop-i.i (omega arith)) (sym (c.is_text.ensures (0, [])) ∙ c.if-not-is_text.true)

pub loop-i-preserved : goal.loop-i-preserved
loop-i-preserved c = record { so_far = all_step has_printable_value _ _ _ (get_or (leaf_rows c.args.page.now) c.loop-i.i (0, [])) c.loop-i.invariant.so_far (rows_step (leaf_rows c.args.page.now) c.loop-i.i (omega arith)) (sym (c.is_text.ensures (0, [])) ∙ c.if-not-is_text.false) }
