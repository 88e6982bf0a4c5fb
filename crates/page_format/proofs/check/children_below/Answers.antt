use Rattle.std.proofs.Common.{◌∙◌, get_or, sym, arith}
use Rattle.page_format.specs.Node.{children, is_page_below}
use Rattle.page_format.proofs.InnerLemmas.{length_children}
use Rattle.page_format.proofs.CheckLemmas.{all_step, all_stop, all_done, children_step, children_end}
use Rattle.page_format.proofs.check.children_below.Goals as goal

pub returns-then-not-is_child : goal.returns-then-not-is_child
returns-then-not-is_child c = all_stop (is_page_below c.args.pages) _ _ _ (get_or (children c.args.page.now) c.loop-i.i (0, 0)) c.loop-i.invariant.so_far (children_step (children c.args.page.now) c.loop-i.i (omega (arith, length_children c.args.page.now))) (sym (c.is_child.ensures (0, 0)) ∙ c.if-not-is_child.true)

pub loop-i-preserved : goal.loop-i-preserved
loop-i-preserved c = record { so_far = all_step (is_page_below c.args.pages) _ _ _ (get_or (children c.args.page.now) c.loop-i.i (0, 0)) c.loop-i.invariant.so_far (children_step (children c.args.page.now) c.loop-i.i (omega (arith, length_children c.args.page.now))) (sym (c.is_child.ensures (0, 0)) ∙ c.if-not-is_child.false) }

pub returns : goal.returns
returns c = all_done (is_page_below c.args.pages) _ _ c.loop-i.invariant.so_far (children_end (children c.args.page.now) c.loop-i.i (omega (arith, length_children c.args.page.now)))
