use Rattle.std.proofs.Common.{◌∙◌, sym, ap, arith}
use Rattle.rows.specs.Rows.{ascends}
use Rattle.page_format.specs.Node.{children, first_keys}
use Rattle.page_format.proofs.InnerLemmas.{length_children}
use Rattle.page_format.proofs.CheckLemmas.{children_end, first_step, first_stop}
use Rattle.page_format.proofs.check.first_keys_ascend.Goals as goal

pub returns-then-not-is_between : goal.returns-then-not-is_between
returns-then-not-is_between c = first_stop _ c.loop-i.least c.args.high (children c.args.page.now) c.loop-i.i c.child_key-key.result c.loop-i.invariant.so_far (omega (arith, length_children c.args.page.now)) (c.child_key-key.ensures (0, 0)) (sym c.is_between.ensures ∙ c.if-not-is_between.true)

pub loop-i-preserved : goal.loop-i-preserved
loop-i-preserved c = record { so_far = first_step _ c.loop-i.least c.args.high (children c.args.page.now) c.loop-i.i c.child_key-key.result c.loop-i.invariant.so_far (omega (arith, length_children c.args.page.now)) (c.child_key-key.ensures (0, 0)) (sym c.is_between.ensures ∙ c.if-not-is_between.false) }

pub returns : goal.returns
returns c = sym (c.loop-i.invariant.so_far ∙ ap (λ all. ascends c.loop-i.least c.args.high (first_keys all)) (children_end (children c.args.page.now) c.loop-i.i (omega (arith, length_children c.args.page.now))))
