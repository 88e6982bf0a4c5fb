use Rattle.std.proofs.Common.{[], ◌∙◌, sym, arith}
use Rattle.page_format.specs.Node.{leaf_rows}
use Rattle.page_format.proofs.CheckLemmas.{ascends_step, ascends_stop}
use Rattle.page_format.proofs.check.keys_ascend.Goals as goal

pub returns-then-not-is_between : goal.returns-then-not-is_between
returns-then-not-is_between c = ascends_stop _ c.loop-i.least c.args.high (leaf_rows c.args.page.now) c.loop-i.i c.leaf_key-key.result c.loop-i.invariant.so_far (omega arith) (c.leaf_key-key.ensures (0, [])) (sym c.is_between.ensures ∙ c.if-not-is_between.true)

pub loop-i-preserved : goal.loop-i-preserved
loop-i-preserved c = record { so_far = ascends_step _ c.loop-i.least c.args.high (leaf_rows c.args.page.now) c.loop-i.i c.leaf_key-key.result c.loop-i.invariant.so_far (omega arith) (c.leaf_key-key.ensures (0, [])) (sym c.is_between.ensures ∙ c.if-not-is_between.false) }
