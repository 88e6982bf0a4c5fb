use Rattle.page_format.proofs.CheckLemmas.{begins_none, begins_some}
use Rattle.page_format.proofs.check.begins_low.Goals as goal

pub returns-then-count-eq0 : goal.returns-then-count-eq0
returns-then-count-eq0 c = begins_none c.args.page.now c.args.low c.args.count c.requires.count c.if-count-eq0.true

pub returns-else-count-eq0 : goal.returns-else-count-eq0
returns-else-count-eq0 c = begins_some c.args.page.now c.args.low c.args.count c.child_key.result c.requires.count c.if-count-eq0.false (c.child_key.ensures (0, 0))
