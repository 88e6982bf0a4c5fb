use Rattle.std.proofs.Common.{◌∙◌}
use Rattle.page_format.proofs.FactLemmas.{leaf_used_is}
use Rattle.page_format.proofs.check.leaf_used.Goals as goal

pub returns-clause-rows : goal.returns-clause-rows
returns-clause-rows c = c.slots_used.ensures ∙ leaf_used_is c.args.page.now c.requires
