use Rattle.std.proofs.Common.{rules}
use Rattle.device_files.proofs.LineLaws.{agree_put, no_more_put}
use Rattle.device_files.proofs.line_memory.LineMemory.put.Goals as goal

pub invariant_of-self-2 : goal.invariant_of-self-2
invariant_of-self-2 c = record { agree = agree_put c.args.line c.args.value.now _ _ _ _ c.args.self.now.agree c.put.new.self.distinct (search rules) c.put.ensures.fewer c.renew.ensures.alone c.renew.ensures.fewer }

pub returns-clause-others : goal.returns-clause-others
returns-clause-others c = no_more_put c.args.line _ _ _ _ c.put.ensures.fewer c.renew.ensures.fewer
