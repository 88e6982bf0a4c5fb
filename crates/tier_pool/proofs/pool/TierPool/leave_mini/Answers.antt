use Rattle.device_calls.proofs.LeadsLaws.{leads_none}
use Rattle.tier_facts.proofs.CallLaws.{hard_held}
use Rattle.tier_pool.specs.Storing.{data_of}
use Rattle.tier_pool.proofs.pool.TierPool.leave_mini.Goals as goal

pub returns-in-None-clause-leads : goal.returns-in-None-clause-leads
returns-in-None-clause-leads g c = leads_none (hard_held (data_of c.args.self.now)) (λ aim s it. it)
