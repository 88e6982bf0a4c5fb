use Rattle.device_calls.proofs.LeadsLaws.{leads_none}
use Rattle.tier_facts.proofs.CallLaws.{hard_held}
use Rattle.tier_pool.specs.Storing.{data_of}
use Rattle.tier_pool.proofs.pool.TierPool.room_in_full.Goals as goal

pub returns-in-Some-clause-leads : goal.returns-in-Some-clause-leads
returns-in-Some-clause-leads g c = λ whole. leads_none (hard_held (data_of c.args.self.now)) (λ aim s it. it)
