use Rattle.device_calls.proofs.LeadsLaws.{leads_none}
use Rattle.tier_facts.proofs.PlaceLaws.{facts_held}
use Rattle.tier_pool.specs.Storing.{data_of}
use Rattle.tier_pool.proofs.pool.TierPool.fetch_to.Goals as goal

pub returns-in-Absent-clause-leads : goal.returns-in-Absent-clause-leads
returns-in-Absent-clause-leads g c = λ homeless bare. leads_none (facts_held (data_of c.args.self.now)) (λ aim s it. it)
