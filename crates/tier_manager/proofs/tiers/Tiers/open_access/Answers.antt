use Rattle.device_calls.proofs.LeadsLaws.{leads_none}
use Rattle.tier_facts.proofs.CallLaws.{hard_held}
use Rattle.tier_facts.proofs.PlaceLaws.{facts_held}
use Rattle.tier_manager.specs.Fields.{data_of}
use Rattle.tier_manager.proofs.tiers.Tiers.open_access.Goals as goal

pub returns-in-Some-clause-leads : goal.returns-in-Some-clause-leads
returns-in-Some-clause-leads g c = leads_none (hard_held (data_of c.args.self.now)) (λ aim s it. it)

pub returns-in-Some-clause-quiet : goal.returns-in-Some-clause-quiet
returns-in-Some-clause-quiet g c = λ copied. leads_none (facts_held (data_of c.args.self.now)) (λ aim s it. it)
