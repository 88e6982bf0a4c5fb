use Rattle.device_calls.proofs.LeadsLaws.{leads_none}
use Rattle.tier_facts.proofs.CallLaws.{hard_held}
use Rattle.tier_manager.specs.Fields.{data_of}
use Rattle.tier_manager.proofs.tiers.Tiers.clean_place.Goals as goal

pub returns-then-left-eq0-clause-leads : goal.returns-then-left-eq0-clause-leads
returns-then-left-eq0-clause-leads g c = leads_none (hard_held (data_of c.args.self.now)) (λ aim s it. it)

pub returns-in-None-clause-leads : goal.returns-in-None-clause-leads
returns-in-None-clause-leads g c = leads_none (hard_held (data_of c.args.self.now)) (λ aim s it. it)
