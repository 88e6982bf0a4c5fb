use Rattle.device_calls.proofs.LeadsLaws.{leads_then}
use Rattle.tier_manager.proofs.tiers.Tiers.clean_copies.Goals as goal

pub returns-clause-leads : goal.returns-clause-leads
returns-clause-leads g c = leads_then c.in_ok-left.ensures.leads c.clean_minis.ensures.leads
