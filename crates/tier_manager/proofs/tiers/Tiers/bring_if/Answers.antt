use Rattle.device_calls.proofs.LeadsLaws.{leads_none}
use Rattle.tier_facts.proofs.CallLaws.{hard_held}
use Rattle.tier_pool.specs.Fields.{parts_of}
use Rattle.tier_pool.proofs.SteadyLaws.{steady_brought}
use Rattle.tier_manager.specs.Fields.{data_of}
use Rattle.tier_manager.proofs.tiers.Tiers.bring_if.Goals as goal

pub returns-in_ok-bring-clause-keeps : goal.returns-in_ok-bring-clause-keeps
returns-in_ok-bring-clause-keeps g c =
    steady_brought c.args.page c.in_ok-bring.field-0 (parts_of c.args.self.now.pool) (parts_of c.bring.new.self) c.in_ok-bring.ensures.brought c.requires.absent c.requires.steady

pub returns-else-brings-clause-leads : goal.returns-else-brings-clause-leads
returns-else-brings-clause-leads g c = leads_none (hard_held (data_of c.args.self.now)) (λ aim s it. it)
