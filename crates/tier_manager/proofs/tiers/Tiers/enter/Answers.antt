use Rattle.std.proofs.Common.{sym, ap, subst}
use Rattle.nvm_layout.specs.Sizes.{sizes_of}
use Rattle.device_calls.proofs.LeadsLaws.{leads_none, leads_data}
use Rattle.tier_facts.specs.Facts.{Facts}
use Rattle.tier_facts.proofs.CallLaws.{hard_held}
use Rattle.tier_facts.proofs.PlaceLaws.{facts_held}
use Rattle.tier_pool.specs.Standing.{IsSteady}
use Rattle.tier_pool.proofs.RoomLaws.{at_data, leads_to}
use Rattle.tier_pool.proofs.SteadyLaws.{steady_full_hit, steady_mini_hit}
use Rattle.tier_manager.specs.Fields.{parts_of, data_of}
use Rattle.tier_manager.proofs.tiers.Tiers.enter.Goals as goal

pub returns-in-Full-clause-leads : goal.returns-in-Full-clause-leads
returns-in-Full-clause-leads g c =
    leads_to (at_data (ap sizes_of c.hit_full.ensures.same.geometry) c.hit_full.ensures.parts) (leads_none (hard_held (data_of c.args.self.now)) (λ aim s it. it))

pub returns-in-Full-clause-quiet : goal.returns-in-Full-clause-quiet
returns-in-Full-clause-quiet g c = λ copied.
    leads_data Facts (at_data (ap sizes_of c.hit_full.ensures.same.geometry) c.hit_full.ensures.parts) (leads_none (facts_held (data_of c.args.self.now)) (λ aim s it. it))

pub returns-in-Full-clause-keeps : goal.returns-in-Full-clause-keeps
returns-in-Full-clause-keeps g c = subst IsSteady (sym c.hit_full.ensures.parts) (steady_full_hit (parts_of c.args.self.now) c.requires.steady _)

pub returns-in-Mini-clause-leads : goal.returns-in-Mini-clause-leads
returns-in-Mini-clause-leads g c =
    leads_to (at_data (ap sizes_of c.hit_mini.ensures.same.geometry) c.hit_mini.ensures.parts) (leads_none (hard_held (data_of c.args.self.now)) (λ aim s it. it))

pub returns-in-Mini-clause-quiet : goal.returns-in-Mini-clause-quiet
returns-in-Mini-clause-quiet g c = λ copied.
    leads_data Facts (at_data (ap sizes_of c.hit_mini.ensures.same.geometry) c.hit_mini.ensures.parts) (leads_none (facts_held (data_of c.args.self.now)) (λ aim s it. it))

pub returns-in-Mini-clause-keeps : goal.returns-in-Mini-clause-keeps
returns-in-Mini-clause-keeps g c = subst IsSteady (sym c.hit_mini.ensures.parts) (steady_mini_hit (parts_of c.args.self.now) c.requires.steady _)
