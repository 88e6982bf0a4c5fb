use Rattle.std.proofs.Common.{◌≡◌, rules}
use Rattle.device_calls.proofs.LeadsLaws.{leads_none, leads_given}
use Rattle.tier_map.specs.declared.place.Place.TheVariants.{Absent, Full}
use Rattle.tier_facts.specs.Facts.{IsHardened}
use Rattle.tier_facts.proofs.CallLaws.{hard_held}
use Rattle.tier_pool.specs.Fields.{parts_of as pool_parts}
use Rattle.tier_pool.proofs.SteadyLaws.{steady_fetched_into}
use Rattle.tier_manager.specs.Fields.{parts_of, data_of}
use Rattle.tier_manager.proofs.ReadyLaws.{on_ok}
use Rattle.tier_manager.proofs.tiers.Tiers.promote_to.Goals as goal

pub returns-in-Full-clause-leads : goal.returns-in-Full-clause-leads
returns-in-Full-clause-leads g c = leads_none (hard_held (data_of c.args.self.now)) (λ aim s it. it)

pub returns-in-Absent-clause-leads : goal.returns-in-Absent-clause-leads
returns-in-Absent-clause-leads g c =
    let absent : (parts_of c.args.self.now).map.place c.args.page ≡ Absent = search rules in
    leads_given IsHardened (c.fetch_into.ensures.leads (c.requires.homeless absent) (c.requires.steady.free.each (Full c.args.full) c.requires.free))

pub returns-in-Absent-clause-keeps : goal.returns-in-Absent-clause-keeps
returns-in-Absent-clause-keeps g c =
    let absent : (parts_of c.args.self.now).map.place c.args.page ≡ Absent = search rules in
    on_ok c.fetch_into.result
    (λ fetched. steady_fetched_into c.args.page c.args.full (parts_of c.args.self.now) (pool_parts c.fetch_into.new.self) fetched absent c.requires.free c.requires.full c.requires.steady)
    c.fetch_into.ensures.parts
