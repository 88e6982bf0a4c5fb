use Rattle.std.proofs.Common.{sym, ap, ◌∙◌}
use Rattle.device_calls.proofs.LeadsLaws.{leads_none, leads_data}
use Rattle.nvm_layout.specs.Sizes.{sizes_of}
use Rattle.tier_facts.proofs.PlaceLaws.{facts_held}
use Rattle.tier_facts.specs.Facts.{Facts}
use Rattle.tier_pool.specs.Fields.{parts_of}
use Rattle.tier_pool.specs.Storing.{data_of}
use Rattle.tier_pool.proofs.RoomLaws.{at_data}
use Rattle.tier_facts.proofs.CallLaws.{then_recopied}
use Rattle.tier_pool.proofs.BringingLaws.{copied_data}
use Rattle.tier_pool.proofs.pool.TierPool.copy_or_fetch.Goals as goal

pub returns-in-Some-clause-leads : goal.returns-in-Some-clause-leads
returns-in-Some-clause-leads g c = λ bare.
    let sizes = sizes_of c.args.self.now.geometry in
    leads_data Facts (at_data (ap sizes_of c.copy_to.ensures.same.geometry) c.copy_to.ensures.parts)
    (then_recopied (λ image. copied_data sizes c.args.page (parts_of c.args.self.now) c.requires.absent image c.args.place bare)
    (leads_none (facts_held (data_of c.args.self.now)) (λ aim s it. it)))

pub returns-in-None-clause-leads : goal.returns-in-None-clause-leads
returns-in-None-clause-leads g c = λ bare. c.fetch_to.ensures.leads (sym c.frame.ensures.frame ∙ c.in-None.is) bare
