use Rattle.std.proofs.Common.{refl, sym, ap, ◌∙◌}
use Rattle.nvm_layout.specs.Sizes.{sizes_of}
use Rattle.tier_pool.specs.Fields.{parts_of}
use Rattle.tier_pool.proofs.RoomLaws.{leads_to, at_data}
use Rattle.tier_pool.proofs.pool.TierPool.store_or_pass.Goals as goal

pub returns-in-Some-clause-leads : goal.returns-in-Some-clause-leads
returns-in-Some-clause-leads g c = λ stands.
    leads_to (at_data {parts = parts_of c.store_back.new.self} (ap sizes_of c.store_back.ensures.same.geometry) refl)
    (c.store_back.ensures.back.each c.args.page (record { in_store = c.requires.page; here = stands.here; framed = sym c.frame.ensures.frame ∙ c.in-Some.is }) c.args.self.now.map.agrees)

pub returns-in-None-clause-leads : goal.returns-in-None-clause-leads
returns-in-None-clause-leads g c = λ stands.
    let none = sym c.frame.ensures.frame ∙ c.in-None.is in
    c.pass_through.ensures.leads (record { here = stands.here; homeless = none; whole = stands.whole none })
