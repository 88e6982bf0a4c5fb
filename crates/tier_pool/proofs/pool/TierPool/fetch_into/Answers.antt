use Rattle.std.proofs.Common.{ap, ◌∙◌, sym, subst}
use Rattle.tier_map.specs.Placement.{Placement}
use Rattle.tier_pool.specs.Bringing.{full_placed, place_filled}
use Rattle.tier_rules.specs.Parts.{Parts}
use Rattle.std.specs.Prelude.{ℕ, ◌<◌}
use Rattle.device_calls.proofs.LeadsLaws.{leads_looked, leads_exit, leads_data}
use Rattle.nvm_layout.specs.Sizes.{sizes_of}
use Rattle.tier_facts.proofs.PlaceLaws.{facts_held}
use Rattle.tier_facts.specs.Facts.{Facts}
use Rattle.tier_pool.specs.Fields.{parts_of}
use Rattle.tier_pool.specs.Storing.{data_of}
use Rattle.tier_pool.proofs.RoomLaws.{at_data}
use Rattle.tier_pool.proofs.BringingLaws.{fetches_into}
use Rattle.tier_pool.proofs.pool.TierPool.fetch_into.Goals as goal

pub fill_full-requires-clause-absent : goal.fill_full-requires-clause-absent
fill_full-requires-clause-absent g c = ap (λ (m : Placement). m.place c.args.page) c.fetch.ensures.map ∙ c.requires.absent

pub fill_full-requires-clause-free : goal.fill_full-requires-clause-free
fill_full-requires-clause-free g c = ap (λ (m : Placement). m.full_page c.args.full) c.fetch.ensures.map ∙ c.requires.free

pub returns-clause-parts : goal.returns-clause-parts
returns-clause-parts g c = record {
  bytes = c.fetch.new.into;
  is = c.fill_full.ensures.parts ∙ ap (λ (parts : Parts). full_placed c.args.page c.args.full (place_filled c.args.full c.fetch.new.into parts)) c.in_ok-fetch.ensures.parts;
}

pub returns-in_err-fetch-clause-leads : goal.returns-in_err-fetch-clause-leads
returns-in_err-fetch-clause-leads g c = λ homeless bare.
    leads_exit c.from_residual.result c.from_residual.ensures.1 (leads_looked (facts_held (data_of c.args.self.now)) c.in_err-fetch.ensures.looked)

pub returns-clause-leads : goal.returns-clause-leads
returns-clause-leads g c = λ homeless bare.
    leads_data Facts (at_data (ap sizes_of (c.fill_full.ensures.same.geometry ∙ c.fetch.ensures.same.geometry))
    (c.fill_full.ensures.parts ∙ ap (λ (parts : Parts). full_placed c.args.page c.args.full (place_filled c.args.full c.fetch.new.into parts)) c.in_ok-fetch.ensures.parts))
    (fetches_into (sizes_of c.args.self.now.geometry) (parts_of c.args.self.now) c.args.page c.args.full c.fetch.new.into c.args.self.now.map.agrees c.requires.absent c.requires.free
    (subst (λ (n : ℕ). c.args.full < n) (sym c.args.self.now.arena_fits) c.requires.full) homeless bare c.in_ok-fetch.ensures.looked c.in_ok-fetch.ensures.value)
