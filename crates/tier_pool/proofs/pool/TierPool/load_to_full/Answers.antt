use Rattle.std.proofs.Common.{ℕ, ◌<◌, refl, sym, subst, rules}
use Rattle.device_calls.proofs.LeadsLaws.{leads_data}
use Rattle.devices.specs.World.{now}
use Rattle.nvm_layout.specs.Sizes.{sizes_of}
use Rattle.tier_facts.specs.Facts.{Facts}
use Rattle.tier_pool.specs.Fields.{parts_of}
use Rattle.tier_pool.specs.Touching.{loaded_to_full}
use Rattle.tier_pool.proofs.RoomLaws.{at_data}
use Rattle.tier_pool.proofs.LineLaws.{loads_frame, loaded_full}
use Rattle.tier_pool.proofs.WritingLaws.{full_long}
use Rattle.tier_pool.proofs.pool.TierPool.load_to_full.Goals as goal

pub returns-clause-parts : goal.returns-clause-parts
returns-clause-parts g c = record { value = c.in_ok-value.value; is = search rules }

pub returns-clause-leads : goal.returns-clause-leads
unfolding returns-clause-parts
returns-clause-leads g c = λ page lies here there.
    let sizes = sizes_of c.args.self.now.geometry in
    let parts = parts_of c.args.self.now in
    let loaded = loaded_to_full c.args.full c.args.line c.in_ok-value.value parts in
    leads_data Facts (at_data {g = sizes} {parts = loaded} refl (returns-clause-parts g c).is)
    (loads_frame sizes parts page c.args.line c.requires.line c.in_ok-value.value loaded c.args.spot.frame c.requires.frame.some lies
    (λ k found read. loaded_full sizes parts page c.args.full c.args.line c.in_ok-value.value c.args.self.now.map.agrees here
    (subst (λ (n : ℕ). c.args.full < n) (sym c.args.self.now.arena_fits) c.requires.full) (full_long c.args.self.now c.args.full c.requires.full) c.requires.line k (now (g.D.Devices.standing c.args.dev.now)) there found read)
    c.in_ok-value.ensures.looked c.in_ok-value.ensures.value)
