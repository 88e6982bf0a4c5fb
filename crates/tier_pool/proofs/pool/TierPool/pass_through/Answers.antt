use Rattle.std.proofs.Common.{ap}
use Rattle.nvm_layout.specs.Sizes.{sizes_of}
use Rattle.tier_pool.specs.Fields.{parts_of}
use Rattle.tier_pool.proofs.RoomLaws.{leads_to, at_data}
use Rattle.tier_pool.proofs.HandingLaws.{passed_clean}
use Rattle.tier_pool.proofs.pool.TierPool.pass_through.Goals as goal

pub returns-clause-leads : goal.returns-clause-leads
returns-clause-leads g c = λ stands.
    leads_to (at_data (ap sizes_of c.clean_copy.ensures.same.geometry) c.clean_copy.ensures.parts)
    (passed_clean (sizes_of c.args.self.now.geometry) (parts_of c.args.self.now) c.args.page c.args.place _ c.args.self.now.map.agrees stands c.in_ok-write_through.ensures.passes)
