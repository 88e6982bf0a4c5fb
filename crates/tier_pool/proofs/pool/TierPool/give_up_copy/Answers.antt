use Rattle.std.proofs.Common.{ap, ◌∙◌}
use Rattle.nvm_layout.specs.Sizes.{sizes_of}
use Rattle.tier_map.specs.declared.place.Place.{Place}
use Rattle.tier_pool.specs.Fields.{parts_of}
use Rattle.tier_pool.specs.Places.{copy_dropped, copy_stored}
use Rattle.tier_pool.proofs.RoomLaws.{gives_up, back_place, leads_to, at_data}
use Rattle.tier_pool.proofs.pool.TierPool.give_up_copy.Goals as goal

pub returns-clause-leads : goal.returns-clause-leads
returns-clause-leads g c =
    let parts = parts_of c.args.self.now in
    leads_to (at_data (ap sizes_of (c.drop_copy.ensures.same.geometry ∙ c.in_ok-store_back.ensures.same.geometry))
    (c.drop_copy.ensures.parts ∙ ap (copy_dropped c.args.page) (c.in_ok-store_back.ensures.parts ∙ ap (λ (x : Place). copy_stored x c.args.frame parts) c.place-place.ensures.place)))
    (gives_up (sizes_of c.args.self.now.geometry) parts c.args.page c.args.frame c.args.self.now.map.agrees c.requires.page c.requires.placed
    (back_place c.place-place.ensures.place c.in_ok-store_back.ensures.parts c.in_ok-store_back.ensures.back))
