use Rattle.tier_pool.specs.Fields.{parts_of}
use Rattle.tier_pool.proofs.CopyLaws.{dropped}
use Rattle.tier_pool.proofs.pool.TierPool.drop_copy.Goals as goal

pub returns-clause-parts : goal.returns-clause-parts
returns-clause-parts c =
    dropped (parts_of c.args.self.now) (parts_of c.empty_place.new.self) _ c.args.page _ c.place-place.ensures.place c.empty_place.ensures.parts c.clear_dram.ensures.placement
