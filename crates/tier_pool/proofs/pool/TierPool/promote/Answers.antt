use Rattle.tier_pool.specs.Fields.{parts_of}
use Rattle.tier_pool.proofs.MiniLaws.{moved_absent, moved_free, promoted_is}
use Rattle.tier_pool.proofs.pool.TierPool.promote.Goals as goal

pub place_full-requires-clause-absent : goal.place_full-requires-clause-absent
place_full-requires-clause-absent c =
    moved_absent c.args.page c.args.mini c.args.full (parts_of c.args.self.now) (parts_of c.move_lines.new.self) (parts_of c.drop_copy.new.self) c.move_lines.ensures.parts c.drop_copy.ensures.parts

pub place_full-requires-clause-free : goal.place_full-requires-clause-free
place_full-requires-clause-free c =
    moved_free c.args.page c.args.mini c.args.full (parts_of c.args.self.now) (parts_of c.move_lines.new.self) (parts_of c.drop_copy.new.self) c.requires.here c.requires.free
    c.move_lines.ensures.parts c.drop_copy.ensures.parts

pub returns-clause-parts : goal.returns-clause-parts
returns-clause-parts c =
    promoted_is c.args.page c.args.mini c.args.full _ (parts_of c.args.self.now) (parts_of c.move_lines.new.self) (parts_of c.drop_copy.new.self) (parts_of c.place_full.new.self)
    c.move_lines.ensures.parts c.drop_copy.ensures.parts c.place_full.ensures.parts c.count_one.ensures
