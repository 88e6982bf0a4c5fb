use Rattle.std.proofs.Common.{subst, sym, ◌<◌, ℕ}
use Rattle.page_frame.specs.Arena.{frames_of}
use Rattle.tier_pool.proofs.CopyLaws.{not_there}
use Rattle.tier_pool.proofs.pool.TierPool.full_line.Goals as goal

pub returns-else-has_line : goal.returns-else-has_line
returns-else-has_line c =
    let self = c.args.self.now in
    let below = subst (λ (n : ℕ). c.args.full < n) (sym self.arena_fits) c.requires.place in
    not_there (frames_of self.arena) c.args.full c.args.line _ _ below c.resident.ensures.lines c.has_line.ensures c.if-has_line.false
