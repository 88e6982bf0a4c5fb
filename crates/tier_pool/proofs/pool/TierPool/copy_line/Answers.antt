use Rattle.tier_pool.proofs.CopyLaws.{nothing_at}
use Rattle.tier_pool.proofs.pool.TierPool.copy_line.Goals as goal

pub returns-in-Absent : goal.returns-in-Absent
returns-in-Absent c = nothing_at _ _ _ _ c.in-Absent.is c.requires.line
