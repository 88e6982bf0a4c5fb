use Rattle.tier_pool.proofs.CopyLaws.{nothing_resident}
use Rattle.tier_pool.proofs.pool.TierPool.resident_lines.Goals as goal

pub returns-in-Absent : goal.returns-in-Absent
returns-in-Absent c = nothing_resident _ _ _ c.in-Absent.is
