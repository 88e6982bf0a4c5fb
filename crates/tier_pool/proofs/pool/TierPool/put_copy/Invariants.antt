-- So far the lines below that are in the copy stand at their places.
use Rattle.tier_pool.specs.Fields.{parts_of}
use Rattle.tier_pool.specs.Handing.{HoldsCopy}
use Rattle.tier_pool.proofs.pool.TierPool.put_copy.Given as goal

abbrev pub invariant-loop-line : goal.invariant-loop-line
invariant-loop-line l = HoldsCopy (parts_of l.fn.self) l.fn.place l.line l.into
