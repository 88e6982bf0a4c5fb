-- The lines join.
use Rattle.devices.proofs.CallLaws.{makes_then}
use Rattle.flat_recovery.proofs.CallsLaws.{put_is}
use Rattle.flat_recovery.proofs.formatting.put_super.Goals as goal

pub returns-clause-makes : goal.returns-clause-makes
returns-clause-makes g c = makes_then c.in_ok-put_line.ensures.goes c.put_ends.ensures.goes (put_is 0 c.sizes.ensures c.in_ok-put_line.ensures.makes) c.put_ends.ensures.makes
