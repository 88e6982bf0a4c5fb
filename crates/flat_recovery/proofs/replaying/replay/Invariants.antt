use Rattle.std.proofs.Common.{◌-◌}
use Rattle.flat_recovery.specs.Replaying.{group_end}
use Rattle.flat_recovery.proofs.GroupLaws.{Replaying}
use Rattle.flat_recovery.proofs.replaying.replay.Given as goal

abbrev pub invariant-loop-dev : goal.invariant-loop-dev
invariant-loop-dev g l = Replaying l.log l.group (g.D.Devices.standing l.fn.dev) (g.D.Devices.standing l.dev)

abbrev pub decreases-loop-dev : goal.decreases-loop-dev
decreases-loop-dev g l = l.log.tail - group_end l.group
