use Rattle.std.proofs.Common.{◌-◌}
use Rattle.flat_recovery.proofs.HeadLaws.{Checked}
use Rattle.flat_recovery.proofs.checking.check_log.Given as goal

abbrev pub invariant-loop-at : goal.invariant-loop-at
invariant-loop-at g l = Checked l.log l.at (g.D.Devices.standing l.fn.dev) (g.D.Devices.standing l.dev)

abbrev pub decreases-loop-at : goal.decreases-loop-at
decreases-loop-at g l = l.log.tail - l.at
