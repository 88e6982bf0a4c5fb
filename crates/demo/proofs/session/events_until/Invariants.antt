-- Both bounds are numbers of events.
use Rattle.std.proofs.Common.{◌-◌, ◌≤◌}
use Rattle.demo.proofs.session.events_until.Given as goal

abbrev pub invariant-loop-low : goal.invariant-loop-low
invariant-loop-low l = record {
  ordered : l.low ≤ l.high;
  within : l.high ≤ l.world.events;
}

abbrev pub decreases-loop-low : goal.decreases-loop-low
decreases-loop-low l = l.high - l.low
