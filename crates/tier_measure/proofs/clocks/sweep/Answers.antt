use Rattle.clock_sweep.proofs.ClockLaws.{stands-victim}
use Rattle.tier_measure.proofs.clocks.sweep.Goals as goal

pub returns-clause-stands : goal.returns-clause-stands
returns-clause-stands c = rw c.insert.ensures (stands-victim _ _ c.victim-victim.ensures.victim)
