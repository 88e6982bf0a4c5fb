use Rattle.clock_sweep.proofs.ClockLaws.{victim-some, victim-steps}
use Rattle.tier_laws.proofs.laws.has_victim.Goals as goal

pub returns : goal.returns
returns c = λ circle stands. let found = victim-some circle stands in (found.0, found.1, victim-steps circle found.0 found.1)
