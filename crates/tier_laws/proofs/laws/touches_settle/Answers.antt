use Rattle.tier_laws.proofs.TouchLaws.{touch-again}
use Rattle.tier_laws.proofs.laws.touches_settle.Goals as goal

pub returns : goal.returns
returns c = touch-again
