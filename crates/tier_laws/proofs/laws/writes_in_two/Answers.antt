use Rattle.tier_laws.proofs.TouchLaws.{ready_then_step}
use Rattle.tier_laws.proofs.laws.writes_in_two.Goals as goal

pub returns : goal.returns
returns c = ready_then_step
