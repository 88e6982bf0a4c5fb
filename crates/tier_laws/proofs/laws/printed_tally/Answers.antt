use Rattle.tier_laws.proofs.PrintLaws.{printed-tally}
use Rattle.tier_laws.proofs.laws.printed_tally.Goals as goal

pub returns : goal.returns
returns c = printed-tally
