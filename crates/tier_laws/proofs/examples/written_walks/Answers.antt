use Rattle.tier_laws.proofs.Walks.{written}
use Rattle.tier_laws.proofs.examples.written_walks.Goals as goal

pub returns : goal.returns
returns c = written
