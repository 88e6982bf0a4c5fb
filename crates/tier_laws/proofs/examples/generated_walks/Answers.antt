use Rattle.tier_laws.proofs.Walks.{generated_ones}
use Rattle.tier_laws.proofs.examples.generated_walks.Goals as goal

pub returns : goal.returns
returns c = generated_ones
