use Rattle.tier_laws.proofs.Rows.{worked_rows}
use Rattle.tier_laws.proofs.examples.worked_rows.Goals as goal

pub returns : goal.returns
returns c = worked_rows
