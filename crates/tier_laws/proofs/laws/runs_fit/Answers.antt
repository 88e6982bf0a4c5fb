use Rattle.tier_laws.proofs.PrintLaws.{in_range}
use Rattle.tier_laws.proofs.SettleLaws.{tier_run-fits}
use Rattle.std.specs.Prelude.{None}
use Rattle.tier_laws.proofs.laws.runs_fit.Goals as goal

pub returns : goal.returns
returns c = λ plan words lines some table run. tier_run-fits plan words lines some table (in_range None lines run)
