use Rattle.tier_laws.proofs.PrintLaws.{run-sound, in_range}
use Rattle.tier_laws.proofs.SettleLaws.{settled-clean, tier_run-fits}
use Rattle.tier_rules.specs.Runs.{tier_run}
use Rattle.std.specs.Prelude.{None}
use Rattle.tier_laws.proofs.laws.settling_cleans.Goals as goal

pub returns : goal.returns
returns c = λ plan words lines some table run page.
    settled-clean (tier_run plan words lines) (run-sound plan words lines some table run) (tier_run-fits plan words lines some table (in_range None lines run)) page
