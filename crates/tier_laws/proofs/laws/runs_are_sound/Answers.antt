use Rattle.tier_laws.proofs.PrintLaws.{run-sound}
use Rattle.tier_laws.proofs.laws.runs_are_sound.Goals as goal

pub returns : goal.returns
returns c = run-sound
