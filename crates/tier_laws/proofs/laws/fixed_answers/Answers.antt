use Rattle.migration_policy.proofs.DrawLaws.{always, never}
use Rattle.tier_laws.proofs.laws.fixed_answers.Goals as goal

pub returns : goal.returns
returns c = λ w. (always w, never w)
