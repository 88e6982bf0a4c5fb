use Rattle.std.proofs.Common.{◌∙◌}
use Rattle.migration_policy.specs.Draws.{generator}
use Rattle.migration_policy.proofs.DrawLaws.{first_generator}
use Rattle.migration_policy.proofs.draws.Draws.new.Goals as goal

pub returns : goal.returns
unfolding generator
returns c = c.seed_from_u64.ensures ∙ first_generator c.args.seed
