use Rattle.std.specs.Prelude.{None}
use Rattle.tier_pool.proofs.SteadyLaws.{steady_access}
use Rattle.tier_manager.specs.Fields.{parts_of}
use Rattle.tier_manager.proofs.tiers.Tiers.rest.Goals as goal

pub returns-clause-keeps : goal.returns-clause-keeps
returns-clause-keeps c = λ steady. record { fields = steady_access (parts_of c.args.self.now) steady.fields None; access = tt }
