use Rattle.tier_manager.proofs.KeptLaws.{steady_kept}
use Rattle.tier_manager.proofs.tiers.Tiers.clean.Goals as goal

pub returns-clause-keeps : goal.returns-clause-keeps
returns-clause-keeps g c =
    steady_kept c.clean_copies.result c.args.count c.args.self.now c.clean_copies.new.self c.clean_copies.ensures.parts c.clean_copies.ensures.keeps c.clean_copies.ensures.same c.requires.steady
