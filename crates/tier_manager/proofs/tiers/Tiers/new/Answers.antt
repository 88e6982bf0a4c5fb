use Rattle.tier_rules.specs.Plans.{plan_of}
use Rattle.tier_manager.proofs.MadeLaws.{made_rests}
use Rattle.tier_manager.proofs.tiers.Tiers.new.Goals as goal

pub returns-clause-keeps : goal.returns-clause-keeps
returns-clause-keeps c =
    let n = c.args.geometry.now.frames in
    record { fields = c.in_ok-new.ensures.steady; access = made_rests c.in_ok-new.field-0 (plan_of c.args.policy.now) n n c.args.words.now _ c.in_ok-new.ensures.parts }
