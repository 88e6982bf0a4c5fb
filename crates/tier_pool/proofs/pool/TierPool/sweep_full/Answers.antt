use Rattle.tier_pool.proofs.ClockLaws.{all_stand}
use Rattle.tier_pool.proofs.pool.TierPool.sweep_full.Goals as goal

pub victim-full-requires-clause-stands : goal.victim-full-requires-clause-stands
victim-full-requires-clause-stands c =
    all_stand c.args.self.now.full_clock _ c.requires.all_stand c.args.self.now.full_clock_fits c.args.self.now.policy.some_frame
