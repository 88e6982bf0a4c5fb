use Rattle.tier_pool.proofs.ClockLaws.{all_stand}
use Rattle.tier_pool.proofs.pool.TierPool.sweep_minis.Goals as goal

pub victim-mini-requires-clause-stands : goal.victim-mini-requires-clause-stands
victim-mini-requires-clause-stands c =
    all_stand c.args.self.now.mini_clock _ c.requires.all_stand c.args.self.now.mini_clock_fits c.requires.some
