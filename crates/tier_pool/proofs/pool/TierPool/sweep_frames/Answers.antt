use Rattle.tier_pool.proofs.ClockLaws.{all_stand}
use Rattle.tier_pool.proofs.pool.TierPool.sweep_frames.Goals as goal

pub victim-frame-requires-clause-stands : goal.victim-frame-requires-clause-stands
victim-frame-requires-clause-stands c =
    all_stand c.args.self.now.nvm_clock _ c.requires.all_stand c.args.self.now.nvm_clock_fits c.requires.some
