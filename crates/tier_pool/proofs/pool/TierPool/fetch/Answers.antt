use Rattle.tier_pool.proofs.pool.TierPool.fetch.Goals as goal

pub returns-clause-reads : goal.returns-clause-reads
returns-clause-reads g c = record { count = 1; reads = c.in_ok-read_home_block.ensures.reads; fetches = c.count_one.ensures }
