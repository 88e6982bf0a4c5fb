-- So far the pages that the words below name have their frames.
use Rattle.std.proofs.Common.{◌≡◌}
use Rattle.tier_pool.specs.Fields.{parts_of, SameSizes}
use Rattle.tier_pool.specs.Opening.{entries_placed}
use Rattle.tier_pool.proofs.pool.TierPool.place_frames.Given as goal

abbrev pub invariant-loop-frame : goal.invariant-loop-frame
invariant-loop-frame l = record {
  parts : parts_of l.self ≡ entries_placed l.frame l.fn.words (parts_of l.fn.self);
  same : SameSizes l.fn.self l.self;
}
