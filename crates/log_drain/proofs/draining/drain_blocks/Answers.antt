-- Where there is no block to be drained no call is made.
use Rattle.std.proofs.Common.{Ok}
use Rattle.nvm_log.specs.Offsets.{offsets_of}
use Rattle.log_drain.proofs.DrainClauses.{drains_none, lines_clause, keeps_clause, reached_by}
use Rattle.log_drain.proofs.draining.drain_blocks.Goals as goal

pub returns-then-count-eq0-clause-makes : goal.returns-then-count-eq0-clause-makes
returns-then-count-eq0-clause-makes g c = drains_none c.args.log.now _ (Ok 0) c.args.log.now.below c.args.log.now.in_blocks

pub returns-then-count-eq0-clause-lines : goal.returns-then-count-eq0-clause-lines
returns-then-count-eq0-clause-lines g c =
    lines_clause c.args.log.now _ (offsets_of c.args.log.now) c.args.log.now.drained (returns-then-count-eq0-clause-makes g c) c.args.log.now.aligned (reached_by (offsets_of c.args.log.now) _ _ (returns-then-count-eq0-clause-makes g c).count)

pub returns-then-count-eq0-clause-keeps : goal.returns-then-count-eq0-clause-keeps
returns-then-count-eq0-clause-keeps g c =
    keeps_clause c.args.log.now _ (offsets_of c.args.log.now) c.args.log.now.drained (returns-then-count-eq0-clause-makes g c) c.args.log.now.aligned (reached_by (offsets_of c.args.log.now) _ _ (returns-then-count-eq0-clause-makes g c).count)
