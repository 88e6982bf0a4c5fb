-- Check 6, where no entry is above the number of pages.
use Rattle.std.proofs.Common.{length, slice_index}
use Rattle.home_move.proofs.JudgeLaws.{passes_once, judged_twice}
use Rattle.home_move.proofs.table.judge_twice.Goals as goal

pub returns-in-Some-clause-judged : goal.returns-in-Some-clause-judged
returns-in-Some-clause-judged c = judged_twice c.args.pages (length c.args.entries.now) (slice_index c.args.entries.now) c.twice.result c.requires.below c.twice.ensures

pub returns-in-None-clause-judged : goal.returns-in-None-clause-judged
returns-in-None-clause-judged c = passes_once c.args.pages (length c.args.entries.now) (slice_index c.args.entries.now) c.requires.below c.in-None.ensures.first
