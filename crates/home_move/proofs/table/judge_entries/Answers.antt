-- An entry is above the number of pages.
use Rattle.std.proofs.Common.{length, slice_index}
use Rattle.home_move.proofs.JudgeLaws.{judged_above}
use Rattle.home_move.proofs.table.judge_entries.Goals as goal

pub returns-in-Some-clause-judged : goal.returns-in-Some-clause-judged
returns-in-Some-clause-judged c = judged_above c.args.pages (length c.args.entries.now) (slice_index c.args.entries.now) c.in-Some.frame c.above.result c.in-Some.ensures.0 c.in-Some.ensures.1 c.above.ensures
