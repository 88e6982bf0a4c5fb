use Rattle.std.proofs.Common.{arith}
use Rattle.page_format.proofs.BranchLemmas.{branch_from}
use Rattle.page_tests.proofs.by_hand.is_branch.Goals as goal

pub returns-in-Ok : goal.returns-in-Ok
returns-in-Ok c = λ yes_it. branch_from c.args.page.now _ c.page_word.ensures.size (omega arith) (omega arith) c.in-Ok.ensures.ok
