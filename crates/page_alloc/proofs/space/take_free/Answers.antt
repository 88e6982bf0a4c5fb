use Rattle.std.proofs.Common.{rules}
use Rattle.line_pages.proofs.StandingLaws.{KeepsPages-trans, KeepsPages-then, KeepsPages-stops}
use Rattle.page_alloc.proofs.space.take_free.Goals as goal

pub returns-clause-call : goal.returns-clause-call
returns-clause-call g c = KeepsPages-then c.in_ok-free.ensures.call c.in_ok-write_line.ensures.call

pub returns-in_err-write_line-clause-call : goal.returns-in_err-write_line-clause-call
returns-in_err-write_line-clause-call g c = KeepsPages-stops _ (search rules) (KeepsPages-trans c.in_ok-free.ensures.call c.in_err-write_line.ensures.call)
