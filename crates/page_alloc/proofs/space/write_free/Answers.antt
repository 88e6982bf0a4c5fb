use Rattle.line_pages.proofs.StandingLaws.{KeepsPages-trans}
use Rattle.page_alloc.proofs.space.write_free.Goals as goal

pub returns-clause-call : goal.returns-clause-call
returns-clause-call g c = KeepsPages-trans c.in_ok-write_line.ensures.call c.write_line-2.ensures.call
