-- A harden, and then the drains.
use Rattle.log_book.proofs.ForLaws.{for_then, for_sizes}
use Rattle.log_book.proofs.book.LogBook.drain.Goals as goal

pub returns-clause-open : goal.returns-clause-open
returns-clause-open g c = for_then c.in_ok-harden.ensures.open (for_sizes c.in_ok-harden.ensures.becomes.same.geometry c.drain_hard.ensures.open)
