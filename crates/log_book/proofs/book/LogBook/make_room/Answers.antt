-- Where there is room nothing is done.
use Rattle.log_book.specs.LogData.{data_of}
use Rattle.log_book.proofs.ForLaws.{for_none}
use Rattle.log_book.proofs.OpenSteps.{open_held}
use Rattle.log_book.proofs.book.LogBook.make_room.Goals as goal

pub returns-then-free_lines-lines-clause-open : goal.returns-then-free_lines-lines-clause-open
returns-then-free_lines-lines-clause-open g c = for_none (λ t. open_held t (data_of c.args.self.now))
