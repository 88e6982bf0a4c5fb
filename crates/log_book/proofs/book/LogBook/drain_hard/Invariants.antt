-- So far blocks were drained; with each turn more stand on the SSD.
use Rattle.std.specs.Prelude.{◌-◌, Ok}
use Rattle.log_book.specs.LogData.{data_of, book_sizes, MoreDrained, SameSizes, SameRange}
use Rattle.log_book.specs.Calls.{KeepsOpen}
use Rattle.log_book.proofs.book.LogBook.drain_hard.Given as goal

abbrev pub invariant-loop-self : goal.invariant-loop-self
invariant-loop-self g l = record {
  same : SameSizes l.fn.self l.self;
  range : SameRange l.fn.self.log l.self.log;
  more : MoreDrained (data_of l.fn.self) (data_of l.self);
  open_ : KeepsOpen {T = Unit {0}} (book_sizes l.fn.self) (data_of l.fn.self) (data_of l.self) (g.D.Devices.standing l.fn.dev) (g.D.Devices.standing l.dev) (Ok tt);
}

abbrev pub decreases-loop-self : goal.decreases-loop-self
decreases-loop-self g l = l.self.log.tail - l.self.log.drained
