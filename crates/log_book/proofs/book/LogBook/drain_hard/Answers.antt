-- One drain behind another.
use Rattle.std.proofs.Common.{refl, ◌∙◌, arith}
use Rattle.log_book.specs.LogData.{data_of}
use Rattle.log_book.proofs.ForLaws.{for_none, for_then, for_exit, for_sizes}
use Rattle.log_book.proofs.OpenSteps.{open_held}
use Rattle.log_book.proofs.book.LogBook.drain_hard.Goals as goal

pub loop-self-init : goal.loop-self-init
loop-self-init g c = record {
  same = record { geometry = refl; marks = refl };
  range = record { start = refl; written = refl };
  more = record { start = refl; tail = refl; written = refl; drained = omega arith; loose = refl; first = refl };
  open_ = for_none (λ t. open_held t (data_of c.args.self.now));
}

pub loop-self-preserved : goal.loop-self-preserved
loop-self-preserved g c =
    let was = c.loop-self.invariant in
    let next = c.in_ok-drain_some.ensures in
    record {
      same = record { geometry = next.same.geometry ∙ was.same.geometry; marks = next.same.marks ∙ was.same.marks };
      range = record { start = next.range.start ∙ was.range.start; written = next.range.written ∙ was.range.written };
      more = record {
        start = next.more.start ∙ was.more.start;
        tail = next.more.tail ∙ was.more.tail;
        written = next.more.written ∙ was.more.written;
        drained = (let a = was.more.drained in let b = next.more.drained in omega (arith, a, b));
        loose = next.more.loose ∙ was.more.loose;
        first = next.more.first ∙ was.more.first;
      };
      open_ = for_then was.open_ (for_sizes was.same.geometry next.open);
    }

pub returns-in_err-drain_some-clause-open : goal.returns-in_err-drain_some-clause-open
returns-in_err-drain_some-clause-open g c =
    let was = c.loop-self.invariant in
    for_exit c.from_residual.result c.from_residual.ensures.1 (for_then was.open_ (for_sizes was.same.geometry c.in_err-drain_some.ensures.open))
