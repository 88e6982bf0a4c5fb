-- The end and the gate.
use Rattle.std.proofs.Common.{◌≤◌, ◌∙◌, ap, arith, refl}
use Rattle.nvm_log.specs.Offsets.{Offsets}
use Rattle.log_book.specs.LogData.{LogData, data_of, book_sizes, group_closed}
use Rattle.log_book.specs.Open.{CommittedIn}
use Rattle.log_book.proofs.ForLaws.{for_made, for_stop, data_is}
use Rattle.log_book.proofs.OpenSteps.{commit_open}
use Rattle.log_book.proofs.book.LogBook.commit.Goals as goal

pub returns-in_err-put_end-clause-leads : goal.returns-in_err-put_end-clause-leads
returns-in_err-put_end-clause-leads g c =
    let order : c.args.self.now.log.drained ≤ c.args.self.now.log.written = omega arith in
    for_stop (λ (x : LogData) t. CommittedIn t x) (group_closed (data_of c.args.self.now)) c.from_residual.result c.from_residual.ensures.1 c.in_err-put_end.ensures.made
    (commit_open (book_sizes c.args.self.now) (data_of c.args.self.now) order c.requires.room)

pub returns-clause-leads : goal.returns-clause-leads
returns-clause-leads g c =
    let order : c.args.self.now.log.drained ≤ c.args.self.now.log.written = omega arith in
    for_made (λ (x : LogData) t. CommittedIn t x) (data_is _ (group_closed (data_of c.args.self.now)) c.in_ok-put_end.ensures.moved.ok refl
    (c.tail-self.ensures ∙ ap (λ (at : Offsets). at.tail) c.in_ok-put_end.ensures.moved.ok)) c.in_ok-put_end.ensures.made
    (commit_open (book_sizes c.args.self.now) (data_of c.args.self.now) order c.requires.room)
