-- The record is stored, and its line is named.
use Rattle.std.proofs.Common.{◌≤◌, ◌∙◌, arith, refl}
use Rattle.log_book.specs.LogData.{LogData, data_of, book_sizes, with_record}
use Rattle.log_book.specs.Open.{RecordedIn}
use Rattle.log_book.proofs.ForLaws.{for_made, for_stop, data_is, pair_marked}
use Rattle.log_book.proofs.OpenSteps.{record_open}
use Rattle.log_book.proofs.book.LogBook.record.Goals as goal

pub returns-in_err-put_record-clause-leads : goal.returns-in_err-put_record-clause-leads
returns-in_err-put_record-clause-leads g c =
    let r = c.args.change.now in
    let order : c.args.self.now.log.drained ≤ c.args.self.now.log.written = omega arith in
    for_stop (λ (x : LogData) t. RecordedIn r.page r.line r.after t x) (with_record r.page r.line (data_of c.args.self.now)) c.from_residual.result c.from_residual.ensures.1 c.in_err-put_record.ensures.made
    (record_open (book_sizes c.args.self.now) (data_of c.args.self.now) r c.requires.page c.requires.line c.in_err-put_record.ensures.lines.0 c.in_err-put_record.ensures.lines.1 order c.requires.room)

pub returns-clause-leads : goal.returns-clause-leads
returns-clause-leads g c =
    let r = c.args.change.now in
    let order : c.args.self.now.log.drained ≤ c.args.self.now.log.written = omega arith in
    for_made (λ (x : LogData) t. RecordedIn r.page r.line r.after t x) (data_is _ (with_record r.page r.line (data_of c.args.self.now)) c.in_ok-put_record.ensures.moved.ok (c.insert.ensures.pairs ∙ pair_marked r.page r.line _) refl) c.in_ok-put_record.ensures.made
    (record_open (book_sizes c.args.self.now) (data_of c.args.self.now) r c.requires.page c.requires.line c.in_ok-put_record.ensures.lines.0 c.in_ok-put_record.ensures.lines.1 order c.requires.room)
