-- What is read back counts for each state that reads as the devices do.
use Rattle.std.proofs.Common.{◌≡◌, ℕ, sym, ap, ◌∙◌, subst}
use Rattle.nvm_model.specs.declared.line.Line.{Line}
use Rattle.devices.specs.State.{current}
use Rattle.devices.specs.World.{now}
use Rattle.store_model.specs.Layout.{Sizes}
use Rattle.store_model.specs.Format.Format.{whole_lines}
use Rattle.store_model.specs.Recovered.{log_line}
use Rattle.device_calls.proofs.ReadLaws.{current_as}
use Rattle.log_records.specs.Heads.{HeadsOf, AreOfStore}
use Rattle.log_records.specs.Back.{lines_now}
use Rattle.log_book.specs.LogData.{data_of}
use Rattle.log_book.proofs.UndoLaws.{undoing_looked}
use Rattle.log_book.proofs.BackOpen.{back_held, back_read}
use Rattle.log_book.proofs.book.LogBook.last_record.Goals as goal

pub returns-clause-leads : goal.returns-clause-leads
returns-clause-leads g c =
    let book = c.args.self.now in
    let old = g.D.Devices.standing c.args.dev.now in
    let read = c.read_last.ensures in
    record {
      each = λ t sizes. undoing_looked (back_held t (data_of book) c.args.end) read.goes read.stays (λ told aim s reads before.
          let same : lines_now book.log old ≡ log_line t.sizes book.log.drained (current s) =
          ap (λ (x : Sizes). log_line x book.log.drained (current (now old))) (sym sizes) ∙ ap (log_line t.sizes book.log.drained) (sym (current_as s (now old) reads)) in
          let heads : HeadsOf whole_lines (lines_now book.log old) book.first before.left c.args.end = subst (λ (f : ℕ → Line). HeadsOf whole_lines f book.first before.left c.args.end) (sym same) before.stand in (
            read.back.sound told before.left heads (subst (λ (x : Sizes). AreOfStore x before.left) sizes before.of_store),
            back_read book.log old _ c.read_last.result t (data_of book) c.args.end aim s before (lines_now book.log old) same (read.back.value told before.left heads) read.back.found,
          ));
    }
