-- The fence and the gate, or nothing.
use Rattle.std.proofs.Common.{ap}
use Rattle.nvm_log.specs.Offsets.{Offsets}
use Rattle.log_book.specs.LogData.{LogData, data_of}
use Rattle.log_book.specs.Open.{OpenIn, RecordedIn}
use Rattle.log_book.proofs.ForLaws.{OnOk_map, for_made}
use Rattle.log_book.proofs.OpenSteps.{harden_open, harden_recorded}
use Rattle.log_book.proofs.book.LogBook.harden.Goals as goal

pub returns-clause-open : goal.returns-clause-open
returns-clause-open g c = for_made (λ (x : LogData) t. OpenIn t x) (OnOk_map c.put_harden.result (ap (λ (at : Offsets). record (data_of c.args.self.now) { log = at })) c.put_harden.ensures.moved.ok) c.put_harden.ensures.made
    (λ t sizes goal s it. harden_open t (data_of c.args.self.now) goal s it)

pub returns-clause-recorded : goal.returns-clause-recorded
returns-clause-recorded g c = record {
  each = λ page line value. for_made (λ (x : LogData) t. RecordedIn page line value t x) (OnOk_map c.put_harden.result (ap (λ (at : Offsets). record (data_of c.args.self.now) { log = at })) c.put_harden.ensures.moved.ok) c.put_harden.ensures.made
      (λ t sizes goal s it. harden_recorded page line value t (data_of c.args.self.now) goal s it);
}
