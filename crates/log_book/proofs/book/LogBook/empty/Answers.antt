-- The gate, and no line is named.
use Rattle.std.proofs.Common.{refl}
use Rattle.log_book.specs.LogData.{LogData, data_of, made_empty}
use Rattle.log_book.specs.Open.{OpenIn}
use Rattle.device_calls.proofs.LeadsLaws.{leads_step, leads_exit, cause_stop}
use Rattle.log_book.proofs.ForLaws.{leads_becomes, data_is, stopped}
use Rattle.log_book.proofs.LiftLaws.{empty_open}
use Rattle.log_book.proofs.book.LogBook.empty.Goals as goal

pub returns-in_err-put_start-clause-leads : goal.returns-in_err-put_start-clause-leads
returns-in_err-put_start-clause-leads g c =
    let made = c.in_err-put_start.ensures.made in
    record {
      goes = made.goes;
      cause = cause_stop made.cause c.from_residual.result (stopped c.from_residual.result c.from_residual.ensures.1);
      each = λ t sizes clean. leads_exit c.from_residual.result c.from_residual.ensures.1 (leads_step made (empty_open t (data_of c.args.self.now) clean c.requires.nothing c.requires.none_open));
    }

pub returns-clause-leads : goal.returns-clause-leads
returns-clause-leads g c =
    let made = c.in_ok-put_start.ensures.made in
    record {
      goes = made.goes;
      cause = record { failed = tt; nvm = made.cause.nvm; ssd = made.cause.ssd };
      each = λ t sizes clean. leads_becomes (λ (x : LogData). OpenIn t x)
          (data_is _ (made_empty (data_of c.args.self.now)) c.in_ok-put_start.ensures.moved.ok c.clear.ensures.pairs refl)
          (leads_step made (empty_open t (data_of c.args.self.now) clean c.requires.nothing c.requires.none_open));
    }
