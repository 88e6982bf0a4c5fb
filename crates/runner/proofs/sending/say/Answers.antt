-- What was owed is sent, or a part of it.
use Rattle.std.proofs.Common.{refl}
use Rattle.std.specs.Prelude.{◌++◌}
use Rattle.devices.proofs.JoinLaws.{Stays-now}
use Rattle.runner.proofs.RunLaws.{stands_still, said_safe, said_all}
use Rattle.runner.proofs.CauseLaws.{quiet_write}
use Rattle.runner.proofs.sending.say.Goals as goal

pub returns-in-Ok-clause-cause : goal.returns-in-Ok-clause-cause
returns-in-Ok-clause-cause g c = λ engine. record { failed = tt; ok = quiet_write _ _ c.write_all.ensures.call c.write_all.ensures.rest c.in-Ok.ensures.cause.ok }

pub returns-in-Ok-clause-stands : goal.returns-in-Ok-clause-stands
returns-in-Ok-clause-stands g c = λ engine stands. stands_still engine _ _ c.write_all.ensures.call.goes (Stays-now c.write_all.ensures.call.goes c.write_all.ensures.call.stays) stands

pub returns-in-Ok-clause-proceeds : goal.returns-in-Ok-clause-proceeds
returns-in-Ok-clause-proceeds g c = λ aim engine s more commands told stands whole whole_more owes.
    let wrote = c.in-Ok.ensures.writes told in
    record {
      safe = said_safe aim engine s (c.args.bytes.now ++ more) commands _ stands told owes c.args.bytes.now more _ c.write_all.result refl c.write_all.ensures.call (c.write_all.ensures.writes told);
      sound = tt;
      ok = said_all aim engine s c.args.bytes.now more commands _ _ told owes whole whole_more c.write_all.ensures.call wrote.ok;
    }

pub returns-in-Err-clause-cause : goal.returns-in-Err-clause-cause
returns-in-Err-clause-cause g c = λ engine. record { failed = c.in-Err.ensures.cause.failed; ok = tt }

pub returns-in-Err-clause-stands : goal.returns-in-Err-clause-stands
returns-in-Err-clause-stands g c = λ engine stands. stands_still engine _ _ c.write_all.ensures.call.goes (Stays-now c.write_all.ensures.call.goes c.write_all.ensures.call.stays) stands

pub returns-in-Err-clause-proceeds : goal.returns-in-Err-clause-proceeds
returns-in-Err-clause-proceeds g c = λ aim engine s more commands told stands whole whole_more owes. record {
  safe = said_safe aim engine s (c.args.bytes.now ++ more) commands _ stands told owes c.args.bytes.now more _ c.write_all.result refl c.write_all.ensures.call (c.write_all.ensures.writes told);
  sound = tt;
  ok = tt;
}

pub returns-in-Ok-clause-sends : goal.returns-in-Ok-clause-sends
returns-in-Ok-clause-sends g c = λ told. (c.in-Ok.ensures.writes told).ok

pub returns-in-Err-clause-sends : goal.returns-in-Err-clause-sends
returns-in-Err-clause-sends g c = λ told. tt
