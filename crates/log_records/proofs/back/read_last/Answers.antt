-- The record before the end is the last of those that stand up to there.
use Rattle.std.proofs.Common.{◌≡◌, ◌≤◌, ◌<◌, ◌-◌, ◌+◌, refl, sym, ap, ◌∙◌, subst, arith, IsTrue, Err}
use Rattle.std.proofs.lemmas.Result.{err_from_is_err_and}
use Rattle.devices.specs.State.{State, current}
use Rattle.devices.proofs.MomentLaws.{Goes-on, Goes-trans}
use Rattle.devices.proofs.JoinLaws.{Stays-now, Stays-trans}
use Rattle.line_pages.specs.declared.stop.Stop.{Stop}
use Rattle.store_model.specs.Recovered.{log_line}
use Rattle.nvm_layout.specs.Sizes.{sizes_of}
use Rattle.log_records.specs.Back.{lines_now, counted}
use Rattle.log_records.proofs.BackLaws.{none_left, last_found, back_stops, line_counted}
use Rattle.log_records.proofs.back.read_last.Goals as goal

pub returns-then-end-first-lt-RECORD_LINES-clause-back :
    goal.returns-then-end-first-lt-RECORD_LINES-clause-back
returns-then-end-first-lt-RECORD_LINES-clause-back g c =
    let short : c.args.end < c.args.first + 3 = omega arith in
    record {
      value = λ told them heads. none_left _ c.args.first c.args.end them short heads;
      sound = λ told them heads of_store. tt;
      found = (short, refl);
    }

pub returns-in_err-place-clause-back : goal.returns-in_err-place-clause-back
returns-in_err-place-clause-back g c =
    let exit = err_from_is_err_and c.from_residual.result c.from_residual.ensures.1 in
    back_stops c.args.log.now c.args.first c.args.end (c.args.end - 3) _ _ c.from_residual.result c.in_err-place.field-0.0 (exit.1 ∙ ap (λ (why : Stop). Err why) exit.2) c.in_err-place.ensures.cause.failed
    (omega arith) (omega arith)

pub returns-clause-back : goal.returns-clause-back
returns-clause-back g c =
    let log = c.args.log.now in
    let place = c.in_ok-place.ensures in
    let line = c.in_ok-value.ensures in
    let begins : c.args.first ≤ c.args.end - 3 = omega arith in
    let ends : c.args.end - 3 + 3 ≡ c.args.end = omega arith in
    record {
      value = λ told them heads.
          last_found (lines_now log (g.D.Devices.standing c.args.dev.now)) c.args.first c.args.end them _ heads begins ends (place.finds.value told).page (place.finds.value told).line
          (line.reads.value (subst (λ t. IsTrue t) (sym place.goes.told) told)
          ∙ ap (λ (s : State). log_line (sizes_of log.geometry) log.drained (current s) (c.args.end - 3 + 1)) (Stays-now (Goes-on place.goes) place.stays told));
      sound = λ told them heads of_store. tt;
      found = record {
        begins = begins;
        ends = ends;
        page = place.finds.inside.0;
        line = place.finds.inside.1;
        reads = line_counted log (c.args.end - 3 + 1) _ _ line.reads.in_nvm line.reads.in_ssd ∙ ap (counted log (c.args.end - 3 + 1)) place.finds.reads;
      };
    }

pub returns-clause-stays : goal.returns-clause-stays
returns-clause-stays g c = Stays-trans (Goes-on c.in_ok-place.ensures.goes) (Goes-on c.in_ok-value.ensures.goes) c.in_ok-place.ensures.stays c.in_ok-value.ensures.stays

pub returns-clause-goes : goal.returns-clause-goes
returns-clause-goes g c = Goes-trans c.in_ok-place.ensures.goes c.in_ok-value.ensures.goes
