-- With each turn one record less is left; a stop is handed on.
use Rattle.std.proofs.Common.{refl, IsTrue, subst, sym, ap, Ok, Err, ◌≡◌, ◌≤◌, ◌∙◌, ◌-◌, ◌+◌, ◌*◌, ◌/◌, arith}
use Rattle.std.proofs.lemmas.Result.{err_from_is_err_and}
use Rattle.devices.proofs.MomentLaws.{Goes-refl, Goes-trans}
use Rattle.line_pages.specs.declared.stop.Stop.{Stop}
use Rattle.flat_nvm_layout.specs.Sizes.{sizes_of}
use Rattle.flat_transactions.specs.TakenBack.{TakesBack}
use Rattle.flat_transactions.proofs.TakenBackLaws.{log_refl, log_trans, cause_then, cause_on}
use Rattle.flat_transactions.proofs.TakingBackLaws.{back_none, back_next, back_on}
use Rattle.flat_transactions.proofs.undo.take_back.Goals as goal

pub loop-taken-init : goal.loop-taken-init
loop-taken-init g c =
    let old = g.D.Devices.standing c.args.dev.now in
    let sizes = sizes_of c.args.log.now.geometry in
    let records = (c.args.log.now.tail - c.args.first) / 3 in
    record {
      goes = Goes-refl old;
      cause = record { failed = tt; nvm = refl; ssd = refl; reads = refl };
      same = λ told. log_refl sizes c.args.log.now.start old;
      takes = λ told. back_none sizes c.args.log.now.start c.args.log.now.tail c.args.first records (records - 0) old (omega arith);
    }

pub loop-taken-preserved : goal.loop-taken-preserved
loop-taken-preserved g c =
    let old = g.D.Devices.standing c.args.dev.now in
    let mid = g.D.Devices.standing c.loop-taken.dev in
    let new = g.D.Devices.standing c.take_back_line.new.dev in
    let sizes = sizes_of c.args.log.now.geometry in
    let records = (c.args.log.now.tail - c.args.first) / 3 in
    let inv = c.loop-taken.invariant in
    let step = c.in_ok-take_back_line.ensures in
    let within : c.args.first + 3 * ((c.args.log.now.tail - c.args.first) / 3) ≤ c.args.log.now.tail = omega arith in
    record {
      goes = Goes-trans inv.goes step.goes;
      cause = cause_then sizes c.args.log.now.start c.args.log.now.tail old mid new (Ok tt) inv.goes inv.cause inv.same step.cause;
      same = λ told. log_trans (inv.same told) (step.takes (subst (λ t. IsTrue t) (sym inv.goes.told) told)).log;
      takes = λ told. back_next sizes c.args.log.now.start c.args.log.now.tail c.args.first records c.loop-taken.taken old mid new (Ok tt) inv.goes step.goes told
          c.loop-taken-test.true within (inv.takes told) (step.takes (subst (λ t. IsTrue t) (sym inv.goes.told) told));
    }

pub returns-clause-takes : goal.returns-clause-takes
returns-clause-takes g c told =
    let none : (c.args.log.now.tail - c.args.first) / 3 - c.loop-taken.taken ≡ 0 = omega arith in
    subst (λ n. TakesBack {T = Unit {0}} (sizes_of c.args.log.now.geometry) c.args.log.now.start c.args.log.now.tail c.args.first ((c.args.log.now.tail - c.args.first) / 3) n
    (g.D.Devices.standing c.args.dev.now) (g.D.Devices.standing c.loop-taken.dev) (Ok tt)) none (c.loop-taken.invariant.takes told)

pub returns-clause-log : goal.returns-clause-log
returns-clause-log g c told = c.loop-taken.invariant.same told

pub returns-in_err-take_back_line-clause-takes : goal.returns-in_err-take_back_line-clause-takes
returns-in_err-take_back_line-clause-takes g c told =
    let old = g.D.Devices.standing c.args.dev.now in
    let mid = g.D.Devices.standing c.loop-taken.dev in
    let new = g.D.Devices.standing c.take_back_line.new.dev in
    let sizes = sizes_of c.args.log.now.geometry in
    let records = (c.args.log.now.tail - c.args.first) / 3 in
    let inv = c.loop-taken.invariant in
    let step = c.in_err-take_back_line.ensures in
    let within : c.args.first + 3 * ((c.args.log.now.tail - c.args.first) / 3) ≤ c.args.log.now.tail = omega arith in
    let exit = err_from_is_err_and c.from_residual.result c.from_residual.ensures.1 in
    back_on sizes c.args.log.now.start c.args.log.now.tail c.args.first records (records - (c.loop-taken.taken + 1)) 0 old new c.from_residual.result
    (exit.1 ∙ ap (λ (why : Stop). Err why) exit.2)
    (back_next sizes c.args.log.now.start c.args.log.now.tail c.args.first records c.loop-taken.taken old mid new (Err c.in_err-take_back_line.field-0.0) inv.goes step.goes told
    c.loop-taken-test.true within (inv.takes told) (step.takes (subst (λ t. IsTrue t) (sym inv.goes.told) told)))

pub returns-in_err-take_back_line-clause-cause : goal.returns-in_err-take_back_line-clause-cause
returns-in_err-take_back_line-clause-cause g c =
    let old = g.D.Devices.standing c.args.dev.now in
    let mid = g.D.Devices.standing c.loop-taken.dev in
    let new = g.D.Devices.standing c.take_back_line.new.dev in
    let sizes = sizes_of c.args.log.now.geometry in
    let inv = c.loop-taken.invariant in
    let step = c.in_err-take_back_line.ensures in
    let exit = err_from_is_err_and c.from_residual.result c.from_residual.ensures.1 in
    cause_on sizes c.args.log.now.start c.args.log.now.tail old new c.from_residual.result (exit.1 ∙ ap (λ (why : Stop). Err why) exit.2)
    (cause_then sizes c.args.log.now.start c.args.log.now.tail old mid new (Err c.in_err-take_back_line.field-0.0) inv.goes inv.cause inv.same step.cause)
