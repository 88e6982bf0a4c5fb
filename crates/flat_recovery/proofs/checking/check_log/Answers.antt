-- Head by head.
use Rattle.std.proofs.Common.{◌≡◌, ◌+◌, ◌≤◌, ◌∙◌, refl, ap, sym, subst, arith, Err, Result}
use Rattle.std.proofs.lemmas.Result.{err_from_is_err_and}
use Rattle.devices.proofs.MomentLaws.{Goes-refl, Goes-trans, Goes-on}
use Rattle.devices.proofs.JoinLaws.{Stays-refl, Stays-trans}
use Rattle.flat_recovery.specs.Heads.{head_lines, ChecksLog}
use Rattle.flat_recovery.specs.declared.errors.OpenError.{OpenError}
use Rattle.flat_recovery.proofs.HeadLaws.{Checked, NoFault-refl, NoFault-trans, head_fits, checked_more, checks_stop}
use Rattle.flat_recovery.proofs.checking.check_log.Goals as goal

pub loop-at-init : goal.loop-at-init
loop-at-init g c = record { goes = Goes-refl _; stays = Stays-refl _; none = NoFault-refl _; reads = refl; above = omega arith; below = omega arith; left = λ told. refl }

pub loop-at-preserved : goal.loop-at-preserved
loop-at-preserved g c =
    let inv = c.loop-at.invariant in
    let step = c.in_ok-head.ensures in
    let lines : c.lines_of-at.result ≡ head_lines c.in_ok-head.head = c.lines_of-at.ensures in
    let fits : c.loop-at.at + head_lines c.in_ok-head.head ≤ c.args.log.now.tail = head_fits c.args.log.now c.loop-at.at step.reads.line c.in_ok-head.head c.loop-at-test.true step.reads.judged in
    subst (λ n. Checked c.args.log.now (c.loop-at.at + n) (g.D.Devices.standing c.args.dev.now) (g.D.Devices.standing c.head_at.new.dev)) (sym lines) record {
      goes = Goes-trans inv.goes step.goes;
      stays = Stays-trans (Goes-on inv.goes) (Goes-on step.goes) inv.stays step.stays;
      none = NoFault-trans inv.none step.cause.done;
      reads = step.cause.reads ∙ inv.reads;
      above = omega arith;
      below = fits;
      left = λ told. checked_more c.args.log.now c.loop-at.at _ _ c.in_ok-head.head c.loop-at-test.true inv step.reads told;
    }

pub returns-in_err-head-clause-checks : goal.returns-in_err-head-clause-checks
returns-in_err-head-clause-checks g c =
    let exit = err_from_is_err_and c.from_residual.result c.from_residual.ensures.1 in
    subst (λ (r : Result (Unit {0}) OpenError). ChecksLog c.args.log.now (g.D.Devices.standing c.args.dev.now) r) (sym (exit.1 ∙ ap (λ (why : OpenError). Err why) exit.2))
    (checks_stop c.args.log.now c.loop-at.at _ _ c.in_err-head.field-0.0 c.loop-at-test.true c.loop-at.invariant c.in_err-head.ensures.reads)
