-- Record by record, from last to first.
use Rattle.std.proofs.Common.{◌≡◌, ◌+◌, ◌-◌, ◌<◌, ◌≤◌, refl, arith, sym, ap, ◌∙◌, Err}
use Rattle.std.proofs.lemmas.Result.{err_from_is_err_and}
use Rattle.devices.proofs.MomentLaws.{Goes-refl, Goes-trans}
use Rattle.flat_nvm_layout.specs.Sizes.{sizes_of}
use Rattle.flat_recovery.specs.Calls.{undo_calls}
use Rattle.flat_recovery.specs.declared.errors.OpenError.{OpenError}
use Rattle.flat_recovery.proofs.CallsLaws.{makes_none, makes_as}
use Rattle.flat_recovery.proofs.HeadLaws.{NoFault-refl, NoFault-trans}
use Rattle.flat_recovery.proofs.ReplayingLaws.{undo_more, undo_stopped, undo_none, undo_all, undo_as}
use Rattle.flat_recovery.proofs.replaying.undo.Goals as goal

pub loop-left-init : goal.loop-left-init
loop-left-init g c = record {
  goes = Goes-refl _;
  none = NoFault-refl _;
  reads = refl;
  few = omega arith;
  makes = λ told records.
      makes_as (sym (ap (undo_calls (sizes_of c.args.log.now.geometry)) (undo_none c.args.log.now c.args.group.now (g.D.Devices.standing c.args.dev.now)))) (makes_none (g.D.Devices.standing c.args.dev.now));
}

pub loop-left-preserved : goal.loop-left-preserved
loop-left-preserved g c =
    let inv = c.loop-left.invariant in
    let step = c.in_ok-store_record.ensures in
    let few : c.loop-left.left ≤ c.args.group.now.count = inv.few in
    let some : 0 < c.loop-left.left = c.loop-left-test.true in
    let less : c.loop-left.left - 1 < c.args.group.now.count = omega arith in
    let one : c.loop-left.left ≡ c.loop-left.left - 1 + 1 = omega arith in
    record {
      goes = Goes-trans inv.goes step.goes;
      none = NoFault-trans inv.none step.cause.done;
      reads = step.cause.reads ∙ inv.reads;
      few = omega arith;
      makes = λ told records.
          undo_more c.args.log.now c.args.group.now (g.D.Devices.standing c.args.dev.now) (c.loop-left.left - 1) _ _ less inv.goes step.goes told records
          (undo_as c.args.log.now c.args.group.now (g.D.Devices.standing c.args.dev.now) c.loop-left.left (c.loop-left.left - 1 + 1) _ one (inv.makes told records)) step.stores;
    }

pub returns-clause-undoes : goal.returns-clause-undoes
returns-clause-undoes g c =
    let inv = c.loop-left.invariant in
    let none : c.loop-left.left ≡ 0 = (let low : c.loop-left.left ≤ 0 = c.loop-left-test.false in omega arith) in
    record {
      writes = λ told records. record {
        makes = makes_as (ap (undo_calls (sizes_of c.args.log.now.geometry)) (undo_all c.args.log.now c.args.group.now (g.D.Devices.standing c.args.dev.now) c.loop-left.left none)) (inv.makes told records);
        only = tt;
      };
    }

pub returns-in_err-store_record-clause-undoes : goal.returns-in_err-store_record-clause-undoes
returns-in_err-store_record-clause-undoes g c =
    let inv = c.loop-left.invariant in
    let step = c.in_err-store_record.ensures in
    let exit = err_from_is_err_and c.from_residual.result c.from_residual.ensures.1 in
    let few : c.loop-left.left ≤ c.args.group.now.count = inv.few in
    let some : 0 < c.loop-left.left = c.loop-left-test.true in
    let less : c.loop-left.left - 1 < c.args.group.now.count = omega arith in
    let one : c.loop-left.left ≡ c.loop-left.left - 1 + 1 = omega arith in
    record {
      writes = λ told records.
          undo_stopped c.args.log.now c.args.group.now (g.D.Devices.standing c.args.dev.now) (c.loop-left.left - 1) _ _ c.in_err-store_record.field-0.0 c.from_residual.result
          (exit.1 ∙ ap (λ (why : OpenError). Err why) exit.2) less inv.goes step.goes told records
          (undo_as c.args.log.now c.args.group.now (g.D.Devices.standing c.args.dev.now) c.loop-left.left (c.loop-left.left - 1 + 1) _ one (inv.makes told records)) step.stores;
    }
