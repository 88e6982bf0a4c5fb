-- Record by record.
use Rattle.std.proofs.Common.{refl, arith, ap, ◌∙◌, Err}
use Rattle.std.proofs.lemmas.Result.{err_from_is_err_and}
use Rattle.devices.proofs.MomentLaws.{Goes-refl, Goes-trans}
use Rattle.flat_recovery.specs.declared.errors.OpenError.{OpenError}
use Rattle.flat_recovery.proofs.CallsLaws.{makes_none}
use Rattle.flat_recovery.proofs.HeadLaws.{NoFault-refl, NoFault-trans}
use Rattle.flat_recovery.proofs.ReplayingLaws.{redo_more, redo_stopped}
use Rattle.flat_recovery.proofs.replaying.redo.Goals as goal

pub loop-i-init : goal.loop-i-init
loop-i-init g c = record { goes = Goes-refl _; none = NoFault-refl _; reads = refl; makes = λ told records. makes_none _ }

pub loop-i-preserved : goal.loop-i-preserved
loop-i-preserved g c =
    let inv = c.loop-i.invariant in
    let step = c.in_ok-store_record.ensures in
    record {
      goes = Goes-trans inv.goes step.goes;
      none = NoFault-trans inv.none step.cause.done;
      reads = step.cause.reads ∙ inv.reads;
      makes = λ told records. redo_more c.args.log.now c.args.group.now _ c.loop-i.i _ _ (omega arith) inv.goes step.goes told records (inv.makes told records) step.stores;
    }

pub returns-in_err-store_record-clause-redoes : goal.returns-in_err-store_record-clause-redoes
returns-in_err-store_record-clause-redoes g c =
    let inv = c.loop-i.invariant in
    let step = c.in_err-store_record.ensures in
    let exit = err_from_is_err_and c.from_residual.result c.from_residual.ensures.1 in
    record {
      writes = λ told records.
          redo_stopped c.args.log.now c.args.group.now _ c.loop-i.i _ _ c.in_err-store_record.field-0.0 c.from_residual.result (exit.1 ∙ ap (λ (why : OpenError). Err why) exit.2) (omega arith) inv.goes step.goes
          told records (inv.makes told records) step.stores;
    }
