-- Entry by entry, and then what is left open.
use Rattle.std.proofs.Common.{refl, arith, ap, ◌∙◌, Err, ◌≡◌, ◌≤◌, ◌<◌}
use Rattle.std.proofs.lemmas.Result.{err_from_is_err_and}
use Rattle.devices.proofs.MomentLaws.{Goes-refl, Goes-trans}
use Rattle.flat_recovery.specs.Replaying.{group_end}
use Rattle.flat_recovery.specs.declared.errors.OpenError.{OpenError}
use Rattle.flat_recovery.proofs.CallsLaws.{makes_none}
use Rattle.flat_recovery.proofs.HeadLaws.{NoFault-refl, NoFault-trans}
use Rattle.flat_recovery.proofs.GroupLaws.{replay_begins, replay_more, replay_stops, replay_ends}
use Rattle.flat_recovery.proofs.replaying.replay.Goals as goal

pub loop-dev-init : goal.loop-dev-init
loop-dev-init g c = record {
  goes = Goes-refl _;
  none = NoFault-refl _;
  reads = refl;
  above = omega arith;
  below = omega arith;
  up_to = λ told ring passes. replay_begins c.args.log.now _ (makes_none _) ring passes;
}

pub loop-dev-preserved : goal.loop-dev-preserved
loop-dev-preserved g c =
    let inv = c.loop-dev.invariant in
    let step = c.in_ok-group.ensures in
    record {
      goes = Goes-trans inv.goes step.goes;
      none = NoFault-trans inv.none step.cause.done;
      reads = step.cause.reads ∙ inv.reads;
      above = step.behind.above;
      below = step.behind.below;
      up_to = λ told ring passes. replay_more c.args.log.now c.loop-dev.group _ _ inv.goes told (inv.up_to told ring passes) _ c.in_ok-group.group step.goes step.takes;
    }

pub returns-clause-replays : goal.returns-clause-replays
returns-clause-replays g c =
    let inv = c.loop-dev.invariant in
    let above : c.args.log.now.tail ≤ group_end c.loop-dev.group =
    (let e : c.end_of.result ≡ group_end c.loop-dev.group = c.end_of.ensures in let past : c.args.log.now.tail ≤ c.end_of.result = c.loop-dev-test.false in omega arith) in
    record {
      writes = λ told ring passes. replay_ends c.args.log.now c.loop-dev.group _ _ inv.goes told (inv.up_to told ring passes) _ c.undo.result above c.undo.ensures.goes c.undo.ensures.undoes;
    }

pub returns-in_err-group-clause-replays : goal.returns-in_err-group-clause-replays
returns-in_err-group-clause-replays g c =
    let inv = c.loop-dev.invariant in
    let step = c.in_err-group.ensures in
    let exit = err_from_is_err_and c.from_residual.result c.from_residual.ensures.1 in
    let less : group_end c.loop-dev.group < c.args.log.now.tail =
    (let e : c.end_of.result ≡ group_end c.loop-dev.group = c.end_of.ensures in let within : c.end_of.result < c.args.log.now.tail = c.loop-dev-test.true in omega arith) in
    record {
      writes = λ told ring passes.
          replay_stops c.args.log.now c.loop-dev.group _ _ inv.goes told (inv.up_to told ring passes) _ c.in_err-group.field-0.0 c.from_residual.result (exit.1 ∙ ap (λ (why : OpenError). Err why) exit.2) less
          step.goes step.takes;
    }
