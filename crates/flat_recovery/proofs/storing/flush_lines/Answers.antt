-- From entry to now, one line more.
use Rattle.std.proofs.Common.{rules, arith, refl}
use Rattle.devices.proofs.MomentLaws.{Goes-refl, Goes-trans}
use Rattle.flat_recovery.proofs.CallsLaws.{makes_none, flush_more, flush_stopped}
use Rattle.flat_recovery.proofs.storing.flush_lines.Goals as goal

pub loop-i-init : goal.loop-i-init
loop-i-init g c = record { goes = Goes-refl _; nvm_faults = refl; ssd_faults = refl; reads = refl; makes = makes_none _ }

pub loop-i-preserved : goal.loop-i-preserved
loop-i-preserved g c =
    let inv = c.loop-i.invariant in
    let step = c.in_ok-flush.ensures in
    record {
      goes = Goes-trans inv.goes step.goes;
      nvm_faults = search rules;
      ssd_faults = search rules;
      reads = search rules;
      makes = flush_more c.args.first c.loop-i.i inv.goes step.goes inv.makes step.makes;
    }

pub returns-in_err-flush-clause-makes : goal.returns-in_err-flush-clause-makes
returns-in_err-flush-clause-makes g c =
    let inv = c.loop-i.invariant in
    let step = c.in_err-flush.ensures in
    flush_stopped c.args.first c.loop-i.i c.args.count (omega arith) c.from_residual.result c.from_residual.ensures.0 inv.goes step.goes inv.makes step.makes
