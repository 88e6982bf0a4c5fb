use Rattle.std.proofs.Common.{◌≡◌, Ok}
use Rattle.devices.specs.World.{Goes, MakesAll}
use Rattle.devices.specs.declared.traits.Failed.{Failed}
use Rattle.flat_recovery.specs.Calls.{flush_calls}
use Rattle.flat_recovery.proofs.storing.flush_lines.Given as goal

abbrev pub invariant-loop-i : goal.invariant-loop-i
invariant-loop-i g l =
    let old = g.D.Devices.standing l.fn.dev in
    let mid = g.D.Devices.standing l.dev in
    record {
      goes : Goes old mid;
      nvm_faults : mid.nvm_faults ≡ old.nvm_faults;
      ssd_faults : mid.ssd_faults ≡ old.ssd_faults;
      reads : mid.block_reads ≡ old.block_reads;
      makes : MakesAll {T = Unit {0}} {E = Failed} (flush_calls l.first l.i) old mid (Ok tt);
    }
