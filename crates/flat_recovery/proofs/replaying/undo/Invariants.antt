use Rattle.std.proofs.Common.{◌≡◌, ◌≤◌, ◌+◌, ◌-◌, ◌*◌, IsTrue, Ok}
use Rattle.devices.specs.World.{Goes, MakesAll}
use Rattle.flat_nvm_layout.specs.Opening.{NoFault}
use Rattle.flat_nvm_layout.specs.Sizes.{sizes_of}
use Rattle.flat_recovery.specs.Calls.{undo_calls}
use Rattle.flat_recovery.specs.Reading.{changes_at, AreRecords}
use Rattle.flat_recovery.specs.Replaying.{held_lines}
use Rattle.flat_recovery.specs.declared.errors.OpenError.{OpenError}
use Rattle.flat_recovery.proofs.replaying.undo.Given as goal

abbrev pub invariant-loop-left : goal.invariant-loop-left
invariant-loop-left g l =
    let old = g.D.Devices.standing l.fn.dev in
    let mid = g.D.Devices.standing l.dev in
    record {
      goes : Goes old mid;
      none : NoFault old mid;
      reads : mid.block_reads ≡ old.block_reads;
      few : l.left ≤ l.group.count;
      makes : IsTrue old.told → AreRecords (sizes_of l.log.geometry) (held_lines l.log old) l.log.tail l.group.first l.group.count
          → MakesAll {T = Unit {0}} {E = OpenError} (undo_calls (sizes_of l.log.geometry) (changes_at (held_lines l.log old) (l.group.first + 3 * l.left) (l.group.count - l.left))) old mid (Ok tt);
    }

abbrev pub decreases-loop-left : goal.decreases-loop-left
decreases-loop-left g l = l.left
