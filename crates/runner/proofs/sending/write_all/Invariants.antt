-- Some of the bytes were sent.
use Rattle.std.proofs.Common.{◌≡◌, IsTrue, length}
use Rattle.std.specs.Prelude.{true, false}
use Rattle.devices.specs.World.{WorldCall, OnlyChanges}
use Rattle.runner.proofs.WriteLaws.{Far}
use Rattle.runner.proofs.sending.write_all.Given as goal

abbrev pub invariant-loop-rest : goal.invariant-loop-rest
invariant-loop-rest g l =
    let old = g.W.Devices.standing l.fn.world in
    let mid = g.W.Devices.standing l.world in
    record {
      call : WorldCall old mid;
      only : OnlyChanges false false true old mid;
      count : mid.outside.sink_faults ≡ old.outside.sink_faults;
      far : IsTrue old.told → Far l.bytes l.rest old mid;
    }

abbrev pub decreases-loop-rest : goal.decreases-loop-rest
decreases-loop-rest g l = length l.rest
