-- The first lines were sent.
use Rattle.std.proofs.Common.{◌≡◌, take, IsTrue}
use Rattle.std.specs.Prelude.{true, false}
use Rattle.std.specs.List.{concat}
use Rattle.devices.specs.World.{WorldCall, OnlyChanges}
use Rattle.damage.specs.DamageText.{damage_text_lines}
use Rattle.runner.proofs.WriteLaws.{Wrote}
use Rattle.runner.proofs.telling.tell_damage.Given as goal

abbrev pub invariant-loop-at : goal.invariant-loop-at
invariant-loop-at g l =
    let old = g.W.Devices.standing l.fn.world in
    let mid = g.W.Devices.standing l.world in
    record {
      call : WorldCall old mid;
      only : OnlyChanges false false true old mid;
      count : mid.outside.sink_faults ≡ old.outside.sink_faults;
      wrote : IsTrue old.told → Wrote (concat (take l.at (damage_text_lines l.evidence l.page))) old mid;
    }
