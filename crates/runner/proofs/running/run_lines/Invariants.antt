-- What was read so far was answered, but for the line that is kept.
use Rattle.std.proofs.Common.{◌≡◌, ◌+◌, ◌*◌, ◌≤◌, IsTrue, ℕ, List, [], ◌++◌, length, Ok}
use Rattle.devices.specs.World.{GoesOn, NoFault}
use Rattle.texts.specs.Lines.{IsOneLine}
use Rattle.script.specs.Grammar.{commands}
use Rattle.script.specs.Machine.{State}
use Rattle.line_pages.specs.Lines.{Lines}
use Rattle.engine.specs.Engine.{engine_sizes, StandsFor, engine_reach}
use Rattle.engine.specs.Resting.{Rests}
use Rattle.runner.specs.Run.{Aim, Owes, Comes}
use Rattle.runner.specs.Resting.{Follows}
use Rattle.runner.specs.Sent.{Talks}
use Rattle.runner.proofs.running.run_lines.Given as goal

abbrev pub invariant-loop-left : goal.invariant-loop-left
invariant-loop-left g l =
    let old = g.W.Devices.standing l.fn.world in
    let mid = g.W.Devices.standing l.world in
    record {
      goes : GoesOn old mid;
      no_fault : NoFault old mid;
      sizes : engine_sizes l.engine ≡ engine_sizes l.fn.engine;
      ready : StandsFor l.engine mid;
      one : IsOneLine l.kept.items;
      talked : Talks old mid;
      within : l.left ≤ l.fn.limit;
      reaches : engine_reach l.engine + 1921 * l.left ≤ engine_reach l.fn.engine + 1921 * l.fn.limit;
      counted : IsTrue old.told → length mid.outside.input + l.fn.limit ≡ length old.outside.input + l.left;
      comes : (aim : Aim) (s : State) → IsTrue old.told → Owes aim l.fn.engine s [] (commands old.outside.input) old
          → Comes {T = Unit {0}} aim l.engine [] (commands (l.kept.items ++ mid.outside.input)) old mid (Ok tt);
      reads : (lines : Lines) → IsTrue old.told → Rests lines l.fn.engine old
          → (taken : List ℕ) × (old.outside.input ≡ taken ++ mid.outside.input) × Follows lines taken l.kept.items l.engine mid;
    }

abbrev pub decreases-loop-left : goal.decreases-loop-left
decreases-loop-left g l = l.left
