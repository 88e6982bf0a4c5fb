-- The bytes so far were taken.
use Rattle.std.proofs.Common.{◌≡◌, ◌+◌, ◌*◌, ◌≤◌, IsTrue, ℕ, List, [], ◌++◌, drop, Ok}
use Rattle.devices.specs.World.{GoesOn, NoFault}
use Rattle.texts.specs.Lines.{IsOneLine}
use Rattle.script.specs.Grammar.{commands}
use Rattle.script.specs.Machine.{State}
use Rattle.line_pages.specs.Lines.{Lines}
use Rattle.engine.specs.Engine.{engine_sizes, StandsFor, engine_reach}
use Rattle.engine.specs.Resting.{AreReads, Rests}
use Rattle.runner.specs.Run.{Aim, Owes, Comes}
use Rattle.runner.specs.Sent.{Talks}
use Rattle.runner.proofs.running.take_piece.Given as goal

abbrev pub invariant-loop-byte : goal.invariant-loop-byte
invariant-loop-byte g l =
    let old = g.W.Devices.standing l.fn.world in
    let mid = g.W.Devices.standing l.world in
    record {
      goes : GoesOn old mid;
      no_fault : NoFault old mid;
      input : mid.outside.input ≡ old.outside.input;
      sizes : engine_sizes l.engine ≡ engine_sizes l.fn.engine;
      ready : StandsFor l.engine mid;
      reaches : engine_reach l.engine ≤ engine_reach l.fn.engine + 1921 * l.byte-index;
      one : IsOneLine l.kept.items;
      talked : Talks old mid;
      comes : (aim : Aim) (s : State) (more : List ℕ) → IsTrue old.told → Owes aim l.fn.engine s [] (commands (l.fn.kept.items ++ (l.fn.piece ++ more))) old
          → Comes {T = Unit {0}} aim l.engine [] (commands (l.kept.items ++ (drop l.byte-index l.piece ++ more))) old mid (Ok tt);
      reads : (lines : Lines) (more : List ℕ) → IsTrue old.told → Rests lines l.fn.engine old → AreReads (commands (l.fn.kept.items ++ (l.fn.piece ++ more)))
          → Rests lines l.engine mid × AreReads (commands (l.kept.items ++ (drop l.byte-index l.piece ++ more)));
    }
