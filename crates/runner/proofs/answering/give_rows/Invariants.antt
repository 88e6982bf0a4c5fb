-- Some rows were sent.
use Rattle.std.proofs.Common.{◌≡◌, List, Option, IsTrue}
use Rattle.devices.specs.World.{GoesOn, NoFault}
use Rattle.script.specs.declared.command.Command.{Command}
use Rattle.script.specs.Machine.{State, current}
use Rattle.script.specs.Replies.{text}
use Rattle.script.specs.Tables.{rows_or_none}
use Rattle.line_pages.specs.Lines.{Lines}
use Rattle.engine.specs.Engine.{engine_sizes, StandsFor, engine_reach}
use Rattle.engine.specs.Resting.{Rests}
use Rattle.engine.specs.Steps.{scan_replies, calls_left}
use Rattle.runner.specs.Run.{Aim, IsFew, Owes}
use Rattle.runner.specs.Sent.{Talks}
use Rattle.runner.proofs.RowsLaws.{Gave}
use Rattle.runner.proofs.answering.give_rows.Given as goal

abbrev pub invariant-loop-scan : goal.invariant-loop-scan
invariant-loop-scan g l =
    let old = g.W.Devices.standing l.fn.world in
    let mid = g.W.Devices.standing l.world in
    record {
      goes : GoesOn old mid;
      quiet : NoFault old mid;
      input : mid.outside.input ≡ old.outside.input;
      sizes : engine_sizes l.engine ≡ engine_sizes l.fn.engine;
      ready : StandsFor l.engine mid;
      reaches : engine_reach l.engine ≡ engine_reach l.fn.engine;
      talked : Talks old mid;
      name : l.scan.name ≡ l.fn.scan.name;
      rests : (lines : Lines) → IsTrue old.told → Rests lines l.fn.engine old → Rests lines l.engine mid;
      gave : (aim : Aim) (s : State) (commands : List (Option Command)) → IsTrue old.told → IsFew l.fn.scan (rows_or_none l.fn.scan.name (current s))
          → Owes aim l.fn.engine s (text (scan_replies l.fn.scan (rows_or_none l.fn.scan.name (current s)))) commands old
          → Gave aim l.engine s l.scan (rows_or_none l.fn.scan.name (current s)) commands old mid;
    }

abbrev pub decreases-loop-scan : goal.decreases-loop-scan
decreases-loop-scan g l = calls_left l.scan
