-- What is replied to a command and to a line.
use Rattle.std.specs.Prelude.{◌≡◌, List, Option, None, Result, Ok, Err, IfOk, IsTrue}
use Rattle.devices.specs.World.{Standing}
use Rattle.line_pages.specs.declared.stop.Stop.{Stop}
use Rattle.texts.specs.Runs as run
use Rattle.script.specs.Machine.{State, current}
use Rattle.script.specs.Script.{machine}
use Rattle.script.specs.declared.command.Command.{Command}
use Rattle.engine.specs.declared.engine.Engine.{Engine}
use Rattle.engine.specs.declared.scan.Step.{Step}
use Rattle.engine.specs.Holds.{bounds_in}
use Rattle.engine.specs.Engine.{engine_sizes, Shows}
use Rattle.engine.specs.Steps.{Does, IsBegun, step_replies, after_command}
use Rattle.engine.specs.Causes.{Stops}
use Rattle.engine.specs.Resting.{is_read, Reads}
use Rattle.engine.specs.Refused.{LineStaysIfRefused}

-- what a command leads to gives the replies of the plain machine
abbrev pub Answers : Engine → Standing → Option Command → Result Step Stop → Type 0
Answers engine a command result =
    IsTrue a.told → (s : State) → Shows engine a s → IfOk result (λ step. ((machine (bounds_in (engine_sizes engine))).step s command).1 ≡ step_replies step (current s))

-- and so does what a line leads to
abbrev pub AnswersLine : Engine → Standing → List (Option Command) → Result Step Stop → Type 0
AnswersLine engine a commands result =
    IsTrue a.told → (s : State) → Shows engine a s → IfOk result (λ step. step_replies step (current s) ≡ run.replies (machine (bounds_in (engine_sizes engine))) s commands)

-- A command is done as the plain machine does it: its state, its replies, and why it stops. One that writes nothing leaves all
-- lines, and one that is refused the transaction too.
pub record Obeys (command : Option Command) (old : Engine) (a : Standing) (new : Engine) (b : Standing) (result : Result Step Stop) : Type 0 where
  pub does : Does (after_command old command) old a new b result
  pub replies : Answers old a command result
  pub begun : IfOk result IsBegun
  pub refused : IfOk result (LineStaysIfRefused old a new b)
  pub cause : Stops old a new b result
  pub reads : IsTrue (is_read command) → Reads old a new b result

-- the state at the end of a run: no transaction is open
abbrev pub closed : State → State
closed s = record s { transaction = None }
