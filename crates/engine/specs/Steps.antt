-- What a step of an engine answers, and what it leaves.
use Rattle.std.specs.Prelude.{◌≡◌, ℕ, ◌+◌, ◌-◌, ◌≤◌, nat_le, false, List, [], ◌∷◌, ◌++◌, length, map, Option, if◌then◌else◌, IsTrue, Result, IfOk, IfErr, OnOk}
use Rattle.devices.specs.World.{Standing, Goes, Moments}
use Rattle.rows.specs.Rows.{Row}
use Rattle.rows.specs.Tables.{Table}
use Rattle.line_pages.specs.declared.stop.Stop.{Stop}
use Rattle.script.specs.Tables.{row_range, rows_or_none}
use Rattle.script.specs.Machine.{State}
use Rattle.script.specs.Script.{machine}
use Rattle.script.specs.declared.command.Command.{Command}
use Rattle.script.specs.declared.command.Reply.{Reply}
use Rattle.script.specs.declared.command.Reply.TheVariants as reply
use Rattle.texts.specs.Runs as run
use Rattle.engine.specs.declared.engine.Engine.{Engine}
use Rattle.engine.specs.declared.scan.Scan.{Scan}
use Rattle.engine.specs.declared.scan.Step.{Step}
use Rattle.engine.specs.declared.scan.Step.TheVariants.{Silent, Said, Scanning}
use Rattle.engine.specs.Holds.{bounds_in, HasEither}
use Rattle.engine.specs.Engine.{engine_sizes, engine_reach, StandsFor, IsSteadyFor, Shows}
use Rattle.line_pages.specs.Standing.{IsFault}

-- the rows that a scan has still to give, and its end
abbrev pub rows_left : Scan → List Row → List Row
rows_left scan rows = row_range scan.from scan.to rows

abbrev pub scan_replies : Scan → List Row → List Reply
scan_replies scan rows =
    if scan.over then []
    else map (λ (row : Row). reply.Row row.0 row.1) (rows_left scan rows) ++ reply.Finish (scan.count + length (rows_left scan rows)) ∷ []

-- how many further calls a scan has at most
abbrev pub calls_left : Scan → ℕ
calls_left scan = if scan.over then 0 else if nat_le scan.from scan.to then 2 + (scan.to - scan.from) else 1

-- the replies of a step, where a command sees these tables
abbrev pub step_replies : Step → List Table → List Reply
step_replies Silent T = []
step_replies (Said r) T = r ∷ []
step_replies (Scanning scan) T = scan_replies scan (rows_or_none scan.name T)

-- a scan that is not over, and has given no row
abbrev pub IsBegun : Step → Type 0
IsBegun Silent = Unit {0}
IsBegun (Said r) = Unit {0}
IsBegun (Scanning scan) = (scan.over ≡ false) × (scan.count ≡ 0)

-- What a call of an engine makes of the plain machine's state, and of its device. `after` is the state that it leads to.
--
-- Whatever it answers, at each moment each image is in order with the tables that were committed before or with those after
-- it; after ok the engine shows the state after it. Where the pages are in order only a fault stops it.
pub record Does {T : Type 0} (after : State → State) (old : Engine) (a : Standing) (new : Engine) (b : Standing) (result : Result T Stop) : Type 0 where
  pub shows : IsTrue a.told → (s : State) → Shows old a s → OnOk result (Shows new b (after s))
  pub sound : IsTrue a.told → (s : State) → Shows old a s → IfErr result IsFault
  pub moments : IsTrue a.told → IsSteadyFor old a → (s : State) → Shows old a s
      → Moments a b (HasEither (engine_sizes old) s.tables (after s).tables a.lines a.blocks)
  pub steady : IsSteadyFor old a → OnOk result (IsSteadyFor new b)
  pub ready : OnOk result (StandsFor new b)
  pub sizes : engine_sizes new ≡ engine_sizes old
  -- how far the log may come with the lines that may still be written
  pub reach_rises : OnOk result (engine_reach new ≤ engine_reach old + 1921)
  pub goes : Goes a b

-- the state after a command, and after a line
abbrev pub after_command : Engine → Option Command → State → State
after_command engine command s = ((machine (bounds_in (engine_sizes engine))).step s command).0

abbrev pub after_line : Engine → List (Option Command) → State → State
after_line engine commands s = run.state_after (machine (bounds_in (engine_sizes engine))) s commands
