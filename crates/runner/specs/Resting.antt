-- Runs in which nothing was written so far: all lines are as they were, and a page that is shown is one of theirs.
use Rattle.std.specs.Prelude.{◌≡◌, ℕ, List, ◌++◌, Option, Result, OnOk, IfErr}
use Rattle.devices.specs.World.{Standing}
use Rattle.line_pages.specs.Lines.{Lines}
use Rattle.page_format.specs.Search.{Keeps}
use Rattle.script.specs.declared.command.Command.{Command}
use Rattle.script.specs.Grammar.{commands}
use Rattle.engine.specs.declared.engine.Engine.{Engine}
use Rattle.engine.specs.Resting.{AreReads, Rests, IsPageOf}
use Rattle.engine.specs.Engine.{evidence_bytes}
use Rattle.runner.specs.declared.stop.Halt.{Halt}
use Rattle.runner.specs.declared.stop.Halt.TheVariants.{Store, Source, Sink}

-- if the run stopped for a damaged page, the buffer has its bytes as it is among these lines
abbrev pub IsHaltOf : Lines → List ℕ → Halt → Type 0
IsHaltOf lines buffer (Store stop) = Keeps (IsPageOf lines buffer) stop
IsHaltOf lines buffer Source = Unit {0}
IsHaltOf lines buffer Sink = Unit {0}

-- After ok all lines are these, and the commands that are left write nothing; a page that is shown is one of these lines'.
pub record ReadsOn {T : Type 0} (lines : Lines) (engine : Engine) (left : List (Option Command)) (new : Standing) (result : Result T Halt) : Type 0 where
  pub stays : OnOk result (Rests lines engine new)
  pub next : OnOk result (AreReads left)
  pub shows : IfErr result (IsHaltOf lines (evidence_bytes engine))

-- Where all commands of these bytes and of what comes behind them write nothing, all lines are these, and so are the commands
-- of what is kept of them and of what comes behind.
abbrev pub Follows : Lines → List ℕ → List ℕ → Engine → Standing → Type 0
Follows lines before kept engine d = (later : List ℕ) → AreReads (commands (before ++ later)) → Rests lines engine d × AreReads (commands (kept ++ later))

-- Some bytes more were taken of the input, and so it is behind them; or the run stopped within what was taken.
pub record TakesOn {T : Type 0} (lines : Lines) (before kept : List ℕ) (engine : Engine) (old new : Standing) (result : Result T Halt) : Type 0 where
  pub on : OnOk result ((piece : List ℕ) × (old.outside.input ≡ piece ++ new.outside.input) × Follows lines (before ++ piece) kept engine new)
  pub shows : (taken : List ℕ) → before ++ old.outside.input ≡ taken ++ new.outside.input → AreReads (commands taken) → IfErr result (IsHaltOf lines (evidence_bytes engine))
