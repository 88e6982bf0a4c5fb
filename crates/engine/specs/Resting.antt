-- What commands that write nothing leave, and the page that they show where they stop for damage.
use Rattle.std.specs.Prelude.{◌≡◌, ℕ, Bool, true, false, List, Option, None, Some, IsTrue, Result, OnOk, IfErr}
use Rattle.std.specs.List.{list_all}
use Rattle.devices.specs.World.{Standing}
use Rattle.damage.specs.declared.evidence.Evidence.{Evidence}
use Rattle.damage.specs.declared.evidence.Evidence.TheVariants.{Super, Frames, Log, Page, Walk}
use Rattle.line_pages.specs.declared.stop.Stop.{Stop}
use Rattle.line_pages.specs.Bytes.{bytes_of}
use Rattle.line_pages.specs.Lines.{Lines}
use Rattle.page_format.specs.Search.{Keeps}
use Rattle.flat_transactions.specs.OpenStore.{committed_lines}
use Rattle.script.specs.declared.command.Command.{Command}
use Rattle.script.specs.declared.command.Command.TheVariants as command
use Rattle.engine.specs.declared.engine.Engine.{Engine}
use Rattle.engine.specs.Engine.{engine_lines, evidence_bytes}

-- a command that makes no table and changes no row, or a line of no form
abbrev pub is_read : Option Command → Bool
is_read None = true
is_read (Some command.Begin) = true
is_read (Some (command.Create t)) = false
is_read (Some (command.Put t k v)) = false
is_read (Some (command.Del t k)) = false
is_read (Some (command.Get t k)) = true
is_read (Some (command.Scan t a b)) = true
is_read (Some command.Commit) = true
is_read (Some command.Abort) = true
is_read (Some command.Checkpoint) = true
is_read (Some command.Drain) = true
is_read (Some (command.Clean n)) = true

abbrev pub AreReads : List (Option Command) → Type 0
AreReads commands = IsTrue (list_all is_read commands)

-- the current and the committed lines of an engine's store are both these
pub record Rests (lines : Lines) (engine : Engine) (d : Standing) : Type 0 where
  pub current : engine_lines engine d ≡ lines
  pub committed : committed_lines d ≡ lines

-- if the evidence is of a page, the buffer has its bytes as it is among these lines
abbrev pub IsPageOf : Lines → List ℕ → Evidence → Type 0
IsPageOf lines buffer (Page page level low high check) = buffer ≡ bytes_of lines page
IsPageOf lines buffer (Super words check) = Unit {0}
IsPageOf lines buffer (Frames first second entry check) = Unit {0}
IsPageOf lines buffer (Log offset line tail check) = Unit {0}
IsPageOf lines buffer (Walk page kept found check) = Unit {0}

-- On devices that are told, where the current and the committed lines are the same: they stay so, all of them, and a page of
-- the evidence is one of theirs.
pub record Reads {T : Type 0} (old : Engine) (a : Standing) (new : Engine) (b : Standing) (result : Result T Stop) : Type 0 where
  pub stays : IsTrue a.told → (lines : Lines) → Rests lines old a → OnOk result (Rests lines new b)
  pub shows : IsTrue a.told → (lines : Lines) → Rests lines old a → IfErr result (Keeps (IsPageOf lines (evidence_bytes new)))
