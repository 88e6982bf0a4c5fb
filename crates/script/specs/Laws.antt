-- Laws of the definitions, as statements that contracts name.
use Rattle.std.specs.Prelude.{◌≡◌, ℕ, ◌+◌, ◌≤◌, true, List, [], ◌∷◌, ◌++◌, length, Option, None, Some, is_some}
use Rattle.texts.specs.Lines.{line_feed}
use Rattle.texts.specs.Forms.{longest_line}
use Rattle.script.specs.Grammar.{command_of, commands, IsCommand, spelling}
use Rattle.script.specs.Replies.{text}
use Rattle.texts.specs.Output.{strip, acked, IsPrefix}
use Rattle.rows.specs.Tables.{Table}
use Rattle.script.specs.Tables.{AreTables}
use Rattle.texts.specs.Runs as run
use Rattle.script.specs.Machine.{Bounds, State, Open, opening, step}
use Rattle.script.specs.Script.{machine, replies, commits, after}
use Rattle.script.specs.declared.command.Command.{Command}
use Rattle.script.specs.declared.command.Command.TheVariants.{Begin, Commit}

-- a line that is a command is the command's spelling, and the command is one that can be written
abbrev pub LinesAreSpelled : Type 0
LinesAreSpelled = (line : List ℕ) (c : Command) → command_of line ≡ Some c → IsCommand c × (line ≡ spelling c) × (length line ≤ longest_line)

-- and the spelling of such a command is that command
abbrev pub SpellingsAreRead : Type 0
SpellingsAreRead = (c : Command) → IsCommand c → length (spelling c) ≤ longest_line → command_of (spelling c) ≡ Some c

-- scripts in a row, of which the first ends with a line feed, have their commands in a row
abbrev pub CommandsAppend : Type 0
CommandsAppend = (xs ys : List ℕ) → commands ((xs ++ line_feed ∷ []) ++ ys) ≡ commands (xs ++ line_feed ∷ []) ++ commands ys

-- no reply looks like a line that stands aside
abbrev pub RepliesStay : Type 0
RepliesStay = (bounds : Bounds) (tables : List Table) (script : List ℕ) → AreTables tables → strip (text (replies bounds tables script)) ≡ text (replies bounds tables script)

-- the whole text acknowledges every commit
abbrev pub CommitsAreAcknowledged : Type 0
CommitsAreAcknowledged = (bounds : Bounds) (tables : List Table) (script : List ℕ) → AreTables tables → acked (text (replies bounds tables script)) ≡ commits bounds tables script

-- a beginning of the output acknowledges no more than the whole, and what strip leaves of it is a beginning
abbrev pub OutputGrows : Type 0
OutputGrows = (xs ys : List ℕ) → (acked xs ≤ acked (xs ++ ys)) × IsPrefix (strip xs) (strip (xs ++ ys))

-- lines that stand aside acknowledge nothing
abbrev pub AsideIsSilent : Type 0
AsideIsSilent = (xs : List ℕ) → acked (strip xs) ≡ acked xs

-- how many commits there are depends on the script alone
abbrev pub CommitsByScript : Type 0
CommitsByScript = (bounds others : Bounds) (tables more : List Table) (script : List ℕ) → commits bounds tables script ≡ commits others more script

-- a transaction that has just begun over some tables
abbrev pub begun : List Table → ℕ → State
begun tables count = record { tables = tables; transaction = Some (record { tables = tables; writes = 0 }); commits = count }

-- the transaction is open before each of these commands, and after the last
abbrev pub StaysOpen : Bounds → State → List (Option Command) → Type 0
StaysOpen bounds s [] = is_some s.transaction ≡ true
StaysOpen bounds s (c ∷ cs) = (is_some s.transaction ≡ true) × StaysOpen bounds (step bounds s c).0 cs

-- The tables `new` are what one transaction of the script made of `old`, with so many commits before it: the commands before
-- led to these tables with none open; then come its `begin`, its body, in which it stays open, and its `commit`, and the copy
-- to which the body led is `new`.
pub record IsTransaction (bounds : Bounds) (first : State) (script : List (Option Command)) (count : ℕ) (old new : List Table) : Type 0 where
  pub before : List (Option Command)
  pub body : List (Option Command)
  pub rest : List (Option Command)
  pub script_is : script ≡ before ++ (Some Begin ∷ (body ++ (Some Commit ∷ rest)))
  pub stands : run.state_after (machine bounds) first before ≡ record { tables = old; transaction = None; commits = count }
  pub stays_open : StaysOpen bounds (begun old count) body
  pub copy : Open
  pub led : (run.state_after (machine bounds) (begun old count) body).transaction ≡ Some copy
  pub made : copy.tables ≡ new

-- each commit makes the tables before it into those after it by one whole transaction
abbrev pub CommitsAreTransactions : Type 0
CommitsAreTransactions = (bounds : Bounds) (tables : List Table) (script : List ℕ) (k : ℕ) → k + 1 ≤ commits bounds tables script →
    IsTransaction bounds (opening tables) (commands script) k (after bounds tables script k) (after bounds tables script (k + 1))
