-- What the plain machine answers to a line.
use Rattle.std.specs.Prelude.{◌≡◌, ℕ, ◌+◌, ◌<◌, Bool, not, nat_lt, ◌==◌, List, map, Option, bytes_eq}
use Rattle.rows.specs.Rows.{Row}
use Rattle.rows.specs.Tables.{Table}
use Rattle.texts.specs.Runs as run
use Rattle.script.specs.Machine.{Bounds, State, accepted}
use Rattle.script.specs.Script.{machine}
use Rattle.script.specs.declared.command.Command.{Command}
use Rattle.script.specs.declared.command.Reply.{Reply}
use Rattle.script.specs.declared.command.Reply.TheVariants as reply

-- the machine's bounds, and its state
pub record Plain : Type 0 where
  pub bounds : Bounds
  pub state : State

-- The commands were answered: the replies are those of the definition, and so is the state.
pub record Answers (old new : Plain) (commands : List (Option Command)) (replies : List Reply) : Type 0 where
  pub replies_are : replies ≡ run.replies (machine old.bounds) old.state commands
  pub state : new.state ≡ run.state_after (machine old.bounds) old.state commands
  pub bounds : new.bounds ≡ old.bounds

-- one commit more can be counted in 64 bits
abbrev pub CountsOn : State → Type 0
CountsOn s = s.commits + 1 < 0x1_0000_0000_0000_0000

abbrev pub is_key : ℕ → Row → Bool
is_key key row = row.0 == key

abbrev pub not_below : ℕ → Row → Bool
not_below key row = not (nat_lt row.0 key)

abbrev pub is_table : List ℕ → Table → Bool
is_table name table = bytes_eq table.0 name

-- a reply for each row
abbrev pub row_replies : List Row → List Reply
row_replies rows = map (λ (row : Row). reply.Row row.0 row.1) rows

-- what an accepted command leaves
abbrev pub did : Plain → Command → Plain
did old command = record { bounds = old.bounds; state = (accepted old.state command).0 }
