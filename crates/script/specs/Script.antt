-- A script of bytes, run on the plain machine.
use Rattle.std.specs.Prelude.{ℕ, List, Option}
use Rattle.rows.specs.Tables.{Table}
use Rattle.texts.specs.Runs as run
use Rattle.script.specs.Grammar.{commands}
use Rattle.script.specs.Replies.{is_committed}
use Rattle.script.specs.Machine.{Bounds, State, opening, step}
use Rattle.script.specs.declared.command.Command.{Command}
use Rattle.script.specs.declared.command.Reply.{Reply}

-- the plain machine within some bounds
abbrev pub machine : Bounds → run.Machine State (Option Command) Reply (List Table)
machine bounds = record { step = step bounds; tables = λ s. s.tables; tells_commit = is_committed }

-- the replies to a script, from some tables
abbrev pub replies : Bounds → List Table → List ℕ → List Reply
replies bounds tables script = run.replies (machine bounds) (opening tables) (commands script)

-- how many of its commits are accepted
abbrev pub commits : Bounds → List Table → List ℕ → ℕ
commits bounds tables script = run.commits (machine bounds) (opening tables) (commands script)

-- the tables after the first k of these
abbrev pub after : Bounds → List Table → List ℕ → ℕ → List Table
after bounds tables script k = run.after (machine bounds) (opening tables) (commands script) k
