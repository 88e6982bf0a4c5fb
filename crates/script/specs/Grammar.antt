-- The forms of a script line.
use Rattle.std.specs.Prelude.{codes, ℕ, List, [], ◌∷◌, ◌++◌, Option, decimal}
use Rattle.rows.specs.Names.{IsName}
use Rattle.rows.specs.Value.{IsValue}
use Rattle.texts.specs.Numbers.{IsKey, IsCount}
use Rattle.texts.specs.Fields.{space}
use Rattle.script.specs.Shapes.{bare, one_name, name_key, name_two_keys, name_key_value, one_count}
use Rattle.texts.specs.Forms.{Form, read_by, asked_by, commands_by}
use Rattle.script.specs.declared.command.Command.{Command}
use Rattle.script.specs.declared.command.Command.TheVariants.{Create, Begin, Put, Del, Get, Scan, Commit, Abort, Checkpoint, Drain, Clean}

-- each first word, and what follows it
abbrev pub forms : List (Form Command)
forms =
    (codes "create", one_name Create)
    ∷ (codes "begin", bare Begin)
    ∷ (codes "put", name_key_value Put)
    ∷ (codes "del", name_key Del)
    ∷ (codes "get", name_key Get)
    ∷ (codes "scan", name_two_keys Scan)
    ∷ (codes "commit", bare Commit)
    ∷ (codes "abort", bare Abort)
    ∷ (codes "checkpoint", bare Checkpoint)
    ∷ (codes "drain", bare Drain)
    ∷ (codes "clean", one_count 65536 Clean) ∷ []

-- the command that a line is, where it is of a form and has at most 1,024 bytes
abbrev pub command_of : List ℕ → Option Command
command_of line = read_by forms line

-- the commands of one line: none where it is silent
abbrev pub command_in : List ℕ → List (Option Command)
command_in line = asked_by forms line

-- the commands of a script; nothing stands for a line of no form
abbrev pub commands : List ℕ → List (Option Command)
commands bytes = commands_by forms bytes

-- the commands that can be written
abbrev pub IsCommand : Command → Type 0
IsCommand (Create t) = IsName t
IsCommand (Put t k v) = IsName t × IsKey k × IsValue v
IsCommand (Del t k) = IsName t × IsKey k
IsCommand (Get t k) = IsName t × IsKey k
IsCommand (Scan t low high) = IsName t × IsKey low × IsKey high
IsCommand (Clean n) = IsCount 65536 n
IsCommand _ = Unit {0}

-- the line of a command: the same table, read the other way
abbrev pub spelling : Command → List ℕ
spelling (Create t) = codes "create " ++ t
spelling Begin = codes "begin"
spelling (Put t k v) = codes "put " ++ (t ++ space ∷ (decimal k ++ space ∷ v))
spelling (Del t k) = codes "del " ++ (t ++ space ∷ decimal k)
spelling (Get t k) = codes "get " ++ (t ++ space ∷ decimal k)
spelling (Scan t low high) = codes "scan " ++ (t ++ space ∷ (decimal low ++ space ∷ decimal high))
spelling Commit = codes "commit"
spelling Abort = codes "abort"
spelling Checkpoint = codes "checkpoint"
spelling Drain = codes "drain"
spelling (Clean n) = codes "clean " ++ decimal n
