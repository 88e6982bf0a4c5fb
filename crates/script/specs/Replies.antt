-- The text of the replies.
use Rattle.std.specs.Prelude.{codes, ℕ, Bool, true, false, List, ◌∷◌, ◌++◌, flat_map, decimal}
use Rattle.rows.specs.Value.{IsValue}
use Rattle.texts.specs.Lines.{ended}
use Rattle.texts.specs.Fields.{space}
use Rattle.script.specs.declared.command.Reason.{Reason}
use Rattle.script.specs.declared.command.Reason.TheVariants.{Form, Transaction, Table, Writes, Tables, Full}
use Rattle.script.specs.declared.command.Reply.{Reply}
use Rattle.script.specs.declared.command.Reply.TheVariants.{Fine, Found, Absent, Row, Finish, Committed, Aborted, Refused}

-- the values in a reply are values
abbrev pub IsReply : Reply → Type 0
IsReply (Found v) = IsValue v
IsReply (Row k v) = IsValue v
IsReply _ = Unit {0}

abbrev pub reason_word : Reason → List ℕ
reason_word Form = codes "line"
reason_word Transaction = codes "transaction"
reason_word Table = codes "table"
reason_word Writes = codes "writes"
reason_word Tables = codes "tables"
reason_word Full = codes "full"

-- a reply without its line feed
abbrev pub reply_line : Reply → List ℕ
reply_line Fine = codes "ok"
reply_line (Found v) = codes "value " ++ v
reply_line Absent = codes "none"
reply_line (Row k v) = codes "row " ++ (decimal k ++ space ∷ v)
reply_line (Finish n) = codes "end " ++ decimal n
reply_line (Committed n) = codes "committed " ++ decimal n
reply_line Aborted = codes "aborted"
reply_line (Refused r) = codes "refused " ++ reason_word r

abbrev pub reply_text : Reply → List ℕ
reply_text reply = ended (reply_line reply)

abbrev pub text : List Reply → List ℕ
text replies = flat_map reply_text replies

-- the reply of an accepted commit
abbrev pub is_committed : Reply → Bool
is_committed (Committed n) = true
is_committed _ = false
