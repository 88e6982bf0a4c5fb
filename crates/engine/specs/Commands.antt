-- What an engine and its device show as a store of pages, and what it replies.
use Rattle.std.specs.Prelude.{Bool, true, false}
use Rattle.devices.specs.World.{Standing as Device}
use Rattle.line_pages.specs.Standing.{Standing}
use Rattle.table_store.specs.declared.answer.Got.{Got}
use Rattle.table_store.specs.declared.answer.Got.TheVariants as got
use Rattle.flat_transactions.specs.StoreStanding.{Apart, standing_of}
use Rattle.script.specs.declared.command.Reason.{Reason}
use Rattle.script.specs.declared.command.Reason.TheVariants as reason
use Rattle.script.specs.declared.command.Reply.{Reply}
use Rattle.script.specs.declared.command.Reply.TheVariants as reply
use Rattle.engine.specs.declared.engine.Engine.{Engine}

-- the pages of an engine, the references to its parts being of no name
abbrev pub shown : Engine → Device → Standing Apart
shown engine d = standing_of engine.book d 0 0 0

-- the reply to a look-up
abbrev pub reply_of : Got → Reply
reply_of (got.Found value) = reply.Found value
reply_of got.Absent = reply.Absent
reply_of got.NoTable = reply.Refused reason.Table

-- why a write is refused that would be one too many: for its name, which a `create` wants new and any other write known, or
-- else for the number of writes
abbrev pub reason_of : Bool → Bool → Reason
reason_of true true = reason.Table
reason_of true false = reason.Writes
reason_of false true = reason.Writes
reason_of false false = reason.Table
