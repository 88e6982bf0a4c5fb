-- What a refused command leaves.
use Rattle.std.specs.Prelude.{◌≡◌, IsTrue}
use Rattle.devices.specs.World.{Standing}
use Rattle.flat_transactions.specs.OpenStore.{account, committed_lines}
use Rattle.script.specs.declared.command.Reply.{Reply}
use Rattle.script.specs.declared.command.Reply.TheVariants.{Fine, Found, Absent, Row, Finish, Committed, Aborted, Refused}
use Rattle.engine.specs.declared.engine.Engine.{Engine}
use Rattle.engine.specs.declared.scan.Step.{Step}
use Rattle.engine.specs.declared.scan.Step.TheVariants.{Silent, Said, Scanning}
use Rattle.engine.specs.Engine.{engine_lines, has_open, writes_done, log_end}

-- Neither the transaction nor the tables changed: it is open or not as it was, has had as many writes and may write as many lines;
-- no commit was counted, and the log is as long as it was. On devices that are told the current and the committed lines are as they
-- were, whatever they hold.
pub record Stays (old : Engine) (a : Standing) (new : Engine) (b : Standing) : Type 0 where
  pub is_open : has_open new ≡ has_open old
  pub accepted : writes_done new ≡ writes_done old
  pub room : (account new.book).room ≡ (account old.book).room
  pub commits : new.commits ≡ old.commits
  pub start : (account new.book).start ≡ (account old.book).start
  pub tail : log_end new ≡ log_end old
  pub current : IsTrue a.told → engine_lines new b ≡ engine_lines old a
  pub committed : IsTrue a.told → committed_lines b ≡ committed_lines a

-- if the reply is a refusal, nothing changed
abbrev pub StaysIfRefused : Engine → Standing → Engine → Standing → Reply → Type 0
StaysIfRefused old a new b Fine = Unit {0}
StaysIfRefused old a new b (Found value) = Unit {0}
StaysIfRefused old a new b Absent = Unit {0}
StaysIfRefused old a new b (Row key value) = Unit {0}
StaysIfRefused old a new b (Finish rows) = Unit {0}
StaysIfRefused old a new b (Committed commits) = Unit {0}
StaysIfRefused old a new b Aborted = Unit {0}
StaysIfRefused old a new b (Refused why) = Stays old a new b

-- and so with what a line leads to
abbrev pub LineStaysIfRefused : Engine → Standing → Engine → Standing → Step → Type 0
LineStaysIfRefused old a new b Silent = Unit {0}
LineStaysIfRefused old a new b (Said r) = StaysIfRefused old a new b r
LineStaysIfRefused old a new b (Scanning scan) = Unit {0}
