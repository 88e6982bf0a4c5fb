-- What an engine stands for, and what state of the plain machine it shows with its device.
use Rattle.std.specs.Prelude.{◌≡◌, ℕ, ◌<◌, ◌≤◌, Bool, true, false, List, Option, Some, None}
use Rattle.devices.specs.World.{Standing}
use Rattle.line_pages.specs.Lines.{Lines}
use Rattle.line_pages.specs.declared.stop.Stop.{Stop}
use Rattle.line_pages.specs.declared.stop.Stop.TheVariants.{Nvm, Ssd, Damaged}
use Rattle.flat_transactions.specs.declared.book.Book.{Book}
use Rattle.flat_transactions.specs.OpenStore.{account, current_lines, committed_lines}
use Rattle.flat_transactions.specs.Order.{Sizes, ssd_blocks}
use Rattle.flat_transactions.specs.StoreStanding.{book_sizes, reach, IsReady, IsSteady}
use Rattle.script.specs.Machine.{Open, State, current}
use Rattle.engine.specs.declared.engine.Engine.{Engine}
use Rattle.engine.specs.Holds.{AreLimits, HoldsTables}

-- the sizes of the store that an engine has open
abbrev pub engine_sizes : Engine → Sizes
engine_sizes engine = book_sizes engine.book

-- the current lines of that store
abbrev pub engine_lines : Engine → Standing → Lines
engine_lines engine d = current_lines engine.book d

-- whether a transaction is open, how many of its writes are done, and how many it may have
abbrev pub has_open : Engine → Bool
has_open engine = (account engine.book).is_open

abbrev pub writes_done : Engine → ℕ
writes_done engine = (account engine.book).accepted

abbrev pub most_writes : Engine → ℕ
most_writes engine = engine.writes

-- the offset behind the log, and how far it comes with a record for each line that may still be written
abbrev pub log_end : Engine → ℕ
log_end engine = (account engine.book).tail

abbrev pub engine_reach : Engine → ℕ
engine_reach engine = reach engine.book

-- the bytes of the page with which damage is shown
abbrev pub evidence_bytes : Engine → List ℕ
evidence_bytes engine = engine.work.page

-- The engine stands for its device: its book does, and its limits are those of the book. While a transaction is open it has
-- had no more writes than there may be, and unless it has had all of them, the next one may write 640 lines.
pub record StandsFor (engine : Engine) (d : Standing) : Type 0 where
  pub ready : IsReady engine.book d
  pub disk : ssd_blocks (engine_sizes engine) ≤ d.blocks
  pub limits : AreLimits (engine_sizes engine) engine.limits
  pub writes : most_writes engine ≡ (engine_sizes engine).writes
  pub few : has_open engine ≡ true → writes_done engine ≤ most_writes engine
  pub room : has_open engine ≡ true → writes_done engine < most_writes engine → 640 ≤ (account engine.book).room
  pub counted : engine.commits ≤ log_end engine

-- what is known of the device whatever a crash leaves of it
abbrev pub IsSteadyFor : Engine → Standing → Type 0
IsSteadyFor engine d = IsSteady engine.book d

-- the transaction of the plain machine is the one that the book has open
abbrev pub IsTransaction : Book → Option Open → Type 0
IsTransaction book None = (account book).is_open ≡ false
IsTransaction book (Some o) = ((account book).is_open ≡ true) × (o.writes ≡ (account book).accepted)

-- The engine and its device show this state of the plain machine: the committed pages hold its tables, the current pages
-- those that a command sees.
pub record Shows (engine : Engine) (d : Standing) (s : State) : Type 0 where
  pub committed : HoldsTables (engine_sizes engine) (committed_lines d) s.tables
  pub seen : HoldsTables (engine_sizes engine) (engine_lines engine d) (current s)
  pub transaction : IsTransaction engine.book s.transaction
  pub commits : engine.commits ≡ s.commits
