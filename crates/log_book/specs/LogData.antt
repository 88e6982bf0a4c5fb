-- What a store keeps of its log, as plain data.
use Rattle.std.specs.Prelude.{◌≡◌, ◌⊎◌, ℕ, ◌+◌, ◌≤◌, Bool, true, false, Result, OnOk}
use Rattle.store_model.specs.Layout.{Sizes}
use Rattle.store_model.specs.Format.Format.{whole_lines}
use Rattle.line_pages.specs.LineSets.{pairs_of, pages_of}
use Rattle.nvm_layout.specs.Sizes.{sizes_of}
use Rattle.nvm_log.specs.declared.log.Log.{Log}
use Rattle.nvm_log.specs.Offsets.{Offsets, offsets_of, appended, hardened, emptied}
use Rattle.tier_facts.specs.Data.{Data, with_mark}
use Rattle.transaction_facts.specs.Books.{BookData}
use Rattle.log_book.specs.declared.book.LogBook.{LogBook}

-- Where the log stands, the lines that its records name, and the offset at which the open group begins.
pub record LogData : Type 0 where
  pub log : Offsets
  pub loose : ℕ → ℕ → Bool
  pub first : ℕ

abbrev pub data_of : LogBook → LogData
data_of book = record { log = offsets_of book.log; loose = pairs_of book.loose; first = book.first }

abbrev pub book_sizes : LogBook → Sizes
book_sizes book = sizes_of book.log.geometry

-- the store of these tiers and this log
abbrev pub store_of : Data → LogData → BookData
store_of tiers book = record { format = whole_lines; tiers = tiers; log = book.log; loose = book.loose }

-- ---- what the calls make of it

-- a record of a line was stored
abbrev pub with_record : ℕ → ℕ → LogData → LogData
with_record page line book = record book { log = appended 3 book.log; loose = with_mark page line true book.loose }

-- a line is among those that records name
abbrev pub with_line : ℕ → ℕ → LogData → LogData
with_line page line book = record book { loose = with_mark page line true book.loose }

-- all that was stored is part of the log
abbrev pub all_hardened : LogData → LogData
all_hardened book = record book { log = hardened book.log }

-- and so is an end; the next group begins behind it
abbrev pub group_closed : LogData → LogData
group_closed book = record book { log = hardened (appended 1 book.log); first = book.log.written + 1 }

-- the log is empty, and names no line
abbrev pub made_empty : LogData → LogData
made_empty book = record book { log = emptied book.log; loose = λ p l. false }

-- More blocks of the log stand on the SSD.
pub record MoreDrained (old new : LogData) : Type 0 where
  pub start : new.log.start ≡ old.log.start
  pub tail : new.log.tail ≡ old.log.tail
  pub written : new.log.written ≡ old.log.written
  pub drained : old.log.drained ≤ new.log.drained
  pub loose : new.loose ≡ old.loose
  pub first : new.first ≡ old.first

-- Room was made: nothing at all was done, or what waited is part of the log, and more blocks stand on the SSD.
pub record RoomMade (old new : LogData) : Type 0 where
  pub start : new.log.start ≡ old.log.start
  pub written : new.log.written ≡ old.log.written
  pub drained : old.log.drained ≤ new.log.drained
  pub waits : (new.log.tail ≡ old.log.tail) ⊎ (new.log.tail ≡ old.log.written)
  pub loose : new.loose ≡ old.loose
  pub first : new.first ≡ old.first

-- ---- what no call changes

pub record SameSizes (old new : LogBook) : Type 0 where
  pub geometry : new.log.geometry ≡ old.log.geometry
  pub marks : pages_of new.loose ≡ pages_of old.loose

-- The log begins where it began, and as many lines are stored.
pub record SameRange (old new : Log) : Type 0 where
  pub start : new.start ≡ old.start
  pub written : new.written ≡ old.written

-- The book is this after a call that answers ok, and its sizes stay.
pub record Becomes {T E : Type 0} (to : LogData) (old new : LogBook) (result : Result T E) : Type 0 where
  pub same : SameSizes old new
  pub is : OnOk result (data_of new ≡ to)
