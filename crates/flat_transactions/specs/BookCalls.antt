-- What calls do to a book.
use Rattle.std.specs.Prelude.{◌≡◌, ℕ, ◌+◌, false, None, [], Result, OnOk}
use Rattle.line_pages.specs.LineSets.{pairs_of, pages_of}
use Rattle.line_pages.specs.Pairs.{with_pair}
use Rattle.line_pages.specs.declared.line_set.LineSet.{LineSet}
use Rattle.flat_nvm_log.specs.declared.log.Log.{Log}
use Rattle.flat_transactions.specs.declared.book.Book.{Book}
use Rattle.flat_transactions.specs.StoreStanding.{reach}

-- a book just made, with this log and these lines that the log names
pub record IsNew (log : Log) (loose : LineSet) (book : Book) : Type 0 where
  pub log_is : book.log ≡ log
  pub loose_is : book.loose ≡ loose
  pub first : book.first ≡ log.tail
  pub is_open : book.is_open ≡ false
  pub accepted : book.accepted ≡ 0
  pub room : book.room ≡ 0
  pub access : book.accesses.open_access ≡ None
  pub touches : book.accesses.touches.list ≡ []

-- A line is written: the log has its record, which costs room for one line, and names it.
pub record IsWritten {T E : Type 0} (page line : ℕ) (old new : Book) (result : Result T E) : Type 0 where
  pub geometry : new.log.geometry ≡ old.log.geometry
  pub start : new.log.start ≡ old.log.start
  pub first : new.first ≡ old.first
  pub is_open : new.is_open ≡ old.is_open
  pub accepted : new.accepted ≡ old.accepted
  pub accesses : new.accesses ≡ old.accesses
  pub sized : pages_of new.loose ≡ pages_of old.loose
  pub reach_is : reach new ≡ reach old
  pub tail : OnOk result (new.log.tail ≡ old.log.tail + 3)
  pub loose : OnOk result (pairs_of new.loose ≡ with_pair page line (pairs_of old.loose))
