-- The beginning of a transaction, by what it does to the book of a store.
use Rattle.std.proofs.Common.{◌≡◌, ◌+◌, ◌*◌, ◌^◌, ◌≤◌, true, false, arith}
use Rattle.devices.specs.World.{Standing as Device}
use Rattle.flat_store_meaning.specs.Layout.{ring_lines}
use Rattle.flat_transactions.specs.declared.book.Book.{Book}
use Rattle.flat_transactions.specs.StoreStanding.{book_sizes, reach, kept_lines, IsReady}
use Rattle.flat_transactions.specs.StoreCalls.{KeepsLines}

-- the book behind the beginning
abbrev pub opened : Book → Book
opened book = record book { is_open = true; accepted = 0; room = 640 }

-- Where the log has room for the longest transaction, the book is ready for it.
pub opened_ready : (book : Book) (d : Device) → IsReady book d → book.is_open ≡ false → book.log.tail ≤ 2 ^ 61 + 2 ^ 46
    → book.log.tail + (1920 * book.log.geometry.writes + 1) ≤ book.log.start + ring_lines (book_sizes book) → IsReady (opened book) d
opened_ready book d ready shut low takes =
    let some : 1 ≤ book.log.geometry.writes = book.log.geometry.writes_some in
    let few : book.log.geometry.writes ≤ 1024 = book.log.geometry.writes_few in
    let all : reach (opened book) + kept_lines (opened book) ≡ book.log.tail + (1920 * book.log.geometry.writes + 1) = omega (arith, some) in
    record {
      fits = ready.fits;
      allowed = ready.allowed;
      sized = ready.sized;
      room = omega (arith, all, takes);
      below = omega (arith, all, low, few);
      few = omega arith;
      begins = ready.begins;
      within = ready.within;
      closed = λ still. absurd (cc);
      read = ready.read;
    }

pub opened_lines : (old book : Book) (a b : Device) → KeepsLines old a book b → KeepsLines old a (opened book) b
opened_lines old book a b keeps = record { current = keeps.current; committed = keeps.committed }
