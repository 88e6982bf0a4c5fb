-- What a book and its device show as a store of pages.
use Rattle.std.specs.Prelude.{◌≡◌, ℕ, ◌+◌, ◌-◌, ◌*◌, ◌^◌, ◌≤◌, min, Bool, true, false, IsTrue, length, if◌then◌else◌}
use Rattle.devices.specs.State.{State, current, fresh}
use Rattle.devices.specs.World.{Standing as Device, Outside, now}
use Rattle.line_pages.specs.Touch.{accesses}
use Rattle.line_pages.specs.Standing.{Standing}
use Rattle.line_pages.specs.LineSets.{pages_of}
use Rattle.flat_store_meaning.specs.Layout.{Sizes, pages, nvm_lines, ring_lines, is_allowed}
use Rattle.flat_store_laws.specs.OpenFacts.{OpenFacts}
use Rattle.flat_store_laws.specs.OpenGroup.{OpenGroup}
use Rattle.flat_store_laws.specs.ShownPages.{pages_in, committed_in}
use Rattle.flat_nvm_layout.specs.Sizes.{sizes_of}
use Rattle.flat_nvm_layout.specs.declared.geometry.Geometry.{Geometry}
use Rattle.flat_transactions.specs.declared.book.Book.{Book}

-- What no call of pages changes.
pub record Apart : Type 0 where
  -- of the device
  pub outside : Outside
  pub lines : ℕ
  pub blocks : ℕ
  pub told : Bool
  pub honest : Bool
  pub block_reads : ℕ
  -- the moment at which the store was put over it, and its states up to then
  pub since : ℕ
  pub past : ℕ → State
  -- of the book
  pub geometry : Geometry
  pub start : ℕ
  pub is_open : Bool
  pub accepted : ℕ
  pub reach : ℕ
  -- the two references
  pub book_name : ℕ
  pub device_name : ℕ

abbrev pub book_sizes : Book → Sizes
book_sizes book = sizes_of book.log.geometry

-- how far the log comes with a record for each line that may still be written
abbrev pub reach : Book → ℕ
reach book = book.log.tail + 3 * book.room

-- the states of a device at each moment up to this one, and from then on the one at it
abbrev pub past_of : Device → ℕ → ℕ → State
past_of d since m = d.at (min m since)

abbrev pub standing_of : Book → Device → ℕ → ℕ → ℕ → Standing Apart
standing_of book d book_name device_name since = record {
  count = pages (book_sizes book);
  told = d.told;
  current = pages_in (book_sizes book) (now d);
  committed = committed_in (now d);
  room = book.room;
  visits = length (accesses book.accesses.touches.list);
  touches = book.accesses.touches.list;
  access = book.accesses.open_access;
  nvm_faults = d.nvm_faults;
  ssd_faults = d.ssd_faults;
  clock = d.clock;
  apart = record {
    outside = d.outside;
    lines = d.lines;
    blocks = d.blocks;
    told = d.told;
    honest = d.honest;
    block_reads = d.block_reads;
    since = since;
    past = past_of d since;
    geometry = book.log.geometry;
    start = book.log.start;
    is_open = book.is_open;
    accepted = book.accepted;
    reach = reach book;
    book_name = book_name;
    device_name = device_name;
  };
}

-- the log lines kept for the further writes of an open transaction, 1,920 for each, and for its end
abbrev pub reserve : Bool → ℕ → ℕ → ℕ
reserve is_open writes accepted = if is_open then 1920 * (writes - accepted - 1) + 1 else 0

abbrev pub kept_lines : Book → ℕ
kept_lines book = reserve book.is_open book.log.geometry.writes book.accepted

-- The facts of an open store, whose open group begins at this offset.
pub record Stands (g : Sizes) (start tail first : ℕ) (s : State) : Type 0 where
  pub facts : OpenFacts g start tail s
  pub group : OpenGroup g start first (current s)

-- no line may be written, and the open group is empty
pub record NoneOpen (book : Book) : Type 0 where
  pub room : book.room ≡ 0
  pub first : book.first ≡ book.log.tail

-- The book stands for the device: its sizes are allowed and fit, the log has room for a record of each line that may still
-- be written, at most 640 now, and with each further write, and for the end of an open transaction, and as one reads the
-- device the facts of an open store hold.
pub record IsReady (book : Book) (d : Device) : Type 0 where
  pub fits : nvm_lines (book_sizes book) ≤ d.lines
  pub allowed : is_allowed (book_sizes book) ≡ true
  pub sized : pages (book_sizes book) ≤ pages_of book.loose
  pub room : reach book + kept_lines book ≤ book.log.start + ring_lines (book_sizes book)
  pub below : reach book + kept_lines book ≤ 2 ^ 62
  pub few : book.room ≤ 640
  pub begins : book.log.start ≤ book.first
  pub within : book.first ≤ book.log.tail
  pub closed : book.is_open ≡ false → NoneOpen book
  pub read : IsTrue d.told → Stands (book_sizes book) book.log.start book.log.tail book.first (fresh (current (now d)))

-- The same facts hold whatever a crash leaves.
abbrev pub IsSteady : Book → Device → Type 0
IsSteady book d = IsTrue d.told → Stands (book_sizes book) book.log.start book.log.tail book.first (now d)
