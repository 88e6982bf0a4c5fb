-- A row that was laid into a page, and a slot that was dropped from one.
use Rattle.std.specs.Prelude.{◌≡◌, ℕ, ◌+◌, ◌*◌, List}
use Rattle.ssd_model.specs.Page.{Same, Moved}
use Rattle.line_pages.specs.Bytes.{u64_at}
use Rattle.rows.specs.Rows.{Row}
use Rattle.page_format.specs.Node.{row_in}
use Rattle.page_format.specs.Sound.{slot_of}

-- What the bytes are after a slot and its record were put among so many, whatever the others hold, and the header says a number of
-- rows.
pub record Lays (at count total place size : ℕ) (row : Row) (old new : List ℕ) : Type 0 where
  pub count_is : u64_at new 8 ≡ total
  pub heap_is : u64_at new 24 ≡ place
  pub kind : Same 0 8 old new
  pub level : Same 16 24 old new
  pub before : Same 32 (64 + 4 * at) old new
  pub slot : slot_of new at ≡ record { place = place; size = size }
  pub moved : Moved (64 + 4 * at) (64 + 4 * count) (68 + 4 * at) old new
  pub middle : Same (68 + 4 * count) place old new
  pub record_is : row_in new (record { place = place; size = size }) ≡ row
  pub after : Same (place + size) 4096 old new

-- What the bytes are after a slot was taken out of so many, whatever the others hold, and the header says one row less.
pub record Drops (at count : ℕ) (old new : List ℕ) : Type 0 where
  pub count_is : u64_at new 8 + 1 ≡ count
  pub kind : Same 0 8 old new
  pub header : Same 16 64 old new
  pub before : Same 64 (64 + 4 * at) old new
  pub moved : Moved (68 + 4 * at) (64 + 4 * count) (64 + 4 * at) old new
  pub after : Same (60 + 4 * count) 4096 old new
