-- Which bytes of a page are marked.
use Rattle.std.specs.Prelude.{ℕ, zero, suc, ◌+◌, ◌/◌, ◌%◌, Bool, true, false, not, List, slice_index, nat_lt, nat_le, ◌==◌, ◌&&◌, ◌||◌}
use Rattle.std.specs.Int.{bit_at}
use Rattle.page_format.specs.Node.{Slot}

-- the test whether a byte is marked
abbrev pub Marked : Type 0
Marked = ℕ → Bool

abbrev pub no_marks : Marked
no_marks byte = false

-- so many bytes from a place on are marked as well
abbrev pub with_run : ℕ → ℕ → Marked → Marked
with_run place size marked byte = (nat_le place byte && nat_lt byte (place + size)) || marked byte

-- none of so many bytes from a place on is marked
abbrev pub all_free : Marked → ℕ → ℕ → Bool
all_free marked place zero = true
all_free marked place (suc n) = not (marked place) && all_free marked (place + 1) n

-- no byte of the record is marked
abbrev pub is_free : Marked → Slot → Bool
is_free marked slot = all_free marked slot.place slot.size

-- the marks in words of 64 bits, one bit for each byte
unfoldable pub marked_in : List ℕ → Marked
marked_in words byte = bit_at (slice_index words (byte / 64)) (byte % 64) == 1
