-- A page of which some lines alone are read and written: line 0, those of some slots, and those of a record.
use Rattle.std.specs.Prelude.{◌≡◌, ◌⊎◌, ℕ, ◌+◌, ◌*◌, ◌≤◌, List}
use Rattle.ssd_model.specs.Page.{Same}
use Rattle.leaf_lines.specs.declared.spread.Spread.{Spread}

-- the lines lie one run behind the other
pub record InOrder (s : Spread) : Type 0 where
  pub some : 1 ≤ s.slots
  pub first : s.slots ≤ s.slots_end
  pub second : s.slots_end ≤ s.heap
  pub third : s.heap ≤ s.heap_end
  pub last : s.heap_end ≤ 64

-- they have the slots from an index up to one more than there are, and a record
pub record Covers (at count place size : ℕ) (s : Spread) : Type 0 where
  pub slots : 64 * s.slots ≤ 64 + 4 * at
  pub slots_end : 68 + 4 * count ≤ 64 * s.slots_end
  pub heap : (64 * s.heap ≤ place) ⊎ (s.heap ≡ s.slots_end)
  pub heap_end : place + size ≤ 64 * s.heap_end

-- the bytes of these lines are the same in both
pub record AlikeIn (s : Spread) (one other : List ℕ) : Type 0 where
  pub header : Same 0 64 one other
  pub slots : Same (64 * s.slots) (64 * s.slots_end) one other
  pub heap : Same (64 * s.heap) (64 * s.heap_end) one other

-- those of all other lines are
pub record AlikeBeyond (s : Spread) (one other : List ℕ) : Type 0 where
  pub low : Same 64 (64 * s.slots) one other
  pub middle : Same (64 * s.slots_end) (64 * s.heap) one other
  pub high : Same (64 * s.heap_end) 4096 one other

-- Two buffers stand for a page before and after: the page had the lines of the one, has those of the other, and its other
-- lines are as they were. What the buffers hold there does not matter.
pub record StandsFor (s : Spread) (read changed old new : List ℕ) : Type 0 where
  pub known : AlikeIn s old read
  pub put : AlikeIn s new changed
  pub kept : AlikeBeyond s old new
