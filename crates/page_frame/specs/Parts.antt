-- When a pointer, places and a right to free are those of one block.
use Rattle.std.specs.Prelude.{◌≡◌, ℕ, length, replicate, None}
use denote.RawPtr.{InBlock, ◌+ₚ◌}
use Rattle.page_frame.specs.declared.cells.Base.{Base}
use Rattle.page_frame.specs.declared.cells.Cells.{Cells}
use Rattle.page_frame.specs.declared.cells.Deed.{Deed}
use Rattle.page_frame.specs.Ownership.{front}

module _ {X A : Type 0} where
  -- they are those of a block of this many places that this allocator gave
  pub record IsBlock (len : ℕ) (alloc : A) (start : Base X) (cells : Cells X) (deed : Deed A) : Type 0 where
    pub cells_at : cells.at ≡ start.ptr +ₚ front
    pub cells_count : length cells.slots ≡ len
    pub deed_at : deed.at ≡ start.ptr
    pub deed_count : deed.len ≡ len
    pub deed_alloc : deed.alloc ≡ alloc

  -- and each place is empty
  pub record IsNewBlock (len : ℕ) (alloc : A) (parts : Base X × Cells X × Deed A) : Type 0 where
    pub in_block : InBlock parts.0.ptr
    pub block : IsBlock len alloc parts.0 parts.1 parts.2
    pub empty : parts.1.slots ≡ replicate len None
