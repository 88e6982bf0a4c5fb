-- The frame through which pages pass.
use Rattle.std.specs.Prelude.{◌≡◌, ◌≢◌, ◌⊎◌, ℕ, ◌+◌, ◌<◌, ◌≤◌, ◌==◌, if◌then◌else◌, List, [], ◌∷◌, Option, Some, None, IfSome, Result, OnOk}
use Rattle.nvm_model.specs.declared.line.Line.{Line}
use Rattle.devices.specs.State.{Call}
use Rattle.devices.specs.State.Call.{store_word, store_line, flush, fence, write_block, sync}
use Rattle.devices.specs.World.{Standing, Counts, MakesAll}
use Rattle.line_pages.specs.declared.stop.Stop.{Stop}
use Rattle.device_calls.specs.Leads.{Made}
use Rattle.store_model.specs.Layout.{Sizes, pages, nvm_lines, ssd_blocks}
use Rattle.store_model.specs.Install.{store_calls}

-- the store fits the devices
pub record FitsStore (g : Sizes) (d : Standing) : Type 0 where
  pub lines : nvm_lines g ≤ d.lines
  pub blocks : ssd_blocks g ≤ d.blocks

-- the page in it is one of the store
abbrev pub IsPassing : Sizes → Option ℕ → Type 0
IsPassing g page = IfSome page (λ p. p < pages g)

-- no block is read, or one
abbrev pub ReadsOneAtMost : Standing → Standing → Type 0
ReadsOneAtMost old new = (new.block_reads ≡ old.block_reads) ⊎ Counts old new

-- the page that is there behind a write of a line: that line's page, unless its home is a frame that keeps pages
abbrev pub passing_behind : Option ℕ → ℕ → Option ℕ → Option ℕ
passing_behind (Some frame) page there = there
passing_behind None page there = Some page

-- Where the page has its frame, or is in the one through which pages pass, the line is stored there and flushed, and no more
-- is called.
pub record StoresAlone {T : Type 0} (g : Sizes) (home : Option ℕ) (page : ℕ) (there : Option ℕ) (line : ℕ) (value : Line) (old new : Standing) (result : Result T Stop) : Type 0 where
  pub kept : IfSome home (λ frame. Made (store_calls g frame line value) old new result)
  pub passing : home ≡ None → there ≡ Some page → Made (store_calls g g.frames line value) old new result

-- Where the page comes in one block is read.
abbrev pub ReadsWhereItComes : {T : Type 0} → Option ℕ → ℕ → Option ℕ → Standing → Standing → Result T Stop → Type 0
ReadsWhereItComes home page there old new result = home ≡ None → there ≢ Some page → OnOk result (Counts old new)

-- how many of these calls write a block, and how many settle the blocks
abbrev pub block_writes : List Call → ℕ
block_writes [] = 0
block_writes (store_word line word value ∷ calls) = block_writes calls
block_writes (store_line line value ∷ calls) = block_writes calls
block_writes (flush line ∷ calls) = block_writes calls
block_writes (fence ∷ calls) = block_writes calls
block_writes (write_block block bytes ∷ calls) = 1 + block_writes calls
block_writes (sync ∷ calls) = block_writes calls

abbrev pub block_syncs : List Call → ℕ
block_syncs [] = 0
block_syncs (store_word line word value ∷ calls) = block_syncs calls
block_syncs (store_line line value ∷ calls) = block_syncs calls
block_syncs (flush line ∷ calls) = block_syncs calls
block_syncs (fence ∷ calls) = block_syncs calls
block_syncs (write_block block bytes ∷ calls) = block_syncs calls
block_syncs (sync ∷ calls) = 1 + block_syncs calls

-- The device calls, made up to the first that failed, write so many blocks and settle them as often.
pub record WritesBlocks {T : Type 0} (n : ℕ) (old new : Standing) (result : Result T Stop) : Type 0 where
  pub calls : List Call
  pub makes : MakesAll calls old new result
  pub writes : block_writes calls ≡ n
  pub syncs : block_syncs calls ≡ n

-- how many pages leave the frame as a passage ends, and as a line of a page is written: one where another page is there and
-- this one has to come
abbrev pub leaving : Option ℕ → ℕ
leaving None = 0
leaving (Some there) = 1

abbrev pub leaving_for : Option ℕ → ℕ → Option ℕ → ℕ
leaving_for (Some frame) page there = 0
leaving_for None page None = 0
leaving_for None page (Some there) = if there == page then 0 else 1
