-- Blocks of log lines that are copied to the ring on the SSD.
use Rattle.std.specs.Prelude.{◌≡◌, ℕ, ◌+◌, ◌<◌, ◌≤◌, List, length, IsTrue, Result, Ok, OnOk}
use Rattle.devices.specs.State.{State, current}
use Rattle.devices.specs.World.{Standing, Goes, Stays, MakesAll, now}
use Rattle.line_pages.specs.declared.stop.Stop.{Stop}
use Rattle.nvm_model.specs.Memory.{line_of}
use Rattle.line_pages.specs.Bytes.{line_at}
use Rattle.store_model.specs.Layout.{Sizes, ring_line}
use Rattle.store_model.specs.Blocks.{block_calls, AreCopied}

-- the first n lines of these bytes are the log lines from this offset on, as loads give them
pub record AreLoaded (g : Sizes) (offset n : ℕ) (bytes : List ℕ) (s : State) : Type 0 where
  pub each : (l : ℕ) → l < n → line_at bytes l ≡ line_of ((current s).nvm (ring_line g (offset + l)))

-- At most n blocks were written, all of them where the call answers ok: copies of the log lines from this offset on.
pub record Copies {T E : Type 0} (g : Sizes) (offset n : ℕ) (old new : Standing) (result : Result T E) : Type 0 where
  pub blocks : List (List ℕ)
  pub makes : MakesAll (block_calls g offset blocks) old new result
  pub most : length blocks ≤ n
  pub count : OnOk result (length blocks ≡ n)
  pub copied : IsTrue old.told → AreCopied g offset blocks (now old)

-- What the loads of the first n lines of a block left.
pub record LoadsSo (g : Sizes) (offset n : ℕ) (bytes : List ℕ) (old new : Standing) : Type 0 where
  pub goes : Goes old new
  pub stays : Stays old new
  pub nvm : new.nvm_faults ≡ old.nvm_faults
  pub ssd : new.ssd_faults ≡ old.ssd_faults
  pub reads : new.block_reads ≡ old.block_reads
  pub size : length bytes ≡ 4096
  pub loaded : IsTrue old.told → AreLoaded g offset n bytes (now old)

-- What the copies of the first n blocks left.
pub record CopiesSo (g : Sizes) (offset n : ℕ) (old new : Standing) : Type 0 where
  pub goes : Goes old new
  pub nvm : new.nvm_faults ≡ old.nvm_faults
  pub ssd : new.ssd_faults ≡ old.ssd_faults
  pub reads : new.block_reads ≡ old.block_reads
  pub copies : Copies {T = Unit {0}} {E = Stop} g offset n old new (Ok tt)
