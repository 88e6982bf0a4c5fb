-- The lines of a page as bytes, and what a frame holds.
use Rattle.std.specs.Prelude.{◌≡◌, ℕ, ◌<◌, List, IsTrue, Ok}
use Rattle.nvm_model.specs.declared.line.Line.{Line}
use Rattle.devices.specs.State.{State}
use Rattle.devices.specs.World.{Standing, now}
use Rattle.device_calls.specs.Leads.{Looked}
use Rattle.store_model.specs.Layout.{Sizes, frame_line}
use Rattle.store_model.specs.Recovered.{from, block_word, block_line}

-- the first n lines of these bytes, and the 64 lines of a page
abbrev pub lines_below : List ℕ → ℕ → List Line
lines_below bytes n = from (block_line bytes) 0 n

unfoldable pub page_lines : List ℕ → List Line
page_lines bytes = lines_below bytes 64

-- The first n lines of these bytes are what loads of the frame give.
pub record HoldsLines (g : Sizes) (k n : ℕ) (bytes : List ℕ) (s : State) : Type 0 where
  pub words : (l w : ℕ) → l < n → w < 8 → block_word bytes l w ≡ (s.nvm (frame_line g k l) w).newest

-- So are all of them.
abbrev pub HoldsFrame : Sizes → ℕ → List ℕ → State → Type 0
HoldsFrame g k bytes s = HoldsLines g k 64 bytes s

-- What the loads of the first n lines of a frame left.
pub record ReadsSo (g : Sizes) (k n : ℕ) (bytes : List ℕ) (old new : Standing) : Type 0 where
  pub looked : Looked {T = Unit {0}} old new (Ok tt)
  pub reads : new.block_reads ≡ old.block_reads
  pub holds : IsTrue old.told → HoldsLines g k n bytes (now old)
