-- A block of log lines that is copied to the ring on the SSD: the calls, and what they need.
use Rattle.std.specs.Prelude.{◌≡◌, ℕ, ◌+◌, ◌*◌, ◌%◌, ◌<◌, ◌≤◌, List, [], ◌∷◌, ◌++◌}
use Rattle.devices.specs.State.{State, current, Call}
use Rattle.nvm_model.specs.Memory.{line_of}
use Rattle.devices.specs.State.Call.{store_word, flush, fence, write_block, sync}
use Rattle.store_model.specs.Layout.{Sizes, ring_line, ring_block, ring_blocks, floor64}
use Rattle.store_model.specs.Recovered.{super_of, block_line}
use Rattle.store_model.specs.Put.{CanPut}

-- the calls of a drain: a block of log lines, and then the gate
abbrev pub drain_calls : Sizes → ℕ → List ℕ → List Call
drain_calls g from_here bytes = (write_block (ring_block g from_here) bytes ∷ sync ∷ []) ++ (store_word 2 0 (from_here + 64) ∷ flush 2 ∷ fence ∷ [])

-- what a drain needs: the gates and the log are durable, a block of lines stands, and its place in the ring is free
pub record CanDrain (s : State) (bytes : List ℕ) : Type 0 where
  pub can : CanPut s 0
  pub aligned : (super_of (current s)).drained % 64 ≡ 0
  pub lines : (super_of (current s)).drained + 64 ≤ (super_of (current s)).tail
  pub room : (super_of (current s)).drained + 64 ≤ floor64 (super_of (current s)).start + 64 * ring_blocks (super_of (current s)).sizes
  pub copied : (o : ℕ) → (super_of (current s)).drained ≤ o → o < (super_of (current s)).drained + 64
      → block_line bytes (o % 64) ≡ line_of ((current s).nvm (ring_line (super_of (current s)).sizes o))
