-- Several blocks of log lines that are copied to the ring on the SSD under one sync: the calls, and what they need.
use Rattle.std.specs.Prelude.{◌≡◌, ℕ, ◌+◌, ◌*◌, ◌%◌, ◌<◌, ◌≤◌, List, [], ◌∷◌, ◌++◌, length, slice_index_or}
use Rattle.devices.specs.State.{State, current, Call}
use Rattle.nvm_model.specs.Memory.{line_of}
use Rattle.devices.specs.State.Call.{store_word, flush, fence, write_block, sync}
use Rattle.store_model.specs.Layout.{Sizes, ring_line, ring_block, ring_blocks, floor64}
use Rattle.store_model.specs.Recovered.{super_of, block_line}
use Rattle.store_model.specs.Put.{CanPut}

-- the blocks are written one after the other, to the places of the log offsets from this one on
abbrev pub block_calls : Sizes → ℕ → List (List ℕ) → List Call
block_calls g offset [] = []
block_calls g offset (bytes ∷ blocks) = write_block (ring_block g offset) bytes ∷ block_calls g (offset + 64) blocks

-- then a sync, and then the gate, raised over all of them
abbrev pub drain_all_calls : Sizes → ℕ → List (List ℕ) → List Call
drain_all_calls g offset blocks =
    (block_calls g offset blocks ++ sync ∷ []) ++ (store_word 2 0 (offset + 64 * length blocks) ∷ flush 2 ∷ fence ∷ [])

-- The lines of the blocks are those of the NVM ring from this offset on, as loads give them.
pub record AreCopied (g : Sizes) (offset : ℕ) (blocks : List (List ℕ)) (s : State) : Type 0 where
  pub each : (k o : ℕ) → k < length blocks → offset + 64 * k ≤ o → o < offset + 64 * k + 64
      → block_line (slice_index_or blocks k []) (o % 64) ≡ line_of ((current s).nvm (ring_line g o))

-- What the drain of several blocks needs: the gates and the log are durable, the blocks stand in the ring in NVM, and have
-- places of their own in the ring on the SSD that are free.
pub record CanDrainAll (s : State) (blocks : List (List ℕ)) : Type 0 where
  pub can : CanPut s 0
  pub aligned : (super_of (current s)).drained % 64 ≡ 0
  pub lines : (super_of (current s)).drained + 64 * length blocks ≤ (super_of (current s)).tail
  pub room : (super_of (current s)).drained + 64 * length blocks ≤ floor64 (super_of (current s)).start + 64 * ring_blocks (super_of (current s)).sizes
  pub few : length blocks ≤ ring_blocks (super_of (current s)).sizes
  pub copied : AreCopied (super_of (current s)).sizes (super_of (current s)).drained blocks s
