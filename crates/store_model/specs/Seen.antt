-- How a step is seen by recovery: what holds of one image, an image that shows what another one shows, what may be
-- stored and written unseen, and one gate word that is changed.
use Rattle.std.specs.Prelude.{◌≡◌, ◌≢◌, ◌⊎◌, ℕ, ◌+◌, ◌<◌, ◌≤◌, false, List, [], ◌∷◌, ◌++◌, Some, IsTrue}
use Rattle.nvm_model.specs.declared.line.Line.{Line}
use Rattle.devices.specs.State.{State, Image, Leaves, current, Call}
use Rattle.nvm_model.specs.Word.{IsSteady}
use Rattle.devices.specs.State.Call.{store_word, flush, fence}
use Rattle.store_model.specs.Layout.{Sizes, pages, ring_start, ring_line, ring_block, frame_line, page_block}
use Rattle.store_model.specs.Log.{Words, is_logged}
use Rattle.store_model.specs.Format.{Format}
use Rattle.store_model.specs.Recovered.{super_of, entry_at, frame_of, home, log_lines, log_of, block_word, IsStore}
use Rattle.store_model.specs.InOrder.{LineStands, HomeStands}
use Rattle.store_model.specs.Install.{install_calls, release_calls}
use Rattle.store_model.specs.StoreFacts.{Gate, gate_line, gate_word, Bookkeeping, IsWord, NamedIsDurable, HomesAreRight, LogIsRight, CopiesAreRight}

-- What the facts say of one image of a state.
pub record ImageFacts (b : Bookkeeping) (s : State) (i : Image) : Type 0 where
  pub sizes : (super_of i).sizes ≡ b.sizes
  pub durable : NamedIsDurable b s i
  pub homes : HomesAreRight b i
  pub log : LogIsRight b i
  pub copies : CopiesAreRight b i
  pub store : IsStore b.format i

-- The first image has the tail, the log and, outside of what the log names, the homes of the second, and is a store where
-- that is one; and in this state its log lines and those homes are durable.
pub record Mirrors (format : Format) (g : Sizes) (s : State) (i j : Image) : Type 0 where
  pub sizes : (super_of i).sizes ≡ (super_of j).sizes
  pub tail : (super_of i).tail ≡ (super_of j).tail
  pub log : log_lines i ≡ log_lines j
  pub store : IsStore format j → IsStore format i
  pub homes : (p l w : ℕ) → IsWord g p l w → is_logged (log_of format j) p l w ≡ false → home i p l w ≡ home j p l w
  pub lines : (offset : ℕ) → (super_of i).start ≤ offset → offset < (super_of i).tail → LineStands (super_of i) s offset
  pub stands : (p l w : ℕ) → IsWord g p l w → is_logged (log_of format j) p l w ≡ false
      → HomeStands g (frame_of (entry_at i) (g.frames + 1) p) s p l w

-- Recovery sees nothing of such stores and writes: they are no word of the superblock or the frame table, no log line,
-- no line of a frame that has a page, and no home block of a page that has no frame.
pub record IsQuiet (s : State) (stores : ℕ → ℕ → ℕ → Type 0) (writes : ℕ → Type 0) : Type 0 where
  pub low : (l w v : ℕ) → l < ring_start (super_of (current s)).sizes → stores l w v → ⊥
  pub log : (offset w v : ℕ) → (super_of (current s)).start ≤ offset → (super_of (current s)).drained ≤ offset → offset < (super_of (current s)).tail
      → stores (ring_line (super_of (current s)).sizes offset) w v → ⊥
  pub frames : (k l w v : ℕ) → k ≤ (super_of (current s)).sizes.frames → l < 64 → entry_at (current s) k ≢ 0
      → stores (frame_line (super_of (current s)).sizes k l) w v → ⊥
  pub ring : (offset : ℕ) → (super_of (current s)).start ≤ offset → offset < (super_of (current s)).drained
      → writes (ring_block (super_of (current s)).sizes offset) → ⊥
  pub blocks : (p : ℕ) → ((k : ℕ) → k ≤ (super_of (current s)).sizes.frames → entry_at (current s) k ≢ p + 1)
      → writes (page_block (super_of (current s)).sizes p) → ⊥

-- a gate gets this value, durable
abbrev pub gate_calls : Gate → ℕ → List Call
gate_calls gate value = store_word (gate_line gate) (gate_word gate) value ∷ flush (gate_line gate) ∷ fence ∷ []

-- what these calls may store
abbrev pub gate_stores : Gate → ℕ → ℕ → ℕ → ℕ → Type 0
gate_stores gate value l w v = (l ≡ gate_line gate) × (w ≡ gate_word gate) × (v ≡ value)

-- The first image is as the second, but for the gate, which has this value.
pub record Moved (gate : Gate) (value : ℕ) (i j : Image) : Type 0 where
  pub at_gate : i.nvm (gate_line gate) (gate_word gate) ≡ value
  pub words : (l w : ℕ) → (l ≢ gate_line gate) ⊎ (w ≢ gate_word gate) → i.nvm l w ≡ j.nvm l w
  pub blocks : (n : ℕ) → i.ssd n ≡ j.ssd n

-- a gate is being changed, and with it what is committed
abbrev pub changing_to : Bookkeeping → Gate → ℕ → ℕ → (ℕ → Words) → Bookkeeping
changing_to b gate old new committed = record b { changing = Some (record { gate = gate; old = old; new = new }); committed = committed }

-- An empty frame can get the entry of a page: no frame has the page, and outside of what the log names the words of the
-- frame are its home, durable.
pub record CanName (b : Bookkeeping) (s : State) (k page : ℕ) : Type 0 where
  pub in_store : page < pages b.sizes
  pub frame : k ≤ b.sizes.frames
  pub empty : entry_at (current s) k ≡ 0
  pub unnamed : (n : ℕ) → n ≤ b.sizes.frames → entry_at (current s) n ≢ page + 1
  pub steady : (i : Image) → Leaves s i → (l w : ℕ) → IsWord b.sizes page l w → is_logged (log_of b.format i) page l w ≡ false → IsSteady (s.nvm (frame_line b.sizes k l) w)
  pub homes : (i : Image) → Leaves s i → (l w : ℕ) → IsWord b.sizes page l w → is_logged (log_of b.format i) page l w ≡ false → i.nvm (frame_line b.sizes k l) w ≡ home i page l w

-- A frame can lose the entry of its page: no other frame has the page, its home block is settled, and outside of what the
-- log names the words of the block are the home.
pub record CanClear (b : Bookkeeping) (s : State) (k page : ℕ) : Type 0 where
  pub frame : k ≤ b.sizes.frames
  pub named : entry_at (current s) k ≡ page + 1
  pub alone : (n : ℕ) → n ≤ b.sizes.frames → n ≢ k → entry_at (current s) n ≢ page + 1
  pub settled : IsTrue (s.ssd (page_block b.sizes page)).settled
  pub homes : (i : Image) → Leaves s i → (l w : ℕ) → IsWord b.sizes page l w → is_logged (log_of b.format i) page l w ≡ false
      → block_word (i.ssd (page_block b.sizes page)) l w ≡ home i page l w

-- A page can be given up by its frame after a write of its home block: no other frame has it, and outside of what the log
-- names the bytes are its home.
pub record CanGiveUp (b : Bookkeeping) (s : State) (k page : ℕ) (bytes : List ℕ) : Type 0 where
  pub frame : k ≤ b.sizes.frames
  pub named : entry_at (current s) k ≡ page + 1
  pub alone : (n : ℕ) → n ≤ b.sizes.frames → n ≢ k → entry_at (current s) n ≢ page + 1
  pub homes : (i : Image) → Leaves s i → (l w : ℕ) → IsWord b.sizes page l w → is_logged (log_of b.format i) page l w ≡ false → block_word bytes l w ≡ home i page l w

-- A page passes through an empty frame: it is put there and given up at once, so that its lines come to its home block.
abbrev pub pass_calls : Sizes → ℕ → ℕ → List Line → List ℕ → List Call
pass_calls g k page lines bytes = install_calls g k page lines ++ release_calls g k page bytes
