-- What the states of both devices stand for, and which bytes are put into an image.
use Rattle.std.specs.Prelude.{◌≡◌, ◌⊎◌, ℕ, Bool, true, List, [], ◌∷◌, not, ◌==◌, if◌then◌else◌, nat_lt, ◌<◌, Some, None, IsSome}
use Rattle.std.specs.List.{list_all}
use Rattle.std.specs.Ordering.{nat_cmp}
use Rattle.std.specs.BTreeMap.{BTreeMap, get}
use Rattle.nvm_model.specs.declared.state.NvmState.{NvmState}
use Rattle.nvm_model.specs.declared.line.Line.{Line}
use Rattle.nvm_model.specs.Contents.{memory_of}
use Rattle.ssd_model.specs.declared.state.SsdState.{SsdState}
use Rattle.ssd_model.specs.declared.choice.BlockChoice.{BlockChoice}
use Rattle.ssd_model.specs.Contents.{disk_of, synced_of, blocks_of}
use Rattle.ssd_model.specs.Choose.{chosen_bytes}
use Rattle.devices.specs.declared.step.Step.{Step}
use Rattle.devices.specs.declared.step.Step.TheVariants.{StoreWord, StoreLine, Flush, Fence, WriteBlock, Sync, Send}
use Rattle.devices.specs.declared.step.Entry.{Entry}
use Rattle.devices.specs.State.{State, Image, fresh}
use Rattle.devices.specs.Past.{word_in, is_within, made}

abbrev pub state_of : NvmState → SsdState → State
state_of nvm ssd = record { nvm = memory_of nvm; ssd = disk_of ssd }

-- the bytes of each block at the last sync, as one call more is made in a state
abbrev pub synced_by : Step → State → (ℕ → List ℕ) → ℕ → List ℕ
synced_by (StoreWord line word value) s synced = synced
synced_by (StoreLine line value) s synced = synced
synced_by (Flush line) s synced = synced
synced_by Fence s synced = synced
synced_by (WriteBlock block page) s synced = synced
synced_by Sync s synced = λ b. (s.ssd b).bytes
synced_by Send s synced = synced

abbrev pub synced_from : State → (ℕ → List ℕ) → List Entry → ℕ → List ℕ
synced_from s synced [] = synced
synced_from s synced (entry ∷ entries) = synced_from (made entry.step s) (synced_by entry.step s synced) entries

-- and after these calls, the first contents counting as synced
unfoldable pub synced_at : Image → List Entry → ℕ → List ℕ
synced_at base entries = synced_from (fresh base) base.ssd entries

-- a word of these lines, of which each has eight
abbrev pub word_at : List Line → ℕ → ℕ → ℕ
word_at nvm l w = if nat_lt w 8 then word_in nvm l w else 0

abbrev pub are_within : ℕ → ℕ → List Entry → Bool
are_within lines blocks entries = list_all (λ e. is_within lines blocks e.step) entries

-- the call writes another block, or none
abbrev pub spares : ℕ → Step → Bool
spares b (StoreWord line word value) = true
spares b (StoreLine line value) = true
spares b (Flush line) = true
spares b Fence = true
spares b (WriteBlock block page) = not (b == block)
spares b Sync = true
spares b Send = true

abbrev pub all_spare : ℕ → List Entry → Bool
all_spare b entries = list_all (λ e. spares b e.step) entries

-- what a choice leaves of a block
abbrev pub left_of : SsdState → BlockChoice → ℕ → List ℕ
left_of ssd choice b = chosen_bytes choice b (disk_of ssd b) (synced_of ssd b)

-- each block of a map is on the disk, and has what is left of it
pub record AreLeft (ssd : SsdState) (choice : BlockChoice) (map : BTreeMap ℕ (List ℕ)) : Type 0 where
  pub each : (b : ℕ) → ((b < blocks_of ssd) × (get nat_cmp map b ≡ Some (left_of ssd choice b))) ⊎ (get nat_cmp map b ≡ None)

-- what is left of more blocks was put into a map
pub record PutsLeft (ssd : SsdState) (choice : BlockChoice) (old new : BTreeMap ℕ (List ℕ)) : Type 0 where
  pub left : AreLeft ssd choice old → AreLeft ssd choice new
  pub keeps : (b : ℕ) → IsSome (get nat_cmp old b) → IsSome (get nat_cmp new b)

-- the blocks that a call writes are on the disk
abbrev pub fits : ℕ → Step → Bool
fits blocks (StoreWord line word value) = true
fits blocks (StoreLine line value) = true
fits blocks (Flush line) = true
fits blocks Fence = true
fits blocks (WriteBlock block page) = nat_lt block blocks
fits blocks Sync = true
fits blocks Send = true

abbrev pub all_fit : ℕ → List Entry → Bool
all_fit blocks entries = list_all (λ e. fits blocks e.step) entries

-- What is left of each block that was there at first or that a call wrote, and of no block off the disk.
pub record AreLeftOf (base : BTreeMap ℕ (List ℕ)) (entries : List Entry) (ssd : SsdState) (choice : BlockChoice) (map : BTreeMap ℕ (List ℕ)) : Type 0 where
  pub left : AreLeft ssd choice map
  pub at_first : (b : ℕ) → IsSome (get nat_cmp base b) → IsSome (get nat_cmp map b)
  pub written : (b : ℕ) → (all_spare b entries ≡ true) ⊎ IsSome (get nat_cmp map b)
