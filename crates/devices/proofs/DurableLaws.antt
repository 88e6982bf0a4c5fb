-- A line that is stored, flushed and fenced, and a block that is written and synced: what they leave, and what a crash
-- leaves on the way.
use Rattle.std.proofs.Common.{◌≡◌, ◌≢◌, ℕ, ◌<◌, true, List, [], ◌∷◌, refl, inl, inr, slice_index}
use Rattle.std.proofs.lemmas.Bool.{eq-eqb, ne_eqb}
use Rattle.nvm_model.specs.declared.line.Line.{Line}
use Rattle.nvm_model.specs.Word.{IsVersion, single}
use Rattle.devices.specs.State.{State, Image, Call, after_all, Amid, Leaves}
use Rattle.devices.specs.State.Call.{store_line, flush, fence, write_block, sync}
use Rattle.devices.specs.Growth.{Grows, Reaches, no_store, no_write}
use Rattle.devices.proofs.StateLaws.{line_made}
use Rattle.devices.proofs.GrowthLaws.{Amid-grows, Grows-leaves, Amid_end}

-- the values that a store of a line may leave
abbrev pub line_stores : ℕ → Line → ℕ → ℕ → ℕ → Type 0
line_stores line value l w v = (l ≡ line) × (w < 8) × (v ≡ slice_index value.words w)

abbrev pub line_calls : ℕ → Line → List Call
line_calls line value = store_line line value ∷ flush line ∷ fence ∷ []

-- at each moment there are the old versions, and the stored value on that line
pub line_during : (line : ℕ) (value : Line) (s mid : State) → Amid s (line_calls line value) mid → Grows (line_stores line value) no_write s mid
line_during line value s mid amid = Amid-grows (line_stores line value) no_write (line_calls line value) s mid ((λ w hw. (refl, hw, refl)), (tt, (tt, tt))) amid

-- so each word of each image is an old version or the stored value
pub line_images : (line : ℕ) (value : Line) (s mid : State) → Amid s (line_calls line value) mid → (i : Image) → Leaves mid i → Reaches (line_stores line value) no_write s i
line_images line value s mid amid i leaves = Grows-leaves (line_stores line value) no_write s mid i (line_during line value s mid amid) leaves

-- What is there in the end: one version of each word of the line, and at most the old versions elsewhere.
pub record LineStored (line : ℕ) (value : Line) (old new : State) : Type 0 where
  pub made : (w : ℕ) → w < 8 → new.nvm line w ≡ single (slice_index value.words w)
  pub others : (l w v : ℕ) → l ≢ line → IsVersion (new.nvm l w) v → IsVersion (old.nvm l w) v
  pub blocks : (b : ℕ) → new.ssd b ≡ old.ssd b

pub line_durable : (line : ℕ) (value : Line) (s : State) → LineStored line value s (after_all (line_calls line value) s)
line_durable line value s =
    let grows : Grows (line_stores line value) no_write s (after_all (line_calls line value) s) = line_during line value s _ (Amid_end (line_calls line value) s) in
    record {
      made = λ w hw. line_made line value s w hw;
      others = λ l w v other h. elim (grows.words l w v h) [ inl old ↦ old | inr st ↦ absurd (other st.0) ];
      blocks = λ b. refl;
    }

abbrev pub block_calls : ℕ → List ℕ → List Call
block_calls block bytes = write_block block bytes ∷ sync ∷ []

-- at each moment every other settled block is as it was, and all of NVM
pub block_during : (block : ℕ) (bytes : List ℕ) (s mid : State) → Amid s (block_calls block bytes) mid → Grows no_store (λ b. b ≡ block) s mid
block_during block bytes s mid amid = Amid-grows no_store (λ b. b ≡ block) (block_calls block bytes) s mid (refl, (tt, tt)) amid

pub block_images : (block : ℕ) (bytes : List ℕ) (s mid : State) → Amid s (block_calls block bytes) mid → (i : Image) → Leaves mid i → Reaches no_store (λ b. b ≡ block) s i
block_images block bytes s mid amid i leaves = Grows-leaves no_store (λ b. b ≡ block) s mid i (block_during block bytes s mid amid) leaves

-- What is there in the end: every block is settled, this one with the bytes, the others with theirs.
pub record BlockStored (block : ℕ) (bytes : List ℕ) (old new : State) : Type 0 where
  pub made : new.ssd block ≡ record { bytes = bytes; settled = true }
  pub others : (b : ℕ) → b ≢ block → new.ssd b ≡ record { bytes = (old.ssd b).bytes; settled = true }
  pub words : (l w : ℕ) → new.nvm l w ≡ old.nvm l w

pub block_durable : (block : ℕ) (bytes : List ℕ) (s : State) → BlockStored block bytes s (after_all (block_calls block bytes) s)
block_durable block bytes s = record {
  made = rw (eq-eqb block block refl);
  others = λ b other. rw (ne_eqb b block other);
  words = λ l w. refl;
}
