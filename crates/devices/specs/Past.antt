-- What is kept of the calls of a world in memory, and what it stands for.
use Rattle.std.specs.Prelude.{◌≡◌, ℕ, ◌+◌, ◌<◌, ◌≤◌, Bool, true, List, [], ◌∷◌, ◌++◌, length, take, map, slice_index, slice_index_or, if◌then◌else◌, nat_lt, nat_le, ◌&&◌, IsSome}
use Rattle.std.specs.Option.{unwrap_or}
use Rattle.std.specs.Ordering.{nat_cmp}
use Rattle.std.specs.List.{list_all}
use Rattle.std.specs.BTreeMap.{BTreeMap, get}
use Rattle.nvm_model.specs.declared.line.Line.{Line}
use Rattle.ssd_model.specs.Page.{zero_page}
use Rattle.devices.specs.declared.images.Images.{Images}
use Rattle.devices.specs.declared.step.Step.{Step}
use Rattle.devices.specs.declared.step.Step.TheVariants.{StoreWord, StoreLine, Flush, Fence, WriteBlock, Sync, Send}
use Rattle.devices.specs.declared.step.Entry.{Entry}
use Rattle.devices.specs.declared.step.Sending.{Sending}
use Rattle.devices.specs.declared.past.Past.{Past}
use Rattle.devices.specs.State.{State, Image, fresh, word_stored, line_stored, flushed, fenced, block_written, synced}
use Rattle.devices.specs.World.{sent_by}

unfoldable pub zero_line : Line
zero_line = record { words = 0 ∷ 0 ∷ 0 ∷ 0 ∷ 0 ∷ 0 ∷ 0 ∷ 0 ∷ [] }

-- a word of these lines: zero where there is none
abbrev pub word_in : List Line → ℕ → ℕ → ℕ
word_in nvm l w = slice_index (slice_index_or nvm l zero_line).words w

-- the bytes of a block: zeros where it is absent
abbrev pub page_in : BTreeMap ℕ (List ℕ) → ℕ → List ℕ
page_in ssd b = unwrap_or (get nat_cmp ssd b) zero_page

-- what images stand for
abbrev pub image_of : Images → Image
image_of i = record { nvm = λ l w. if nat_lt w 8 then word_in i.nvm.items l w else 0; ssd = page_in i.ssd }

-- what a kept call does
abbrev pub made : Step → State → State
made (StoreWord line word value) s = word_stored line word value s
made (StoreLine line value) s = line_stored line value s
made (Flush line) s = flushed line s
made Fence s = fenced s
made (WriteBlock block page) s = block_written block page.value s
made Sync s = synced s
made Send s = s

abbrev pub replay_from : State → List Entry → State
replay_from s [] = s
replay_from s (entry ∷ entries) = replay_from (made entry.step s) entries

-- the state after these calls
unfoldable pub replay : Image → List Entry → State
replay base entries = replay_from (fresh base) entries

abbrev pub standing_state : Past → State
standing_state p = replay (image_of p.base) p.entries.items

-- its line, word and block are in range
abbrev pub is_within : ℕ → ℕ → Step → Bool
is_within lines blocks (StoreWord line word value) = nat_lt line lines && nat_lt word 8
is_within lines blocks (StoreLine line value) = nat_lt line lines
is_within lines blocks (Flush line) = nat_lt line lines
is_within lines blocks Fence = true
is_within lines blocks (WriteBlock block page) = nat_lt block blocks
is_within lines blocks Sync = true
is_within lines blocks Send = true

-- each change of the output with its moment
abbrev pub changes_of : List Sending → List ℕ → List (ℕ × List ℕ)
changes_of sendings sent = map (λ s. (s.moment, take s.sent_end sent)) sendings

-- a change of the output lies in the past
abbrev pub is_past : ℕ → ℕ → Sending → Bool
is_past moments bytes s = nat_le s.moment moments && nat_le s.sent_end bytes

-- The current contents are those after the calls, each call was in range, and the last change of the output left all
-- of it.
pub record IsSound (p : Past) : Type 0 where
  pub size : length p.current.nvm.items ≡ p.lines
  pub base_size : length p.base.nvm.items ≤ p.lines
  pub base_blocks : (b : ℕ) → IsSome (get nat_cmp p.base.ssd b) → b < p.current.ssd_blocks
  pub words : (l w : ℕ) → l < p.lines → w < 8 → word_in p.current.nvm.items l w ≡ ((standing_state p).nvm l w).newest
  pub pages : (b : ℕ) → page_in p.current.ssd b ≡ ((standing_state p).ssd b).bytes
  pub within : list_all (λ e. is_within p.lines p.current.ssd_blocks e.step) p.entries.items ≡ true
  pub sendings : list_all (is_past (length p.entries.items) (length p.sent.items)) p.sendings.items ≡ true
  pub all_sent : sent_by (changes_of p.sendings.items p.sent.items) (length p.entries.items) ≡ p.sent.items

-- images with the same contents
pub record Copies (from copy : Images) : Type 0 where
  pub nvm : copy.nvm.items ≡ from.nvm.items
  pub blocks : copy.ssd_blocks ≡ from.ssd_blocks
  pub ssd : (b : ℕ) → get nat_cmp copy.ssd b ≡ get nat_cmp from.ssd b

-- both devices hold zeros
abbrev pub zero_image : Image
zero_image = record { nvm = λ l w. 0; ssd = λ b. zero_page }

-- devices of this size that hold the same as these images
pub record Begins (lines : ℕ) (base current : Images) : Type 0 where
  pub size : length current.nvm.items ≡ lines
  pub base_size : length base.nvm.items ≤ lines
  pub base_blocks : (b : ℕ) → IsSome (get nat_cmp base.ssd b) → b < current.ssd_blocks
  pub words : (l w : ℕ) → l < lines → w < 8 → word_in current.nvm.items l w ≡ word_in base.nvm.items l w
  pub pages : (b : ℕ) → page_in current.ssd b ≡ page_in base.ssd b

-- no call was made yet, over devices that hold this
pub record Starts (line_count block_count : ℕ) (image : Image) (p : Past) : Type 0 where
  pub lines : p.lines ≡ line_count
  pub blocks : p.current.ssd_blocks ≡ block_count
  pub base : image_of p.base ≡ image
  pub entries : p.entries.items ≡ []
  pub sent : p.sent.items ≡ []
  pub sendings : p.sendings.items ≡ []

-- these calls have numbers up to this one
abbrev pub are_by : ℕ → List Entry → Bool
are_by events entries = list_all (λ entry. nat_le entry.event events) entries

-- what no call changes
pub record Stands (old new : Past) : Type 0 where
  pub lines : new.lines ≡ old.lines
  pub blocks : new.current.ssd_blocks ≡ old.current.ssd_blocks
  pub base : new.base ≡ old.base

-- nothing was done
pub record Same (old new : Past) : Type 0 where
  pub stands : Stands old new
  pub entries : new.entries.items ≡ old.entries.items
  pub sent : new.sent.items ≡ old.sent.items
  pub sendings : new.sendings.items ≡ old.sendings.items

-- one call of a device was kept, with its number
pub record Kept (event : ℕ) (step : Step) (old new : Past) : Type 0 where
  pub stands : Stands old new
  pub entries : new.entries.items ≡ old.entries.items ++ record { event = event; step = step } ∷ []
  pub sent : new.sent.items ≡ old.sent.items
  pub sendings : new.sendings.items ≡ old.sendings.items

-- a write of a block was kept
pub record KeptPage (event block : ℕ) (bytes : List ℕ) (old new : Past) : Type 0 where
  pub step : Step
  pub does : (s : State) → made step s ≡ block_written block bytes s
  pub kept : Kept event step old new

-- these bytes were sent, by one call
pub record Sent (event : ℕ) (bytes : List ℕ) (old new : Past) : Type 0 where
  pub stands : Stands old new
  pub entries : new.entries.items ≡ old.entries.items ++ record { event = event; step = Send } ∷ []
  pub sent : new.sent.items ≡ old.sent.items ++ bytes
  pub sendings : new.sendings.items ≡ old.sendings.items ++ record { moment = length old.entries.items + 1; sent_end = length old.sent.items + length bytes } ∷ []
