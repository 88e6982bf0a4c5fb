-- What an install, a release and a store in place make of the devices, and that they keep what a store keeps.
use Rattle.std.specs.Prelude.{◌≡◌, ◌≢◌, ◌⊎◌, ℕ, ◌+◌, ◌<◌, ◌≤◌, Bool, true, false, List, [], Option, Some, None, IsTrue, Result, OnOk}
use Rattle.nvm_model.specs.declared.line.Line.{Line}
use Rattle.devices.specs.State.{State, Image, Leaves, Call, current}
use Rattle.devices.specs.World.{Standing, Moments, now}
use Rattle.line_pages.specs.declared.stop.Stop.{Stop}
use Rattle.device_calls.specs.Leads.{Made}
use Rattle.store_model.specs.Layout.{Sizes, page_block}
use Rattle.store_model.specs.Recovered.{super_of, entry_at, home, log_lines, block_word}
use Rattle.store_model.specs.Log.{Words}
use Rattle.store_model.specs.Format.{word_in}
use Rattle.store_model.specs.StoreFacts.{Gate, Bookkeeping, IsWord, is_written, StoreFacts}
use Rattle.store_model.specs.Install.{entry_calls, release_calls, CanInstall, CanStore}
use Rattle.store_model.specs.Seen.{CanClear, changing_to}
use Rattle.store_model.specs.Shown.{Placed}
use Rattle.store_model.specs.Append.{RecoversTo}
use Rattle.home_move.specs.Frames.{page_lines, HoldsFrame}

-- A release clears the entry of the frame. With a write the bytes of the frame go to the home block first, and are settled;
-- where they could not be loaded nothing is made.
abbrev pub release_makes : Sizes → ℕ → ℕ → Bool → Option (List ℕ) → List Call
release_makes g k page false loaded = entry_calls k 0
release_makes g k page true None = []
release_makes g k page true (Some bytes) = release_calls g k page bytes

pub record Releases {T : Type 0} (g : Sizes) (k page : ℕ) (write : Bool) (old new : Standing) (result : Result T Stop) : Type 0 where
  pub loaded : Option (List ℕ)
  pub made : Made (release_makes g k page write loaded) old new result
  pub holds : IsTrue old.told → (bytes : List ℕ) → loaded ≡ Some bytes → HoldsFrame g k bytes (now old)
  pub whole : OnOk result (IsTrue write → loaded ≢ None)

-- Loads and reads give what they gave of the superblock, the log, the frame table and all homes.
pub record ShowsSame (g : Sizes) (old new : State) : Type 0 where
  pub super_words : super_of (current new) ≡ super_of (current old)
  pub log : log_lines (current new) ≡ log_lines (current old)
  pub entries : (n : ℕ) → n ≤ g.frames → entry_at (current new) n ≡ entry_at (current old) n
  pub homes : (p l w : ℕ) → IsWord g p l w → home (current new) p l w ≡ home (current old) p l w

-- At each moment of a call the facts hold with the entry of a frame being changed, and each image recovers to the words that
-- the images before it recover to; all is shown as before, or the frame has the new entry, the page these words, and all else
-- is as it was. Where it answers ok the facts hold with no gate being changed, and the latter is so.
pub record KeepsPlaced {T : Type 0} (b : Bookkeeping) (k was is page : ℕ) (words : ℕ → ℕ → ℕ) (old new : Standing) (result : Result T Stop) : Type 0 where
  pub moments : Moments old new (StoreFacts (changing_to b (Gate.frame k) was is b.committed))
  pub recovers : (before : Words) → RecoversTo b.format (now old) before → Moments old new (λ s. RecoversTo b.format s before)
  pub shown : Moments old new (λ s. ShowsSame b.sizes (now old) s ⊎ Placed b.sizes (now old) s k is page words)
  pub facts : OnOk result (StoreFacts b (now new))
  pub placed : OnOk result (Placed b.sizes (now old) (now new) k is page words)

-- So an install keeps, whatever the store keeps, where it can be made.
abbrev pub InstallKeeps : {T : Type 0} → Sizes → ℕ → ℕ → List ℕ → Standing → Standing → Result T Stop → Type 0
InstallKeeps g k page bytes old new result =
    IsTrue old.told → (b : Bookkeeping) → b.sizes ≡ g → StoreFacts b (now old) → b.changing ≡ None → CanInstall b.format (now old) k page (page_lines bytes)
    → KeepsPlaced b k 0 (page + 1) page (block_word bytes) old new result

-- So a release keeps with a write, where the frame has the page: the page has the words that it had.
abbrev pub ReleaseKeeps : {T : Type 0} → Sizes → ℕ → ℕ → Standing → Standing → Result T Stop → Type 0
ReleaseKeeps g k page old new result =
    IsTrue old.told → (b : Bookkeeping) → b.sizes ≡ g → StoreFacts b (now old) → b.changing ≡ None → entry_at (current (now old)) k ≡ page + 1
    → KeepsPlaced b k (page + 1) 0 page (home (current (now old)) page) old new result

-- And without one, where the home block is settled and is the home of the page outside of what the log names.
abbrev pub ClearKeeps : {T : Type 0} → Sizes → ℕ → ℕ → Standing → Standing → Result T Stop → Type 0
ClearKeeps g k page old new result =
    IsTrue old.told → (b : Bookkeeping) → b.sizes ≡ g → StoreFacts b (now old) → b.changing ≡ None → CanClear b (now old) k page
    → KeepsPlaced b k (page + 1) 0 page (block_word ((now old).ssd (page_block g page)).bytes) old new result

-- The superblock, the log, the frame table and every line but this one are as they were.
pub record LineStays (g : Sizes) (old new : State) (page line : ℕ) : Type 0 where
  pub super_words : super_of (current new) ≡ super_of (current old)
  pub log : log_lines (current new) ≡ log_lines (current old)
  pub entries : (n : ℕ) → n ≤ g.frames → entry_at (current new) n ≡ entry_at (current old) n
  pub others : (p l w : ℕ) → (p ≢ page) ⊎ (l ≢ line) → IsWord g p l w → home (current new) p l w ≡ home (current old) p l w

-- So they are, and this line of a page is this one.
pub record LinePlaced (g : Sizes) (old new : State) (page line : ℕ) (value : Line) : Type 0 where
  pub super_words : super_of (current new) ≡ super_of (current old)
  pub log : log_lines (current new) ≡ log_lines (current old)
  pub entries : (n : ℕ) → n ≤ g.frames → entry_at (current new) n ≡ entry_at (current old) n
  pub here : (w : ℕ) → w < 8 → home (current new) page line w ≡ word_in value w
  pub others : (p l w : ℕ) → (p ≢ page) ⊎ (l ≢ line) → IsWord g p l w → home (current new) p l w ≡ home (current old) p l w

-- these words are the current ones wherever nothing was written
abbrev pub AgreesUnwritten : Bookkeeping → State → Words → Type 0
AgreesUnwritten b s words = (i : Image) → Leaves s i → (p l w : ℕ) → IsWord b.sizes p l w → is_written b i p l w ≡ false → b.current p l w ≡ words p l w

-- At each moment of a store in place the facts hold, with any current words that agree where nothing was written, each image
-- recovers to what those before it recover to, and all but the line is as it was; where it answers ok the line is this one.
pub record KeepsLine {T : Type 0} (b : Bookkeeping) (page line : ℕ) (value : Line) (old new : Standing) (result : Result T Stop) : Type 0 where
  pub moments : (words : Words) → AgreesUnwritten b (now old) words → Moments old new (StoreFacts (record b { current = words }))
  pub recovers : (before : Words) → RecoversTo b.format (now old) before → Moments old new (λ s. RecoversTo b.format s before)
  pub stays : Moments old new (λ s. LineStays b.sizes (now old) s page line)
  pub placed : OnOk result (LinePlaced b.sizes (now old) (now new) page line value)

-- So a store in place keeps, where it can be made.
abbrev pub StoreKeeps : {T : Type 0} → Sizes → ℕ → ℕ → ℕ → Line → Standing → Standing → Result T Stop → Type 0
StoreKeeps g k page line value old new result =
    IsTrue old.told → (b : Bookkeeping) → b.sizes ≡ g → StoreFacts b (now old) → b.changing ≡ None → CanStore b.format (now old) k page line value
    → KeepsLine b page line value old new result
