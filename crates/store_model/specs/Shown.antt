-- What loads and reads give after a step, and that they give the current words.
use Rattle.std.specs.Prelude.{◌≡◌, ◌≢◌, ℕ, ◌+◌, ◌<◌, ◌≤◌, List, ◌++◌, Some, None, IsTrue}
use Rattle.nvm_model.specs.declared.line.Line.{Line}
use Rattle.devices.specs.State.{State, current}
use Rattle.store_model.specs.Layout.{Sizes, pages, frame_line, page_block}
use Rattle.store_model.specs.Format.{word_in}
use Rattle.store_model.specs.Recovered.{Super, super_of, entry_at, home, log_lines}
use Rattle.store_model.specs.StoreFacts.{Bookkeeping, IsWord}

-- One frame has got this entry, and with it the page these words; the log, the other entries and the other pages are as
-- they were.
pub record Placed (g : Sizes) (old new : State) (k entry page : ℕ) (words : ℕ → ℕ → ℕ) : Type 0 where
  pub super_words : super_of (current new) ≡ super_of (current old)
  pub log : log_lines (current new) ≡ log_lines (current old)
  pub here : entry_at (current new) k ≡ entry
  pub others : (n : ℕ) → n ≤ g.frames → n ≢ k → entry_at (current new) n ≡ entry_at (current old) n
  pub page_words : (l w : ℕ) → IsWord g page l w → home (current new) page l w ≡ words l w
  pub other_pages : (p l w : ℕ) → p ≢ page → IsWord g p l w → home (current new) p l w ≡ home (current old) p l w

-- The superblock is this one, and the log has these lines more; the entries and the pages are as they were.
pub record Lengthened (g : Sizes) (old new : State) (super_words : Super) (lines : List Line) : Type 0 where
  pub super_is : super_of (current new) ≡ super_words
  pub log : log_lines (current new) ≡ log_lines (current old) ++ lines
  pub entries : (n : ℕ) → n ≤ g.frames → entry_at (current new) n ≡ entry_at (current old) n
  pub all_pages : (p l w : ℕ) → IsWord g p l w → home (current new) p l w ≡ home (current old) p l w

-- The copies, and the homes of what has no copy, are the current words.
pub record ShowsCurrent (b : Bookkeeping) (s : State) : Type 0 where
  pub copies : (p l w : ℕ) (line : Line) → IsWord b.sizes p l w → b.copy p l ≡ Some line → word_in line w ≡ b.current p l w
  pub homes : (p l w : ℕ) → IsWord b.sizes p l w → b.copy p l ≡ None → home (current s) p l w ≡ b.current p l w

-- Each word of a frame that has a page is flushed, and each home block of a page that has no frame is settled: so a fence
-- makes all homes durable.
pub record HomesFlushed (b : Bookkeeping) (s : State) : Type 0 where
  pub frames : (k l w : ℕ) → k ≤ b.sizes.frames → entry_at (current s) k ≢ 0 → l < 64 → w < 8 → (s.nvm (frame_line b.sizes k l) w).kept ≡ 0
  pub blocks : (p : ℕ) → p < pages b.sizes → ((k : ℕ) → k ≤ b.sizes.frames → entry_at (current s) k ≢ p + 1) → IsTrue (s.ssd (page_block b.sizes p)).settled
