-- What holds of the devices and the tiers between two calls.
use Rattle.std.specs.Prelude.{◌≡◌, ℕ, ◌+◌, ◌<◌, ◌≤◌, Bool, true, false, IsTrue, List, [], length, slice_index_or, Some, None, ◌||◌}
use Rattle.nvm_model.specs.declared.line.Line.{Line}
use Rattle.nvm_model.specs.Word.{IsSingle}
use Rattle.devices.specs.State.{State, Image, Leaves, current}
use Rattle.store_model.specs.Layout.{Sizes, pages, ring_line, frame_line, page_block}
use Rattle.store_model.specs.Log.{Words, Change, Log, no_log, grouped, is_logged, named_in}
use Rattle.store_model.specs.Format.{Format, entries, word_in, zero_line}
use Rattle.store_model.specs.Recovered.{home, Super, super_of, entry_at, log_lines, block_word}
use Rattle.store_model.specs.StoreFacts.{Bookkeeping, IsWord, StoreFacts}
use Rattle.store_model.specs.Copies.{with_line}
use Rattle.store_model.specs.Put.{IsFlushed}
use Rattle.device_calls.specs.Leads.{Given}
use Rattle.tier_facts.specs.Data.{Data, entry_of, home_of, current_in}

-- What stays the same over a call of the tiers: the format, the superblock and the lines of the log, the lines that stand
-- flushed behind its tail and the records in them, the lines of pages that may be dirty, the current and the committed words.
pub record Aim : Type 0 where
  pub format : Format
  pub super : Super
  pub log : List Line
  pub behind : List Line
  pub pending : List Change
  pub loose : ℕ → ℕ → Bool
  pub words : Words
  pub kept : Words

abbrev pub aim_sizes : Aim → Sizes
aim_sizes aim = aim.super.sizes

-- the log that its lines are
abbrev pub log_in : Aim → Log
log_in aim = grouped no_log (entries aim.format 0 aim.log)

-- the log names the word, or a record behind its tail does
abbrev pub is_recorded : Aim → ℕ → ℕ → ℕ → Bool
is_recorded aim p l w = is_logged (log_in aim) p l w || named_in aim.pending p l w

-- no record waits behind the tail
pub record IsHardened (aim : Aim) : Type 0 where
  pub none : aim.pending ≡ []

-- what the facts of a store say of the aim and of these copies
abbrev pub keeping : Data → Aim → Bookkeeping
keeping t aim = record {
  format = aim.format;
  sizes = aim_sizes aim;
  changing = None;
  current = aim.words;
  committed = λ n. aim.kept;
  pending = aim.pending;
  copy = t.copy;
}

-- The facts of a store hold whose committed words are these; a gate may be changing.
pub record Keeps (format : Format) (g : Sizes) (kept : Words) (s : State) : Type 0 where
  pub keeps : Bookkeeping
  pub format_is : keeps.format ≡ format
  pub sizes : keeps.sizes ≡ g
  pub committed : keeps.committed ≡ (λ n. kept)
  pub facts : StoreFacts keeps s

-- what holds at each moment of a call
abbrev pub Held : Aim → State → Type 0
Held aim s = Keeps aim.format (aim_sizes aim) aim.kept s

-- The page's home block has, settled, what its frame holds.
pub record IsWritten (g : Sizes) (page frame : ℕ) (s : State) : Type 0 where
  pub settled : IsTrue (s.ssd (page_block g page)).settled
  pub words : (l w : ℕ) → l < 64 → w < 8 → block_word (s.ssd (page_block g page)).bytes l w ≡ (s.nvm (frame_line g frame l) w).newest

-- the line at this offset behind the tail stands flushed
abbrev pub Waits : Aim → State → Type 0
Waits aim s = (n w : ℕ) → n < length aim.behind → w < 8
    → IsFlushed (s.nvm (ring_line (aim_sizes aim) (aim.super.tail + n)) w) (word_in (slice_index_or aim.behind n zero_line) w)

-- What holds between two calls.
pub record Facts (t : Data) (aim : Aim) (s : State) : Type 0 where
  pub super_words : super_of (current s) ≡ aim.super
  pub log_same : log_lines (current s) ≡ aim.log
  pub sizes_same : t.sizes ≡ aim_sizes aim
  pub facts : StoreFacts (keeping t aim) s
  -- the table of the device names the pages of the frames, and both ways of the placement agree
  pub entries_same : (k : ℕ) → k ≤ (aim_sizes aim).frames → entry_at (current s) k ≡ entry_of (t.owner k)
  pub owned : (k p : ℕ) → t.owner k ≡ Some p → p < pages (aim_sizes aim)
  pub framed : (p k : ℕ) → t.frame p ≡ Some k → k ≤ (aim_sizes aim).frames
  pub owner : (p k : ℕ) → t.frame p ≡ Some k → t.owner k ≡ Some p
  pub frame : (k p : ℕ) → t.owner k ≡ Some p → t.frame p ≡ Some k
  -- the current words
  pub words : (p l w : ℕ) → IsWord (aim_sizes aim) p l w → current_in (aim_sizes aim) t (current s) p l w ≡ aim.words p l w
  -- a dirty line is loose, and each word of a loose line is one that a record names
  pub loose : (p l : ℕ) → p < pages (aim_sizes aim) → l < 64 → t.dirty p l ≡ true → aim.loose p l ≡ true
  pub recorded : (p l w : ℕ) → IsWord (aim_sizes aim) p l w → aim.loose p l ≡ true → is_recorded aim p l w ≡ true
  -- a line of a copy that is not dirty is its home
  pub clean : (p l w : ℕ) (line : Line) → IsWord (aim_sizes aim) p l w → t.copy p l ≡ Some line → t.dirty p l ≡ false
      → word_in line w ≡ home_of (aim_sizes aim) t (current s) p l w
  -- the lines of frames that have a page are flushed, and the blocks of pages that stand in no frame are settled
  pub flushed : (k p l w : ℕ) → t.owner k ≡ Some p → l < 64 → w < 8 → (s.nvm (frame_line (aim_sizes aim) k l) w).kept ≡ 0
  pub settled : (p : ℕ) → p < pages (aim_sizes aim) → t.frame p ≡ None → IsTrue (s.ssd (page_block (aim_sizes aim) p)).settled
  -- a frame that is not worn is as its block
  pub unworn : (k p : ℕ) → t.owner k ≡ Some p → t.worn k ≡ false → IsWritten (aim_sizes aim) p k s
  -- the lines behind the tail stand flushed
  pub waits : Waits aim s

-- What holds where no record waits: what a call asks for that stores dirty lines.
abbrev pub Hard : Data → Aim → State → Type 0
Hard t = Given IsHardened (Facts t)

-- ---- what the steps ask

-- the page stands in the frame
pub record InFrame (t : Data) (page k : ℕ) : Type 0 where
  pub in_store : page < pages t.sizes
  pub placed : t.frame page ≡ Some k

-- the page stands in no frame, and the frame is empty
pub record MayInstall (t : Data) (page k : ℕ) : Type 0 where
  pub in_store : page < pages t.sizes
  pub in_table : k ≤ t.sizes.frames
  pub homeless : t.frame page ≡ None
  pub empty : t.owner k ≡ None

-- no line of the page is dirty, and no line of any page is
pub record IsClean (t : Data) (page : ℕ) : Type 0 where
  pub lines : (l : ℕ) → l < 64 → t.dirty page l ≡ false

pub record AreClean (t : Data) : Type 0 where
  pub lines : (p l : ℕ) → p < pages t.sizes → l < 64 → t.dirty p l ≡ false

-- the lines are the page's current ones
pub record AreCurrent (t : Data) (i : Image) (page : ℕ) (lines : List Line) : Type 0 where
  pub whole : length lines ≡ 64
  pub words : (l w : ℕ) → l < 64 → w < 8 → word_in (slice_index_or lines l zero_line) w ≡ current_in t.sizes t i page l w

-- the bytes are what the frame reads
pub record HoldsFrame (g : Sizes) (k : ℕ) (s : State) (bytes : List ℕ) : Type 0 where
  pub words : (l w : ℕ) → l < 64 → w < 8 → block_word bytes l w ≡ (s.nvm (frame_line g k l) w).newest

-- ---- a line that is written

abbrev pub aim_with : ℕ → ℕ → Line → Aim → Aim
aim_with page line value aim = record aim { words = with_line aim.words page line value }

-- the line is loose
pub record IsLoose (page line : ℕ) (aim : Aim) : Type 0 where
  pub loose : aim.loose page line ≡ true

-- the facts hold of the aim with this line
abbrev pub FactsWith : ℕ → ℕ → Line → Data → Aim → State → Type 0
FactsWith page line value t aim s = Facts t (aim_with page line value aim) s

-- ---- a log that may be emptied

-- Every home is durable and has the current word.
pub record Settled (t : Data) (aim : Aim) (s : State) : Type 0 where
  pub hard : IsHardened aim
  pub facts : Facts t aim s
  pub homes : (i : Image) → Leaves s i → (p l w : ℕ) → IsWord (aim_sizes aim) p l w → home i p l w ≡ aim.words p l w
  pub durable : (k p l w : ℕ) → t.owner k ≡ Some p → l < 64 → w < 8 → IsSingle (s.nvm (frame_line (aim_sizes aim) k l) w)
