-- The copies of lines in DRAM: one that is put there, changed or dropped, and the current words with one line changed.
use Rattle.std.specs.Prelude.{◌≡◌, ◌≢◌, ℕ, true, false, [], ◌∷◌, ◌++◌, slice_index, ◌&&◌, if◌then◌else◌, ◌==◌, Option, Some, None}
use Rattle.nvm_model.specs.declared.line.Line.{Line}
use Rattle.devices.specs.State.{State, Image, Leaves, current}
use Rattle.store_model.specs.Log.{Words, Change, names}
use Rattle.store_model.specs.Format.{word_in}
use Rattle.store_model.specs.Recovered.{home}
use Rattle.store_model.specs.StoreFacts.{Bookkeeping, IsWord, is_written}

-- the copies, with this one at a line of a page
abbrev pub with_copy : (ℕ → ℕ → Option Line) → ℕ → ℕ → Option Line → ℕ → ℕ → Option Line
with_copy copy page line value p l = if (p == page) && (l == line) then value else copy p l

-- the words, with those of this line at a line of a page
abbrev pub with_line : Words → ℕ → ℕ → Line → Words
with_line words page line value p l w = if (p == page) && (l == line) then word_in value w else words p l w

-- The copy of a line can get another value: it is there, and each word in which they differ is written, in every image.
pub record CanWriteCopy (b : Bookkeeping) (s : State) (page line : ℕ) (old new : Line) : Type 0 where
  pub resident : b.copy page line ≡ Some old
  pub words : (i : Image) → Leaves s i → (w : ℕ) → IsWord b.sizes page line w → word_in new w ≢ word_in old w → is_written b i page line w ≡ true

-- the line has the words that loads or reads give of its home
abbrev pub IsLoaded : Bookkeeping → State → ℕ → ℕ → Line → Type 0
IsLoaded b s page line value = (w : ℕ) → IsWord b.sizes page line w → word_in value w ≡ home (current s) page line w

-- one line of a page more has a copy, one less, or one has another value
abbrev pub copy_loaded : Bookkeeping → ℕ → ℕ → Line → Bookkeeping
copy_loaded b page line value = record b { copy = with_copy b.copy page line (Some value) }

abbrev pub copy_dropped : Bookkeeping → ℕ → ℕ → Bookkeeping
copy_dropped b page line = record b { copy = with_copy b.copy page line None }

abbrev pub copy_written : Bookkeeping → ℕ → ℕ → Line → Bookkeeping
copy_written b page line value = record b { current = with_line b.current page line value; copy = with_copy b.copy page line (Some value) }

-- A record of a write to a line that has a copy: what it names has the old values before and the new ones after, and what it
-- doesn't name is the same in both.
pub record RecordsWrite (b : Bookkeeping) (page line : ℕ) (old new : Line) (change : Change) : Type 0 where
  pub resident : b.copy page line ≡ Some old
  pub page_is : change.page ≡ page
  pub line_is : change.line ≡ line
  pub before : (w : ℕ) → IsWord b.sizes page line w → names change page line w ≡ true → slice_index change.before.words w ≡ word_in old w
  pub after : (w : ℕ) → IsWord b.sizes page line w → names change page line w ≡ true → slice_index change.after.words w ≡ word_in new w
  pub rest : (w : ℕ) → IsWord b.sizes page line w → names change page line w ≡ false → word_in new w ≡ word_in old w

-- when the write is done: its record is pending, and the copy and the current line are the new one
abbrev pub after_write : Bookkeeping → ℕ → ℕ → Line → Change → Bookkeeping
after_write b page line new change = record b {
  pending = b.pending ++ change ∷ [];
  current = with_line b.current page line new;
  copy = with_copy b.copy page line (Some new);
}
