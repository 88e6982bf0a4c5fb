-- What the two devices hold at one moment, what each call makes of it, and what a crash leaves of it.
use Rattle.std.specs.Prelude.{◌≡◌, ◌⊎◌, ◌≢◌, ℕ, true, false, List, [], ◌∷◌, IsTrue}
use Rattle.nvm_model.specs.declared.line.Line.{Line}
use Rattle.nvm_model.specs.Word.{IsVersion, single}
use Rattle.nvm_model.specs.Memory.{Memory, with_word, with_line, with_marks, fenced_memory, newest_line}
use Rattle.ssd_model.specs.Block.{Disk, with_block, all_settled}

-- Both devices. A word is named by its line and its place in the line.
pub record State : Type 0 where
  pub nvm : Memory
  pub ssd : Disk

-- What a crash leaves, or what one can read: a value for each word and bytes for each block.
pub record Image : Type 0 where
  pub nvm : ℕ → ℕ → ℕ
  pub ssd : ℕ → List ℕ

-- what a load gives: the last version of each word
abbrev pub line_at : State → ℕ → Line
line_at s line = newest_line s.nvm line

-- what each call leaves that was not refused
abbrev pub word_stored : ℕ → ℕ → ℕ → State → State
word_stored line word value s = record s { nvm = with_word line word value s.nvm }

abbrev pub line_stored : ℕ → Line → State → State
line_stored line value s = record s { nvm = with_line line value s.nvm }

abbrev pub flushed : ℕ → State → State
flushed line s = record s { nvm = with_marks line s.nvm }

abbrev pub fenced : State → State
fenced s = record s { nvm = fenced_memory s.nvm }

abbrev pub block_written : ℕ → List ℕ → State → State
block_written block bytes s = record s { ssd = with_block block bytes s.ssd }

abbrev pub synced : State → State
synced s = record s { ssd = all_settled s.ssd }

-- Part of the way from one state to another: each word and each block is the old or the new one.
pub record Between (old new mid : State) : Type 0 where
  pub words : (l w : ℕ) → (mid.nvm l w ≡ old.nvm l w) ⊎ (mid.nvm l w ≡ new.nvm l w)
  pub blocks : (b : ℕ) → (mid.ssd b ≡ old.ssd b) ⊎ (mid.ssd b ≡ new.ssd b)

-- Part of a write of this block: it may hold any bytes, unsettled, and all else is as it was.
pub record Torn (block : ℕ) (old mid : State) : Type 0 where
  pub words : (l w : ℕ) → mid.nvm l w ≡ old.nvm l w
  pub others : (b : ℕ) → b ≢ block → mid.ssd b ≡ old.ssd b
  pub torn : (mid.ssd block ≡ old.ssd block) ⊎ ((mid.ssd block).settled ≡ false)

-- a call that changes a device
pub data Call : Type 0 where
  store_word : ℕ → ℕ → ℕ → Call
  store_line : ℕ → Line → Call
  flush : ℕ → Call
  fence : Call
  write_block : ℕ → List ℕ → Call
  sync : Call

-- what a call leaves that was not refused
abbrev pub after : Call → State → State
after (store_word line word value) s = word_stored line word value s
after (store_line line value) s = line_stored line value s
after (flush line) s = flushed line s
after fence s = fenced s
after (write_block block bytes) s = block_written block bytes s
after sync s = synced s

-- some part of the call's work was done
abbrev pub Part : Call → State → State → Type 0
Part (store_word line word value) old mid = Between old (word_stored line word value old) mid
Part (store_line line value) old mid = Between old (line_stored line value old) mid
Part (flush line) old mid = Between old (flushed line old) mid
Part fence old mid = Between old (fenced old) mid
Part (write_block block bytes) old mid = Torn block old mid
Part sync old mid = Between old (synced old) mid

-- what calls leave, one after the other
abbrev pub after_all : List Call → State → State
after_all [] s = s
after_all (call ∷ calls) s = after_all calls (after call s)

-- a state at some moment while these calls are made, one after the other
abbrev pub Amid : State → List Call → State → Type 0
Amid s [] mid = mid ≡ s
Amid s (call ∷ calls) mid = Part call s mid ⊎ Amid (after call s) calls mid

-- A crash leaves for each word one of its versions, for each settled block its current bytes, and for any other
-- block anything.
pub record Leaves (s : State) (i : Image) : Type 0 where
  pub words : (l w : ℕ) → IsVersion (s.nvm l w) (i.nvm l w)
  pub blocks : (b : ℕ) → IsTrue (s.ssd b).settled → i.ssd b ≡ (s.ssd b).bytes

-- the devices with the contents of an image: one version per word and every block settled
abbrev pub fresh : Image → State
fresh i = record { nvm = λ l w. single (i.nvm l w); ssd = λ b. record { bytes = i.ssd b; settled = true } }

-- the image of the last versions and the current bytes, which loads and reads give
abbrev pub current : State → Image
current s = record { nvm = λ l w. (s.nvm l w).newest; ssd = λ b. (s.ssd b).bytes }
