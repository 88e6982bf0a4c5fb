-- What a store keeps in memory, and what holds of it and of the devices between two calls.
use Rattle.std.specs.Prelude.{◌≡◌, ◌⊎◌, ℕ, ◌+◌, ◌*◌, ◌<◌, ◌≤◌, Bool, true, false, List, ◌∷◌, [], length, slice_index, slice_index_or, None}
use Rattle.nvm_model.specs.declared.line.Line.{Line}
use Rattle.devices.specs.State.{State}
use Rattle.store_model.specs.Layout.{Sizes, pages, ring_blocks, floor64}
use Rattle.store_model.specs.Log.{Words, Change, names}
use Rattle.store_model.specs.Log.Item.{write}
use Rattle.store_model.specs.Log.Entry.{item}
use Rattle.store_model.specs.Format.{Format, magic, entries, log_check, word_in, zero_line}
use Rattle.store_model.specs.Blocks.{AreCopied}
use Rattle.store_model.specs.Put.{IsLine}
use Rattle.store_model.specs.Copies.{with_line}
use Rattle.store_model.specs.StoreFacts.{IsWord}
use Rattle.nvm_log.specs.Offsets.{Offsets}
use Rattle.tier_facts.specs.Data.{Data, SameData, put_in, with_mark}
use Rattle.tier_facts.specs.Facts.{Aim, Keeps, Facts, Settled}
use Rattle.transaction_facts.specs.Records.{Records, Waiting, KeepsEither}

pub record BookData : Type 0 where
  pub format : Format
  pub tiers : Data
  -- where the log begins, from where on it stands in NVM, where it ends, and where what is stored behind its tail ends
  pub log : Offsets
  -- the lines of pages that a record names
  pub loose : ℕ → ℕ → Bool

-- What the layers above know of a store: its format and sizes, the current and the committed words.
pub record Goal : Type 0 where
  pub format : Format
  pub sizes : Sizes
  pub words : Words
  pub kept : Words

-- with these lines in the log, these behind its tail, and these records in them
abbrev pub aim_of : BookData → Goal → List Line → List Line → List Change → Aim
aim_of b goal lines behind pending = record {
  format = goal.format;
  super = record { magic_word = magic goal.format; sizes = goal.sizes; start = b.log.start; drained = b.log.drained; tail = b.log.tail };
  log = lines;
  behind = behind;
  pending = pending;
  loose = b.loose;
  words = goal.words;
  kept = goal.kept;
}

-- What holds of a store between two calls.
pub record Holds (b : BookData) (goal : Goal) (s : State) : Type 0 where
  pub format_same : b.format ≡ goal.format
  pub lines : List Line
  pub behind : List Line
  pub pending : List Change
  pub facts : Facts b.tiers (aim_of b goal lines behind pending) s
  pub records : Records (aim_of b goal lines behind pending)
  pub count : b.log.tail + length behind ≡ b.log.written

-- What holds while an abort takes back the lines of its records: all but what a commit would give.
pub record HoldsTaking (b : BookData) (goal : Goal) (s : State) : Type 0 where
  pub format_same : b.format ≡ goal.format
  pub lines : List Line
  pub behind : List Line
  pub pending : List Change
  pub facts : Facts b.tiers (aim_of b goal lines behind pending) s
  pub waiting : Waiting (aim_of b goal lines behind pending)
  pub count : b.log.tail + length behind ≡ b.log.written

-- What holds at each moment of a call: the facts of a store with these committed words; while a commit goes on, with the
-- old ones or the new ones.
abbrev pub HeldGoal : Goal → State → Type 0
HeldGoal goal s = Keeps goal.format goal.sizes goal.kept s

abbrev pub HeldEnd : Goal → State → Type 0
HeldEnd goal s = KeepsEither goal.format goal.sizes goal.kept goal.words s

-- one current line is another
abbrev pub goal_with : ℕ → ℕ → Line → Goal → Goal
goal_with page line value goal = record goal { words = with_line goal.words page line value }

-- the current words are committed
abbrev pub goal_committed : Goal → Goal
goal_committed goal = record goal { kept = goal.words }

abbrev pub HoldsWith : ℕ → ℕ → Line → BookData → Goal → State → Type 0
HoldsWith page line value b goal s = Holds b (goal_with page line value goal) s

abbrev pub HoldsCommitted : BookData → Goal → State → Type 0
HoldsCommitted b goal s = Holds b (goal_committed goal) s

-- the current words are the committed ones: no write waits for a commit
pub record IsClosed (goal : Goal) : Type 0 where
  pub same : (p l w : ℕ) → IsWord goal.sizes p l w → goal.words p l w ≡ goal.kept p l w

-- What holds where besides every home is durable and current, and no write waits for a commit: the log can be emptied.
pub record HoldsSettled (b : BookData) (goal : Goal) (s : State) : Type 0 where
  pub holds : Holds b goal s
  pub settled : Settled b.tiers (aim_of b goal holds.lines holds.behind holds.pending) s
  pub closed : IsClosed goal

-- What holds where the record of a write stands behind the tail and the line is yet to be written: the log is for the new words.
pub record HoldsRecorded (page line : ℕ) (value : Line) (b : BookData) (goal : Goal) (s : State) : Type 0 where
  pub format_same : b.format ≡ goal.format
  pub lines : List Line
  pub behind : List Line
  pub pending : List Change
  pub loose : b.loose page line ≡ true
  pub facts : Facts b.tiers (aim_of b goal lines behind pending) s
  pub records : Records (aim_of b (goal_with page line value goal) lines behind pending)
  pub count : b.log.tail + length behind ≡ b.log.written

-- ---- what the calls change

-- a record of so many lines was stored for a line, which is loose from then on
abbrev pub noted : ℕ → ℕ → ℕ → BookData → BookData
noted page line n b = record b { log = record b.log { written = b.log.written + n }; loose = with_mark page line true b.loose }

-- a line was written: its record of so many lines, its mark and its copy
abbrev pub wrote : ℕ → ℕ → Line → ℕ → BookData → BookData
wrote page line value n b = record b {
  tiers = put_in page line value b.tiers;
  log = record b.log { written = b.log.written + n };
  loose = with_mark page line true b.loose;
}

-- a line of a copy got a value again, with no record
abbrev pub took_back : ℕ → ℕ → Line → BookData → BookData
took_back page line value b = record b { tiers = put_in page line value b.tiers }

-- all that was stored is part of the log; and an end of one line
abbrev pub all_hard : BookData → BookData
all_hard b = record b { log = record b.log { tail = b.log.written } }

abbrev pub all_ended : BookData → BookData
all_ended b = record b { log = record b.log { tail = b.log.written + 1; written = b.log.written + 1 } }

-- so many blocks of the log more stand on the SSD
abbrev pub all_drained : ℕ → BookData → BookData
all_drained n b = record b { log = record b.log { drained = b.log.drained + 64 * n } }

-- the log is empty, and no line is loose
abbrev pub all_emptied : BookData → BookData
all_emptied b = record b { log = record b.log { start = b.log.tail }; loose = λ p l. false }

-- books that say the same
pub record SameBook (b c : BookData) : Type 0 where
  pub format : c.format ≡ b.format
  pub tiers : SameData b.tiers c.tiers
  pub log : c.log ≡ b.log
  pub loose : (p l : ℕ) → p < pages b.tiers.sizes → l < 64 → c.loose p l ≡ b.loose p l

-- ---- what the steps ask

-- A record of a write to a line: what it names has the old values before and the new ones after, what it doesn't name stays, and
-- the line is loose already where it doesn't name all. Its lines hold it, and pass their checks.
pub record Writes (b : BookData) (page line : ℕ) (old new : Line) (change : Change) (lines : List Line) : Type 0 where
  pub in_store : page < pages b.tiers.sizes
  pub in_page : line < 64
  pub page_is : change.page ≡ page
  pub line_is : change.line ≡ line
  pub before : (w : ℕ) → w < 8 → names change page line w ≡ true → slice_index change.before.words w ≡ word_in old w
  pub after : (w : ℕ) → w < 8 → names change page line w ≡ true → slice_index change.after.words w ≡ word_in new w
  pub rest : (w : ℕ) → w < 8 → names change page line w ≡ false → word_in new w ≡ word_in old w
  pub covers : (w : ℕ) → w < 8 → (names change page line w ≡ true) ⊎ (b.loose page line ≡ true)
  pub are_lines : (k : ℕ) → k < length lines → IsLine (slice_index_or lines k zero_line)
  pub passes : (at : ℕ) → log_check b.format b.tiers.sizes at 0 lines ≡ None
  pub holds : entries b.format 0 lines ≡ item (write change) ∷ []

-- The blocks are those of the log from `drained` on, and have free places in the ring on the SSD.
pub record Drains (b : BookData) (blocks : List (List ℕ)) : Type 0 where
  pub lines : b.log.drained + 64 * length blocks ≤ b.log.tail
  pub room : b.log.drained + 64 * length blocks ≤ floor64 b.log.start + 64 * ring_blocks b.tiers.sizes
  pub few : length blocks ≤ ring_blocks b.tiers.sizes

abbrev pub CopiesRing : BookData → List (List ℕ) → State → Type 0
CopiesRing b blocks s = AreCopied b.tiers.sizes b.log.drained blocks s
