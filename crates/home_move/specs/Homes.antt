-- What a run of writes to homes knows and keeps: where the words of each page are, and what recovery gives.
use Rattle.std.specs.Int.{bit_at}
use Rattle.std.specs.Prelude.{◌≡◌, ◌≢◌, ℕ, true, false, ◌+◌, ◌<◌, ◌≤◌, List, [], ◌∷◌, ◌++◌, Option, Some, None, IsTrue}
use Rattle.nvm_model.specs.declared.line.Line.{Line}
use Rattle.devices.specs.State.{State, current}
use Rattle.line_pages.specs.Pairs.{Pairs, no_pairs, with_pair}
use Rattle.store_model.specs.Layout.{Sizes, pages, frame_line, page_block}
use Rattle.store_model.specs.Log.{Words, Change, Group, Log, no_log, grouped, is_logged, changes}
use Rattle.store_model.specs.Format.{Format, entries, word_in}
use Rattle.store_model.specs.Recovered.{Super, super_of, entry_at, home, log_lines}
use Rattle.store_model.specs.StoreFacts.{Changing, Bookkeeping, IsWord, StoreFacts}
use Rattle.store_model.specs.Copies.{with_line}

-- The plain data of such a run: the superblock and the log, the entries of the frames that keep pages, the words of all
-- homes, the lines whose homes are known to be flushed or settled, and the words that recovery gives.
pub record Aim : Type 0 where
  pub format : Format
  pub sizes : Sizes
  pub gates : Super
  pub log : List Line
  pub entry : ℕ → ℕ
  pub words : Words
  pub known : Pairs
  pub kept : Words

-- what a store keeps then: no copy, nothing pending
abbrev pub keeping : Aim → Bookkeeping
keeping aim = record {
  format = aim.format;
  sizes = aim.sizes;
  changing = None;
  current = aim.kept;
  committed = λ n. aim.kept;
  pending = [];
  copy = λ p l. None;
}

-- At a moment of the run the facts hold, with some gate being changed or none: each image is a store that recovers to the
-- kept words. The superblock, the log and the entries of the frames that keep pages are those of the aim.
pub record Keeps (aim : Aim) (s : State) : Type 0 where
  pub changing : Option Changing
  pub facts : StoreFacts (record (keeping aim) { changing = changing }) s
  pub super_words : super_of (current s) ≡ aim.gates
  pub log : log_lines (current s) ≡ aim.log
  pub entries : (k : ℕ) → k < aim.sizes.frames → entry_at (current s) k ≡ aim.entry k

-- And the homes have the words of the aim, but for these lines.
pub record KeepsBut (but : Pairs) (aim : Aim) (s : State) : Type 0 where
  pub keeps : Keeps aim s
  pub words : (p l w : ℕ) → IsWord aim.sizes p l w → but p l ≡ false → home (current s) p l w ≡ aim.words p l w

-- this line alone
abbrev pub only_pair : ℕ → ℕ → Pairs
only_pair page line = with_pair page line no_pairs

-- the entry of the frame through which pages pass
abbrev pub entry_of : Option ℕ → ℕ
entry_of None = 0
entry_of (Some page) = page + 1

-- A fence makes the homes of these lines durable: each word is flushed where a frame has the page, and else its block is settled.
pub record AreFlushed (g : Sizes) (known : Pairs) (s : State) : Type 0 where
  pub frames : (k p l w : ℕ) → k ≤ g.frames → entry_at (current s) k ≡ p + 1 → known p l ≡ true → l < 64 → w < 8 → (s.nvm (frame_line g k l) w).kept ≡ 0
  pub blocks : (p l : ℕ) → p < pages g → known p l ≡ true → l < 64 → ((k : ℕ) → k ≤ g.frames → entry_at (current s) k ≢ p + 1) → IsTrue (s.ssd (page_block g p)).settled

-- Between two writes: the superblock and the log are those of the aim, this page is in the frame through which pages pass,
-- the homes have the words of the aim, and a fence makes those of the known lines durable.
pub record Homes (g : Sizes) (passing : Option ℕ) (aim : Aim) (s : State) : Type 0 where
  pub sizes : aim.sizes ≡ g
  pub facts : StoreFacts (keeping aim) s
  pub super_words : super_of (current s) ≡ aim.gates
  pub log : log_lines (current s) ≡ aim.log
  pub entries : (k : ℕ) → k < g.frames → entry_at (current s) k ≡ aim.entry k
  pub passes : entry_at (current s) g.frames ≡ entry_of passing
  pub words : (p l w : ℕ) → IsWord g p l w → home (current s) p l w ≡ aim.words p l w
  pub flushed : AreFlushed g aim.known s

-- the page has this frame, or none of those that keep pages
abbrev pub IsKeptIn : Sizes → ℕ → Option ℕ → Aim → Type 0
IsKeptIn g page None aim = (k : ℕ) → k < g.frames → aim.entry k ≢ page + 1
IsKeptIn g page (Some k) aim = aim.entry k ≡ page + 1

-- where the log doesn't name a word of the line, this value has the word that is there
abbrev pub IsLoggedLine : ℕ → ℕ → Line → Aim → Type 0
IsLoggedLine page line value aim = (w : ℕ) → w < 8 → is_logged (grouped no_log (entries aim.format 0 aim.log)) page line w ≡ false → word_in value w ≡ aim.words page line w

-- the line of a page can be written there
pub record CanWrite (g : Sizes) (page line : ℕ) (kept_in : Option ℕ) (value : Line) (aim : Aim) : Type 0 where
  pub place : IsKeptIn g page kept_in aim
  pub logged : IsLoggedLine page line value aim

-- one line is this one, and is flushed
abbrev pub aim_with : ℕ → ℕ → Line → Aim → Aim
aim_with page line value aim = record aim { words = with_line aim.words page line value; known = with_pair page line aim.known }

-- the words of all homes are changed so, and these lines are known besides
abbrev pub over : (Words → Words) → (Pairs → Pairs) → Aim → Aim
over change more aim = record aim { words = change aim.words; known = more aim.known }

-- the log that is replayed
abbrev pub log_in : Aim → Log
log_in aim = grouped no_log (entries aim.format 0 aim.log)

-- The log names each word of the line, so that it can be written to its home, whatever is there.
pub record CanReplay (g : Sizes) (page line : ℕ) (kept_in : Option ℕ) (aim : Aim) : Type 0 where
  pub place : IsKeptIn g page kept_in aim
  pub logged : (w : ℕ) → w < 8 → is_logged (log_in aim) page line w ≡ true

-- the record names each word of its line
pub record NamesWholeLine (change : Change) : Type 0 where
  pub each : (w : ℕ) → w < 8 → bit_at change.mask w ≡ 1

-- these lines and those of the records
abbrev pub knowing : List Change → Pairs → Pairs
knowing [] known = known
knowing (change ∷ changes) known = with_pair change.page change.line (knowing changes known)

-- all records of a log
abbrev pub records_of : List Group → List Change
records_of [] = []
records_of (group ∷ groups) = changes group.items ++ records_of groups

abbrev pub all_records : Log → List Change
all_records log = records_of log.closed ++ changes log.open_items

-- All lines that the log names are known.
abbrev pub KnowsLogged : Aim → Type 0
KnowsLogged aim = (p l w : ℕ) → IsWord aim.sizes p l w → is_logged (log_in aim) p l w ≡ true → aim.known p l ≡ true

-- What a recovery leaves: the facts hold, the log is empty, and each home is the word that recovery gave; the frame table is as it was.
pub record IsRecovered (g : Sizes) (passing : Option ℕ) (aim : Aim) (s : State) : Type 0 where
  pub facts : StoreFacts (keeping aim) s
  pub super_words : super_of (current s) ≡ record aim.gates { start = aim.gates.tail }
  pub log : log_lines (current s) ≡ []
  pub entries : (k : ℕ) → k < g.frames → entry_at (current s) k ≡ aim.entry k
  pub passes : entry_at (current s) g.frames ≡ entry_of passing
  pub homes : (p l w : ℕ) → IsWord g p l w → home (current s) p l w ≡ aim.kept p l w
