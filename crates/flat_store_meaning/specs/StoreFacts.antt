-- What holds of the devices at each moment while a store is open.
use Rattle.std.specs.Prelude.{◌≡◌, ◌≢◌, ◌⊎◌, ℕ, ◌<◌, ◌≤◌, Bool, true, false, ◌||◌, List, if◌then◌else◌, ◌==◌, Option, Some, None}
use Rattle.nvm_model.specs.declared.line.Line.{Line}
use Rattle.devices.specs.State.{State, Image, Leaves}
use Rattle.nvm_model.specs.Word.{IsVersion, IsSingle}
use Rattle.flat_store_meaning.specs.Layout.{Sizes, pages}
use Rattle.flat_store_meaning.specs.Log.{Words, Change, is_logged, named_in, extended}
use Rattle.flat_store_meaning.specs.Log.Entry.{commit}
use Rattle.flat_store_meaning.specs.Format.{Format, word_in}
use Rattle.flat_store_meaning.specs.Recovered.{super_of, home, log_of, replay, IsStore}
use Rattle.flat_store_meaning.specs.InOrder.{LineStands, HomeStands}

-- a gate: one word that is changed alone, and made durable before another one changes
pub data Gate : Type 0 where
  magic start drained tail : Gate

abbrev pub gate_line : Gate → ℕ
gate_line magic = 0
gate_line start = 1
gate_line drained = 2
gate_line tail = 3

abbrev pub gate_word : Gate → ℕ
gate_word magic = 0
gate_word start = 0
gate_word drained = 0
gate_word tail = 0

-- A gate that is being changed, its old value and its new one.
pub record Changing : Type 0 where
  pub gate : Gate
  pub old : ℕ
  pub new : ℕ

-- What a store knows beside the devices: its format and sizes, the gate that is being changed, the current words, the
-- committed words in an image with a given tail (the same for each tail, but while the end of a commit is written), the
-- records that are stored behind the tail, and the resident lines of the copies in DRAM.
pub record Bookkeeping : Type 0 where
  pub format : Format
  pub sizes : Sizes
  pub changing : Option Changing
  pub current : Words
  pub committed : ℕ → Words
  pub pending : List Change
  pub copy : ℕ → ℕ → Option Line

-- the word is one of the store's
pub record IsWord (g : Sizes) (p l w : ℕ) : Type 0 where
  pub page : p < pages g
  pub line : l < 64
  pub word : w < 8

-- the log of the image names the word, or a record behind its tail does
abbrev pub is_written : Bookkeeping → Image → ℕ → ℕ → ℕ → Bool
is_written b i p l w = is_logged (log_of b.format i) p l w || named_in b.pending p l w

-- 1. Each gate has one version, but for the one that is being changed, which has its old and its new one. So have the
-- sizes.
pub record GatesAreOne (b : Bookkeeping) (s : State) : Type 0 where
  pub sizes : (w : ℕ) → 0 < w → w < 6 → IsSingle (s.nvm 0 w)
  pub others : (gate : Gate) → ((change : Changing) → b.changing ≡ Some change → gate ≢ change.gate) → IsSingle (s.nvm (gate_line gate) (gate_word gate))
  pub changing : (change : Changing) → b.changing ≡ Some change → (v : ℕ) → IsVersion (s.nvm (gate_line change.gate) (gate_word change.gate)) v
      → (v ≡ change.old) ⊎ (v ≡ change.new)

-- 2. What the gates name, in any image, is durable: the log lines, and each home outside of what the log names.
pub record NamedIsDurable (b : Bookkeeping) (s : State) (i : Image) : Type 0 where
  pub log : (offset : ℕ) → (super_of i).start ≤ offset → offset < (super_of i).tail → LineStands (super_of i) s offset
  pub homes : (p l w : ℕ) → IsWord b.sizes p l w → is_logged (log_of b.format i) p l w ≡ false
      → HomeStands b.sizes s p l w

-- 3. Outside of what was written the home is the current and the committed word.
pub record HomesAreRight (b : Bookkeeping) (i : Image) : Type 0 where
  pub current : (p l w : ℕ) → IsWord b.sizes p l w → is_written b i p l w ≡ false → home i p l w ≡ b.current p l w
  pub committed : (p l w : ℕ) → IsWord b.sizes p l w → is_written b i p l w ≡ false → home i p l w ≡ b.committed (super_of i).tail p l w

-- 4. Replay gives the committed word to each word that the log names, whatever its home holds, and a word that only a
-- record behind the tail names has it as its home.
pub record LogIsRight (b : Bookkeeping) (i : Image) : Type 0 where
  pub logged : (p l w : ℕ) → IsWord b.sizes p l w → is_logged (log_of b.format i) p l w ≡ true
      → (homes : Words) → replay b.format (log_of b.format i) homes p l w ≡ b.committed (super_of i).tail p l w
  pub pending : (p l w : ℕ) → IsWord b.sizes p l w → is_logged (log_of b.format i) p l w ≡ false → named_in b.pending p l w ≡ true
      → home i p l w ≡ b.committed (super_of i).tail p l w

-- 5. Where nothing was written a copy in DRAM is the home.
abbrev pub CopiesAreRight : Bookkeeping → Image → Type 0
CopiesAreRight b i = (p l w : ℕ) (line : Line) → IsWord b.sizes p l w → b.copy p l ≡ Some line → is_written b i p l w ≡ false
    → word_in line w ≡ home i p l w

-- What holds at each moment: the five facts, and that every image is a store.
pub record StoreFacts (b : Bookkeeping) (s : State) : Type 0 where
  pub gates : GatesAreOne b s
  pub sizes : (i : Image) → Leaves s i → (super_of i).sizes ≡ b.sizes
  pub durable : (i : Image) → Leaves s i → NamedIsDurable b s i
  pub homes : (i : Image) → Leaves s i → HomesAreRight b i
  pub log : (i : Image) → Leaves s i → LogIsRight b i
  pub copies : (i : Image) → Leaves s i → CopiesAreRight b i
  pub stores : (i : Image) → Leaves s i → IsStore b.format i

-- 6. With a commit last the log gives the current words to all that it names. It holds between two steps, and not while a
-- record stands whose line was not stored yet.
abbrev pub EndsRight : Bookkeeping → State → Type 0
EndsRight b s = (i : Image) → Leaves s i → (p l w : ℕ) → IsWord b.sizes p l w → is_logged (extended (log_of b.format i) commit) p l w ≡ true
    → (homes : Words) → replay b.format (extended (log_of b.format i) commit) homes p l w ≡ b.current p l w

-- Between two steps no gate is being changed, and the log would end right.
pub record SteadyFacts (b : Bookkeeping) (s : State) : Type 0 where
  pub facts : StoreFacts b s
  pub still : b.changing ≡ None
  pub ends : EndsRight b s

-- the tail changes, and with it what is committed
abbrev pub moving : Bookkeeping → ℕ → ℕ → (ℕ → Words) → Bookkeeping
moving b old new committed = record b { changing = Some (record { gate = tail; old = old; new = new }); committed = committed }

-- these words are committed in an image with that tail, and those before in any other
abbrev pub committed_from : ℕ → Words → (ℕ → Words) → ℕ → Words
committed_from at words committed n = if n == at then words else committed n
