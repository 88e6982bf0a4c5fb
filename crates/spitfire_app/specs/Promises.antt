-- What the program promises of its runs, crashes among them, and the causes of its statuses.
use Rattle.std.specs.Prelude.{◌≡◌, ◌≢◌, ◌⊎◌, codes, ℕ, ◌+◌, ◌^◌, ◌<◌, ◌≤◌, List, [], ◌∷◌, ◌++◌, length, None, Some, IsTrue}
use Rattle.devices.specs.State.{State, Image, Leaves, fresh, current}
use Rattle.devices.specs.World.{Standing, Moments, Rose, NoFault, last_count, now, sent, sent_at}
use Rattle.flat_transactions.specs.Order.{Sizes}
use Rattle.flat_store_meaning.specs.Format.Format.{whole_lines}
use Rattle.flat_store_meaning.specs.Recovered.{image_log_check}
use Rattle.flat_nvm_layout.specs.Opening.Finding.{another, too_small, ended as log_ended, sound, fails}
use Rattle.flat_recovery.specs.Empty.{HasNoMagic}
use Rattle.flat_recovery.specs.Causes.{IsTooSmall}
use Rattle.rows.specs.Tables.{Table}
use Rattle.texts.specs.Lines.{ended}
use Rattle.texts.specs.Output.{acked, IsPrefix}
use Rattle.script.specs.Replies.{text}
use Rattle.script.specs.Script.{replies, commits, after}
use Rattle.engine.specs.Holds.{bounds_in, Holds, InOrder}
use Rattle.runner.specs.Statuses.{IsOneOf, Exactly}
use Rattle.spitfire_app.specs.declared.words.Task.TheVariants.{Format, Run}
use Rattle.spitfire_app.specs.CommandLine.{task_of}
use Rattle.spitfire_app.specs.Damage.{found_in, IsDamaged}

-- ---- `run`

-- The replies, over devices that hold these tables: at each moment those of plain tables, as far as they were sent; with status
-- 0 they are whole, the input was read to its end, and the devices hold the tables after all commits.
pub record Replies (g : Sizes) (T : List Table) (old new : Standing) (status : ℕ) : Type 0 where
  pub begin : (m : ℕ) → old.clock ≤ m → m ≤ new.clock → (said : List ℕ) × (sent_at new m ≡ sent old ++ said) × IsPrefix said (text (replies (bounds_in g) T old.outside.input))
  pub whole : status ≡ 0 → sent new ≡ sent old ++ text (replies (bounds_in g) T old.outside.input)
  pub read : status ≡ 0 → new.outside.input ≡ []
  pub holds : status ≡ 0 → Holds g (after (bounds_in g) T old.outside.input (commits (bounds_in g) T old.outside.input)) (now new)

-- What a crash leaves is in order with the tables after k commits: after every one that was acknowledged, and after at most one
-- more.
pub record Recovers (g : Sizes) (T : List Table) (input : List ℕ) (lines blocks : ℕ) (said : List ℕ) (i : Image) : Type 0 where
  pub kept : ℕ
  pub within : kept ≤ commits (bounds_in g) T input
  pub in_order : InOrder g (after (bounds_in g) T input kept) lines blocks (fresh i)
  pub acknowledged : acked said ≤ kept
  pub one_more : kept ≤ acked said + 1

-- Over an honest world that was in order with these tables: so it is at each moment, for each image that a crash leaves; and
-- with status 0 the store is in order with the tables after all commits.
pub record Survives (g : Sizes) (T : List Table) (old new : Standing) (status : ℕ) : Type 0 where
  pub crash : (m : ℕ) → old.clock ≤ m → m ≤ new.clock
      → (said : List ℕ) × (sent_at new m ≡ sent old ++ said) × ((i : Image) → Leaves (new.at m) i → Recovers g T old.outside.input old.lines old.blocks said i)
  pub in_order : status ≡ 0 → InOrder g (after (bounds_in g) T old.outside.input (commits (bounds_in g) T old.outside.input)) old.lines old.blocks (now new)

-- ---- `format`

-- the sizes of a store that the program makes: 4 tables of 100 rows, 32 writes, 256 frames and 1,024 blocks of log
abbrev pub first_sizes : Sizes
first_sizes = record { tables = 4; rows = 100; writes = 32; frames = 256; log_blocks = 1024 }

abbrev pub formatted : List ℕ
formatted = ended (codes "formatted")

-- each image is one that a crash at the entry leaves, or has no magic word, or is in order with no table
abbrev pub MayFormat : ℕ → ℕ → State → State → Type 0
MayFormat lines blocks entry s = (i : Image) → Leaves s i → Leaves entry i ⊎ (HasNoMagic i ⊎ InOrder first_sizes [] lines blocks (fresh i))

-- So it is at each moment; once the whole line was sent it is the last; and with status 0 that line was sent.
pub record Formatted (old new : Standing) (status : ℕ) : Type 0 where
  pub crash : Moments old new (MayFormat old.lines old.blocks (now old))
  pub told : (m : ℕ) → old.clock ≤ m → m ≤ new.clock → sent_at new m ≡ sent old ++ formatted → (i : Image) → Leaves (new.at m) i → InOrder first_sizes [] old.lines old.blocks (fresh i)
  pub begin : (m : ℕ) → old.clock ≤ m → m ≤ new.clock → (said : List ℕ) × (sent_at new m ≡ sent old ++ said) × IsPrefix said formatted
  pub whole : status ≡ 0 → sent new ≡ sent old ++ formatted
  pub in_order : status ≡ 0 → InOrder first_sizes [] old.lines old.blocks (now new)

-- ---- settings

-- no settings were read
pub record ReadsNoSettings (old new : Standing) : Type 0 where
  pub settings : new.outside.settings ≡ old.outside.settings
  pub faults : new.outside.settings_faults ≡ old.outside.settings_faults

-- ---- statuses

-- nothing was read from the script, sent, stored, flushed or fenced
pub record Untouched (old new : Standing) : Type 0 where
  pub input : new.outside.input ≡ old.outside.input
  pub sent : new.outside.changes ≡ old.outside.changes
  pub devices : IsTrue old.told → Moments old new (λ s. s ≡ now old)

-- the device holds a store whose log passes its checks, and of which the offsets go on
pub record Opens (old : Standing) : Type 0 where
  pub lines : 4 ≤ old.lines
  pub found : found_in old ≡ sound
  pub log : image_log_check whole_lines (current (now old)) ≡ None

-- The statuses of `run`, each with its cause.
pub record RunCauses (old new : Standing) (status : ℕ) : Type 0 where
  pub known : IsOneOf status (0 ∷ 3 ∷ 4 ∷ 5 ∷ 6 ∷ 7 ∷ 8 ∷ 9 ∷ 11 ∷ 12 ∷ 13 ∷ [])
  pub done : status ≡ 0 → NoFault old new
  -- done is a script that was read to its end, and none is read before a store is open
  pub read : IsTrue old.told → status ≡ 0 → new.outside.input ≡ []
  pub opened : IsTrue old.told → IsOneOf status (0 ∷ 8 ∷ 12 ∷ []) → Opens old
  pub few : old.lines < 4 → status ≡ 4
  pub size : IsTrue old.told → Exactly status 4 ((old.lines < 4) ⊎ ((4 ≤ old.lines) × (found_in old ≡ too_small))) (6 ∷ [])
  pub magic : IsTrue old.told → Exactly status 3 ((4 ≤ old.lines) × (found_in old ≡ another)) (6 ∷ [])
  pub tail : IsTrue old.told → Exactly status 13 ((4 ≤ old.lines) × (found_in old ≡ log_ended)) (6 ∷ [])
  -- a superblock that fails a check is told of, and memory is asked for behind a sound one alone
  pub gates : IsTrue old.told → (check : ℕ) → 4 ≤ old.lines → found_in old ≡ fails check → IsOneOf status (5 ∷ 6 ∷ 9 ∷ [])
  pub memory : IsTrue old.told → status ≡ 11 → (4 ≤ old.lines) × (found_in old ≡ sound)
  pub damage : status ≡ 5 → IsDamaged old new
  pub refused : IsOneOf status (3 ∷ 4 ∷ 11 ∷ 13 ∷ []) → Untouched old new
  pub nvm : status ≡ 6 → Rose old.nvm_faults new.nvm_faults
  pub ssd : status ≡ 7 → Rose old.ssd_faults new.ssd_faults
  pub source : status ≡ 8 → Rose old.outside.source_faults new.outside.source_faults
  pub sink : status ≡ 9 → Rose old.outside.sink_faults new.outside.sink_faults
  pub long : IsTrue old.told → Exactly status 12 (Opens old × (2 ^ 32 < length old.outside.input)) (5 ∷ 6 ∷ 7 ∷ 8 ∷ 9 ∷ 11 ∷ [])
  -- over devices that hold tables there is no damage
  pub sound : IsTrue old.told → (g : Sizes) (T : List Table) → Holds g T (now old) → status ≢ 5

-- The statuses of `format`, each with its cause.
pub record FormatCauses (old new : Standing) (status : ℕ) : Type 0 where
  pub known : IsOneOf status (0 ∷ 4 ∷ 6 ∷ 9 ∷ [])
  pub done : status ≡ 0 → NoFault old new
  pub size : Exactly status 4 (IsTooSmall first_sizes old) []
  pub small : status ≡ 4 → Untouched old new
  pub nvm : status ≡ 6 → Rose old.nvm_faults new.nvm_faults
  pub sink : status ≡ 9 → Rose old.outside.sink_faults new.outside.sink_faults

-- The statuses of the program. 1 comes exactly where the words are no form; then nothing was done.
pub record Causes (words : List (List ℕ)) (old new : Standing) (status : ℕ) : Type 0 where
  pub form : Exactly status 1 (task_of words ≡ None) []
  pub nothing : status ≡ 1 → new ≡ old
  pub run : task_of words ≡ Some Run → RunCauses old new status
  pub format : task_of words ≡ Some Format → FormatCauses old new status

-- a count that is below its end and did not rise
pub record IsQuiet (before after : ℕ) : Type 0 where
  pub below : before < last_count
  pub same : after ≡ before

-- no count that a call of this program may raise was at its end, and none rose
pub record NoFaultCame (old new : Standing) : Type 0 where
  pub nvm : IsQuiet old.nvm_faults new.nvm_faults
  pub ssd : IsQuiet old.ssd_faults new.ssd_faults
  pub source : IsQuiet old.outside.source_faults new.outside.source_faults
  pub sink : IsQuiet old.outside.sink_faults new.outside.sink_faults
