-- What a recovery answers, what it leaves, and what stays at each of its moments.
use Rattle.std.specs.Prelude.{◌≡◌, ◌≢◌, ◌⊎◌, ℕ, ◌^◌, ◌≤◌, true, List, slice_index, IsTrue, Result, Ok, Err, IfOk, IfErr, Some, None}
use Rattle.devices.specs.State.{State, Image, current, fresh}
use Rattle.devices.specs.World.{Standing, Moments, Stays, now}
use Rattle.line_pages.specs.Pairs.{no_pairs}
use Rattle.line_pages.specs.LineSets.{pairs_of, pages_of}
use Rattle.damage.specs.declared.evidence.Evidence.{Evidence}
use Rattle.damage.specs.declared.evidence.Evidence.TheVariants as evidence
use Rattle.flat_nvm_layout.specs.Gates.{gates_of}
use Rattle.flat_nvm_layout.specs.Opening.{Finding, finding, super_from, sizes_from, words_of, IsEvidence}
use Rattle.flat_nvm_layout.specs.Opening.Finding.{another, too_small, ended, sound}
use Rattle.flat_nvm_layout.specs.Sizes.{sizes_of}
use Rattle.flat_nvm_layout.specs.declared.superblock.Super.{Super as Gates}
use Rattle.flat_nvm_log.specs.declared.log.Log.{Log}
use Rattle.flat_store_meaning.specs.Layout.{Sizes, is_allowed, pages, nvm_lines, ssd_blocks}
use Rattle.flat_store_meaning.specs.Format.{LogFault}
use Rattle.flat_store_meaning.specs.Format.Format.{whole_lines}
use Rattle.flat_store_meaning.specs.Recovered.{super_of, log_of, log_line, image_log_check, IsStore}
use Rattle.flat_store_meaning.specs.InOrder.{Stands}
use Rattle.flat_store_laws.specs.OpenFacts.{OpenFacts}
use Rattle.flat_store_laws.specs.ShownPages.{pages_in, committed_in}
use Rattle.flat_recovery.specs.Calls.{recover_calls}
use Rattle.flat_recovery.specs.Recovering.{LeavesStores, HoldsFacts}
use Rattle.flat_recovery.specs.Heads.{IsLogEvidence, IsFirstFault, FindsFault}
use Rattle.flat_recovery.specs.Replaying.{MakesCalls}
use Rattle.flat_recovery.specs.declared.opening.Parts.{Parts}
use Rattle.flat_recovery.specs.declared.errors.OpenError.{OpenError}
use Rattle.flat_recovery.specs.declared.errors.OpenError.TheVariants.{Nvm, Ssd, NotAStore, TooSmall, LogEnded, Damaged, NoMemory}

-- the answer is what the words of the superblock are found to be; where they are sound, memory or a line of the log may fail
abbrev pub IsAnswer : List ℕ → Finding → Result Parts OpenError → Type 0
IsAnswer words what (Ok parts) = what ≡ sound
IsAnswer words what (Err Nvm) = Unit {0}
IsAnswer words what (Err Ssd) = ⊥
IsAnswer words what (Err NotAStore) = what ≡ another
IsAnswer words what (Err TooSmall) = what ≡ too_small
IsAnswer words what (Err LogEnded) = what ≡ ended
IsAnswer words what (Err (Damaged kept)) = IsEvidence words what kept ⊎ ((what ≡ sound) × IsLogEvidence (sizes_from words) (slice_index words 7) kept)
IsAnswer words what (Err NoMemory) = what ≡ sound

-- Words were loaded, where the device is told those that it holds, and the answer is by what they are found to be.
pub record Answers (old : Standing) (result : Result Parts OpenError) : Type 0 where
  pub name : ℕ
  pub words : List ℕ
  pub held_name : IsTrue old.told → name ≡ (current (now old)).nvm 0 0
  pub held : IsTrue old.told → words ≡ words_of (current (now old))
  pub answer : IsAnswer words (finding old.lines old.blocks (super_from name words)) result

-- the first head of an image's log that fails a check, kept as evidence
abbrev pub IsFirstIn : Image → Evidence → Type 0
IsFirstIn i kept = IsFirstFault (image_log_check whole_lines i) (log_line (super_of i).sizes (super_of i).start i) (super_of i).tail kept

-- the words of a superblock, kept as evidence
pub record IsSuper (kept : Evidence) : Type 0 where
  pub words : List ℕ
  pub check : ℕ
  pub keeps : kept ≡ evidence.Super words check

-- a log of whose heads none fails a check, or the first that does
abbrev pub IsFound : Image → Result Parts OpenError → Type 0
IsFound i (Ok parts) = image_log_check whole_lines i ≡ None
IsFound i (Err Nvm) = Unit {0}
IsFound i (Err Ssd) = Unit {0}
IsFound i (Err NotAStore) = Unit {0}
IsFound i (Err TooSmall) = Unit {0}
IsFound i (Err LogEnded) = Unit {0}
IsFound i (Err (Damaged kept)) = IsSuper kept ⊎ IsFirstIn i kept
IsFound i (Err NoMemory) = Unit {0}

abbrev pub FindsInLog : Standing → Result Parts OpenError → Type 0
FindsInLog old result = IsTrue old.told → IsFound (current (now old)) result

-- the offset behind the log of a store, as its superblock has it
abbrev pub stored_tail : State → ℕ
stored_tail s = (super_of (current s)).tail

-- The devices are told, and hold a store that fits them and passes its checks, and whose offsets go on.
pub record HoldsStore (old : Standing) : Type 0 where
  pub told : IsTrue old.told
  pub store : IsStore whole_lines (current (now old))
  pub nvm : nvm_lines (super_of (current (now old))).sizes ≤ old.lines
  pub ssd : ssd_blocks (super_of (current (now old))).sizes ≤ old.blocks
  pub tail : (super_of (current (now old))).tail ≤ 2 ^ 61

-- then only a fault or want of memory stops the opening
abbrev pub IsComplete : Standing → Result Parts OpenError → Type 0
IsComplete old result = HoldsStore old → IfErr result (λ why. (why ≡ Nvm) ⊎ (why ≡ NoMemory))

-- but for a fault, a refusal changes no device
abbrev pub ChangesNothing : {T : Type 0} → Standing → Standing → Result T OpenError → Type 0
ChangesNothing old new result = IsTrue old.told → IfErr result (λ why. why ≢ Nvm → Stays old new)

-- Recovery gives the same lines as before, as one reads it; and where the devices hold a store in order, so does every image
-- at each moment, and it is a store of the same sizes; the facts of an open store hold then.
pub record KeepsStore (old new : Standing) : Type 0 where
  pub committed : committed_in (now new) ≡ committed_in (now old)
  pub during : Stands whole_lines old.lines old.blocks (now old) → Moments old new (LeavesStores (super_of (current (now old))).sizes (committed_in (now old)))
  pub facts : Stands whole_lines old.lines old.blocks (now old) → Moments old new (HoldsFacts (super_of (current (now old))).sizes (committed_in (now old)))

-- The facts of an open store hold, with an empty log, and the current lines are those that recovery gave: as one reads the
-- devices, and whatever a crash leaves of them, however they were left before.
pub record Recovered (parts : Parts) (old new : Standing) : Type 0 where
  pub sizes : sizes_of parts.geometry ≡ (super_of (current (now old))).sizes
  pub tail : parts.log.tail ≡ (super_of (current (now old))).tail
  pub read : OpenFacts (sizes_of parts.geometry) parts.log.start parts.log.tail (fresh (current (now new)))
  pub steady : OpenFacts (sizes_of parts.geometry) parts.log.start parts.log.tail (now new)
  pub current : pages_in (sizes_of parts.geometry) (now new) ≡ committed_in (now old)

-- the sizes of a store that was recovered, and those of its log
abbrev pub parts_sizes : Parts → Sizes
parts_sizes parts = sizes_of parts.geometry

abbrev pub log_sizes : Parts → Sizes
log_sizes parts = sizes_of parts.log.geometry

-- The parts are of one store, which fits devices of these sizes.
pub record AreParts (parts : Parts) (lines blocks : ℕ) : Type 0 where
  pub geometry : parts.log.geometry ≡ parts.geometry
  pub empty : parts.log.start ≡ parts.log.tail
  pub tail : parts.log.tail ≤ 2 ^ 61
  pub allowed : is_allowed (sizes_of parts.geometry) ≡ true
  pub nvm : nvm_lines (sizes_of parts.geometry) ≤ lines
  pub ssd : ssd_blocks (sizes_of parts.geometry) ≤ blocks
  pub loose : pairs_of parts.loose ≡ no_pairs
  pub pages_are : pages_of parts.loose ≡ pages (sizes_of parts.geometry)

-- The log of a superblock that was read is checked; where no check fails, it is replayed and emptied.
pub record ReopensLog {T : Type 0} (gates : Gates) (old new : Standing) (result : Result T OpenError) : Type 0 where
  pub finds : IsTrue old.told → super_of (current (now old)) ≡ gates_of gates
      → FindsFault (image_log_check whole_lines (current (now old))) (log_line (super_of (current (now old))).sizes (super_of (current (now old))).start (current (now old))) (super_of (current (now old))).tail result
  pub writes : IsTrue old.told → super_of (current (now old)) ≡ gates_of gates → image_log_check whole_lines (current (now old)) ≡ None
      → MakesCalls (recover_calls (super_of (current (now old))).sizes (log_of whole_lines (current (now old))) (super_of (current (now old))).tail) old new result
  pub nothing : IsTrue old.told → super_of (current (now old)) ≡ gates_of gates → IfErr result (λ why. why ≢ Nvm → Stays old new)
  pub refused : IsTrue old.told → super_of (current (now old)) ≡ gates_of gates → (fault : LogFault) → image_log_check whole_lines (current (now old)) ≡ Some fault → Stays old new

-- the log is that of the superblock, empty
abbrev pub IsReopened : Gates → Result Log OpenError → Type 0
IsReopened gates result = IfOk result (λ log. (log.geometry ≡ gates.geometry) × (log.start ≡ gates.tail) × (log.tail ≡ gates.tail))
