-- What reading a superblock answers, by the words that it finds.
use Rattle.std.specs.Prelude.{◌≡◌, ℕ, ◌+◌, ◌-◌, ◌*◌, ◌%◌, ◌^◌, ◌≤◌, Bool, not, ◌||◌, ◌==◌, nat_lt, if◌then◌else◌, List, [], ◌∷◌, slice_index, IsTrue, Result, Ok, Err, IfErr, OnOk, None}
use Rattle.devices.specs.State.{Image, current}
use Rattle.devices.specs.World.{Standing, Rose, now}
use Rattle.damage.specs.declared.evidence.Evidence.{Evidence}
use Rattle.damage.specs.declared.evidence.Evidence.TheVariants as evidence
use Rattle.store_model.specs.Layout.{Sizes, is_allowed, nvm_lines, ssd_blocks, ring_lines, ring_blocks, floor64}
use Rattle.store_model.specs.Format.{magic}
use Rattle.store_model.specs.Format.Format.{whole_lines}
use Rattle.store_model.specs.Recovered.{Super, super_check}
use Rattle.nvm_layout.specs.Sizes.{sizes_of}
use Rattle.nvm_layout.specs.Gates.{gates_of}
use Rattle.nvm_layout.specs.declared.superblock.Super.{Super as Gates}
use Rattle.nvm_layout.specs.declared.errors.SuperError.{SuperError}
use Rattle.nvm_layout.specs.declared.errors.SuperError.TheVariants.{Nvm, NotAStore, TooSmall, LogEnded, Damaged}

-- the five sizes, the start, `drained` and the tail, as an image has them
abbrev pub words_of : Image → List ℕ
words_of i = i.nvm 0 1 ∷ i.nvm 0 2 ∷ i.nvm 0 3 ∷ i.nvm 0 4 ∷ i.nvm 0 5 ∷ i.nvm 1 0 ∷ i.nvm 2 0 ∷ i.nvm 3 0 ∷ []

-- the sizes and the superblock of such words
abbrev pub sizes_from : List ℕ → Sizes
sizes_from words = record { tables = slice_index words 0; rows = slice_index words 1; writes = slice_index words 2; frames = slice_index words 3; log_blocks = slice_index words 4 }

abbrev pub super_from : ℕ → List ℕ → Super
super_from name words = record {
  magic_word = name;
  sizes = sizes_from words;
  start = slice_index words 5;
  drained = slice_index words 6;
  tail = slice_index words 7;
}

-- What a superblock is found to be, on devices of these sizes.
pub data Finding : Type 0 where
  another too_small ended sound : Finding
  fails : ℕ → Finding

-- the start or `drained` is above the tail, or `drained` is no multiple of 64
abbrev pub out_of_order : Super → Bool
out_of_order sup = nat_lt sup.tail sup.start || (nat_lt sup.tail sup.drained || not (sup.drained % 64 == 0))

-- the first that holds: a tail above 2^61; gates out of order; more log above `drained` than the ring in NVM takes; more below
-- it, from the block of the start on, than the ring on the SSD takes
abbrev pub gates_finding : Super → Finding
gates_finding sup =
    if nat_lt (2 ^ 61) sup.tail then ended
    else if out_of_order sup then fails 2
    else if nat_lt (ring_lines sup.sizes) (sup.tail - sup.drained) then fails 3
    else if nat_lt (floor64 sup.start + 64 * ring_blocks sup.sizes) sup.drained then fails 4
    else sound

-- before these: another magic word; a number out of its range; sizes that don't fit the devices
abbrev pub finding : ℕ → ℕ → Super → Finding
finding lines blocks sup =
    if not (sup.magic_word == magic whole_lines) then another
    else if not (is_allowed sup.sizes) then fails 1
    else if nat_lt lines (nvm_lines sup.sizes) || nat_lt blocks (ssd_blocks sup.sizes) then too_small
    else gates_finding sup

-- the words of a superblock that fail a check, kept as evidence of it
pub record IsEvidence (words : List ℕ) (what : Finding) (kept : Evidence) : Type 0 where
  pub check : ℕ
  pub fails_it : what ≡ fails check
  pub keeps : kept ≡ evidence.Super words check

-- the answer is what the words are found to be
abbrev pub IsAnswer : ℕ → List ℕ → Finding → Result Gates SuperError → Type 0
IsAnswer name words what (Ok gates) = (what ≡ sound) × (gates_of gates ≡ super_from name words)
IsAnswer name words what (Err Nvm) = ⊥
IsAnswer name words what (Err NotAStore) = what ≡ another
IsAnswer name words what (Err TooSmall) = what ≡ too_small
IsAnswer name words what (Err LogEnded) = what ≡ ended
IsAnswer name words what (Err (Damaged kept)) = IsEvidence words what kept

-- Words were loaded, where the device is told those that it holds, and the answer is what they are found to be.
pub record Answers (old : Standing) (result : Result Gates SuperError) : Type 0 where
  pub name : ℕ
  pub words : List ℕ
  pub held_name : IsTrue old.told → name ≡ (current (now old)).nvm 0 0
  pub held : IsTrue old.told → words ≡ words_of (current (now old))
  pub answer : IsAnswer name words (finding old.lines old.blocks (super_from name words)) result

-- The gates pass their checks, and their sizes fit devices of these sizes.
pub record IsOpen (lines blocks : ℕ) (gates : Gates) : Type 0 where
  pub checks : super_check (gates_of gates) ≡ None
  pub nvm : nvm_lines (sizes_of gates.geometry) ≤ lines
  pub ssd : ssd_blocks (sizes_of gates.geometry) ≤ blocks
  pub tail : gates.tail ≤ 2 ^ 61

-- no fault was counted
pub record NoFault (old new : Standing) : Type 0 where
  pub nvm : new.nvm_faults ≡ old.nvm_faults
  pub ssd : new.ssd_faults ≡ old.ssd_faults

abbrev pub Counted : SuperError → Standing → Standing → Type 0
Counted Nvm old new = Rose old.nvm_faults new.nvm_faults
Counted NotAStore old new = NoFault old new
Counted TooSmall old new = NoFault old new
Counted LogEnded old new = NoFault old new
Counted (Damaged kept) old new = NoFault old new

-- which counts rose, and that no block was read
pub record SuperCause {T : Type 0} (old new : Standing) (result : Result T SuperError) : Type 0 where
  pub failed : IfErr result (λ why. Counted why old new)
  pub done : OnOk result (NoFault old new)
  pub reads : new.block_reads ≡ old.block_reads
