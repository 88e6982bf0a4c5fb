-- A world with a clock: its devices and what it has beside them, at each moment, and what its calls promise.
use Rattle.std.specs.Prelude.{◌≡◌, ℕ, ◌+◌, ◌≤◌, min, Bool, false, List, [], ◌∷◌, ◌++◌, take, if◌then◌else◌, nat_le, IsTrue, Result, IfOk, OnOk, OnErr}
use Rattle.devices.specs.State.{State, Call, after, after_all, Part, Amid}

-- the largest number of a counter
abbrev pub last_count : ℕ
last_count = 18446744073709551615

-- What stands beside the devices: the bytes that are still to be read, each change of what was sent with its
-- moment, in the order of the moments, and the counts of faults.
pub record Outside : Type 0 where
  pub settings : List ℕ
  pub input : List ℕ
  pub changes : List (ℕ × List ℕ)
  pub settings_faults : ℕ
  pub source_faults : ℕ
  pub sink_faults : ℕ

-- what the last change up to a moment left, or else what stood before
abbrev pub last_from : List ℕ → List (ℕ × List ℕ) → ℕ → List ℕ
last_from before [] m = before
last_from before (change ∷ changes) m = last_from (if nat_le change.0 m then change.1 else before) changes m

-- what was sent by a moment: what the last change up to it left
unfoldable pub sent_by : List (ℕ × List ℕ) → ℕ → List ℕ
sent_by changes m = last_from [] changes m

-- All that contracts see of a world.
pub record Standing : Type 0 where
  pub lines : ℕ
  pub blocks : ℕ
  -- its reads give the state
  pub told : Bool
  -- a crash at any moment leaves an image of the state at that moment
  pub honest : Bool
  pub clock : ℕ
  pub at : ℕ → State
  pub nvm_faults : ℕ
  pub ssd_faults : ℕ
  pub block_reads : ℕ
  pub outside : Outside

-- a world is honest where it is told and a crash leaves an image
pub record IsHonest (d : Standing) : Type 0 where
  pub told : IsTrue d.told
  pub honest : IsTrue d.honest

abbrev pub now : Standing → State
now d = d.at d.clock

-- what was sent by a moment, and so far
abbrev pub sent_at : Standing → ℕ → List ℕ
sent_at d m = sent_by d.outside.changes m

abbrev pub sent : Standing → List ℕ
sent d = sent_at d d.clock

-- a count that rose, or stands at its end
abbrev pub Rose : ℕ → ℕ → Type 0
Rose before after = min (before + 1) last_count ≤ after

-- What every call of a device keeps, and every call above that is generic over the devices alone.
pub record Goes (old new : Standing) : Type 0 where
  pub lines : new.lines ≡ old.lines
  pub blocks : new.blocks ≡ old.blocks
  pub told : new.told ≡ old.told
  pub honest : new.honest ≡ old.honest
  pub outside : new.outside ≡ old.outside
  pub clock : old.clock ≤ new.clock
  pub earlier : (m : ℕ) → m ≤ old.clock → new.at m ≡ old.at m
  pub nvm_faults : old.nvm_faults ≤ new.nvm_faults
  pub ssd_faults : old.ssd_faults ≤ new.ssd_faults
  pub block_reads : old.block_reads ≤ new.block_reads

-- What every call of a world keeps, and every call above that is generic over worlds.
pub record GoesOn (old new : Standing) : Type 0 where
  pub lines : new.lines ≡ old.lines
  pub blocks : new.blocks ≡ old.blocks
  pub told : new.told ≡ old.told
  pub honest : new.honest ≡ old.honest
  pub clock : old.clock ≤ new.clock
  pub earlier : (m : ℕ) → m ≤ old.clock → new.at m ≡ old.at m
  pub earlier_sent : (m : ℕ) → m ≤ old.clock → sent_at new m ≡ sent_at old m
  pub nvm_faults : old.nvm_faults ≤ new.nvm_faults
  pub ssd_faults : old.ssd_faults ≤ new.ssd_faults
  pub block_reads : old.block_reads ≤ new.block_reads
  pub settings_faults : old.outside.settings_faults ≤ new.outside.settings_faults
  pub source_faults : old.outside.source_faults ≤ new.outside.source_faults
  pub sink_faults : old.outside.sink_faults ≤ new.outside.sink_faults

-- nothing was sent after the clock: the law of each world that lets a call of the devices keep what was sent
abbrev pub IsTimed : Standing → Type 0
IsTimed d = (m : ℕ) → d.clock ≤ m → sent_at d m ≡ sent d

-- each moment from one to the other, both among them, has P
pub record Moments (old new : Standing) (P : State → Type 0) : Type 0 where
  pub each : (m : ℕ) → old.clock ≤ m → m ≤ new.clock → P (new.at m)

-- the same with what was sent by that moment
pub record MomentsSent (old new : Standing) (P : State → List ℕ → Type 0) : Type 0 where
  pub each : (m : ℕ) → old.clock ≤ m → m ≤ new.clock → P (new.at m) (sent_at new m)

-- a call that changes neither device
abbrev pub Stays : Standing → Standing → Type 0
Stays old new = IsTrue old.told → Moments old new (λ s. s ≡ now old)

-- a call that answers ok does its whole work, and at each moment, whatever it answers, some part of it was done
pub record Makes {T E : Type 0} (call : Call) (old new : Standing) (result : Result T E) : Type 0 where
  pub whole : IsTrue old.told → OnOk result (now new ≡ after call (now old))
  pub part : IsTrue old.told → Moments old new (Part call (now old))

-- the same for calls that are made one after the other, up to the first that fails
pub record MakesAll {T E : Type 0} (calls : List Call) (old new : Standing) (result : Result T E) : Type 0 where
  pub whole : IsTrue old.told → OnOk result (now new ≡ after_all calls (now old))
  pub part : IsTrue old.told → Moments old new (Amid (now old) calls)

-- one block was read
abbrev pub Counts : Standing → Standing → Type 0
Counts old new = new.block_reads ≡ min (old.block_reads + 1) last_count

-- A call on NVM fails only where its count rose, and reads no block.
pub record NvmCause {T E : Type 0} (old new : Standing) (result : Result T E) : Type 0 where
  pub failed : OnErr result (Rose old.nvm_faults new.nvm_faults)
  pub nvm : OnOk result (new.nvm_faults ≡ old.nvm_faults)
  pub ssd : OnOk result (new.ssd_faults ≡ old.ssd_faults)
  pub reads : new.block_reads ≡ old.block_reads

-- A call on the SSD fails only where its count rose.
pub record SsdCause {T E : Type 0} (old new : Standing) (result : Result T E) : Type 0 where
  pub failed : OnErr result (Rose old.ssd_faults new.ssd_faults)
  pub nvm : OnOk result (new.nvm_faults ≡ old.nvm_faults)
  pub ssd : OnOk result (new.ssd_faults ≡ old.ssd_faults)

-- What the three calls of a world beside its devices keep: both devices and their counts.
pub record WorldCall (old new : Standing) : Type 0 where
  pub goes : GoesOn old new
  pub stays : Stays old new
  pub nvm_faults : new.nvm_faults ≡ old.nvm_faults
  pub ssd_faults : new.ssd_faults ≡ old.ssd_faults
  pub block_reads : new.block_reads ≡ old.block_reads

-- such a call fails only where its own count rose
pub record OwnCause {T E : Type 0} (before after : ℕ) (result : Result T E) : Type 0 where
  pub failed : OnErr result (Rose before after)
  pub ok : OnOk result (after ≡ before)

-- what such a call leaves: all beside the devices but the one thing that is named, with its count
pub record OnlyChanges (may_settings may_input may_output : Bool) (old new : Standing) : Type 0 where
  pub settings : may_settings ≡ false → (new.outside.settings ≡ old.outside.settings) × (new.outside.settings_faults ≡ old.outside.settings_faults)
  pub input : may_input ≡ false → (new.outside.input ≡ old.outside.input) × (new.outside.source_faults ≡ old.outside.source_faults)
  pub output : may_output ≡ false → (new.outside.changes ≡ old.outside.changes) × (new.outside.sink_faults ≡ old.outside.sink_faults)

-- a read takes the next bytes; none is the end
pub record TakesNext (before after : List ℕ) (count : ℕ) (into : List ℕ) : Type 0 where
  pub bytes : before ≡ take count into ++ after
  pub end : count ≡ 0 → before ≡ []

abbrev pub ReadsNext : {E : Type 0} → Bool → List ℕ → List ℕ → Result ℕ E → List ℕ → Type 0
ReadsNext told before after result into = IsTrue told → IfOk result (λ count. TakesNext before after count into)

-- Where the world is told, a write appends so many bytes as it answers, at each moment within it some first part of
-- them was sent, and a failed one appends nothing.
pub record Sends {E : Type 0} (old new : Standing) (bytes : List ℕ) (result : Result ℕ E) : Type 0 where
  pub ok : IsTrue old.told → IfOk result (λ n. sent new ≡ sent old ++ take n bytes)
  pub within : IsTrue old.told → IfOk result (λ n. MomentsSent old new (λ s out. (k : ℕ) × (k ≤ n) × (out ≡ sent old ++ take k bytes)))
  pub err : IsTrue old.told → OnErr result (MomentsSent old new (λ s out. out ≡ sent old))

-- no count of faults rose
pub record NoFault (old new : Standing) : Type 0 where
  pub nvm : new.nvm_faults ≡ old.nvm_faults
  pub ssd : new.ssd_faults ≡ old.ssd_faults
  pub settings : new.outside.settings_faults ≡ old.outside.settings_faults
  pub source : new.outside.source_faults ≡ old.outside.source_faults
  pub sink : new.outside.sink_faults ≡ old.outside.sink_faults
