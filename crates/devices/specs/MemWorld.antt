-- What a world in memory stands for.
use Rattle.std.specs.Prelude.{◌≡◌, ◌⊎◌, ℕ, ◌+◌, ◌<◌, ◌≤◌, min, Bool, true, List, [], nat_le, if◌then◌else◌, length, take, drop, IsTrue, IsErr, OnOk, Result}
use Rattle.std.specs.List.{prefix_len}
use Rattle.devices.specs.declared.past.Past.{Past}
use Rattle.devices.specs.declared.stream.Stream.{Stream}
use Rattle.devices.specs.declared.mem_world.MemWorld.{MemWorld}
use Rattle.devices.specs.Faults.{is_named}
use Rattle.devices.specs.World.{Standing, Outside, last_count, now, sent}
use Rattle.devices.specs.State.{Image, fresh}
use Rattle.devices.specs.declared.faults.Fault.{Fault}
use Rattle.devices.specs.declared.faults.FaultKind.{FaultKind}
use Rattle.devices.specs.declared.faults.FaultKind.TheVariants.{Nvm, Ssd, Settings, Source, Sink}
use Rattle.devices.specs.declared.step.Entry.{Entry}
use Rattle.devices.specs.Past.{image_of, replay, changes_of, Same}

-- what stands beside the devices
abbrev pub outside_of : Past → List ℕ → List ℕ → ℕ → ℕ → ℕ → Outside
outside_of p settings input settings_faults source_faults sink_faults = record {
  settings = settings;
  input = input;
  changes = changes_of p.sendings.items p.sent.items;
  settings_faults = settings_faults;
  source_faults = source_faults;
  sink_faults = sink_faults;
}

-- The clock counts the calls that were kept, and at each moment those so far were made.
abbrev pub standing_of : Past → ℕ → ℕ → ℕ → List ℕ → List ℕ → ℕ → ℕ → ℕ → Standing
standing_of p nvm_faults ssd_faults block_reads settings input settings_faults source_faults sink_faults = record {
  lines = p.lines;
  blocks = p.current.ssd_blocks;
  told = true;
  honest = true;
  clock = length p.entries.items;
  at = λ m. replay (image_of p.base) (take m p.entries.items);
  nvm_faults = nvm_faults;
  ssd_faults = ssd_faults;
  block_reads = block_reads;
  outside = outside_of p settings input settings_faults source_faults sink_faults;
}

abbrev pub rest_of : Stream → List ℕ
rest_of s = drop s.taken s.bytes.items

abbrev pub world : MemWorld → Standing
world w = standing_of w.past w.nvm.faults w.ssd.faults w.block_reads (rest_of w.settings) (rest_of w.script) w.settings_reads.faults w.script_reads.faults w.writes.faults

-- how many calls of a kind were made
abbrev pub calls_of : FaultKind → MemWorld → ℕ
calls_of Nvm w = w.nvm.calls
calls_of Ssd w = w.ssd.calls
calls_of Settings w = w.settings_reads.calls
calls_of Source w = w.script_reads.calls
calls_of Sink w = w.writes.calls

-- the plan names the next call of this kind
abbrev pub is_planned : FaultKind → MemWorld → Bool
is_planned kind w = is_named w.plan.items kind (calls_of kind w)

-- A call fails exactly where a fault names it, or where it found no memory.
pub record FailsExactly {T E : Type 0} (kind : FaultKind) (old new : MemWorld) (result : Result T E) : Type 0 where
  pub named : IsTrue (is_planned kind old) → IsErr result
  pub failed : IsErr result → IsTrue (is_planned kind old) ⊎ (new.short ≡ min (old.short + 1) last_count)
  pub ok : OnOk result (new.short ≡ old.short)

-- A call that takes no memory fails exactly where a fault names it.
pub record FailsOnlyAt {T E : Type 0} (kind : FaultKind) (old new : MemWorld) (result : Result T E) : Type 0 where
  pub named : IsTrue (is_planned kind old) → IsErr result
  pub failed : IsErr result → IsTrue (is_planned kind old)
  pub short : new.short ≡ old.short

-- A read that a fault stopped did nothing: what is kept, what is still to be read, and the buffer are as they were.
pub record ReadsNothing (old new : MemWorld) (buffer_before buffer_after : List ℕ) : Type 0 where
  pub past : Same old.past new.past
  pub settings : rest_of new.settings ≡ rest_of old.settings
  pub input : rest_of new.script ≡ rest_of old.script
  pub buffer : buffer_after ≡ buffer_before

-- A world before its first call: over these contents, with one version of each word and every block settled.
pub record IsFresh (line_count block_count : ℕ) (image : Image) (settings script : List ℕ) (w : Standing) : Type 0 where
  pub lines : w.lines ≡ line_count
  pub blocks : w.blocks ≡ block_count
  pub told : w.told ≡ true
  pub honest : w.honest ≡ true
  pub clock : w.clock ≡ 0
  pub state : now w ≡ fresh image
  pub settings_left : w.outside.settings ≡ settings
  pub script_left : w.outside.input ≡ script
  pub sent_none : sent w ≡ []
  pub nvm_faults : w.nvm_faults ≡ 0
  pub ssd_faults : w.ssd_faults ≡ 0
  pub block_reads : w.block_reads ≡ 0
  pub settings_faults : w.outside.settings_faults ≡ 0
  pub source_faults : w.outside.source_faults ≡ 0
  pub sink_faults : w.outside.sink_faults ≡ 0

-- no call was made, and these faults are to come
pub record IsUncalled (fail : List Fault) (w : MemWorld) : Type 0 where
  pub plan : w.plan.items ≡ fail
  pub nvm : w.nvm.calls ≡ 0
  pub ssd : w.ssd.calls ≡ 0
  pub settings_reads : w.settings_reads.calls ≡ 0
  pub script_reads : w.script_reads.calls ≡ 0
  pub writes : w.writes.calls ≡ 0
  pub events : w.events ≡ 0
  pub short : w.short ≡ 0

-- the count of faults of a device or a stream
abbrev pub faults_of : FaultKind → Standing → ℕ
faults_of Nvm w = w.nvm_faults
faults_of Ssd w = w.ssd_faults
faults_of Settings w = w.outside.settings_faults
faults_of Source w = w.outside.source_faults
faults_of Sink w = w.outside.sink_faults

-- the moment after so many events: so many calls were kept by then
abbrev pub moment_after : List Entry → ℕ → ℕ
moment_after entries events = prefix_len (λ entry. nat_le entry.event events) entries

-- One event more. Where events are still counted, the moments after the earlier ones are as they were.
pub record Marked (entries later : List Entry) (events_before events_after : ℕ) : Type 0 where
  pub counted : events_after ≡ min (events_before + 1) last_count
  pub earlier : events_before < last_count → (events : ℕ) → events ≤ events_before
      → moment_after later events ≡ moment_after entries events

abbrev pub Marks : MemWorld → MemWorld → Type 0
Marks old new = Marked old.past.entries.items new.past.entries.items old.events new.events

-- One call more of these devices and streams, and the same faults are to come.
pub record Calls (nvm ssd settings source sink : Bool) (old new : MemWorld) : Type 0 where
  pub plan : new.plan.items ≡ old.plan.items
  pub of_nvm : new.nvm.calls ≡ (if nvm then min (old.nvm.calls + 1) last_count else old.nvm.calls)
  pub of_ssd : new.ssd.calls ≡ (if ssd then min (old.ssd.calls + 1) last_count else old.ssd.calls)
  pub of_settings : new.settings_reads.calls ≡ (if settings then min (old.settings_reads.calls + 1) last_count else old.settings_reads.calls)
  pub of_source : new.script_reads.calls ≡ (if source then min (old.script_reads.calls + 1) last_count else old.script_reads.calls)
  pub of_sink : new.writes.calls ≡ (if sink then min (old.writes.calls + 1) last_count else old.writes.calls)
