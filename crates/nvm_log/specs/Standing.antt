-- When the log in memory is that of the devices, with records that are pending.
use Rattle.std.specs.Prelude.{◌≡◌, ◌+◌, List, length}
use Rattle.nvm_model.specs.declared.line.Line.{Line}
use Rattle.devices.specs.State.{State, current}
use Rattle.store_model.specs.Layout.{Sizes}
use Rattle.store_model.specs.Log.{Change}
use Rattle.store_model.specs.Format.{Format, IsWhole, entries}
use Rattle.store_model.specs.Recovered.{super_of, log_lines}
use Rattle.store_model.specs.Pending.{StandsFlushed, record_entries}
use Rattle.nvm_log.specs.Offsets.{Offsets}

-- The superblock that loads give has these sizes and gates.
pub record IsLogOf (g : Sizes) (at : Offsets) (s : State) : Type 0 where
  pub sizes : (super_of (current s)).sizes ≡ g
  pub start : (super_of (current s)).start ≡ at.start
  pub drained : (super_of (current s)).drained ≡ at.drained
  pub tail : (super_of (current s)).tail ≡ at.tail

-- The log is that of the devices, durable, and no entry of it is cut short; and behind its tail, up to `written`, these
-- lines stand flushed, which are those of the pending records.
pub record HasPending (format : Format) (g : Sizes) (at : Offsets) (lines : List Line) (pending : List Change) (s : State) : Type 0 where
  pub log_is : IsLogOf g at s
  pub whole : IsWhole format 0 (log_lines (current s))
  pub stands : StandsFlushed s lines
  pub count : at.tail + length lines ≡ at.written
  pub holds : entries format 0 lines ≡ record_entries pending
  pub whole_behind : IsWhole format 0 lines
