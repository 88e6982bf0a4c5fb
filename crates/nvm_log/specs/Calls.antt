-- The device calls that each call of a log makes.
use Rattle.std.specs.Prelude.{List, [], if◌then◌else◌, ◌==◌}
use Rattle.devices.specs.State.{Call}
use Rattle.store_model.specs.Put.{put_calls}
use Rattle.store_model.specs.Pending.{harden_calls, end_calls}
use Rattle.nvm_layout.specs.Sizes.{sizes_of}
use Rattle.nvm_log.specs.Entries.{record_lines, end_lines}
use Rattle.nvm_log.specs.Puts.{gate_put}
use Rattle.nvm_log.specs.declared.log.Log.{Log}
use Rattle.nvm_log.specs.declared.record.LineRecord.{LineRecord}
use Rattle.nvm_log.specs.declared.record.EndKind.{EndKind}

-- the three lines of a record are stored behind all that is stored, and flushed
abbrev pub append_makes : Log → LineRecord → List Call
append_makes log change = put_calls (sizes_of log.geometry) log.written (record_lines change)

-- a fence, and the new tail, durable; nothing where nothing is pending
abbrev pub harden_makes : Log → List Call
harden_makes log = if log.tail == log.written then [] else harden_calls log.written

-- the line of an end is stored and flushed, and then all is hardened
abbrev pub end_makes : EndKind → Log → List Call
end_makes kind log = end_calls (sizes_of log.geometry) log.written (end_lines kind)

-- the new start, durable
abbrev pub start_makes : Log → List Call
start_makes log = gate_put 1 log.tail
