-- The size of the trace.
use Rattle.std.specs.Prelude.{ℕ, ◌+◌, ◌*◌, Bool, true, false}
use Rattle.nvm_layout.specs.declared.geometry.Geometry.{Geometry}

-- how many lines a trace has room for
abbrev pub trace_room : Geometry → Bool → ℕ
trace_room geometry false = 0
trace_room geometry true = 640 * geometry.writes + 32768
