-- The device calls of a write in place and of a checkpoint.
use Rattle.std.specs.Prelude.{ℕ, List, ◌∷◌, ◌++◌}
use Rattle.nvm_model.specs.declared.line.Line.{Line}
use Rattle.devices.specs.State.{State, Call, line_at}
use Rattle.devices.specs.State.Call.{fence}
use Rattle.flat_store_meaning.specs.Layout.{Sizes, frame_line}
use Rattle.flat_store_meaning.specs.Put.{append_calls, start_calls}
use Rattle.flat_store_meaning.specs.Append.{record_of}
use Rattle.flat_store_meaning.specs.InPlace.{store_calls}

-- the record of the line's old and new words, durable, and then the line
abbrev pub write_calls : Sizes → ℕ → ℕ → ℕ → Line → State → List Call
write_calls g tail page line value s = append_calls g tail (record_of page line (line_at s (frame_line g page line)) value) ++ store_calls g page line value

-- a fence, which makes each home durable, and then an empty log
abbrev pub checkpoint_calls : ℕ → List Call
checkpoint_calls tail = fence ∷ start_calls tail
