-- The device calls of a line that is put, and of a gate.
use Rattle.std.specs.Prelude.{ℕ, List, [], ◌∷◌}
use Rattle.nvm_model.specs.declared.line.Line.{Line}
use Rattle.devices.specs.State.{Call}
use Rattle.devices.specs.State.Call.{store_word, store_line, flush, fence}

-- a line, stored and flushed
abbrev pub line_put : ℕ → Line → List Call
line_put line value = store_line line value ∷ flush line ∷ []

-- a gate, durable
abbrev pub gate_put : ℕ → ℕ → List Call
gate_put line value = store_word line 0 value ∷ flush line ∷ fence ∷ []
