-- What it is that a line is kept in memory.
use Rattle.std.specs.Prelude.{◌≡◌, ℕ, ◌%◌, Some, None, get_or}
use Rattle.nvm_model.specs.declared.line.Line.{Line}
use Rattle.device_files.specs.declared.line_cache.LineCache.{LineCache}

-- it stands in the one slot of lines of that remainder
abbrev pub IsCached : LineCache → ℕ → Line → Type 0
IsCached cache line value = get_or cache.slots (line % 4096) None ≡ Some (record { line = line; value = value })
