-- What the calls on the file of the NVM do, as far as the file's type says what it holds.
use Rattle.std.specs.Prelude.{◌≡◌, ℕ, ◌<◌, ◌+◌, ◌*◌, ◌⊎◌, List, Option, IfSome, IsSomeAnd, set, slice_range}
use Rattle.byteorder.specs.Endian.{little_number, IsRead}
use Rattle.nvm_model.specs.declared.line.Line.{Line}
use Rattle.device_files.specs.declared.gathered.Gathered.{Gathered}
use Rattle.device_files.specs.declared.line_memory.LineMemory.{LineMemory}
use Rattle.device_files.specs.LineBytes.{WritesLines}
use Rattle.device_files.specs.DeviceFile.{LoadsLine}
use Rattle.device_files.specs.Gathered.{IsGathered, IsEmpty, gathered_lines}
use Rattle.device_files.specs.LineMemory.{Recalls, IsUnknown, NoMore, Learns, StillGathered}

-- To the file, as it was open or was opened now, each gathered line was written where it stands, and it is open.
pub record WritesGathered {F : Type 0} (known : F → Option (List ℕ)) (gathered : Gathered) (open_file new_file : Option F) : Type 0 where
  pub opened : F
  pub same : IfSome open_file (λ file. opened ≡ file)
  pub written : IsSomeAnd new_file (λ file. WritesLines (gathered_lines gathered) (known opened) (known file))

-- A line that was remembered was given as it was, and any other was read where it stands. It is remembered now. Of the other
-- lines nothing more is, but what was read where they stand.
pub record Loads {F : Type 0} (known : F → Option (List ℕ)) (line : ℕ) (open_file new_file : Option F) (old new : LineMemory) (found : Line) : Type 0 where
  pub recalled : (value : Line) → Recalls old.gathered old.cache line value → found ≡ value
  pub read : IsUnknown old.gathered old.cache line → LoadsLine known line open_file new_file found
  pub now : Recalls new.gathered new.cache line found
  pub others : Learns (λ other value. LoadsLine known other open_file new_file value) old.gathered old.cache new.gathered new.cache

-- The line is gathered with this value, and what was gathered before still is, or was written.
pub record Stores {F : Type 0} (known : F → Option (List ℕ)) (line : ℕ) (value : Line) (open_file new_file : Option F) (old new : LineMemory) : Type 0 where
  pub now : IsGathered new.gathered line value
  pub others : NoMore line old.gathered old.cache new.gathered new.cache
  pub none_lost : StillGathered line old.gathered new.gathered ⊎ WritesGathered known old.gathered open_file new_file

-- the line with one word changed
abbrev pub with_word : Line → ℕ → ℕ → Line
with_word line word value = record { words = set line.words word value }

-- The line was loaded, and stored with one word changed.
pub record StoresWord {F : Type 0} (known : F → Option (List ℕ)) (line word value : ℕ) (open_file new_file : Option F) (old new : LineMemory) : Type 0 where
  pub before : Line
  pub loaded_file : Option F
  pub loaded : LineMemory
  pub loads : Loads known line open_file loaded_file old loaded before
  pub stores : Stores known line (with_word before word value) loaded_file new_file loaded new

-- What was gathered was written, and nothing is gathered any more.
pub record Hands {F : Type 0} (known : F → Option (List ℕ)) (open_file new_file : Option F) (old new : LineMemory) : Type 0 where
  pub empty : IsEmpty new.gathered
  pub written : IsEmpty old.gathered ⊎ WritesGathered known old.gathered open_file new_file
  pub cache : new.cache ≡ old.cache

-- Line `line`, at its distance from the first one, has this value in a chunk.
pub record InChunk (first : ℕ) (chunk : List ℕ) (line : ℕ) (value : Line) : Type 0 where
  pub place : ℕ
  pub below : place < 64
  pub line_is : line ≡ first + place
  pub words : IsRead little_number 8 (slice_range chunk (64 * place) (64 * place + 64)) value.words
