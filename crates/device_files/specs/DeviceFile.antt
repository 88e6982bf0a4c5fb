-- What a read and a write at a position do to the file of a device, as far as the file's type says what it holds.
use Rattle.std.specs.Prelude.{◌≡◌, ℕ, List, Option, Some, IfSome, IsSomeAnd, drop}
use Rattle.byteorder.specs.Endian.{little_number, IsRead}
use Rattle.nvm_model.specs.declared.line.Line.{Line}
use Rattle.device_files.specs.LineBytes.{line_start}
use Rattle.device_files.specs.Positioned.{padded, bytes_from, WritesBytes}

-- From the file so many bytes were read from `start` on, with zeros past its end. It is open now, and one that was open is
-- as it was.
pub record ReadsAt {F : Type 0} (known : F → Option (List ℕ)) (start size : ℕ) (open_file new_file : Option F) (into : List ℕ) : Type 0 where
  pub same : IfSome open_file (λ file. new_file ≡ Some file)
  pub filled : IsSomeAnd new_file (λ file. IfSome (bytes_from (known file) start) (λ left. into ≡ padded size left))

-- To the file, as it was open or was opened now, the bytes were written from `start` on, and it is open.
pub record WritesAt {F : Type 0} (known : F → Option (List ℕ)) (start : ℕ) (open_file new_file : Option F) (bytes : List ℕ) : Type 0 where
  pub opened : F
  pub same : IfSome open_file (λ file. opened ≡ file)
  pub written : IsSomeAnd new_file (λ file. WritesBytes start bytes (known opened) (known file))

-- among these bytes of a file the line has this value
pub record IsLineOf (xs : List ℕ) (line : ℕ) (value : Line) : Type 0 where
  pub words : IsRead little_number 8 (padded 64 (drop (line_start line) xs)) value.words

-- The line was read where it stands. The file is open now, and one that was open is as it was.
pub record LoadsLine {F : Type 0} (known : F → Option (List ℕ)) (line : ℕ) (open_file new_file : Option F) (found : Line) : Type 0 where
  pub same : IfSome open_file (λ file. new_file ≡ Some file)
  pub read : IsSomeAnd new_file (λ file. IfSome (known file) (λ xs. IsLineOf xs line found))
