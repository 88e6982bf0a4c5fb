-- Where a log stands in memory, and what each call makes of that.
use Rattle.std.specs.Prelude.{◌≡◌, ℕ, ◌+◌, Result, OnOk, OnErr}
use Rattle.nvm_log.specs.declared.log.Log.{Log}

-- The offsets of its first line, of the first that stands in the NVM ring, behind its last line, and behind the last line
-- that is stored.
pub record Offsets : Type 0 where
  pub start : ℕ
  pub drained : ℕ
  pub tail : ℕ
  pub written : ℕ

abbrev pub offsets_of : Log → Offsets
offsets_of log = record { start = log.start; drained = log.drained; tail = log.tail; written = log.written }

-- n lines more are stored
abbrev pub appended : ℕ → Offsets → Offsets
appended n at = record at { written = at.written + n }

-- all that is stored is part of the log
abbrev pub hardened : Offsets → Offsets
hardened at = record at { tail = at.written }

-- the log is empty
abbrev pub emptied : Offsets → Offsets
emptied at = record at { start = at.tail }

-- The log in memory has the same sizes, and where the call answers ok it stands there, else where it stood.
pub record IsMoved {T E : Type 0} (old new : Log) (to : Offsets) (result : Result T E) : Type 0 where
  pub geometry : new.geometry ≡ old.geometry
  pub ok : OnOk result (offsets_of new ≡ to)
  pub err : OnErr result (offsets_of new ≡ offsets_of old)
