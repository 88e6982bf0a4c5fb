-- What is remembered of the lines of the NVM: those that are gathered, and those that are kept for later loads.
use Rattle.std.specs.Prelude.{◌≡◌, ◌≢◌, ℕ, ◌⊎◌}
use Rattle.nvm_model.specs.declared.line.Line.{Line}
use Rattle.device_files.specs.declared.gathered.Gathered.{Gathered}
use Rattle.device_files.specs.declared.line_cache.LineCache.{LineCache}
use Rattle.device_files.specs.Gathered.{IsGathered}
use Rattle.device_files.specs.LineCache.{IsCached}

-- a line that is gathered and kept has one value
pub record Agree (gathered : Gathered) (cache : LineCache) : Type 0 where
  pub each : (line : ℕ) (value found : Line) → IsGathered gathered line value → IsCached cache line found → value ≡ found

-- the line has this value there
abbrev pub Recalls : Gathered → LineCache → ℕ → Line → Type 0
Recalls gathered cache line value = IsGathered gathered line value ⊎ IsCached cache line value

-- nothing is known of the line
abbrev pub IsUnknown : Gathered → LineCache → ℕ → Type 0
IsUnknown gathered cache line = (value : Line) → Recalls gathered cache line value → ⊥

-- nothing more is remembered of the other lines
pub record NoMore (line : ℕ) (gathered : Gathered) (cache : LineCache) (new_gathered : Gathered) (new_cache : LineCache) : Type 0 where
  pub each : (other : ℕ) (value : Line) → other ≢ line → Recalls new_gathered new_cache other value → Recalls gathered cache other value

-- What is remembered now was remembered before, or it is of a line of which nothing was known, and is so.
pub record Learns (IsSo : ℕ → Line → Type 0) (gathered : Gathered) (cache : LineCache) (new_gathered : Gathered) (new_cache : LineCache) : Type 0 where
  pub same : new_gathered ≡ gathered
  pub each : (line : ℕ) (value : Line) → Recalls new_gathered new_cache line value → Recalls gathered cache line value ⊎ (IsUnknown gathered cache line × IsSo line value)

-- the other lines that were gathered still are
pub record StillGathered (line : ℕ) (gathered new_gathered : Gathered) : Type 0 where
  pub each : (other : ℕ) (value : Line) → other ≢ line → IsGathered gathered other value → IsGathered new_gathered other value
