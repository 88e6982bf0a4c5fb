-- What the calls on the file of the NVM do, out of what their parts do.
use Rattle.std.proofs.Common.{◌≡◌, ℕ, List, Option, Some, Result, Ok, Err, subst, inl, inr, ◌⊎◌}
use Rattle.std.specs.Prelude.{OnOk}
use Rattle.nvm_model.specs.declared.line.Line.{Line}
use Rattle.device_files.specs.declared.line_cache.LineCache.{LineCache}
use Rattle.device_files.specs.declared.line_memory.LineMemory.{LineMemory}
use Rattle.device_files.specs.DeviceFile.{LoadsLine}
use Rattle.device_files.specs.Gathered.{IsGathered}
use Rattle.device_files.specs.LineCache.{IsCached}
use Rattle.device_files.specs.LineMemory.{Recalls, NoMore, StillGathered}
use Rattle.device_files.specs.NvmFile.{Loads, Stores, StoresWord, Hands, WritesGathered, with_word}
use Rattle.device_files.proofs.LineLaws.{none_gathered}
use Rattle.device_files.proofs.LearnLaws.{learns_nothing}

-- a line that was remembered is given, and nothing changes
pub loads_known : {F : Type 0} (known_bytes : F → Option (List ℕ)) (line : ℕ) (file : Option F) (memory : LineMemory) (known : Line)
    → ((value : Line) → Recalls memory.gathered memory.cache line value → Some known ≡ Some value) → Recalls memory.gathered memory.cache line known
    → Loads known_bytes line file file memory memory known
loads_known known_bytes line file memory known same recalled = record {
  recalled = λ value h. let e : Some known ≡ Some value = same value h in cc;
  read = λ unknown. absurd (unknown known recalled);
  now = recalled;
  others = learns_nothing (λ other value. LoadsLine known_bytes other file file value) memory;
}

-- what was gathered is written, and then the line is gathered
pub stores_after : {F : Type 0} (known : F → Option (List ℕ)) (line : ℕ) (value : Line) (file new_file : Option F) (old before written new : LineMemory)
    → before ≡ old → Hands known file new_file before written → IsGathered new.gathered line value
    → NoMore line written.gathered written.cache new.gathered new.cache
    → Stores known line value file new_file old new
stores_after {F = F} known line value file new_file old before written new same hands taken others =
    let hands_old : Hands known file new_file old written = subst (λ (m : LineMemory). Hands known file new_file m written) same hands in
    let recalls : (other : ℕ) (found : Line) → Recalls written.gathered written.cache other found → Recalls old.gathered old.cache other found =
    λ other found h. elim h [
      | inl hg ↦ absurd (none_gathered written.gathered other found hands_old.empty hg)
      | inr hc ↦ inr (subst (λ (k : LineCache). IsCached k other found) hands_old.cache hc)
    ] in
    let lost : StillGathered line old.gathered new.gathered ⊎ WritesGathered known old.gathered file new_file =
    elim hands_old.written [
      | inl empty ↦ inl (record { each = λ other found ne h. absurd (none_gathered old.gathered other found empty h) })
      | inr done ↦ inr done
    ] in
    record {
      now = taken;
      others = record { each = λ other found ne h. recalls other found (others.each other found ne h) };
      none_lost = lost;
    }

-- a line is loaded, and stored with one word changed
pub stores_word : {F E : Type 0} (known : F → Option (List ℕ)) (line word value : ℕ) (before : Line) (file loaded_file new_file : Option F) (old loaded new : LineMemory) (result : Result Unit E)
    → Loads known line file loaded_file old loaded before
    → OnOk result (Stores known line (with_word before word value) loaded_file new_file loaded new)
    → OnOk result (StoresWord known line word value file new_file old new)
stores_word known line word value before file loaded_file new_file old loaded new (Err e) loads stores = tt
stores_word known line word value before file loaded_file new_file old loaded new (Ok _) loads stores =
    record { before = before; loaded_file = loaded_file; loaded = loaded; loads = loads; stores = stores }
