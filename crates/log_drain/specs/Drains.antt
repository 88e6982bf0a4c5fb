-- What a drain does: to the log in memory, to the devices, to the log of every image, and to the facts of an open store.
use Rattle.std.specs.Prelude.{◌≡◌, ℕ, ◌+◌, ◌-◌, ◌*◌, ◌/◌, ◌≤◌, min, List, [], ◌∷◌, length, None, IsTrue, Result, IfOk, OnOk, OnErr}
use Rattle.devices.specs.State.{Image, Leaves, Call, current}
use Rattle.devices.specs.World.{Standing, Moments, MakesAll, now}
use Rattle.store_model.specs.Layout.{Sizes, ring_blocks, floor64}
use Rattle.store_model.specs.Recovered.{log_lines}
use Rattle.store_model.specs.Put.{CanPut}
use Rattle.store_model.specs.StoreFacts.{Gate, Bookkeeping, StoreFacts}
use Rattle.store_model.specs.Seen.{changing_to}
use Rattle.store_model.specs.Blocks.{drain_all_calls, AreCopied}
use Rattle.nvm_layout.specs.Sizes.{sizes_of}
use Rattle.nvm_log.specs.Offsets.{Offsets, offsets_of}
use Rattle.nvm_log.specs.Standing.{IsLogOf}
use Rattle.nvm_log.specs.declared.log.Log.{Log}

-- n blocks more stand on the SSD
abbrev pub raised : ℕ → Offsets → Offsets
raised n at = record at { drained = at.drained + 64 * n }

-- How many blocks can be drained, `most` at most: no more than the ring on the SSD has, than stand whole in the ring in NVM,
-- and than have a free place, from the block of the start on.
abbrev pub drainable : ℕ → Log → ℕ
drainable most log =
    let ring = ring_blocks (sizes_of log.geometry) in
    min (min (min most ring) ((log.tail - log.drained) / 64)) (ring - (log.drained - floor64 log.start) / 64)

-- The log in memory has so many blocks more on the SSD as the call answers; where it stops it stays.
pub record MovesBlocks {E : Type 0} (old new : Log) (most : ℕ) (result : Result ℕ E) : Type 0 where
  pub geometry : new.geometry ≡ old.geometry
  pub count : IfOk result (λ n. n ≡ drainable most old)
  pub ok : IfOk result (λ n. offsets_of new ≡ raised n (offsets_of old))
  pub err : OnErr result (offsets_of new ≡ offsets_of old)

-- the calls of a drain: none where there is no block
abbrev pub drain_makes : Sizes → ℕ → List (List ℕ) → List Call
drain_makes g offset [] = []
drain_makes g offset (bytes ∷ blocks) = drain_all_calls g offset (bytes ∷ blocks)

-- Copies of whole blocks of the log, from `drained` on, that stand below the tail and have a free place each, are written,
-- settled by one sync, and then the gate is raised over them; so many at most, and all of it where the call answers ok, and
-- then it is here.
pub record Drains {T E : Type 0} (log : Log) (most drained : ℕ) (old new : Standing) (result : Result T E) : Type 0 where
  pub blocks : List (List ℕ)
  pub makes : MakesAll (drain_makes (sizes_of log.geometry) log.drained blocks) old new result
  pub copied : IsTrue old.told → AreCopied (sizes_of log.geometry) log.drained blocks (now old)
  pub lines : log.drained + 64 * length blocks ≤ log.tail
  pub room : log.drained + 64 * length blocks ≤ floor64 log.start + 64 * ring_blocks (sizes_of log.geometry)
  pub few : length blocks ≤ ring_blocks (sizes_of log.geometry)
  pub bound : length blocks ≤ most
  pub count : OnOk result (drained ≡ log.drained + 64 * length blocks)

-- At each moment every image has the same log lines; where the call answers ok the log in memory is that of the devices.
pub record KeepsLines {T E : Type 0} (g : Sizes) (at : Offsets) (old new : Standing) (result : Result T E) : Type 0 where
  pub part : Moments old new (λ s. (i : Image) → Leaves s i → log_lines i ≡ log_lines (current (now old)))
  pub whole : OnOk result (IsLogOf g at (now new))

abbrev pub DrainLines : {T E : Type 0} → Log → Log → Standing → Standing → Result T E → Type 0
DrainLines log new_log old new result =
    IsTrue old.told → IsLogOf (sizes_of log.geometry) (offsets_of log) (now old) → CanPut (now old) 0
    → KeepsLines (sizes_of new_log.geometry) (offsets_of new_log) old new result

-- At each moment the facts hold with `drained` being raised by so many blocks at most, and where the call answers ok with no gate being changed, and
-- the log in memory is that of the devices.
pub record KeepsRaised {T E : Type 0} (g : Sizes) (from_here most : ℕ) (at : Offsets) (b : Bookkeeping) (old new : Standing) (result : Result T E) : Type 0 where
  pub to : ℕ
  pub bound : to ≤ from_here + 64 * most
  pub part : Moments old new (StoreFacts (changing_to b Gate.drained from_here to b.committed))
  pub whole : OnOk result (StoreFacts b (now new))
  pub reached : OnOk result (at.drained ≡ to)
  pub log_is : OnOk result (IsLogOf g at (now new))

abbrev pub DrainKeeps : {T E : Type 0} → Log → ℕ → Log → Standing → Standing → Result T E → Type 0
DrainKeeps log most new_log old new result =
    (b : Bookkeeping) → IsTrue old.told → IsLogOf (sizes_of log.geometry) (offsets_of log) (now old) → StoreFacts b (now old) → b.changing ≡ None
    → KeepsRaised (sizes_of new_log.geometry) log.drained most (offsets_of new_log) b old new result
