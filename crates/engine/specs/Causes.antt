-- Why a call of an engine stops.
use Rattle.std.specs.Prelude.{◌⊎◌, ℕ, List, Result, IsTrue}
use Rattle.devices.specs.World.{Standing as Device}
use Rattle.damage.specs.declared.evidence.Evidence.{Evidence}
use Rattle.line_pages.specs.declared.stop.Stop.{Stop}
use Rattle.line_pages.specs.Standing.{HasCause}
use Rattle.table_catalog.specs.Catalog.{IsCatalogDamage, FailsCatalog}
use Rattle.table_store.specs.Getting.{IsLookupDamage, FailsLookup}
use Rattle.table_store.specs.Created.{IsCreateDamage, FailsCreate}
use Rattle.table_store.specs.Changed.{IsChangeDamage, FailsChange}
use Rattle.flat_transactions.specs.OpenStore.{IsLogDamage}
use Rattle.flat_transactions.specs.Order.{pages}
use Rattle.engine.specs.declared.engine.Engine.{Engine}
use Rattle.engine.specs.Engine.{engine_sizes, engine_lines, evidence_bytes}
use Rattle.engine.specs.Commands.{shown}

-- Damage of a page, as a call finds it that looks a name up, a key, makes a table, or changes rows. Whatever the devices hold,
-- the buffer fails the check that the evidence names; on devices that are told it is that page.
abbrev pub IsNameDamage : Engine → Device → List ℕ → Evidence → Type 0
IsNameDamage engine d buffer kept =
    FailsCatalog engine.limits (pages (engine_sizes engine)) buffer kept
    × (IsTrue d.told → IsCatalogDamage engine.limits (pages (engine_sizes engine)) (engine_lines engine d) buffer kept)

abbrev pub IsRowDamage : Engine → Device → List ℕ → Evidence → Type 0
IsRowDamage engine d buffer kept =
    FailsLookup engine.limits (pages (engine_sizes engine)) buffer kept
    × (IsTrue d.told → IsLookupDamage engine.limits (pages (engine_sizes engine)) (engine_lines engine d) buffer kept)

abbrev pub IsNewTableDamage : Engine → Device → List ℕ → Evidence → Type 0
IsNewTableDamage engine d buffer kept =
    FailsCreate engine.limits (pages (engine_sizes engine)) buffer kept
    × (IsTrue d.told → IsCreateDamage engine.limits (pages (engine_sizes engine)) (engine_lines engine d) buffer kept)

-- The catalog is checked before any line changes, a page of a tree as it is when the call stops, with the second engine.
abbrev pub IsNewRowsDamage : Engine → Device → Engine → Device → List ℕ → Evidence → Type 0
IsNewRowsDamage engine d after stop buffer kept =
    FailsChange engine.limits (pages (engine_sizes engine)) buffer kept
    × IsChangeDamage d.told engine.limits (pages (engine_sizes engine)) (engine_lines engine d) (engine_lines after stop) buffer kept

-- The evidence shows a line of the log that an abort read and that is no record of the store, and this of no devices that are
-- told: an engine that stands for them finds its own records.
abbrev pub IsUndoDamage : Engine → Device → Evidence → Type 0
IsUndoDamage engine d kept = IsLogDamage engine.book d kept × (IsTrue d.told → ⊥)

-- The evidence shows damage of a page, which stands in the buffer, or of a line of the log that an abort read. The call began
-- with the first engine and devices, and stopped with the second.
abbrev pub IsDamage : Engine → Device → Engine → Device → List ℕ → Evidence → Type 0
IsDamage engine d after stop buffer kept =
    IsRowDamage engine d buffer kept ⊎ (IsNewTableDamage engine d buffer kept ⊎ (IsNewRowsDamage engine d after stop buffer kept
    ⊎ IsUndoDamage engine d kept))

-- A fault comes only where its count rose, damage only with such evidence, and no fault is passed over.
abbrev pub Stops : {T : Type 0} → Engine → Device → Engine → Device → Result T Stop → Type 0
Stops old a new b result = HasCause (IsDamage old a new b (evidence_bytes new)) (shown old a) (shown new b) result

-- the same of a call that reads no page: damage is of a line of the log alone
abbrev pub StopsUndoing : {T : Type 0} → Engine → Device → Engine → Device → Result T Stop → Type 0
StopsUndoing old a new b result = HasCause (IsUndoDamage old a) (shown old a) (shown new b) result
