-- What calls keep of the facts of the tiers, and what storing back keeps.
use Rattle.std.specs.Prelude.{◌≡◌, ℕ, ◌<◌, Some, true, false, slice_index_or, Result}
use Rattle.nvm_model.specs.declared.line.Line.{Line}
use Rattle.store_model.specs.Layout.{Sizes, pages}
use Rattle.nvm_layout.specs.Sizes.{sizes_of}
use Rattle.devices.specs.World.{Standing}
use Rattle.line_pages.specs.declared.stop.Stop.{Stop}
use Rattle.device_calls.specs.Leads.{Leads, Given}
use Rattle.tier_map.specs.declared.place.Place.{Place}
use Rattle.tier_map.specs.Placement.{Agrees}
use Rattle.tier_rules.specs.Parts.{Parts}
use Rattle.tier_facts.specs.Data.{Data, lines_cleaned}
use Rattle.tier_facts.specs.Facts.{Held, Facts, Hard, IsLoose, FactsWith}
use Rattle.tier_facts.specs.Reads.{IsCurrentLine}
use Rattle.part_laws.specs.PartData.{data_of_parts}
use Rattle.tier_pool.specs.declared.pool.TierPool.{TierPool}
use Rattle.tier_pool.specs.Fields.{parts_of}

-- The page's copy stands at this place, and the page in this frame.
pub record LiesOver (g : Sizes) (page : ℕ) (place : Place) (k : ℕ) (parts : Parts) : Type 0 where
  pub in_store : page < pages g
  pub here : parts.map.place page ≡ place
  pub framed : parts.map.nvm page ≡ Some k

-- Lines of the copy at this place are stored in the frame of its page, which is marked: those from one on and before another
-- are clean then.
pub record StoresLines {T : Type 0} (g : Sizes) (place : Place) (k from to : ℕ) (parts : Parts) (old new : Standing) (result : Result T Stop) : Type 0 where
  pub each : (page : ℕ) → LiesOver g page place k parts → slice_index_or parts.frame_dirty k false ≡ true
      → Leads Held (Hard (lines_cleaned page from (data_of_parts g parts))) (Hard (lines_cleaned page to (data_of_parts g parts))) old new result

-- The copy at this place is stored in the frame of its page.
pub record StoresBack {T : Type 0} (g : Sizes) (place : Place) (k : ℕ) (before after : Parts) (old new : Standing) (result : Result T Stop) : Type 0 where
  pub each : (page : ℕ) → LiesOver g page place k before → Agrees before.map → Leads Held (Hard (data_of_parts g before)) (Hard (data_of_parts g after)) old new result

abbrev pub data_of : TierPool → Data
data_of t = data_of_parts (sizes_of t.geometry) (parts_of t)

-- A call leads from the facts of the fields before it to those of the fields after it, where no record waits.
abbrev pub LeadsHard : {T : Type 0} → TierPool → TierPool → Standing → Standing → Result T Stop → Type 0
LeadsHard before after old new result = Leads Held (Hard (data_of before)) (Hard (data_of after)) old new result

-- The same where records may wait.
abbrev pub LeadsFacts : {T : Type 0} → TierPool → TierPool → Standing → Standing → Result T Stop → Type 0
LeadsFacts before after old new result = Leads Held (Facts (data_of before)) (Facts (data_of after)) old new result

-- The line that a call answers is the current one, and the facts of the fields hold again.
abbrev pub LeadsToLine : ℕ → ℕ → TierPool → Standing → Standing → Result Line Stop → Type 0
LeadsToLine page line tiers old new result =
    Leads Held (Facts (data_of tiers)) (Given (IsCurrentLine page line result) (Facts (data_of tiers))) old new result

-- Where no record waits and the line is loose, a call leads to the facts with this line.
abbrev pub LeadsWritten : {T : Type 0} → ℕ → ℕ → Line → TierPool → TierPool → Standing → Standing → Result T Stop → Type 0
LeadsWritten page line value before after old new result =
    Leads Held (Given (IsLoose page line) (Hard (data_of before))) (FactsWith page line value (data_of after)) old new result
