-- What the cleaning of one copy leaves: the map and the plan, and the copies of the other pages; its own copy is clean.
use Rattle.std.proofs.Common.{Bool, true, false, ◌≡◌, ◌≢◌, ℕ, refl, sym, ap, ◌∙◌, Option, Some, None}
use Rattle.std.specs.Prelude.{◌==◌}
use Rattle.tier_map.specs.declared.place.Place.{Place}
use Rattle.tier_map.specs.declared.place.Place.TheVariants.{Absent, Full, Mini}
use Rattle.tier_map.specs.Placement.{Placement, Agrees}
use Rattle.page_frame.specs.LineSets.{no_lines}
use Rattle.tier_rules.specs.Parts.{Parts, dirty_at}
use Rattle.tier_rules.specs.Tallies.{one_pass}
use Rattle.tier_rules.specs.Plans.{Plan}
use Rattle.part_laws.specs.PartData.{dirty_lines, SameOthers}
use Rattle.tier_pool.specs.Places.{copy_cleaned, copy_stored, stored_unless, frame_marked, copy_passed}
use Rattle.tier_pool.specs.Cleaning.{written_by, copy_written}
use Rattle.tier_pool.proofs.StoringLaws.{cleaned_others, cleaned_marks}
use Rattle.tier_pool.proofs.RoomLaws.{stored_clean}

-- the map and the plan stay
pub record SameMap (old new : Parts) : Type 0 where
  pub map : new.map ≡ old.map
  pub plan : new.plan ≡ old.plan

cleaned_map : (place : Place) (parts : Parts) → SameMap parts (copy_cleaned place parts)
cleaned_map Absent parts = record { map = refl; plan = refl }
cleaned_map (Full i) parts = record { map = refl; plan = refl }
cleaned_map (Mini j) parts = record { map = refl; plan = refl }

stored_map : (b : Bool) (place : Place) (k : ℕ) (parts : Parts) → SameMap parts (stored_unless b place k parts)
stored_map true place k parts = record { map = refl; plan = refl }
stored_map false place k parts = let it = cleaned_map place (frame_marked k parts) in record { map = it.map; plan = it.plan }

by_map : (o : Option ℕ) (place : Place) (parts : Parts) → SameMap parts (written_by o place parts)
by_map (Some k) place parts = stored_map (dirty_at place parts.full_dirty parts.minis == no_lines) place k parts
by_map None place parts = let it = cleaned_map place (record parts { tally = one_pass parts.tally }) in record { map = it.map; plan = it.plan }

pub written_map : (page : ℕ) (place : Place) (parts : Parts) → SameMap parts (copy_written page place parts)
written_map page place parts = let it = by_map (parts.map.nvm page) place parts in record { map = it.map; plan = it.plan }

-- the copies of the other pages are as they were
stored_others : (b : Bool) (place : Place) (k : ℕ) (parts : Parts) (page : ℕ) → Agrees parts.map → parts.map.place page ≡ place → SameOthers page parts (stored_unless b place k parts)
stored_others true place k parts page agrees here = record { copies = λ p l other. refl; dirty = λ p other. refl }
stored_others false place k parts page agrees here =
    let it : SameOthers page (frame_marked k parts) (copy_cleaned place (frame_marked k parts)) = cleaned_others place (frame_marked k parts) page agrees here in
    record { copies = it.copies; dirty = it.dirty }

by_others : (o : Option ℕ) (place : Place) (parts : Parts) (page : ℕ) → Agrees parts.map → parts.map.place page ≡ place → SameOthers page parts (written_by o place parts)
by_others (Some k) place parts page agrees here = stored_others (dirty_at place parts.full_dirty parts.minis == no_lines) place k parts page agrees here
by_others None place parts page agrees here =
    let passed : Parts = record parts { tally = one_pass parts.tally } in
    let it : SameOthers page passed (copy_cleaned place passed) = cleaned_others place passed page agrees here in
    record { copies = it.copies; dirty = it.dirty }

pub written_others : (page : ℕ) (place : Place) (parts : Parts) → Agrees parts.map → parts.map.place page ≡ place → SameOthers page parts (copy_written page place parts)
written_others page place parts agrees here =
    let it = by_others (parts.map.nvm page) place parts page agrees here in
    record { copies = it.copies; dirty = it.dirty }

-- its own is clean
by_clean : (o : Option ℕ) (place : Place) (parts : Parts) (page : ℕ) → parts.map.place page ≡ place → dirty_lines (written_by o place parts) page ≡ no_lines
by_clean (Some k) place parts page here = stored_clean (dirty_at place parts.full_dirty parts.minis == no_lines) place k parts page here refl
by_clean None place parts page here = cleaned_marks place (record parts { tally = one_pass parts.tally }) page here

pub written_clean : (page : ℕ) (place : Place) (parts : Parts) → parts.map.place page ≡ place → dirty_lines (copy_written page place parts) page ≡ no_lines
written_clean page place parts here = by_clean (parts.map.nvm page) place parts page here
