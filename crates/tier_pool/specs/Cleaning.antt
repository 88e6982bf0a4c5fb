-- Cleaning in the background, by the fields.
use Rattle.std.specs.Prelude.{ℕ, Option, Some, None}
use Rattle.tier_map.specs.declared.place.Place.{Place}
use Rattle.tier_rules.specs.Tallies.{one_cleaned}
use Rattle.tier_rules.specs.Parts.{Parts}
use Rattle.tier_pool.specs.Places.{copy_stored, copy_passed}

abbrev pub written_by : Option ℕ → Place → Parts → Parts
written_by (Some k) place parts = copy_stored place k parts
written_by None place parts = copy_passed place parts

-- the dirty lines of the page's copy are in its frame, or else the page passed through, which is counted
abbrev pub copy_written : ℕ → Place → Parts → Parts
copy_written page place parts = let after = written_by (parts.map.nvm page) place parts in record after { tally = one_cleaned after.tally }
