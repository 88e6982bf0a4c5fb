-- The placement as it is kept: one table by pages, and one by places for each tier.
use Rattle.std.specs.Prelude.{ℕ, List, slice_index_or, Option, None}
use Rattle.tier_map.specs.declared.place.PagePlaces.{PagePlaces}
use Rattle.tier_map.specs.declared.place.Place.TheVariants.{Absent}
use Rattle.tier_map.specs.Placement.{Placement}

abbrev pub nowhere : PagePlaces
nowhere = record { place = Absent; nvm = None }

-- the placement that the tables show; past their ends nothing is placed
abbrev pub shown : List PagePlaces → List (Option ℕ) → List (Option ℕ) → List (Option ℕ) → Placement
shown pages fulls minis frames = record {
  place = λ page. (slice_index_or pages page nowhere).place;
  nvm = λ page. (slice_index_or pages page nowhere).nvm;
  full_page = λ i. slice_index_or fulls i None;
  mini_owner = λ j. slice_index_or minis j None;
  frame_page = λ k. slice_index_or frames k None;
}
