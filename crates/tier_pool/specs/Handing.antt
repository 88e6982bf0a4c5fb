-- Pages that are handed down from DRAM: the bytes of a copy, and what the calls lead to that put them into a frame.
use Rattle.std.specs.Prelude.{◌≡◌, ℕ, ◌<◌, Bool, false, List, Some, None, IsTrue, Result}
use Rattle.nvm_model.specs.declared.line.Line.{Line}
use Rattle.devices.specs.State.{current}
use Rattle.devices.specs.World.{Standing, now}
use Rattle.line_pages.specs.declared.stop.Stop.{Stop}
use Rattle.store_model.specs.Layout.{Sizes}
use Rattle.store_model.specs.Format.{word_in}
use Rattle.store_model.specs.Recovered.{block_word}
use Rattle.device_calls.specs.Leads.{Leads}
use Rattle.home_move.specs.Frames.{page_lines}
use Rattle.tier_map.specs.declared.place.Place.{Place}
use Rattle.tier_map.specs.declared.place.Place.TheVariants.{Full}
use Rattle.page_frame.specs.Frames.{line_at}
use Rattle.tier_rules.specs.Parts.{Parts, copy_at, copy_line}
use Rattle.tier_facts.specs.Data.{installed, page_cleaned}
use Rattle.tier_facts.specs.Facts.{Held, Facts, Hard, IsClean, AreCurrent}
use Rattle.part_laws.specs.PartData.{data_of_parts}

-- Of the first n lines, those that are in the copy at this place stand at their places of these bytes.
pub record HoldsCopy (parts : Parts) (place : Place) (n : ℕ) (bytes : List ℕ) : Type 0 where
  pub words : (l w : ℕ) (line : Line) → l < n → w < 8 → line_at (copy_at place parts.arena parts.minis) l ≡ Some line → block_word bytes l w ≡ word_in line w

-- the page's copy has all its lines
pub record IsWhole (parts : Parts) (page : ℕ) : Type 0 where
  pub lines : (l : ℕ) → l < 64 → (line : Line) × (copy_line parts page l ≡ Some line)

-- The page stands in no frame, and its copy is at this place, with all its lines.
pub record StandsWhole (page : ℕ) (place : Place) (parts : Parts) : Type 0 where
  pub here : parts.map.place page ≡ place
  pub homeless : parts.map.nvm page ≡ None
  pub whole : IsWhole parts page

-- The page's copy is at this place, with all its lines where the page stands in no frame.
pub record StandsAt (page : ℕ) (place : Place) (parts : Parts) : Type 0 where
  pub here : parts.map.place page ≡ place
  pub whole : parts.map.nvm page ≡ None → IsWhole parts page

-- A full copy of a page that stands in no frame has all its lines.
pub record AreWhole (parts : Parts) : Type 0 where
  pub each : (page i : ℕ) → parts.map.place page ≡ Full i → parts.map.nvm page ≡ None → IsWhole parts page

-- The page is put into the frame with these bytes: those of its whole copy, whose dirty lines are durable then, or, where no
-- line is dirty, those of the devices.
pub record InstallsPage {T : Type 0} (g : Sizes) (page k : ℕ) (worn : Bool) (bytes : List ℕ) (parts : Parts) (old new : Standing) (result : Result T Stop) : Type 0 where
  pub copied : (place : Place) → StandsWhole page place parts → HoldsCopy parts place 64 bytes → (worn ≡ false → IsClean (data_of_parts g parts) page)
      → Leads Held (Hard (data_of_parts g parts)) (Hard (installed page k worn (data_of_parts g parts))) old new result
  pub read : IsClean (data_of_parts g parts) page → (IsTrue old.told → AreCurrent (data_of_parts g parts) (current (now old)) page (page_lines bytes))
      → Leads Held (Facts (data_of_parts g parts)) (Facts (installed page k worn (data_of_parts g parts))) old new result

-- The page's lines go from its whole copy at this place to its home block, durable.
pub record PassesPage {T : Type 0} (g : Sizes) (page : ℕ) (place : Place) (parts : Parts) (old new : Standing) (result : Result T Stop) : Type 0 where
  pub each : StandsWhole page place parts → Leads Held (Hard (data_of_parts g parts)) (Hard (page_cleaned page (data_of_parts g parts))) old new result
