-- Cleaning in the background, by the fields.
use Rattle.std.specs.Prelude.{ℕ, ◌-◌, Bool, true, false, not, ◌||◌, ◌==◌, List, [], ◌∷◌, ◌++◌, take, filter, Option, Some, None}
use Rattle.std.specs.List.{filter_map}
use Rattle.page_frame.specs.LineSets.{no_lines}
use Rattle.tier_map.specs.declared.place.Place.{Place}
use Rattle.tier_rules.specs.Parts.{Parts, dirty_at}
use Rattle.tier_rules.specs.Cleaning.{numbers_from}
use Rattle.part_laws.specs.PartData.{dirty_lines}
use Rattle.tier_pool.specs.Cleaning.{copy_written}

-- the pages with a full copy, and those with a mini copy, by their places in ascending order
unfoldable pub pages_in_fulls : Parts → List ℕ
pages_in_fulls parts = filter_map parts.map.full_page (numbers_from 0 parts.plan.dram_frames)

unfoldable pub pages_in_minis : Parts → List ℕ
pages_in_minis parts = filter_map parts.map.mini_owner (numbers_from 0 parts.plan.minis)

-- those of some pages whose copy is dirty
abbrev pub is_dirty : Parts → ℕ → Bool
is_dirty parts page = not (dirty_lines parts page == no_lines)

abbrev pub dirty_of : List ℕ → Parts → List ℕ
dirty_of pages parts = filter (is_dirty parts) pages

-- all whose copy is dirty
unfoldable pub dirty_pages : Parts → List ℕ
dirty_pages parts = dirty_of (pages_in_fulls parts ++ pages_in_minis parts) parts

-- the copies of these pages became clean
unfoldable pub all_written : List ℕ → Parts → Parts
all_written [] parts = parts
all_written (page ∷ pages) parts = all_written pages (copy_written page (parts.map.place page) parts)

-- the first n dirty copies became clean
unfoldable pub cleaned : ℕ → Parts → Parts
cleaned n parts = all_written (take n (dirty_pages parts)) parts

-- the first n dirty mini copies did
unfoldable pub minis_cleaned : ℕ → Parts → Parts
minis_cleaned n parts = all_written (take n (dirty_of (pages_in_minis parts) parts)) parts

-- every dirty copy did
unfoldable pub settled : Parts → Parts
settled parts = all_written (dirty_pages parts) parts

-- ---- one place

-- how many more copies may become clean, and the fields
pub record PartsLeft : Type 0 where
  pub left : ℕ
  pub parts : Parts

-- by whether the copy stays as it is
abbrev pub written_unless : Bool → ℕ → Place → PartsLeft → PartsLeft
written_unless true page place at = at
written_unless false page place at = record { left = at.left - 1; parts = copy_written page place at.parts }

-- the copy at this place becomes clean, where there is one, it is dirty, and one more may
abbrev pub place_cleaned : Option ℕ → Place → PartsLeft → PartsLeft
place_cleaned None place at = at
place_cleaned (Some page) place at = written_unless (at.left == 0 || dirty_at place at.parts.full_dirty at.parts.minis == no_lines) page place at
