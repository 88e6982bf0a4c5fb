-- Cleaning in the background.
use Rattle.std.specs.Prelude.{ℕ, zero, suc, ◌+◌, Bool, List, [], ◌∷◌, ◌++◌, take, filter, Option, Some, None}
use Rattle.std.specs.List.{filter_map}
use Rattle.page_frame.specs.LineSets.{no_lines}
use Rattle.tier_map.specs.Placement.{changed}
use Rattle.tier_rules.specs.Tallies.{one_cleaned}
use Rattle.tier_rules.specs.State.{TierState, counting, is_dirty}
use Rattle.tier_rules.specs.Storing.{stored_back, passed_through}

-- n numbers from k on
abbrev pub numbers_from : ℕ → ℕ → List ℕ
numbers_from k zero = []
numbers_from k (suc n) = k ∷ numbers_from (k + 1) n

-- the pages with a DRAM copy: full places in ascending order, then mini places
unfoldable pub pages_in_dram : TierState → List ℕ
pages_in_dram s =
    filter_map s.map.full_page (numbers_from 0 s.plan.dram_frames)
    ++ filter_map s.map.mini_owner (numbers_from 0 s.plan.minis)

-- those whose copy is dirty
unfoldable pub dirty_pages : TierState → List ℕ
unfolding pages_in_dram
dirty_pages s = filter (λ page. is_dirty page s) (pages_in_dram s)

abbrev pub written : Option ℕ → Bool → TierState → TierState
written (Some k) dirty s = stored_back (Some k) dirty s
written None dirty s = passed_through s

-- The page's copy becomes clean and stays: its lines are stored back to its frame, or else it passes through.
unfoldable pub cleaned : ℕ → TierState → TierState
cleaned page s = counting one_cleaned (written (s.map.nvm page) (is_dirty page s) (record s { dirty = changed page no_lines s.dirty }))

unfoldable pub all_cleaned : List ℕ → TierState → TierState
all_cleaned [] s = s
all_cleaned (page ∷ pages) s = all_cleaned pages (cleaned page s)

-- The first n dirty copies become clean.
unfoldable pub clean : ℕ → TierState → TierState
clean n s = all_cleaned (take n (dirty_pages s)) s

-- Every dirty copy becomes clean.
unfoldable pub settled : TierState → TierState
settled s = all_cleaned (dirty_pages s) s
