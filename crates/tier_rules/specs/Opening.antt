-- The state at the opening, from the words of the frame table.
use Rattle.std.specs.Prelude.{◌≡◌, ℕ, zero, suc, ◌+◌, Bool, true, false, ◌==◌, pred, List, [], ◌∷◌, length, take, cond, slice_index, Option, Some, None}
use Rattle.clock_sweep.specs.declared.clock.Slot.{Slot}
use Rattle.clock_sweep.specs.declared.clock.Slot.TheVariants.{Empty, Set}
use Rattle.page_frame.specs.LineSets.{no_lines}
use Rattle.tier_map.specs.Placement.{nothing_placed}
use Rattle.tier_rules.specs.Plans.{Plan}
use Rattle.clock_sweep.specs.Clock.{Circle, new_clock}
use Rattle.tier_rules.specs.Tallies.{zero_tally}
use Rattle.tier_rules.specs.State.{TierState}

-- the page that an entry names
abbrev pub named_page : ℕ → Option ℕ
named_page zero = None
named_page (suc page) = Some page

-- the first of these frames whose entry names the page, counted from k
abbrev pub frame_naming : ℕ → ℕ → List ℕ → Option ℕ
frame_naming page k [] = None
frame_naming page k (entry ∷ entries) = cond (entry == suc page) (Some k) (frame_naming page (k + 1) entries)

abbrev pub slot_of : ℕ → Slot
slot_of zero = Empty
slot_of (suc page) = Set

-- each frame with an entry stands with its bit set
abbrev pub table_clock : ℕ → List ℕ → Circle
table_clock k [] = []
table_clock k (entry ∷ entries) = (k, slot_of entry) ∷ table_clock (k + 1) entries

abbrev pub is_named : ℕ → Bool
is_named zero = false
is_named (suc page) = true

-- The words are those of the frames and of the pass-through frame, which comes last and is empty. Each
-- occupied frame counts as dirty.
unfoldable pub opened : Plan → List ℕ → TierState
opened plan words = let entries = take (pred (length words)) words in record {
  plan = plan;
  frames = length entries;
  access = None;
  map = record nothing_placed {
    nvm = λ page. frame_naming page 0 entries;
    frame_page = λ k. named_page (slice_index entries k);
  };
  resident = λ page. no_lines;
  dirty = λ page. no_lines;
  frame_dirty = λ k. is_named (slice_index entries k);
  full_clock = new_clock plan.dram_frames;
  mini_clock = new_clock plan.minis;
  nvm_clock = table_clock 0 entries;
  queue = [];
  drawn = 0;
  tally = zero_tally;
}

-- no page is named twice
abbrev pub IsTable : List ℕ → Type 0
IsTable entries = (i j page : ℕ) → slice_index entries i ≡ suc page → slice_index entries j ≡ suc page → i ≡ j
