-- The circle of a clock that is kept as its slots in order and a hand. A hand past the last place is at the first.
use Rattle.std.specs.Prelude.{◌≡◌, ℕ, ◌+◌, ◌<◌, ◌≤◌, ◌^◌, ◌==◌, false, cond, min, List, [], ◌∷◌, ◌++◌, length, take, drop, sum_by, slice_index_or, Option, Some, None}
use Rattle.clock_sweep.specs.declared.clock.Slot.{Slot}
use Rattle.clock_sweep.specs.declared.clock.Slot.TheVariants.{Empty, Clear, Set}
use Rattle.clock_sweep.specs.Clock.{is_empty}

-- the slots with their numbers, from k on
abbrev pub numbered : ℕ → List Slot → List (ℕ × Slot)
numbered k [] = []
numbered k (slot ∷ slots) = (k, slot) ∷ numbered (k + 1) slots

unfoldable pub circle_of : List Slot → ℕ → List (ℕ × Slot)
circle_of slots hand = numbered hand (drop hand slots) ++ numbered 0 (take hand slots)

-- what a sweep leaves of the slot under the hand
abbrev pub left_behind : Slot → Slot
left_behind Empty = Empty
left_behind Clear = Empty
left_behind Set = Clear

-- the victim, where the slot under the hand is clear
abbrev pub found_at : Slot → ℕ → Option ℕ
found_at Empty place = None
found_at Clear place = Some place
found_at Set place = None

-- One step of a sweep: the place under the hand goes behind all others.
abbrev pub turned : List (ℕ × Slot) → Option ℕ × List (ℕ × Slot)
turned [] = (None, [])
turned (e ∷ circle) = (found_at e.1 e.0, circle ++ (e.0, left_behind e.1) ∷ [])

-- 1 for an empty slot
abbrev pub vacancy : Slot → ℕ
vacancy Empty = 1
vacancy Clear = 0
vacancy Set = 0

-- What a clock keeps: the hand is at a place or behind the last one, the empty slots are counted, and no slot below low
-- is empty.
pub record IsKept (slots : List Slot) (hand vacant low : ℕ) : Type 0 where
  pub hand_in : hand ≤ length slots
  pub few : length slots < 2 ^ 32
  pub counted : vacant ≡ sum_by vacancy slots
  pub low_in : low ≤ length slots
  pub standing : (k : ℕ) → k < low → is_empty (slice_index_or slots k Empty) ≡ false

-- such a low number, after a place got a slot
abbrev pub low_after : ℕ → ℕ → Slot → ℕ
low_after low place Empty = min low place
low_after low place Clear = cond (low == place) (place + 1) low
low_after low place Set = cond (low == place) (place + 1) low

-- the number of empty slots, and such a low number, after a look at a place
abbrev pub vacant_found : ℕ → Option ℕ → ℕ
vacant_found vacant None = vacant
vacant_found vacant (Some place) = vacant + 1

abbrev pub low_found : ℕ → ℕ → Option ℕ → ℕ
low_found low place None = low
low_found low place (Some found) = min low place
