-- The CLOCK rule of replacement. A clock is the circle of its places, read from the hand: each place with
-- its number and its slot, the place under the hand first.
use Rattle.std.specs.Prelude.{ℕ, zero, suc, ◌+◌, Bool, true, false, ◌==◌, List, [], ◌∷◌, ◌++◌, length, map, min, cond, Option, Some, None}
use Rattle.std.specs.List.{list_any}
use Rattle.std.specs.Option.{option_map}
use Rattle.clock_sweep.specs.declared.clock.Slot.{Slot}
use Rattle.clock_sweep.specs.declared.clock.Slot.TheVariants.{Empty, Clear, Set}

abbrev pub Circle : Type 0
Circle = List (ℕ × Slot)

abbrev pub stands : Slot → Bool
stands Empty = false
stands Clear = true
stands Set = true

abbrev pub is_clear : Slot → Bool
is_clear Empty = false
is_clear Clear = true
is_clear Set = false

abbrev pub is_empty : Slot → Bool
is_empty Empty = true
is_empty Clear = false
is_empty Set = false

-- its bit is clear, where it stands
abbrev pub cleared : Slot → Slot
cleared Empty = Empty
cleared Clear = Clear
cleared Set = Clear

-- n empty places from number k on
abbrev pub places_from : ℕ → ℕ → Circle
places_from k zero = []
places_from k (suc n) = (k, Empty) ∷ places_from (k + 1) n

-- n empty places in order, the hand at the first
abbrev pub new_clock : ℕ → Circle
new_clock n = places_from 0 n

-- one place gets this slot, and the others stay
abbrev pub with_slot : ℕ → Slot → Circle → Circle
with_slot place slot circle = map (λ e. (e.0, cond (e.0 == place) slot e.1)) circle

abbrev pub inserted : ℕ → Circle → Circle
inserted place circle = with_slot place Set circle

abbrev pub touched : ℕ → Circle → Circle
touched place circle = with_slot place Set circle

abbrev pub removed : ℕ → Circle → Circle
removed place circle = with_slot place Empty circle

-- whether any place stands
abbrev pub any_stands : Circle → Bool
any_stands circle = list_any (λ e. stands e.1) circle

-- the lower of a place and one that may be there
abbrev pub lower : ℕ → Option ℕ → Option ℕ
lower k None = Some k
lower k (Some j) = Some (min k j)

abbrev pub lower_if : Bool → ℕ → Option ℕ → Option ℕ
lower_if true k rest = lower k rest
lower_if false k rest = rest

-- the lowest number of an empty place
unfoldable pub lowest_empty : Circle → Option ℕ
lowest_empty [] = None
lowest_empty (e ∷ circle) = lower_if (is_empty e.1) e.0 (lowest_empty circle)

-- a circle cut at one place: the places before it, its number, and those behind it
pub record Cut : Type 0 where
  pub before : Circle
  pub place : ℕ
  pub behind : Circle

abbrev pub with_first : ℕ × Slot → Cut → Cut
with_first e cut = record { before = e ∷ cut.before; place = cut.place; behind = cut.behind }

abbrev pub cut_here : Bool → ℕ × Slot → Circle → Option Cut → Option Cut
cut_here true e circle later = Some (record { before = []; place = e.0; behind = circle })
cut_here false e circle later = option_map (with_first e) later

-- the cut at the first place whose slot passes the test
unfoldable pub first_cut : (Slot → Bool) → Circle → Option Cut
first_cut test [] = None
first_cut test (e ∷ circle) = cut_here (test e.1) e circle (first_cut test circle)

-- these places with their bits clear
abbrev pub passed : Circle → Circle
passed circle = map (λ e. (e.0, cleared e.1)) circle

-- A victim, the steps to it, and the clock after it. The victim is empty, and the hand is behind it.
pub record Swept : Type 0 where
  pub place : ℕ
  pub steps : ℕ
  pub clock : Circle

-- The first standing place with a clear bit, where there is one; the bits before it become clear. Else
-- the first standing place, after one whole turn; all other bits become clear.
abbrev pub swept : ℕ → Option Cut → Option Cut → Option Swept
swept n (Some cut) standing = Some (record {
  place = cut.place;
  steps = length cut.before + 1;
  clock = cut.behind ++ passed cut.before ++ (cut.place, Empty) ∷ [];
})
swept n None (Some cut) = Some (record {
  place = cut.place;
  steps = n + (length cut.before + 1);
  clock = passed cut.behind ++ passed cut.before ++ (cut.place, Empty) ∷ [];
})
swept n None None = None

-- none exactly where no place stands
unfoldable pub victim : Circle → Option Swept
victim circle = swept (length circle) (first_cut is_clear circle) (first_cut stands circle)
