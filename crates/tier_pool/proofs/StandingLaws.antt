-- The tiers as they are made stand: the clock of frames knows the frames that have a page, and nothing is in DRAM.
use Rattle.std.proofs.Common.{◌≡◌, ℕ, zero, suc, ◌+◌, ◌<◌, ◌≤◌, List, [], inl, inr, refl, sym, ap, ◌∙◌, arith}
use Rattle.std.specs.Prelude.{Option, Some, None, ◌==◌, slice_index}
use Rattle.std.proofs.lemmas.Bool.{cases_eq, eq-eqb}
use Rattle.clock_sweep.specs.Clock.{new_clock, places_from}
use Rattle.tier_map.specs.declared.place.Place.TheVariants.{Absent, Mini}
use Rattle.tier_rules.specs.Clocks.{one_if, place_count}
use Rattle.tier_rules.specs.Plans.{Plan}
use Rattle.tier_rules.specs.Opening.{named_page, opened}
use Rattle.tier_rules.specs.Parts.{Parts}
use Rattle.tier_rules.specs.Sound.{Clocked}
use Rattle.tier_laws.proofs.StandLaws.{clocked-inserted}
use Rattle.tier_laws.proofs.SoundLaws.{place_count-inserted}
use Rattle.tier_laws.proofs.OpenLaws.{opened-sound}
use Rattle.tier_pool.specs.Standing.{IsStanding}
use Rattle.tier_pool.specs.Opening.{empty_parts, entry_placed, entries_placed}

pub there_from : (b n k : ℕ) → b ≤ k → k < b + n → 1 ≤ place_count k (places_from b n)
there_from b zero k low high = absurd (omega arith)
there_from b (suc n) k low high = elim (cases_eq b k) [
  | inl same ↦ let one : one_if (b == k) ≡ 1 = rw (eq-eqb b k same) refl in omega arith
  | inr other ↦ let rest = there_from (b + 1) n k (omega arith) (omega arith) in omega arith
]

new_clocked : (plan : Plan) (n : ℕ) → 1 ≤ plan.dram_frames → Clocked (new_clock n) (λ (i : ℕ). None)
unfolding opened
new_clocked plan n some = (opened-sound (record plan { minis = n }) [] some (λ i j page h g. absurd (omega arith))).mini_clock

pub empty_standing : (plan : Plan) (n : ℕ) → 1 ≤ plan.dram_frames → IsStanding (empty_parts plan n)
empty_standing plan n some = record {
  fulls = new_clocked plan plan.dram_frames some;
  minis = new_clocked plan plan.minis some;
  frames = new_clocked plan n some;
  over = record { frame = λ page j h. absurd (cc) };
}

-- the place is in the clock of frames
entry_there : (o : Option ℕ) (k j : ℕ) (parts : Parts) → 1 ≤ place_count j parts.nvm_clock → 1 ≤ place_count j (entry_placed o k parts).nvm_clock
entry_there None k j parts there = there
entry_there (Some page) k j parts there = rw (place_count-inserted k parts.nvm_clock j) there

entries_there : (words : List ℕ) (parts : Parts) (j : ℕ) → 1 ≤ place_count j parts.nvm_clock → (k : ℕ) → 1 ≤ place_count j (entries_placed k words parts).nvm_clock
unfolding entries_placed
entries_there words parts j there zero = there
entries_there words parts j there (suc k) = entry_there (named_page (slice_index words k)) k j (entries_placed k words parts) (entries_there words parts j there k)

entry_standing : (o : Option ℕ) (k : ℕ) (parts : Parts) → 1 ≤ place_count k parts.nvm_clock → ((page j : ℕ) → parts.map.place page ≡ Mini j → ⊥) → IsStanding parts
    → IsStanding (entry_placed o k parts)
entry_standing None k parts there none s = s
entry_standing (Some page) k parts there none s = record {
  fulls = s.fulls;
  minis = s.minis;
  frames = clocked-inserted parts.nvm_clock parts.map.frame_page k page there s.frames;
  over = record { frame = λ q j h. absurd (none q j h) };
}

entry_place : (o : Option ℕ) (k : ℕ) (parts : Parts) (page : ℕ) → (entry_placed o k parts).map.place page ≡ parts.map.place page
entry_place None k parts page = refl
entry_place (Some q) k parts page = refl

entries_place : (words : List ℕ) (parts : Parts) (page k : ℕ) → (entries_placed k words parts).map.place page ≡ parts.map.place page
unfolding entries_placed
entries_place words parts page zero = refl
entries_place words parts page (suc k) = entry_place (named_page (slice_index words k)) k (entries_placed k words parts) page ∙ entries_place words parts page k

entries_standing : (words : List ℕ) (plan : Plan) (n : ℕ) → 1 ≤ plan.dram_frames → (k : ℕ) → k ≤ n → IsStanding (entries_placed k words (empty_parts plan n))
unfolding entries_placed
entries_standing words plan n some zero h = empty_standing plan n some
entries_standing words plan n some (suc k) h =
    let before = entries_placed k words (empty_parts plan n) in
    entry_standing (named_page (slice_index words k)) k before
    (entries_there words (empty_parts plan n) k (there_from 0 n k (omega arith) (omega arith)) k)
    (λ page j is. absent_no j (sym (entries_place words (empty_parts plan n) page k) ∙ is))
    (entries_standing words plan n some k (omega arith))
  where
    absent_no : (j : ℕ) → Absent ≡ Mini j → ⊥
    absent_no j h = absurd (cc)

-- the tiers as they are made stand
pub made_standing : (words : List ℕ) (plan : Plan) (n : ℕ) → 1 ≤ plan.dram_frames → IsStanding (entries_placed n words (empty_parts plan n))
made_standing words plan n some = entries_standing words plan n some n (omega arith)

pub made_parts : (words : List ℕ) (empty made : Parts) (plan : Plan) (m n : ℕ) → m ≡ n → empty ≡ empty_parts plan n → made ≡ entries_placed m words empty
    → made ≡ entries_placed n words (empty_parts plan n)
made_parts words empty made plan m n same is placed = placed ∙ ap (λ (k : ℕ). entries_placed k words empty) same ∙ ap (entries_placed n words) is
