-- What holds between two calls holds of the pool as it is made.
use Rattle.std.proofs.Common.{◌≡◌, ℕ, zero, suc, ◌+◌, ◌<◌, ◌≤◌, List, replicate, length, get_or, inl, inr, refl, sym, ap, ◌∙◌, subst, arith}
use Rattle.std.specs.Prelude.{Option, Some, None, ◌==◌, slice_index}
use Rattle.std.proofs.lemmas.Bool.{cases_eq, false_from_ne_true, eqb-true}
use Rattle.std.proofs.lemmas.List.{length-replicate}
use Rattle.page_frame.specs.LineSets.{no_lines}
use Rattle.page_frame.specs.Frames.{Frame, empty_frame}
use Rattle.mini_page.specs.MiniPages.{empty_mini}
use Rattle.clock_sweep.specs.Clock.{new_clock, places_from}
use Rattle.tier_rules.specs.Clocks.{one_if, place_count}
use Rattle.tier_rules.specs.Plans.{Plan}
use Rattle.tier_rules.specs.Opening.{IsTable, named_page}
use Rattle.tier_rules.specs.Parts.{Parts}
use Rattle.tier_pool.specs.Opening.{empty_parts, entry_placed, entries_placed}
use Rattle.tier_pool.specs.Standing.{HasAll, IsSteady}
use Rattle.tier_pool.proofs.OpeningLaws.{named_is, free_at, homeless_at}
use Rattle.tier_pool.proofs.StandingLaws.{there_from, empty_standing}
use Rattle.tier_pool.proofs.SteadyPieces.{empty_long, SteadyBut, steady_from}
use Rattle.tier_pool.proofs.SteadyHolds.{none_some, absent_full, in_none}
use Rattle.tier_pool.proofs.SteadySteps.{but_installed}
use Rattle.tier_pool.proofs.SteadyRooms.{SamePlan, same_plan, plan_then}

pub all_alike : {X : Type 0} (n i : ℕ) (d : X) → get_or (replicate n d) i d ≡ d
all_alike zero i d = refl
all_alike (suc n) zero d = refl
all_alike (suc n) (suc i) d = all_alike n i d

within_from : (b n k : ℕ) → 1 ≤ place_count k (places_from b n) → (b ≤ k) × (k < b + n)
within_from b zero k up = absurd (omega arith)
within_from b (suc n) k up = elim (cases_eq b k) [
  | inl same ↦ (omega arith, omega arith)
  | inr other ↦
      let none : one_if (b == k) ≡ 0 = rw (false_from_ne_true (b == k) (λ t. other (eqb-true b k t))) refl in
      let rest = within_from (b + 1) n k (omega arith) in
      let low = rest.0 in let high = rest.1 in
      (omega arith, omega arith)
]

all_new : (n : ℕ) → HasAll (new_clock n) n
all_new n = record {
  there = λ i low. there_from 0 n i (omega arith) (omega arith);
  within = λ i up. let x = (within_from 0 n i up).1 in omega arith;
}

empty_but : (plan : Plan) (n : ℕ) → 1 ≤ plan.dram_frames → SteadyBut None None None (empty_parts plan n)
empty_but plan n some =
    let standing = empty_standing plan n some in
    record {
      stands = record {
        agrees = record {
          full = λ page i. (λ h. none_some h, λ h. none_some h);
          mini = λ page j. (λ h. none_some h, λ h. none_some h);
          nvm = λ page k. (λ h. none_some h, λ h. none_some h);
        };
        full_clock = standing.fulls;
        mini_clock = standing.minis;
        nvm_clock = standing.frames;
        over = standing.over;
      };
      holds = record {
        whole = λ page i l at none low. absent_full at;
        empty = λ i none. all_alike plan.dram_frames i empty_frame;
        clean = λ i none. all_alike plan.dram_frames i no_lines;
        mini_empty = λ j none. all_alike plan.minis j empty_mini;
        there = λ i l low dirty. in_none (get_or (replicate plan.dram_frames no_lines) i 0) l (all_alike plan.dram_frames i no_lines) dirty;
        frame_long = λ i. ap (λ (f : Frame). length f) (all_alike plan.dram_frames i empty_frame) ∙ empty_long;
        mini_long = λ j. ap (λ mini. length mini.places) (all_alike plan.minis j empty_mini) ∙ empty_long;
        mini_there = λ j l low dirty. in_none (get_or (replicate plan.minis empty_mini) j empty_mini).dirty l (ap (λ mini. mini.dirty) (all_alike plan.minis j empty_mini)) dirty;
      };
      all = record { all_fulls = all_new plan.dram_frames; all_minis = all_new plan.minis; all_frames = all_new n; some = some };
      long = record {
        arena_long = length-replicate plan.dram_frames empty_frame;
        marks_long = length-replicate plan.dram_frames no_lines;
        minis_long = length-replicate plan.minis empty_mini;
        frame_marks_long = length-replicate n _;
      };
    }

plan_entry : (o : Option ℕ) (k : ℕ) (parts : Parts) → SamePlan parts (entry_placed o k parts)
plan_entry None k parts = same_plan parts
plan_entry (Some page) k parts = record { plan = refl; frames = refl; access = refl }

plan_entries : (words : List ℕ) (parts : Parts) (k : ℕ) → SamePlan parts (entries_placed k words parts)
unfolding entries_placed
plan_entries words parts zero = same_plan parts
plan_entries words parts (suc k) = plan_then (plan_entries words parts k) (plan_entry (named_page (slice_index words k)) k (entries_placed k words parts))

entry_but : (o : Option ℕ) (k : ℕ) (parts : Parts) → ((page : ℕ) → o ≡ Some page → parts.map.nvm page ≡ None) → parts.map.frame_page k ≡ None → k < parts.frames
    → SteadyBut None None None parts → SteadyBut None None None (entry_placed o k parts)
entry_but None k parts homeless free low s = s
entry_but (Some page) k parts homeless free low s =
    let b = but_installed page k _ parts (homeless page refl) free low s in record { stands = b.stands; holds = b.holds; all = b.all; long = b.long }

entries_but : (words : List ℕ) (plan : Plan) (n : ℕ) → 1 ≤ plan.dram_frames → IsTable words → (k : ℕ) → k ≤ n → SteadyBut None None None (entries_placed k words (empty_parts plan n))
unfolding entries_placed
entries_but words plan n some table zero h = empty_but plan n some
entries_but words plan n some table (suc k) h =
    let empty = empty_parts plan n in
    entry_but (named_page (slice_index words k)) k (entries_placed k words empty)
    (λ page e. homeless_at words empty refl table k k page (omega arith) (named_is (slice_index words k) page e))
    (free_at words empty refl k k (omega arith))
    (let same = (plan_entries words empty k).frames in subst (λ (m : ℕ). k < m) (sym same) (omega arith))
    (entries_but words plan n some table k (omega arith))

-- the pool as it is made
pub made_steady : (words : List ℕ) (plan : Plan) (n : ℕ) → 1 ≤ plan.dram_frames → IsTable words → IsSteady (entries_placed n words (empty_parts plan n))
made_steady words plan n some table = steady_from (entries_placed n words (empty_parts plan n)) (entries_but words plan n some table n (omega arith))
