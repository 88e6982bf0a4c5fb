-- The state that fields show between two calls is sound.
use Rattle.std.proofs.Common.{◌≡◌, ℕ, suc, ◌+◌, ◌*◌, ◌^◌, ◌<◌, [], ◌∷◌, length, refl, ap, ◌∙◌, subst, arith}
use Rattle.std.proofs.Math.Nat.{pow-suc}
use Rattle.std.specs.Prelude.{Option, Some, None}
use Rattle.nvm_model.specs.declared.line.Line.{Line}
use Rattle.page_frame.specs.LineSets.{all_lines}
use Rattle.page_frame.specs.Frames.{Frame, line_at, resident_lines}
use Rattle.page_frame.proofs.FrameLaws.{resident-cons, one_or_none}
use Rattle.tier_rules.specs.State.{TierState}
use Rattle.tier_rules.specs.Sound.{Sound}
use Rattle.tier_rules.specs.Parts.{Parts, Shows, copy_at}
use Rattle.pool_laws.specs.States.{state_of, IsState}
use Rattle.tier_pool.specs.Standing.{IsSteady}
use Rattle.tier_pool.proofs.SteadyHolds.{none_some}
use Rattle.tier_pool.proofs.SteadyRooms.{has_one}

one_there : (x : Option Line) → ((value : Line) × (x ≡ Some value)) → one_or_none x ≡ 1
unfolding one_or_none
one_there None at = none_some at.1
one_there (Some value) at = refl

-- all lines are there
all_there : (frame : Frame) → ((l : ℕ) → l < length frame → (value : Line) × (line_at frame l ≡ Some value)) → resident_lines frame + 1 ≡ 2 ^ length frame
unfolding resident_lines
all_there [] at = refl
all_there (x ∷ xs) at =
    let first = one_there x (at 0 (omega arith)) in
    let rest = all_there xs (λ l low. at (suc l) (omega arith)) in
    let cons = resident-cons x xs in
    let double : 2 ^ length (x ∷ xs) ≡ 2 ^ length xs * 2 = pow-suc 2 (length xs) in
    omega arith

pub whole_lines : (frame : Frame) → length frame ≡ 64 → ((l : ℕ) → l < 64 → (value : Line) × (line_at frame l ≡ Some value)) → resident_lines frame ≡ all_lines
whole_lines frame long at =
    let all = all_there frame (λ l low. at l (omega arith)) in
    let power : 2 ^ length frame ≡ 2 ^ 64 = ap (λ (n : ℕ). 2 ^ n) long in
    let last : resident_lines frame + 1 ≡ 18446744073709551616 = all ∙ power in
    omega arith

pub steady_sound : (n : ℕ) (parts : Parts) → IsSteady parts → Sound (state_of n parts)
steady_sound n parts s = record {
  held = record {
    agrees = s.agrees;
    over_frame = s.standing.over.frame;
    whole = λ page i at none. whole_lines (copy_at (parts.map.place page) parts.arena parts.minis) (s.long.each (parts.map.place page)) (s.whole.each page i at none).lines;
  };
  full_clock = s.standing.fulls;
  mini_clock = s.standing.minis;
  nvm_clock = s.standing.frames;
  some_full = has_one parts.full_clock parts.plan.dram_frames s.places.some s.places.fulls;
  some_mini = λ some. has_one parts.mini_clock parts.plan.minis some s.places.minis;
  some_frame = λ some. has_one parts.nvm_clock parts.frames some s.places.frames;
}

-- the fields show their state, in the words of the rules
pub steady_shows : (parts : Parts) (s : TierState) → IsState parts s → IsSteady parts → Shows parts s
steady_shows parts s shown steady = subst (Shows parts) shown.is (record {
  plan = refl;
  frames = refl;
  access = refl;
  map = refl;
  resident = λ page. refl;
  dirty = λ page. refl;
  frame_dirty = λ k low. refl;
  full_clock = refl;
  mini_clock = refl;
  nvm_clock = refl;
  queue = refl;
  draws = shown.draws;
  tally = refl;
  sound = steady_sound s.drawn parts steady;
})
