-- The fields that the opening makes show the state at the opening, and rest keeps that fields show a state.
use Rattle.std.proofs.Common.{◌≡◌, ℕ, zero, suc, ◌≤◌, false, List, [], ◌∷◌, length, take, map, refl, pred}
use Rattle.std.specs.Prelude.{None, slice_index, slice_index_or}
use Rattle.page_frame.specs.Frames.{empty_frame, resident_lines}
use Rattle.tier_rules.specs.Plans.{Plan}
use Rattle.tier_rules.specs.State.{TierState}
use Rattle.tier_rules.specs.Entering.{rested}
use Rattle.tier_rules.specs.Opening.{IsTable, is_named, opened}
use Rattle.tier_rules.specs.Parts.{Parts, Shows, opened_parts}
use Rattle.migration_policy.proofs.DrawLaws.{first_generator}
use Rattle.tier_laws.proofs.OpenLaws.{opened-sound}
use Rattle.tier_laws.proofs.StepLaws.{with_access}

nothing_resident : 0 ≡ resident_lines empty_frame
unfolding resident_lines
nothing_resident = refl

marks : (es : List ℕ) (k : ℕ) → slice_index_or (map is_named es) k false ≡ is_named (slice_index es k)
marks [] k = refl
marks (e ∷ es) zero = refl
marks (e ∷ es) (suc k) = marks es k

pub opened-shows : (plan : Plan) (words : List ℕ) → 1 ≤ plan.dram_frames → IsTable (take (pred (length words)) words) → Shows (opened_parts plan words) (opened plan words)
unfolding opened
opened-shows plan words some table = record {
  plan = refl;
  frames = refl;
  access = refl;
  map = refl;
  resident = λ page. nothing_resident;
  dirty = λ page. refl;
  frame_dirty = λ k h. marks (take (pred (length words)) words) k;
  full_clock = refl;
  mini_clock = refl;
  nvm_clock = refl;
  queue = refl;
  draws = first_generator plan.seed;
  tally = refl;
  sound = opened-sound plan words some table;
}

pub rested-shows : (parts : Parts) (s : TierState) → Shows parts s → Shows (record parts { access = None }) (rested s)
rested-shows parts s h = record {
  plan = h.plan;
  frames = h.frames;
  access = refl;
  map = h.map;
  resident = h.resident;
  dirty = h.dirty;
  frame_dirty = h.frame_dirty;
  full_clock = h.full_clock;
  mini_clock = h.mini_clock;
  nvm_clock = h.nvm_clock;
  queue = h.queue;
  draws = h.draws;
  tally = h.tally;
  sound = with_access s None h.sound;
}
