-- Room in each tier keeps what holds between two calls, and the room is one of its tier's places.
use Rattle.std.proofs.Common.{◌≡◌, ℕ, zero, suc, ◌<◌, ◌≤◌, Bool, true, false, refl, sym, ap, ◌∙◌, subst, arith}
use Rattle.std.specs.Prelude.{Option, Some, None, ◌==◌}
use Rattle.tier_map.specs.declared.place.Place.{Place}
use Rattle.tier_map.specs.declared.place.Place.TheVariants.{Absent, Full, Mini}
use Rattle.tier_map.specs.Placement.{Placement}
use Rattle.tier_map.proofs.PlacementLaws.{changed-same}
use Rattle.clock_sweep.specs.Clock.{Circle, Swept, lowest_empty, victim}
use Rattle.page_frame.specs.LineSets.{no_lines}
use Rattle.tier_rules.specs.Sound.{HasPlace}
use Rattle.tier_rules.specs.Parts.{Parts, dirty_at}
use Rattle.tier_laws.proofs.StandLaws.{stand_le, lowest-free, victim-is, victim-found}
use Rattle.tier_pool.specs.Places.{copy_cleaned, place_emptied, copy_dropped, frame_marked, stored_unless, copy_stored, IsPlace}
use Rattle.tier_pool.specs.NvmRoom.{copy_given_up, victim_left, frame_swept, swept_left, frame_room_by, frame_room, page_installed}
use Rattle.tier_pool.specs.FullRoom.{drawn_if, admission_by, admitted, moved_down, moved_if, handed_by, handed_down, full_dirty_at, full_left, full_swept, full_swept_left, full_room_by, full_room}
use Rattle.tier_pool.specs.Bringing.{mini_given_up, mini_left, mini_swept, mini_swept_left, mini_room_by, mini_room, dram_room_by, dram_room}
use Rattle.tier_pool.specs.Standing.{HasAll, IsSteady}
use Rattle.tier_pool.proofs.NvmRoomLaws.{left_free, room_free, room_homeless}
use Rattle.tier_pool.proofs.FullRoomLaws.{admitted_map, full_left_free}
use Rattle.tier_pool.proofs.MiniRoomLaws.{mini_left_free}
use Rattle.tier_pool.proofs.SteadyPieces.{SteadyBut, steady_to, steady_from}
use Rattle.tier_pool.proofs.SteadySteps.{but_cleaned, but_stored, but_dropped, but_given_up, but_frame_left, but_installed, but_full_swept, but_mini_swept, but_frame_swept, but_full_gone, but_mini_gone, but_frame_gone}

-- ---- what no change of the tiers changes

pub record SamePlan (old new : Parts) : Type 0 where
  pub plan : new.plan ≡ old.plan
  pub frames : new.frames ≡ old.frames
  pub access : new.access ≡ old.access

pub same_plan : (parts : Parts) → SamePlan parts parts
same_plan parts = record { plan = refl; frames = refl; access = refl }

pub plan_then : {a b c : Parts} → SamePlan a b → SamePlan b c → SamePlan a c
plan_then first second = record { plan = second.plan ∙ first.plan; frames = second.frames ∙ first.frames; access = second.access ∙ first.access }

pub plan_cleaned : (place : Place) (parts : Parts) → SamePlan parts (copy_cleaned place parts)
plan_cleaned Absent parts = record { plan = refl; frames = refl; access = refl }
plan_cleaned (Full i) parts = record { plan = refl; frames = refl; access = refl }
plan_cleaned (Mini j) parts = record { plan = refl; frames = refl; access = refl }

plan_unless : (b : Bool) (place : Place) (k : ℕ) (parts : Parts) → SamePlan parts (stored_unless b place k parts)
plan_unless true place k parts = record { plan = refl; frames = refl; access = refl }
plan_unless false place k parts = let x = plan_cleaned place (frame_marked k parts) in record { plan = x.plan; frames = x.frames; access = x.access }

pub plan_stored : (place : Place) (k : ℕ) (parts : Parts) → SamePlan parts (copy_stored place k parts)
plan_stored place k parts = plan_unless (dirty_at place parts.full_dirty parts.minis == no_lines) place k parts

plan_emptied : (place : Place) (parts : Parts) (m : Placement) → SamePlan parts (record (place_emptied place parts) { map = m })
plan_emptied Absent parts m = record { plan = refl; frames = refl; access = refl }
plan_emptied (Full i) parts m = record { plan = refl; frames = refl; access = refl }
plan_emptied (Mini j) parts m = record { plan = refl; frames = refl; access = refl }

pub plan_dropped : (page : ℕ) (parts : Parts) → SamePlan parts (copy_dropped page parts)
plan_dropped page parts = plan_emptied (parts.map.place page) parts _

pub plan_given_up : (page k : ℕ) (parts : Parts) → SamePlan parts (copy_given_up page k parts)
plan_given_up page k parts = plan_then (plan_stored (parts.map.place page) k parts) (plan_dropped page (copy_stored (parts.map.place page) k parts))

plan_victim : (o : Option ℕ) (k : ℕ) (parts : Parts) → SamePlan parts (victim_left o k parts)
plan_victim None k parts = same_plan parts
plan_victim (Some q) k parts = let x = plan_given_up q k parts in record { plan = x.plan; frames = x.frames; access = x.access }

plan_frame_swept : (o : Option Swept) (parts : Parts) → SamePlan parts (frame_swept o parts).parts
plan_frame_swept None parts = same_plan parts
plan_frame_swept (Some v) parts = record { plan = refl; frames = refl; access = refl }

plan_frame_by : (o : Option ℕ) (parts : Parts) → SamePlan parts (frame_room_by o parts).parts
plan_frame_by (Some k) parts = same_plan parts
plan_frame_by None parts =
    let swept = frame_swept (victim parts.nvm_clock) parts in
    plan_then (plan_frame_swept (victim parts.nvm_clock) parts) (plan_victim (swept.parts.map.frame_page swept.place) swept.place swept.parts)

pub plan_frame_room : (parts : Parts) → SamePlan parts (frame_room parts).parts
plan_frame_room parts = plan_frame_by (lowest_empty parts.nvm_clock) parts

plan_drawn : (dirty : Bool) (parts : Parts) → SamePlan parts (drawn_if dirty parts).parts
plan_drawn true parts = record { plan = refl; frames = refl; access = refl }
plan_drawn false parts = same_plan parts

plan_admission : (no_frames no_queue dirty : Bool) (page : ℕ) (parts : Parts) → SamePlan parts (admission_by no_frames no_queue dirty page parts).parts
plan_admission true no_queue dirty page parts = same_plan parts
plan_admission false true dirty page parts = plan_drawn dirty parts
plan_admission false false dirty page parts = record { plan = refl; frames = refl; access = refl }

pub plan_admitted : (dirty : Bool) (page : ℕ) (parts : Parts) → SamePlan parts (admitted dirty page parts).parts
plan_admitted dirty page parts = plan_admission (parts.frames == 0) (parts.plan.queue_len == 0) dirty page parts

pub plan_moved_down : (dirty : Bool) (page i : ℕ) (parts : Parts) → SamePlan parts (moved_down dirty page i parts)
plan_moved_down dirty page i parts =
    let first = plan_frame_room parts in
    let second = plan_cleaned (Full i) (page_installed page (frame_room parts).place dirty (frame_room parts).parts) in
    record { plan = second.plan ∙ first.plan; frames = second.frames ∙ first.frames; access = second.access ∙ first.access }

plan_moved : (yes dirty : Bool) (page i : ℕ) (parts : Parts) → SamePlan parts (moved_if yes dirty page i parts)
plan_moved true dirty page i parts = plan_moved_down dirty page i parts
plan_moved false true page i parts = record { plan = refl; frames = refl; access = refl }
plan_moved false false page i parts = same_plan parts

plan_handed_by : (o : Option ℕ) (page i : ℕ) (parts : Parts) → SamePlan parts (handed_by o page i parts)
plan_handed_by (Some k) page i parts = plan_stored (Full i) k parts
plan_handed_by None page i parts =
    let dirty = full_dirty_at i parts in let answer = admitted dirty page parts in
    plan_then (plan_admitted dirty page parts) (plan_moved answer.yes dirty page i answer.parts)

pub plan_handed : (page i : ℕ) (parts : Parts) → SamePlan parts (handed_down page i parts)
plan_handed page i parts = plan_handed_by (parts.map.nvm page) page i parts

plan_full_left : (o : Option ℕ) (i : ℕ) (parts : Parts) → SamePlan parts (full_left o i parts)
plan_full_left None i parts = same_plan parts
plan_full_left (Some page) i parts = plan_then (plan_handed page i parts) (plan_dropped page (handed_down page i parts))

plan_full_swept : (o : Option Swept) (parts : Parts) → SamePlan parts (full_swept o parts).parts
plan_full_swept None parts = same_plan parts
plan_full_swept (Some v) parts = record { plan = refl; frames = refl; access = refl }

plan_full_by : (o : Option ℕ) (parts : Parts) → SamePlan parts (full_room_by o parts).parts
plan_full_by (Some i) parts = same_plan parts
plan_full_by None parts =
    let swept = full_swept (victim parts.full_clock) parts in
    plan_then (plan_full_swept (victim parts.full_clock) parts) (plan_full_left (swept.parts.map.full_page swept.place) swept.place swept.parts)

pub plan_full_room : (parts : Parts) → SamePlan parts (full_room parts).parts
plan_full_room parts = plan_full_by (lowest_empty parts.full_clock) parts

plan_mini_given : (o : Option ℕ) (page : ℕ) (parts : Parts) → SamePlan parts (mini_given_up o page parts)
plan_mini_given None page parts = same_plan parts
plan_mini_given (Some k) page parts = plan_given_up page k parts

plan_mini_left : (o : Option ℕ) (parts : Parts) → SamePlan parts (mini_left o parts)
plan_mini_left None parts = same_plan parts
plan_mini_left (Some page) parts = plan_mini_given (parts.map.nvm page) page parts

plan_mini_swept : (o : Option Swept) (parts : Parts) → SamePlan parts (mini_swept o parts).parts
plan_mini_swept None parts = same_plan parts
plan_mini_swept (Some v) parts = record { plan = refl; frames = refl; access = refl }

plan_mini_by : (o : Option ℕ) (parts : Parts) → SamePlan parts (mini_room_by o parts).parts
plan_mini_by (Some j) parts = same_plan parts
plan_mini_by None parts =
    let swept = mini_swept (victim parts.mini_clock) parts in
    plan_then (plan_mini_swept (victim parts.mini_clock) parts) (plan_mini_left (swept.parts.map.mini_owner swept.place) swept.parts)

pub plan_mini_room : (parts : Parts) → SamePlan parts (mini_room parts).parts
plan_mini_room parts = plan_mini_by (lowest_empty parts.mini_clock) parts

plan_dram_by : (no_minis : Bool) (parts : Parts) → SamePlan parts (dram_room_by no_minis parts).parts
plan_dram_by true parts = plan_full_room parts
plan_dram_by false parts = plan_mini_room parts

pub plan_dram_room : (parts : Parts) → SamePlan parts (dram_room parts).parts
plan_dram_room parts = plan_dram_by (parts.plan.minis == 0) parts

-- ---- the place of a room is one of its clock

pub has_one : (xs : Circle) (count : ℕ) → 1 ≤ count → HasAll xs count → HasPlace xs
has_one xs count some all = (0, all.there 0 some)

pub lowest_low : (xs : Circle) (count i : ℕ) → lowest_empty xs ≡ Some i → HasAll xs count → i < count
lowest_low xs count i e all = let x = lowest-free xs i e in all.within i (omega arith)

pub victim_low : (xs : Circle) (count : ℕ) (v : Swept) → victim xs ≡ Some v → HasAll xs count → v.place < count
victim_low xs count v e all = let x = (victim-is xs v e).stood in let y = stand_le v.place xs in all.within v.place (omega arith)

-- ---- a page that is admitted finds frames

not_zero : (n : ℕ) → (n == 0) ≡ false → 1 ≤ n
not_zero zero e = absurd (let no : ⊥ = cc in no)
not_zero (suc n) e = omega arith

says_frames : (no_frames no_queue dirty : Bool) (page : ℕ) (parts : Parts) → (parts.frames == 0) ≡ no_frames → (admission_by no_frames no_queue dirty page parts).yes ≡ true → 1 ≤ parts.frames
says_frames true no_queue dirty page parts none said = absurd (let no : ⊥ = cc in no)
says_frames false no_queue dirty page parts some said = not_zero parts.frames some

pub admitted_frames : (dirty : Bool) (page : ℕ) (parts : Parts) → (admitted dirty page parts).yes ≡ true → 1 ≤ parts.frames
admitted_frames dirty page parts said = says_frames (parts.frames == 0) (parts.plan.queue_len == 0) dirty page parts refl said

-- ---- room in NVM

module _ {f m : Option ℕ} where
  but_victim : {n : Option ℕ} (o : Option ℕ) (k : ℕ) (parts : Parts) → SteadyBut f m n parts → SteadyBut f m n (victim_left o k parts)
  but_victim None k parts s = s
  but_victim (Some q) k parts s =
      but_frame_left q k (copy_given_up q k parts) (changed-same q Absent (copy_stored (parts.map.place q) k parts).map.place q refl) (but_given_up q k parts s)

  frame_left_but : (k : ℕ) (parts : Parts) → SteadyBut f m (Some k) parts → SteadyBut f m None (victim_left (parts.map.frame_page k) k parts)
  frame_left_but k parts s =
      but_frame_gone k (victim_left (parts.map.frame_page k) k parts) (left_free (parts.map.frame_page k) k parts refl s.stands.agrees) (but_victim (parts.map.frame_page k) k parts s)

  frame_swept_but : (o : Option Swept) (parts : Parts) → victim parts.nvm_clock ≡ o → lowest_empty parts.nvm_clock ≡ None → 1 ≤ parts.frames → SteadyBut f m None parts
      → SteadyBut f m None (swept_left (frame_swept o parts)).parts
  frame_swept_but None parts e full some s = absurd (let found = victim-found parts.nvm_clock (has_one parts.nvm_clock parts.frames some s.all.all_frames) full in cc)
  frame_swept_but (Some v) parts e full some s = frame_left_but v.place (frame_swept (Some v) parts).parts (but_frame_swept v parts e s)

  frame_by_but : (o : Option ℕ) (parts : Parts) → lowest_empty parts.nvm_clock ≡ o → 1 ≤ parts.frames → SteadyBut f m None parts → SteadyBut f m None (frame_room_by o parts).parts
  frame_by_but (Some k) parts e some s = s
  frame_by_but None parts e some s = frame_swept_but (victim parts.nvm_clock) parts refl e some s

  pub but_frame_room : (parts : Parts) → 1 ≤ parts.frames → SteadyBut f m None parts → SteadyBut f m None (frame_room parts).parts
  but_frame_room parts some s = frame_by_but (lowest_empty parts.nvm_clock) parts refl some s

  swept_low : (o : Option Swept) (parts : Parts) → victim parts.nvm_clock ≡ o → 1 ≤ parts.frames → SteadyBut f m None parts → (frame_swept o parts).place < parts.frames
  swept_low None parts e some s = omega arith
  swept_low (Some v) parts e some s = victim_low parts.nvm_clock parts.frames v e s.all.all_frames

  low_by : (o : Option ℕ) (parts : Parts) → lowest_empty parts.nvm_clock ≡ o → 1 ≤ parts.frames → SteadyBut f m None parts → (frame_room_by o parts).place < parts.frames
  low_by (Some k) parts e some s = lowest_low parts.nvm_clock parts.frames k e s.all.all_frames
  low_by None parts e some s = swept_low (victim parts.nvm_clock) parts refl some s

  pub frame_room_low : (parts : Parts) → 1 ≤ parts.frames → SteadyBut f m None parts → (frame_room parts).place < parts.frames
  frame_room_low parts some s = low_by (lowest_empty parts.nvm_clock) parts refl some s

  -- ---- what becomes of the page of a full place

  but_drawn : {n : Option ℕ} (dirty : Bool) (parts : Parts) → SteadyBut f m n parts → SteadyBut f m n (drawn_if dirty parts).parts
  but_drawn true parts s = record { stands = s.stands; holds = s.holds; all = s.all; long = s.long }
  but_drawn false parts s = s

  pub but_admission : {n : Option ℕ} (no_frames no_queue dirty : Bool) (page : ℕ) (parts : Parts) → SteadyBut f m n parts → SteadyBut f m n (admission_by no_frames no_queue dirty page parts).parts
  but_admission true no_queue dirty page parts s = s
  but_admission false true dirty page parts s = but_drawn dirty parts s
  but_admission false false dirty page parts s = record { stands = s.stands; holds = s.holds; all = s.all; long = s.long }

  pub but_moved_down : (dirty : Bool) (page i : ℕ) (parts : Parts) → parts.map.nvm page ≡ None → 1 ≤ parts.frames → SteadyBut f m None parts → SteadyBut f m None (moved_down dirty page i parts)
  but_moved_down dirty page i parts homeless some s =
      let room = frame_room parts in
      but_cleaned (Full i) (page_installed page room.place dirty room.parts)
      (but_installed page room.place dirty room.parts
      (room_homeless parts room.parts room.place page refl homeless)
      (room_free parts room.parts room.place refl s.stands.nvm_clock s.stands.agrees)
      (subst (λ (n : ℕ). room.place < n) (sym (plan_frame_room parts).frames) (frame_room_low parts some s))
      (but_frame_room parts some s))

  moved_but : (yes dirty : Bool) (page i : ℕ) (parts : Parts) → (yes ≡ true → 1 ≤ parts.frames) → parts.map.nvm page ≡ None → SteadyBut f m None parts → SteadyBut f m None (moved_if yes dirty page i parts)
  moved_but true dirty page i parts some homeless s = but_moved_down dirty page i parts homeless (some refl) s
  moved_but false true page i parts some homeless s = but_cleaned (Full i) _ (record { stands = s.stands; holds = s.holds; all = s.all; long = s.long })
  moved_but false false page i parts some homeless s = s

  handed_but : (o : Option ℕ) (page i : ℕ) (parts : Parts) → parts.map.nvm page ≡ o → SteadyBut f m None parts → SteadyBut f m None (handed_by o page i parts)
  handed_but (Some k) page i parts e s = but_stored (Full i) k parts s
  handed_but None page i parts e s =
      let dirty = full_dirty_at i parts in let answer = admitted dirty page parts in
      moved_but answer.yes dirty page i answer.parts
      (λ said. let same = (plan_admitted dirty page parts).frames in let some = admitted_frames dirty page parts said in omega arith)
      (ap (λ (x : Placement). x.nvm page) (admitted_map dirty page parts) ∙ e)
      (but_admission (parts.frames == 0) (parts.plan.queue_len == 0) dirty page parts s)

  pub but_handed : (page i : ℕ) (parts : Parts) → SteadyBut f m None parts → SteadyBut f m None (handed_down page i parts)
  but_handed page i parts s = handed_but (parts.map.nvm page) page i parts refl s

  full_left_but : (o : Option ℕ) (i : ℕ) (parts : Parts) → SteadyBut f m None parts → SteadyBut f m None (full_left o i parts)
  full_left_but None i parts s = s
  full_left_but (Some page) i parts s = but_dropped page (handed_down page i parts) (but_handed page i parts s)

-- ---- room for a full copy

module _ {m : Option ℕ} where
  full_swept_but : (o : Option Swept) (parts : Parts) → victim parts.full_clock ≡ o → lowest_empty parts.full_clock ≡ None → SteadyBut None m None parts
      → SteadyBut None m None (full_swept_left (full_swept o parts)).parts
  full_swept_but None parts e full s = absurd (let found = victim-found parts.full_clock (has_one parts.full_clock parts.plan.dram_frames s.all.some s.all.all_fulls) full in cc)
  full_swept_but (Some v) parts e full s =
      let swept = (full_swept (Some v) parts).parts in
      but_full_gone v.place (full_left (swept.map.full_page v.place) v.place swept) (full_left_free (swept.map.full_page v.place) v.place swept refl s.stands.agrees)
      (full_left_but (swept.map.full_page v.place) v.place swept (but_full_swept v parts e s))

  full_by_but : (o : Option ℕ) (parts : Parts) → lowest_empty parts.full_clock ≡ o → SteadyBut None m None parts → SteadyBut None m None (full_room_by o parts).parts
  full_by_but (Some i) parts e s = s
  full_by_but None parts e s = full_swept_but (victim parts.full_clock) parts refl e s

  pub but_full_room : (parts : Parts) → SteadyBut None m None parts → SteadyBut None m None (full_room parts).parts
  but_full_room parts s = full_by_but (lowest_empty parts.full_clock) parts refl s

  full_swept_low : (o : Option Swept) (parts : Parts) → victim parts.full_clock ≡ o → SteadyBut None m None parts → (full_swept o parts).place < parts.plan.dram_frames
  full_swept_low None parts e s = s.all.some
  full_swept_low (Some v) parts e s = victim_low parts.full_clock parts.plan.dram_frames v e s.all.all_fulls

  full_low_by : (o : Option ℕ) (parts : Parts) → lowest_empty parts.full_clock ≡ o → SteadyBut None m None parts → (full_room_by o parts).place < parts.plan.dram_frames
  full_low_by (Some i) parts e s = lowest_low parts.full_clock parts.plan.dram_frames i e s.all.all_fulls
  full_low_by None parts e s = full_swept_low (victim parts.full_clock) parts refl s

  pub full_room_low : (parts : Parts) → SteadyBut None m None parts → (full_room parts).place < parts.plan.dram_frames
  full_room_low parts s = full_low_by (lowest_empty parts.full_clock) parts refl s

-- ---- room for a mini copy

module _ {f n : Option ℕ} where
  mini_given_but : {m : Option ℕ} (o : Option ℕ) (page : ℕ) (parts : Parts) → SteadyBut f m n parts → SteadyBut f m n (mini_given_up o page parts)
  mini_given_but None page parts s = s
  mini_given_but (Some k) page parts s = but_given_up page k parts s

  mini_left_but : {m : Option ℕ} (o : Option ℕ) (parts : Parts) → SteadyBut f m n parts → SteadyBut f m n (mini_left o parts)
  mini_left_but None parts s = s
  mini_left_but (Some page) parts s = mini_given_but (parts.map.nvm page) page parts s

  mini_swept_but : (o : Option Swept) (parts : Parts) → victim parts.mini_clock ≡ o → lowest_empty parts.mini_clock ≡ None → 1 ≤ parts.plan.minis → SteadyBut f None n parts
      → SteadyBut f None n (mini_swept_left (mini_swept o parts)).parts
  mini_swept_but None parts e full some s = absurd (let found = victim-found parts.mini_clock (has_one parts.mini_clock parts.plan.minis some s.all.all_minis) full in cc)
  mini_swept_but (Some v) parts e full some s =
      let swept = (mini_swept (Some v) parts).parts in
      but_mini_gone v.place (mini_left (swept.map.mini_owner v.place) swept) (mini_left_free (swept.map.mini_owner v.place) v.place swept refl s.stands.agrees s.stands.over)
      (mini_left_but (swept.map.mini_owner v.place) swept (but_mini_swept v parts e s))

  mini_by_but : (o : Option ℕ) (parts : Parts) → lowest_empty parts.mini_clock ≡ o → 1 ≤ parts.plan.minis → SteadyBut f None n parts → SteadyBut f None n (mini_room_by o parts).parts
  mini_by_but (Some j) parts e some s = s
  mini_by_but None parts e some s = mini_swept_but (victim parts.mini_clock) parts refl e some s

  pub but_mini_room : (parts : Parts) → 1 ≤ parts.plan.minis → SteadyBut f None n parts → SteadyBut f None n (mini_room parts).parts
  but_mini_room parts some s = mini_by_but (lowest_empty parts.mini_clock) parts refl some s

  mini_swept_low : (o : Option Swept) (parts : Parts) → victim parts.mini_clock ≡ o → 1 ≤ parts.plan.minis → SteadyBut f None n parts → (mini_swept o parts).place < parts.plan.minis
  mini_swept_low None parts e some s = some
  mini_swept_low (Some v) parts e some s = victim_low parts.mini_clock parts.plan.minis v e s.all.all_minis

  mini_low_by : (o : Option ℕ) (parts : Parts) → lowest_empty parts.mini_clock ≡ o → 1 ≤ parts.plan.minis → SteadyBut f None n parts → (mini_room_by o parts).place < parts.plan.minis
  mini_low_by (Some j) parts e some s = lowest_low parts.mini_clock parts.plan.minis j e s.all.all_minis
  mini_low_by None parts e some s = mini_swept_low (victim parts.mini_clock) parts refl some s

  pub mini_room_low : (parts : Parts) → 1 ≤ parts.plan.minis → SteadyBut f None n parts → (mini_room parts).place < parts.plan.minis
  mini_room_low parts some s = mini_low_by (lowest_empty parts.mini_clock) parts refl some s

-- ---- room in DRAM

dram_by_but : (no_minis : Bool) (parts : Parts) → (parts.plan.minis == 0) ≡ no_minis → SteadyBut None None None parts → SteadyBut None None None (dram_room_by no_minis parts).parts
dram_by_but true parts e s = but_full_room parts s
dram_by_but false parts e s = but_mini_room parts (not_zero parts.plan.minis e) s

dram_low_by : (no_minis : Bool) (parts : Parts) → (parts.plan.minis == 0) ≡ no_minis → SteadyBut None None None parts → IsPlace parts.plan (dram_room_by no_minis parts).place
dram_low_by true parts e s = full_room_low parts s
dram_low_by false parts e s = mini_room_low parts (not_zero parts.plan.minis e) s

-- ---- the same of whole fields

pub steady_frame_room : (parts : Parts) → 1 ≤ parts.frames → IsSteady parts → IsSteady (frame_room parts).parts
steady_frame_room parts some s = steady_from (frame_room parts).parts (but_frame_room parts some (steady_to parts s))

pub steady_full_room : (parts : Parts) → IsSteady parts → IsSteady (full_room parts).parts
steady_full_room parts s = steady_from (full_room parts).parts (but_full_room parts (steady_to parts s))

pub steady_mini_room : (parts : Parts) → 1 ≤ parts.plan.minis → IsSteady parts → IsSteady (mini_room parts).parts
steady_mini_room parts some s = steady_from (mini_room parts).parts (but_mini_room parts some (steady_to parts s))

pub steady_dram_room : (parts : Parts) → IsSteady parts → IsSteady (dram_room parts).parts
steady_dram_room parts s = steady_from (dram_room parts).parts (dram_by_but (parts.plan.minis == 0) parts refl (steady_to parts s))

pub full_room_place : (parts : Parts) → IsSteady parts → (full_room parts).place < parts.plan.dram_frames
full_room_place parts s = full_room_low parts (steady_to parts s)

pub dram_room_place : (parts : Parts) → IsSteady parts → IsPlace parts.plan (dram_room parts).place
dram_room_place parts s = dram_low_by (parts.plan.minis == 0) parts refl (steady_to parts s)

pub frame_room_place : (parts : Parts) → 1 ≤ parts.frames → IsSteady parts → (frame_room parts).place < parts.frames
frame_room_place parts some s = frame_room_low parts some (steady_to parts s)
