-- Each call's change of the fields keeps what holds of them between two calls.
use Rattle.std.proofs.Common.{◌≡◌, ℕ, zero, suc, ◌<◌, ◌≤◌, inl, inr, Bool, true, false, List, [], ◌∷◌, length, get_or, slice_set, refl, sym, ap, ◌∙◌, subst, arith, IsTrue}
use Rattle.std.specs.Prelude.{Option, Some, None}
use Rattle.std.proofs.lemmas.List.{get_or-set_other, get_or-set_same, get_or-replicate, length-set}
use Rattle.std.proofs.lemmas.Bool.{cases_eq}
use Rattle.rand_pcg.specs.Lcg.{Lcg}
use Rattle.nvm_model.specs.declared.line.Line.{Line}
use Rattle.tier_map.specs.declared.place.Place.{Place}
use Rattle.tier_map.specs.declared.place.Place.TheVariants.{Absent, Full, Mini}
use Rattle.tier_map.specs.Placement.{full_of, mini_of, freed, without_dram}
use Rattle.tier_map.proofs.PlacementLaws.{changed-same}
use Rattle.page_frame.specs.LineSets.{no_lines, has_line, with_line}
use Rattle.page_frame.specs.Frames.{Frame, empty_frame, line_at, with_value, frame_at, with_frame, frame_changed}
use Rattle.mini_page.specs.MiniPages.{MiniPage, empty_mini, mini_at, with_mini, added, changed_line}
use Rattle.mini_page.proofs.ChangeLaws.{has_none, has_other}
use Rattle.clock_sweep.specs.Clock.{Circle, touched}
use Rattle.migration_policy.specs.declared.policy.Question.{Question}
use Rattle.tier_rules.specs.declared.tally.Tally.{Tally}
use Rattle.tier_rules.specs.Clocks.{place_count}
use Rattle.tier_rules.specs.Tallies.{dram_load}
use Rattle.tier_rules.specs.Plans.{Plan}
use Rattle.tier_rules.specs.Parts.{Parts, copy_at, dirty_at, copy_line}
use Rattle.tier_laws.proofs.StandLaws.{stand_le, clocked-touched, place_count-with_slot}
use Rattle.part_laws.specs.PartData.{dirty_lines}
use Rattle.tier_pool.specs.Places.{IsPlace, copy_cleaned, place_emptied, copy_dropped, frame_marked, copy_stored, copy_passed}
use Rattle.tier_pool.specs.NvmRoom.{copy_given_up, frame_left, page_installed, frame_room}
use Rattle.tier_pool.specs.FullRoom.{PartsAnswer, drawn, full_room}
use Rattle.tier_pool.specs.Bringing.{PartsPlace, IsFree, full_placed, mini_placed, block_fetched, place_filled, FetchedInto, fetched_to_frame, fetched_to_nvm, placed_at, copied_to, BroughtTo, Brought, brought_through, dram_room}
use Rattle.tier_pool.specs.Cleaning.{written_by, copy_written}
use Rattle.tier_pool.specs.Touching.{loaded_to_full, loaded_to_mini, LoadedToFull, LoadedToMini, full_written, mini_written, lines_moved, promoted}
use Rattle.tier_pool.specs.Hits.{full_hit, mini_hit, frame_hit}
use Rattle.tier_pool.specs.Standing.{IsBare, IsSteady}
use Rattle.tier_pool.proofs.NvmRoomLaws.{room_free, room_homeless}
use Rattle.tier_pool.proofs.FullRoomLaws.{room_absent, full_room_free, full_room_absent}
use Rattle.tier_pool.proofs.MiniRoomLaws.{dram_room_absent, dram_room_free}
use Rattle.tier_pool.proofs.ThroughLaws.{NvmBefore, room_free_kept, free_with_nvm, dram_room_left}
use Rattle.tier_pool.proofs.SteadyPieces.{empty_long, SteadyBut, steady_to, steady_from, all_same, long_set, set_keeps, set_at}
use Rattle.tier_pool.proofs.SteadyHolds.{none_some, full_mini, in_none, value_kept, holds_full_value, holds_full_marked, holds_mini_changed}
use Rattle.tier_pool.proofs.SteadySteps.{but_cleaned, but_frame_marks, but_stored, but_dropped, but_given_up, but_frame_left, but_installed, full_put, but_full_put, but_full_placed, but_full_filled, but_mini_placed}
use Rattle.tier_pool.proofs.SteadyRooms.{plan_frame_room, plan_full_room, plan_dram_room, steady_frame_room, steady_full_room, steady_dram_room, frame_room_place, full_room_place, dram_room_place}

-- ---- what it gives of one page, and of one place

-- a line that has no copy is not dirty
pub not_dirty : (parts : Parts) (page l : ℕ) → IsSteady parts → l < 64 → copy_line parts page l ≡ None → has_line (dirty_lines parts page) l ≡ false
not_dirty parts page l s low none = by (has_line (dirty_lines parts page) l) refl
  where
    by : (b : Bool) → has_line (dirty_lines parts page) l ≡ b → has_line (dirty_lines parts page) l ≡ false
    by true e = let x = s.there.each (parts.map.place page) l low e in none_some (sym none ∙ x.1)
    by false e = e

-- nothing stands at a bare place
pub bare_line : (parts : Parts) (place : Place) (l : ℕ) → IsBare parts place → l < 64 → line_at (copy_at place parts.arena parts.minis) l ≡ None
bare_line parts place l bare low = ap (λ (f : Frame). line_at f l) bare.empty ∙ get_or-replicate 64 l None None low

pub bare_mark : (parts : Parts) (place : Place) (l : ℕ) → IsBare parts place → has_line (dirty_at place parts.full_dirty parts.minis) l ≡ false
bare_mark parts place l bare = ap (λ (set : ℕ). has_line set l) bare.clean ∙ has_none l

-- ---- fields that no placement reads

module _ (parts : Parts) (s : IsSteady parts) where
  pub steady_counted : (tally : Tally) → IsSteady (record parts { tally = tally })
  steady_counted tally = let b = steady_to parts s in steady_from (record parts { tally = tally }) (record { stands = b.stands; holds = b.holds; all = b.all; long = b.long })

  pub steady_access : (access : Option (ℕ × Bool)) → IsSteady (record parts { access = access })
  steady_access access = let b = steady_to parts s in steady_from (record parts { access = access }) (record { stands = b.stands; holds = b.holds; all = b.all; long = b.long })

  pub steady_draws : (draws : Lcg) → IsSteady (record parts { draws = draws })
  steady_draws draws = let b = steady_to parts s in steady_from (record parts { draws = draws }) (record { stands = b.stands; holds = b.holds; all = b.all; long = b.long })

  pub steady_queue : (queue : List ℕ) → IsSteady (record parts { queue = queue })
  steady_queue queue = let b = steady_to parts s in steady_from (record parts { queue = queue }) (record { stands = b.stands; holds = b.holds; all = b.all; long = b.long })

  -- ---- hits

  pub steady_full_hit : (i : ℕ) → IsSteady (full_hit i parts)
  steady_full_hit i = let b = steady_to parts s in steady_from (full_hit i parts) (record {
    stands = record { agrees = b.stands.agrees; full_clock = clocked-touched parts.full_clock parts.map.full_page i b.stands.full_clock; mini_clock = b.stands.mini_clock; nvm_clock = b.stands.nvm_clock; over = b.stands.over };
    holds = b.holds;
    all = record {
      all_fulls = all_same parts.full_clock (touched i parts.full_clock) parts.plan.dram_frames (λ k. place_count-with_slot k i _ parts.full_clock) b.all.all_fulls;
      all_minis = b.all.all_minis;
      all_frames = b.all.all_frames;
      some = b.all.some;
    };
    long = b.long;
  })

  pub steady_mini_hit : (j : ℕ) → IsSteady (mini_hit j parts)
  steady_mini_hit j = let b = steady_to parts s in steady_from (mini_hit j parts) (record {
    stands = record { agrees = b.stands.agrees; full_clock = b.stands.full_clock; mini_clock = clocked-touched parts.mini_clock parts.map.mini_owner j b.stands.mini_clock; nvm_clock = b.stands.nvm_clock; over = b.stands.over };
    holds = b.holds;
    all = record {
      all_fulls = b.all.all_fulls;
      all_minis = all_same parts.mini_clock (touched j parts.mini_clock) parts.plan.minis (λ k. place_count-with_slot k j _ parts.mini_clock) b.all.all_minis;
      all_frames = b.all.all_frames;
      some = b.all.some;
    };
    long = b.long;
  })

  pub steady_frame_hit : (k : ℕ) → IsSteady (frame_hit k parts)
  steady_frame_hit k = let b = steady_to parts s in steady_from (frame_hit k parts) (record {
    stands = record { agrees = b.stands.agrees; full_clock = b.stands.full_clock; mini_clock = b.stands.mini_clock; nvm_clock = clocked-touched parts.nvm_clock parts.map.frame_page k b.stands.nvm_clock; over = b.stands.over };
    holds = b.holds;
    all = record {
      all_fulls = b.all.all_fulls;
      all_minis = b.all.all_minis;
      all_frames = all_same parts.nvm_clock (touched k parts.nvm_clock) parts.frames (λ i. place_count-with_slot i k _ parts.nvm_clock) b.all.all_frames;
      some = b.all.some;
    };
    long = b.long;
  })

  -- ---- storing

  pub steady_cleaned : (place : Place) → IsSteady (copy_cleaned place parts)
  steady_cleaned place = steady_from (copy_cleaned place parts) (but_cleaned place parts (steady_to parts s))

  pub steady_marked : (k : ℕ) → IsSteady (frame_marked k parts)
  steady_marked k = steady_from (frame_marked k parts) (but_frame_marks k true parts (steady_to parts s))

  pub steady_stored : (place : Place) (k : ℕ) → IsSteady (copy_stored place k parts)
  steady_stored place k = steady_from (copy_stored place k parts) (but_stored place k parts (steady_to parts s))

  pub steady_dropped : (page : ℕ) → IsSteady (copy_dropped page parts)
  steady_dropped page = steady_from (copy_dropped page parts) (but_dropped page parts (steady_to parts s))

  pub steady_given_up : (page k : ℕ) → IsSteady (copy_given_up page k parts)
  steady_given_up page k = steady_from (copy_given_up page k parts) (but_given_up page k parts (steady_to parts s))

  pub steady_frame_left : (page k : ℕ) → parts.map.place page ≡ Absent → IsSteady (frame_left page k parts)
  steady_frame_left page k absent = steady_from (frame_left page k parts) (but_frame_left page k parts absent (steady_to parts s))

  pub steady_installed : (page k : ℕ) (dirty : Bool) → parts.map.nvm page ≡ None → parts.map.frame_page k ≡ None → k < parts.frames → IsSteady (page_installed page k dirty parts)
  steady_installed page k dirty homeless free low = steady_from (page_installed page k dirty parts) (but_installed page k dirty parts homeless free low (steady_to parts s))

pub steady_drawn : (question : Question) (parts after : Parts) (answer : Bool) → drawn question parts ≡ record { yes = answer; parts = after } → IsSteady parts → IsSteady after
steady_drawn question parts after answer is s = subst (λ (a : PartsAnswer). IsSteady a.parts) is (steady_draws parts s _)

pub steady_passed : (place : Place) (parts : Parts) → IsSteady parts → IsSteady (copy_passed place parts)
steady_passed place parts s = steady_cleaned _ (steady_counted parts s _) place

written : (o : Option ℕ) (place : Place) (parts : Parts) → IsSteady parts → IsSteady (written_by o place parts)
written (Some k) place parts s = steady_stored parts s place k
written None place parts s = steady_passed place parts s

pub steady_written : (page : ℕ) (place : Place) (parts : Parts) → IsSteady parts → IsSteady (copy_written page place parts)
steady_written page place parts s = steady_counted (written_by (parts.map.nvm page) place parts) (written (parts.map.nvm page) place parts s) _

-- ---- fetching

pub steady_block_fetched : (parts : Parts) → IsSteady parts → IsSteady (block_fetched parts)
steady_block_fetched parts s = steady_counted parts s _

pub steady_filled : (page i : ℕ) (bytes : List ℕ) (parts : Parts) → parts.map.place page ≡ Absent → parts.map.full_page i ≡ None → i < parts.plan.dram_frames → IsSteady parts
    → IsSteady (full_placed page i (place_filled i bytes parts))
unfolding full_put
steady_filled page i bytes parts absent free low s =
    steady_from (full_placed page i (place_filled i bytes parts)) (but_full_filled page i bytes parts absent free low (steady_to parts s))

pub steady_fetched_into : (page i : ℕ) (old new : Parts) → FetchedInto page i old new → old.map.place page ≡ Absent → old.map.full_page i ≡ None → i < old.plan.dram_frames → IsSteady old → IsSteady new
steady_fetched_into page i old new fetched absent free low s =
    subst IsSteady (sym fetched.is) (steady_filled page i fetched.bytes (block_fetched old) absent free low (steady_block_fetched old s))

pub steady_fetched_to_frame : (page k : ℕ) (parts : Parts) → parts.map.nvm page ≡ None → parts.map.frame_page k ≡ None → k < parts.frames → IsSteady parts → IsSteady (fetched_to_frame page k parts)
steady_fetched_to_frame page k parts homeless free low s = steady_installed (block_fetched parts) (steady_block_fetched parts s) page k false homeless free low

pub steady_fetched_to_nvm : (page : ℕ) (parts : Parts) → 1 ≤ parts.frames → parts.map.nvm page ≡ None → IsSteady parts → IsSteady (fetched_to_nvm page parts)
steady_fetched_to_nvm page parts some homeless s =
    let room = frame_room parts in
    steady_fetched_to_frame page room.place room.parts
    (room_homeless parts room.parts room.place page refl homeless)
    (room_free parts room.parts room.place refl s.standing.frames s.agrees)
    (subst (λ (n : ℕ). room.place < n) (sym (plan_frame_room parts).frames) (frame_room_place parts some s))
    (steady_frame_room parts some s)

-- the page is in the frame then
pub fetched_frame : (page : ℕ) (parts : Parts) → (k : ℕ) × ((fetched_to_nvm page parts).map.nvm page ≡ Some k)
fetched_frame page parts = ((frame_room parts).place, changed-same page (Some (frame_room parts).place) (frame_room parts).parts.map.nvm page refl)

-- ---- copies over frames

pub steady_placed : (place : Place) (page k : ℕ) (parts : Parts) → parts.map.place page ≡ Absent → IsFree parts.map place → IsPlace parts.plan place → parts.map.nvm page ≡ Some k → IsSteady parts
    → IsSteady (placed_at place page parts)
steady_placed Absent page k parts absent free low framed s = s
steady_placed (Full i) page k parts absent free low framed s = steady_from (full_placed page i parts) (but_full_placed page i k parts absent free low framed (steady_to parts s))
steady_placed (Mini j) page k parts absent free low framed s = steady_from (mini_placed page j parts) (but_mini_placed page j k parts absent free low framed (steady_to parts s))

pub steady_copied : (place : Place) (page k : ℕ) (parts : Parts) → parts.map.place page ≡ Absent → IsFree parts.map place → IsPlace parts.plan place → parts.map.nvm page ≡ Some k → IsSteady parts
    → IsSteady (copied_to place page parts)
steady_copied place page k parts absent free low framed s = steady_placed place page k (record parts { tally = dram_load parts.tally }) absent free low framed (steady_counted parts s _)

-- ---- bringing

brought_by : (o : Option ℕ) (page : ℕ) (place : Place) (old new : Parts) → old.map.nvm page ≡ o → BroughtTo o page place old new
    → old.map.place page ≡ Absent → IsFree old.map place → IsPlace old.plan place → IsSteady old → IsSteady new
brought_by (Some k) page place old new e is absent free low s = subst IsSteady (sym is) (steady_copied place page k old absent free low e s)
brought_by None page (Full i) old new e is absent free low s = steady_fetched_into page i old new is absent free low s
brought_by None page (Mini j) old new e is absent free low s = subst IsSteady (sym is) s
brought_by None page Absent old new e is absent free low s = subst IsSteady (sym is) s

-- what room in DRAM leaves
pub room_low : (parts after : Parts) (place : Place) → dram_room parts ≡ record { place = place; parts = after } → IsSteady parts → IsPlace after.plan place
room_low parts after place is s =
    subst (λ (room : PartsPlace). IsPlace room.parts.plan room.place) is
    (rw (plan_dram_room parts).plan (dram_room_place parts s))

pub room_steady : (parts after : Parts) (place : Place) → dram_room parts ≡ record { place = place; parts = after } → IsSteady parts → IsSteady after
room_steady parts after place is s = subst (λ (room : PartsPlace). IsSteady room.parts) is (steady_dram_room parts s)

pub steady_brought : (page : ℕ) (at : Place) (old new : Parts) → Brought page at old new → old.map.place page ≡ Absent → IsSteady old → IsSteady new
steady_brought page at old new brought absent s =
    let after = brought.room.parts in let place = brought.room.place in
    brought_by (after.map.nvm page) page place after new refl brought.is
    (dram_room_absent old after place page brought.made absent)
    (dram_room_free old after place brought.made s.standing.fulls s.standing.minis s.agrees s.standing.over)
    (room_low old after place brought.made s)
    (room_steady old after place brought.made s)

some_long : (xs : Circle) (i : ℕ) → 1 ≤ place_count i xs → 1 ≤ length xs
some_long [] i up = absurd (omega arith)
some_long (x ∷ xs) i up = omega arith

-- what room in DRAM leaves of a page that has no frame
pub room_unframed : (page : ℕ) (parts : Parts) → parts.map.place page ≡ Absent → parts.map.nvm page ≡ None → 1 ≤ parts.frames → IsSteady parts → (dram_room parts).parts.map.nvm page ≡ None
room_unframed page parts absent homeless some s =
    let before : NvmBefore page parts = record {
      left = record { clocked = s.standing.frames; homeless = homeless };
      some = some_long parts.nvm_clock 0 (s.places.frames.there 0 some);
      agrees = s.agrees;
    } in
    (dram_room_left parts (dram_room parts).parts (dram_room parts).place page refl absent before).homeless

pub steady_brought_through : (page : ℕ) (parts after : Parts) (place : Place) → brought_through page parts ≡ record { place = place; parts = after }
    → parts.map.place page ≡ Absent → parts.map.nvm page ≡ None → 1 ≤ parts.frames → IsSteady parts → IsSteady after
steady_brought_through page parts after place is absent homeless some s =
    subst (λ (room : PartsPlace). IsSteady room.parts) is
    (steady_copied room.place page framed.0 (fetched_to_nvm page room.parts) (room_absent page room.parts left)
    (free_with_nvm room.place (frame_room room.parts).parts.map (fetched_to_nvm page room.parts).map refl refl
    (room_free_kept room.place room.parts (dram_room_free parts room.parts room.place refl s.standing.fulls s.standing.minis s.agrees s.standing.over)))
    (rw ((plan_frame_room room.parts).plan, (plan_dram_room parts).plan) (dram_room_place parts s))
    framed.1
    (steady_fetched_to_nvm page room.parts (rw (plan_dram_room parts).frames some) (room_unframed page parts absent homeless some s) (steady_dram_room parts s)))
  where
    room : PartsPlace
    room = dram_room parts

    framed : (k : ℕ) × ((fetched_to_nvm page (dram_room parts).parts).map.nvm page ≡ Some k)
    framed = fetched_frame page (dram_room parts).parts

    left : (dram_room parts).parts.map.place page ≡ Absent
    left = dram_room_absent parts (dram_room parts).parts (dram_room parts).place page refl absent

pub steady_brought_past : (page : ℕ) (parts new : Parts) → FetchedInto page (full_room parts).place (full_room parts).parts new → parts.map.place page ≡ Absent → IsSteady parts → IsSteady new
steady_brought_past page parts new fetched absent s =
    let room = full_room parts in
    steady_fetched_into page room.place room.parts new fetched
    (full_room_absent parts room.parts room.place page refl absent)
    (full_room_free parts room.parts room.place refl s.standing.fulls s.agrees)
    (subst (λ (p : ℕ). room.place < p) (sym (ap (λ plan. plan.dram_frames) (plan_full_room parts).plan)) (full_room_place parts s))
    (steady_full_room parts s)

-- ---- lines

-- a frame that is there is the same, whatever stands for none
pub at_default : {X : Type 0} (xs : List X) (i : ℕ) (d e : X) → i < length xs → get_or xs i d ≡ get_or xs i e
at_default [] i d e low = absurd (omega arith)
at_default (x ∷ xs) zero d e low = refl
at_default (x ∷ xs) (suc i) d e low = at_default xs i d e (omega arith)

owned : (owner : ℕ → Option ℕ) (i page : ℕ) → owner i ≡ Some page → owner i ≡ None → ⊥
owned owner i page e none = none_some (sym none ∙ e)

pub full_owner : (parts : Parts) (page i : ℕ) → IsSteady parts → parts.map.place page ≡ Full i → parts.map.full_page i ≡ Some page
full_owner parts page i s here = (s.agrees.full page i).0 (ap full_of here)

pub mini_owner_of : (parts : Parts) (page j : ℕ) → IsSteady parts → parts.map.place page ≡ Mini j → parts.map.mini_owner j ≡ Some page
mini_owner_of parts page j s here = (s.agrees.mini page j).0 (ap mini_of here)

-- the place of a copy is one of its tier
pub full_low : (page i : ℕ) (parts : Parts) → parts.map.place page ≡ Full i → IsSteady parts → i < parts.plan.dram_frames
full_low page i parts here s =
    let up = s.standing.fulls.standing i page (full_owner parts page i s here) in
    let more = stand_le i parts.full_clock in
    s.places.fulls.within i (omega arith)

pub mini_low : (page j : ℕ) (parts : Parts) → parts.map.place page ≡ Mini j → IsSteady parts → j < parts.plan.minis
mini_low page j parts here s =
    let up = s.standing.minis.standing j page (mini_owner_of parts page j s here) in
    let more = stand_le j parts.mini_clock in
    s.places.minis.within j (omega arith)

valued : (i l page : ℕ) (value : Line) (parts : Parts) → parts.map.place page ≡ Full i → i < parts.plan.dram_frames → IsSteady parts
    → SteadyBut None None None (record parts { arena = frame_changed i (with_value l value) parts.arena })
valued i l page value parts here low s =
    let b = steady_to parts s in let long = s.places.arena in
    record {
      stands = b.stands;
      holds = holds_full_value parts.map parts.arena parts.full_dirty parts.minis i l value (frame_at parts.arena i) (owned parts.map.full_page i page (full_owner parts page i s here))
          (at_default parts.arena i empty_frame [] (omega arith)) b.holds;
      all = b.all;
      long = record { arena_long = long_set parts.arena i _ parts.plan.dram_frames b.long.arena_long; marks_long = b.long.marks_long; minis_long = b.long.minis_long; frame_marks_long = b.long.frame_marks_long };
    }

pub steady_loaded_to_full : (i l page : ℕ) (value : Line) (parts : Parts) → parts.map.place page ≡ Full i → i < parts.plan.dram_frames → IsSteady parts → IsSteady (loaded_to_full i l value parts)
steady_loaded_to_full i l page value parts here low s =
    let b = valued i l page value parts here low s in
    steady_from (loaded_to_full i l value parts) (record { stands = b.stands; holds = b.holds; all = b.all; long = b.long })

pub steady_full_load : (i l page : ℕ) (old new : Parts) → LoadedToFull i l old new → old.map.place page ≡ Full i → i < old.plan.dram_frames → IsSteady old → IsSteady new
steady_full_load i l page old new loaded here low s = subst IsSteady (sym loaded.is) (steady_loaded_to_full i l page loaded.value old here low s)

-- a line that is there is written
pub steady_full_written : (i l page : ℕ) (value was : Line) (parts : Parts) → parts.map.place page ≡ Full i → i < parts.plan.dram_frames → l < 64 → copy_line parts page l ≡ Some was
    → IsSteady parts → IsSteady (full_written i l value parts)
steady_full_written i l page value was parts here low small there s =
    let b = valued i l page value parts here low s in let long = s.places.arena in
    steady_from (full_written i l value parts) (record {
      stands = b.stands;
      holds = holds_full_marked parts.map arena parts.full_dirty parts.minis i l small (owned parts.map.full_page i page (full_owner parts page i s here))
          (value, ap (λ (f : Frame). line_at f l) (get_or-set_same parts.arena i (with_value l value (frame_at parts.arena i)) empty_frame (omega arith)) ∙ put) b.holds;
      all = b.all;
      long = record { arena_long = b.long.arena_long; marks_long = long_set parts.full_dirty i _ parts.plan.dram_frames b.long.marks_long; minis_long = b.long.minis_long; frame_marks_long = b.long.frame_marks_long };
    })
  where
    arena : List Frame
    arena = frame_changed i (with_value l value) parts.arena

    at : line_at (frame_at parts.arena i) l ≡ Some was
    at = let long = s.places.arena in
        ap (λ (f : Frame). line_at f l) (at_default parts.arena i [] empty_frame (omega arith)) ∙ sym (ap (λ (p : Place). line_at (copy_at p parts.arena parts.minis) l) here) ∙ there

    put : line_at (with_value l value (frame_at parts.arena i)) l ≡ Some value
    put = elim (set_at (frame_at parts.arena i) l (Some value) None) [ inl is ↦ is | inr past ↦ none_some (sym past.1 ∙ at) ]

-- another mini page of the same owner
mini_put : (j page : ℕ) (mini : MiniPage) (parts : Parts) → parts.map.place page ≡ Mini j → ((l : ℕ) → l < 64 → IsTrue (has_line mini.dirty l) → (x : Line) × (line_at mini.places l ≡ Some x)) → length mini.places ≡ 64
    → IsSteady parts → SteadyBut None None None (record parts { minis = with_mini j mini parts.minis })
mini_put j page mini parts here lines long s =
    let b = steady_to parts s in
    record {
      stands = b.stands;
      holds = holds_mini_changed parts.map parts.arena parts.full_dirty parts.minis j mini (owned parts.map.mini_owner j page (mini_owner_of parts page j s here)) lines long b.holds;
      all = b.all;
      long = record { arena_long = b.long.arena_long; marks_long = b.long.marks_long; minis_long = long_set parts.minis j mini parts.plan.minis b.long.minis_long; frame_marks_long = b.long.frame_marks_long };
    }

pub steady_loaded_to_mini : (j l page : ℕ) (value : Line) (parts : Parts) → parts.map.place page ≡ Mini j → IsSteady parts → IsSteady (loaded_to_mini j l value parts)
steady_loaded_to_mini j l page value parts here s =
    let b = mini_put j page (added l value (mini_at parts.minis j)) parts here
    (λ k low dirty. value_kept (mini_at parts.minis j).places l k value ((steady_to parts s).holds.mini_there j k low dirty)) (length-set (mini_at parts.minis j).places l (Some value) ∙ s.long.each (Mini j)) s in
    steady_from (loaded_to_mini j l value parts) (record { stands = b.stands; holds = b.holds; all = b.all; long = b.long })

pub steady_mini_load : (j l page : ℕ) (old new : Parts) → LoadedToMini j l old new → old.map.place page ≡ Mini j → IsSteady old → IsSteady new
steady_mini_load j l page old new loaded here s = subst IsSteady (sym loaded.is) (steady_loaded_to_mini j l page loaded.value old here s)

pub steady_mini_written : (j l page : ℕ) (value was : Line) (parts : Parts) → parts.map.place page ≡ Mini j → l < 64 → copy_line parts page l ≡ Some was
    → IsSteady parts → IsSteady (mini_written j l value parts)
steady_mini_written j l page value was parts here small there s =
    steady_from (mini_written j l value parts) (mini_put j page (changed_line l value (mini_at parts.minis j)) parts here lines (length-set (mini_at parts.minis j).places l (Some value) ∙ s.long.each (Mini j)) s)
  where
    places : Frame
    places = (mini_at parts.minis j).places

    at : line_at (mini_at parts.minis j).places l ≡ Some was
    at = sym (ap (λ (p : Place). line_at (copy_at p parts.arena parts.minis) l) here) ∙ there

    lines : (k : ℕ) → k < 64 → IsTrue (has_line (with_line (mini_at parts.minis j).dirty l) k) → (x : Line) × (line_at (with_value l value (mini_at parts.minis j).places) k ≡ Some x)
    lines k low dirty = elim (cases_eq k l) [
      | inl same ↦ value_kept places l k value (was, ap (line_at places) same ∙ at)
      | inr other ↦ value_kept places l k value ((steady_to parts s).holds.mini_there j k low (sym (has_other (mini_at parts.minis j).dirty l k small other) ∙ dirty))
    ]

-- ---- promotion

module _ (page j i : ℕ) (parts : Parts) (here : parts.map.place page ≡ Mini j) (free : parts.map.full_page i ≡ None) (low : i < parts.plan.dram_frames) (s : IsSteady parts) where
  -- the fields without the lines of the mini copy, and its lines and marks at the full place
  abbrev bared : Parts
  bared = record parts { minis = with_mini j empty_mini parts.minis }

  abbrev lines_at : List Frame
  lines_at = with_frame i (mini_at parts.minis j).places parts.arena

  abbrev marks_at : List ℕ
  marks_at = slice_set parts.full_dirty i (mini_at parts.minis j).dirty

  same_put : (place : Place) → place ≡ Mini j → full_put page i lines_at marks_at (record (place_emptied place bared) { map = without_dram page parts.map })
      ≡ full_placed page i (record (place_emptied place (lines_moved j i parts)) { map = without_dram page parts.map })
  unfolding full_put
  same_put Absent e = refl
  same_put (Full h) e = full_mini e
  same_put (Mini h) e = refl

  arena_kept : (place : Place) → place ≡ Mini j → (place_emptied place bared).arena ≡ parts.arena
  arena_kept Absent e = refl
  arena_kept (Full h) e = full_mini e
  arena_kept (Mini h) e = refl

  marks_kept : (place : Place) → place ≡ Mini j → (place_emptied place bared).full_dirty ≡ parts.full_dirty
  marks_kept Absent e = refl
  marks_kept (Full h) e = full_mini e
  marks_kept (Mini h) e = refl

  plan_kept : (place : Place) → (place_emptied place bared).plan ≡ parts.plan
  plan_kept Absent = refl
  plan_kept (Full h) = refl
  plan_kept (Mini h) = refl

  dropped : SteadyBut None None None (copy_dropped page bared)
  dropped = but_dropped page bared (mini_put j page empty_mini parts here (λ l small dirty. in_none no_lines l refl dirty) empty_long s)

  there : (l : ℕ) → l < 64 → IsTrue (has_line (get_or marks_at i 0) l) → (value : Line) × (line_at (get_or lines_at i empty_frame) l ≡ Some value)
  there l small dirty =
      let long = s.places.arena in let marks_long = s.places.marks in
      let x = (steady_to parts s).holds.mini_there j l small (subst (λ (set : ℕ). IsTrue (has_line set l)) (get_or-set_same parts.full_dirty i (mini_at parts.minis j).dirty 0 (omega arith)) dirty) in
      (x.0, ap (λ (f : Frame). line_at f l) (get_or-set_same parts.arena i (mini_at parts.minis j).places empty_frame (omega arith)) ∙ x.1)

  pub steady_promoted : IsSteady (promoted page j i parts)
  steady_promoted =
      let after = copy_dropped page bared in
      let over = s.standing.over.frame page j here in
      steady_counted moved
      (subst IsSteady (same_put (parts.map.place page) here)
      (steady_from (full_put page i lines_at marks_at after)
      (but_full_put page i lines_at marks_at after
      (changed-same page Absent parts.map.place page refl)
      (ap (λ (p : Place). freed (full_of p) parts.map.full_page i) here ∙ free)
      (subst (λ (p : Plan). i < p.dram_frames) (sym (plan_kept (parts.map.place page))) low)
      (λ k other. get_or-set_other parts.arena i k (mini_at parts.minis j).places empty_frame other ∙ ap (λ (xs : List Frame). get_or xs k empty_frame) (sym (arena_kept (parts.map.place page) here)))
      (λ k other. get_or-set_other parts.full_dirty i k (mini_at parts.minis j).dirty 0 other ∙ ap (λ (xs : List ℕ). get_or xs k 0) (sym (marks_kept (parts.map.place page) here)))
      (λ none. none_some (sym none ∙ over.1))
      there
      (long_set parts.arena i (mini_at parts.minis j).places after.plan.dram_frames (s.places.arena ∙ ap (λ (p : Plan). p.dram_frames) (sym (plan_kept (parts.map.place page)))))
      (long_set parts.full_dirty i (mini_at parts.minis j).dirty after.plan.dram_frames (s.places.marks ∙ ap (λ (p : Plan). p.dram_frames) (sym (plan_kept (parts.map.place page)))))
      (set_keeps (λ (f : Frame). length f ≡ 64) parts.arena i (mini_at parts.minis j).places empty_frame (s.long.each (Mini j)) (λ k. s.long.each (Full k)))
      dropped))) _
    where
      moved : Parts
      moved = full_placed page i (copy_dropped page (lines_moved j i parts))
