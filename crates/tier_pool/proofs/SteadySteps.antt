-- Each change of the fields keeps what holds of them between two calls, also where a place is between two pages.
use Rattle.std.proofs.Common.{◌≡◌, ◌≢◌, ℕ, ◌<◌, inl, inr, Bool, true, false, List, length, get_or, slice_set, refl, sym, ap, ◌∙◌, subst, arith, IsTrue}
use Rattle.std.specs.Prelude.{Option, Some, None, ◌==◌}
use Rattle.std.proofs.lemmas.Bool.{cases_eq}
use Rattle.std.proofs.lemmas.List.{get_or-set_other, get_or-set_same}
use Rattle.nvm_model.specs.declared.line.Line.{Line}
use Rattle.tier_map.specs.declared.place.Place.{Place}
use Rattle.tier_map.specs.declared.place.Place.TheVariants.{Absent, Full, Mini}
use Rattle.tier_map.specs.Placement.{Placement, freed, full_of, mini_of, without_dram}
use Rattle.tier_map.proofs.PlacementLaws.{changed-same, changed-other, with_full-agrees, with_mini-agrees, with_nvm-agrees, without_dram-agrees, without_nvm-agrees}
use Rattle.page_frame.specs.LineSets.{no_lines, has_line}
use Rattle.page_frame.specs.Frames.{Frame, empty_frame, line_at, with_frame, filled, lines_of_page}
use Rattle.page_frame.proofs.FillLaws.{filled_at, page_counted}
use Rattle.mini_page.specs.MiniPages.{empty_mini}
use Rattle.clock_sweep.specs.Clock.{Circle, Swept, victim, inserted}
use Rattle.tier_rules.specs.Clocks.{removed_if}
use Rattle.tier_rules.specs.Sound.{Clocked}
use Rattle.tier_rules.specs.Parts.{Parts, dirty_at}
use Rattle.tier_laws.proofs.StandLaws.{place_count-with_slot, clocked-inserted, clocked-victim, victim-is}
use Rattle.tier_pool.specs.Places.{copy_cleaned, place_emptied, copy_dropped, frame_marked, stored_unless, copy_stored}
use Rattle.tier_pool.specs.NvmRoom.{copy_given_up, frame_left, frame_swept, page_installed}
use Rattle.tier_pool.specs.FullRoom.{full_swept}
use Rattle.tier_pool.specs.Bringing.{full_placed, mini_placed, mini_swept}
use Rattle.tier_pool.specs.Standing.{OverFrames}
use Rattle.tier_pool.proofs.SteadyPieces.{Stands, SteadyBut, long_set, set_keeps, all_same, clock_freed, clock_removed, clock_left, all_removed}
use Rattle.tier_pool.proofs.SteadyHolds.{none_some, absent_mini, full_mini, holds_full_clean, holds_mini_clean, holds_none_dropped, holds_full_dropped, holds_mini_dropped, holds_unframed, holds_framed, holds_full_put, holds_mini_put}

-- ---- mini copies lie over frames

over_dropped : (page : ℕ) (map : Placement) → OverFrames map → OverFrames (without_dram page map)
over_dropped page map over = record {
  frame = λ q j at. elim (cases_eq q page) [
    | inl same ↦ absent_mini (sym (changed-same page Absent map.place q same) ∙ at)
    | inr other ↦ over.frame q j (sym (changed-other page Absent map.place q other) ∙ at)
  ];
}

-- ---- a copy becomes clean, and a frame is marked

module _ {f m n : Option ℕ} where
  pub but_cleaned : (place : Place) (parts : Parts) → SteadyBut f m n parts → SteadyBut f m n (copy_cleaned place parts)
  but_cleaned Absent parts s = s
  but_cleaned (Full i) parts s = record {
    stands = s.stands;
    holds = holds_full_clean parts.map parts.arena parts.full_dirty parts.minis i s.holds;
    all = s.all;
    long = record { arena_long = s.long.arena_long; marks_long = long_set parts.full_dirty i no_lines parts.plan.dram_frames s.long.marks_long; minis_long = s.long.minis_long; frame_marks_long = s.long.frame_marks_long };
  }
  but_cleaned (Mini j) parts s = record {
    stands = s.stands;
    holds = holds_mini_clean parts.map parts.arena parts.full_dirty parts.minis j s.holds;
    all = s.all;
    long = record { arena_long = s.long.arena_long; marks_long = s.long.marks_long; minis_long = long_set parts.minis j _ parts.plan.minis s.long.minis_long; frame_marks_long = s.long.frame_marks_long };
  }

  pub but_frame_marks : (k : ℕ) (mark : Bool) (parts : Parts) → SteadyBut f m n parts → SteadyBut f m n (record parts { frame_dirty = slice_set parts.frame_dirty k mark })
  but_frame_marks k mark parts s = record {
    stands = s.stands;
    holds = s.holds;
    all = s.all;
    long = record { arena_long = s.long.arena_long; marks_long = s.long.marks_long; minis_long = s.long.minis_long; frame_marks_long = long_set parts.frame_dirty k mark parts.frames s.long.frame_marks_long };
  }

  stored : (b : Bool) (place : Place) (k : ℕ) (parts : Parts) → SteadyBut f m n parts → SteadyBut f m n (stored_unless b place k parts)
  stored true place k parts s = s
  stored false place k parts s = but_cleaned place (frame_marked k parts) (but_frame_marks k true parts s)

  pub but_stored : (place : Place) (k : ℕ) (parts : Parts) → SteadyBut f m n parts → SteadyBut f m n (copy_stored place k parts)
  but_stored place k parts s = stored (dirty_at place parts.full_dirty parts.minis == no_lines) place k parts s

  -- ---- a copy is dropped

  stands_dropped : (page : ℕ) (o w : Option ℕ) (map : Placement) (fulls minis frames : Circle) → full_of (map.place page) ≡ o → mini_of (map.place page) ≡ w
      → Stands f m n map fulls minis frames → Stands f m n (without_dram page map) (removed_if o fulls) (removed_if w minis) frames
  stands_dropped page o w map fulls minis frames is_full is_mini s = record {
    agrees = without_dram-agrees map page s.agrees;
    full_clock = subst (λ (x : Option ℕ). Clocked (removed_if x fulls) (freed f (freed (full_of (map.place page)) map.full_page))) is_full (clock_removed f (full_of (map.place page)) fulls map.full_page s.full_clock);
    mini_clock = subst (λ (x : Option ℕ). Clocked (removed_if x minis) (freed m (freed (mini_of (map.place page)) map.mini_owner))) is_mini (clock_removed m (mini_of (map.place page)) minis map.mini_owner s.mini_clock);
    nvm_clock = s.nvm_clock;
    over = over_dropped page map s.over;
  }

  dropped_at : (place : Place) (page : ℕ) (parts : Parts) → parts.map.place page ≡ place → SteadyBut f m n parts
      → SteadyBut f m n (record (place_emptied place parts) { map = without_dram page parts.map })
  dropped_at Absent page parts here s = record {
    stands = stands_dropped page None None parts.map parts.full_clock parts.mini_clock parts.nvm_clock (ap full_of here) (ap mini_of here) s.stands;
    holds = holds_none_dropped parts.map parts.arena parts.full_dirty parts.minis page s.stands.agrees here s.holds;
    all = s.all;
    long = s.long;
  }
  dropped_at (Full i) page parts here s = record {
    stands = stands_dropped page (Some i) None parts.map parts.full_clock parts.mini_clock parts.nvm_clock (ap full_of here) (ap mini_of here) s.stands;
    holds = holds_full_dropped parts.map parts.arena parts.full_dirty parts.minis page s.stands.agrees i here s.holds;
    all = record { all_fulls = all_removed (Some i) parts.full_clock parts.plan.dram_frames s.all.all_fulls; all_minis = s.all.all_minis; all_frames = s.all.all_frames; some = s.all.some };
    long = record {
      arena_long = long_set parts.arena i empty_frame parts.plan.dram_frames s.long.arena_long;
      marks_long = long_set parts.full_dirty i no_lines parts.plan.dram_frames s.long.marks_long;
      minis_long = s.long.minis_long;
      frame_marks_long = s.long.frame_marks_long;
    };
  }
  dropped_at (Mini j) page parts here s = record {
    stands = stands_dropped page None (Some j) parts.map parts.full_clock parts.mini_clock parts.nvm_clock (ap full_of here) (ap mini_of here) s.stands;
    holds = holds_mini_dropped parts.map parts.arena parts.full_dirty parts.minis page s.stands.agrees j here s.holds;
    all = record { all_fulls = s.all.all_fulls; all_minis = all_removed (Some j) parts.mini_clock parts.plan.minis s.all.all_minis; all_frames = s.all.all_frames; some = s.all.some };
    long = record { arena_long = s.long.arena_long; marks_long = s.long.marks_long; minis_long = long_set parts.minis j empty_mini parts.plan.minis s.long.minis_long; frame_marks_long = s.long.frame_marks_long };
  }

  pub but_dropped : (page : ℕ) (parts : Parts) → SteadyBut f m n parts → SteadyBut f m n (copy_dropped page parts)
  but_dropped page parts s = dropped_at (parts.map.place page) page parts refl s

  pub but_given_up : (page k : ℕ) (parts : Parts) → SteadyBut f m n parts → SteadyBut f m n (copy_given_up page k parts)
  but_given_up page k parts s = but_dropped page (copy_stored (parts.map.place page) k parts) (but_stored (parts.map.place page) k parts s)

  -- ---- a page without a copy leaves its frame

  pub but_frame_left : (page k : ℕ) (parts : Parts) → parts.map.place page ≡ Absent → SteadyBut f m n parts → SteadyBut f m n (frame_left page k parts)
  but_frame_left page k parts absent s = record {
    stands = record {
      agrees = without_nvm-agrees parts.map page s.stands.agrees;
      full_clock = s.stands.full_clock;
      mini_clock = s.stands.mini_clock;
      nvm_clock = clock_freed n (parts.map.nvm page) parts.nvm_clock parts.map.frame_page s.stands.nvm_clock;
      over = record {
        frame = λ q j at. let x = s.stands.over.frame q j at in
            (x.0, changed-other page None parts.map.nvm q (λ same. absent_mini (sym absent ∙ ap parts.map.place (sym same) ∙ at)) ∙ x.1);
      };
    };
    holds = holds_unframed parts.map parts.arena parts.full_dirty parts.minis page absent s.holds;
    all = s.all;
    long = record { arena_long = s.long.arena_long; marks_long = s.long.marks_long; minis_long = s.long.minis_long; frame_marks_long = long_set parts.frame_dirty k false parts.frames s.long.frame_marks_long };
  }

-- ---- a page gets a frame

pub but_installed : {f m : Option ℕ} (page k : ℕ) (dirty : Bool) (parts : Parts) → parts.map.nvm page ≡ None → parts.map.frame_page k ≡ None → k < parts.frames
    → SteadyBut f m None parts → SteadyBut f m None (page_installed page k dirty parts)
but_installed page k dirty parts homeless free low s = record {
  stands = record {
    agrees = with_nvm-agrees parts.map page k s.stands.agrees homeless free;
    full_clock = s.stands.full_clock;
    mini_clock = s.stands.mini_clock;
    nvm_clock = clocked-inserted parts.nvm_clock parts.map.frame_page k page (s.all.all_frames.there k low) s.stands.nvm_clock;
    over = record {
      frame = λ q j at. elim (cases_eq q page) [
        | inl same ↦ (k, changed-same page (Some k) parts.map.nvm q same)
        | inr other ↦ let x = s.stands.over.frame q j at in (x.0, changed-other page (Some k) parts.map.nvm q other ∙ x.1)
      ];
    };
  };
  holds = holds_framed parts.map parts.arena parts.full_dirty parts.minis page k s.holds;
  all = record {
    all_fulls = s.all.all_fulls;
    all_minis = s.all.all_minis;
    all_frames = all_same parts.nvm_clock (inserted k parts.nvm_clock) parts.frames (λ i. place_count-with_slot i k _ parts.nvm_clock) s.all.all_frames;
    some = s.all.some;
  };
  long = record { arena_long = s.long.arena_long; marks_long = s.long.marks_long; minis_long = s.long.minis_long; frame_marks_long = long_set parts.frame_dirty k dirty parts.frames s.long.frame_marks_long };
}

-- ---- a page gets a copy

-- in a free full place, with these lines and these dirty ones
unfoldable pub full_put : ℕ → ℕ → List Frame → List ℕ → Parts → Parts
full_put page i arena marks parts = record (full_placed page i parts) { arena = arena; full_dirty = marks }

pub but_full_put : {m n : Option ℕ} (page i : ℕ) (arena : List Frame) (marks : List ℕ) (parts : Parts)
    → parts.map.place page ≡ Absent → parts.map.full_page i ≡ None → i < parts.plan.dram_frames
    → ((k : ℕ) → k ≢ i → get_or arena k empty_frame ≡ get_or parts.arena k empty_frame) → ((k : ℕ) → k ≢ i → get_or marks k 0 ≡ get_or parts.full_dirty k 0)
    → (parts.map.nvm page ≡ None → (l : ℕ) → l < 64 → (value : Line) × (line_at (get_or arena i empty_frame) l ≡ Some value))
    → ((l : ℕ) → l < 64 → IsTrue (has_line (get_or marks i 0) l) → (value : Line) × (line_at (get_or arena i empty_frame) l ≡ Some value))
    → length arena ≡ parts.plan.dram_frames → length marks ≡ parts.plan.dram_frames → ((k : ℕ) → length (get_or arena k empty_frame) ≡ 64)
    → SteadyBut None m n parts → SteadyBut None m n (full_put page i arena marks parts)
unfolding full_put
but_full_put page i arena marks parts absent free low lines sets whole there arena_long marks_long long s = record {
  stands = record {
    agrees = with_full-agrees parts.map page i s.stands.agrees absent free;
    full_clock = clocked-inserted parts.full_clock parts.map.full_page i page (s.all.all_fulls.there i low) s.stands.full_clock;
    mini_clock = s.stands.mini_clock;
    nvm_clock = s.stands.nvm_clock;
    over = record {
      frame = λ q j at. elim (cases_eq q page) [
        | inl same ↦ full_mini (sym (changed-same page (Full i) parts.map.place q same) ∙ at)
        | inr other ↦ s.stands.over.frame q j (sym (changed-other page (Full i) parts.map.place q other) ∙ at)
      ];
    };
  };
  holds = holds_full_put parts.map parts.arena parts.full_dirty parts.minis page i arena marks free lines sets whole there long s.stands.agrees s.holds;
  all = record {
    all_fulls = all_same parts.full_clock (inserted i parts.full_clock) parts.plan.dram_frames (λ k. place_count-with_slot k i _ parts.full_clock) s.all.all_fulls;
    all_minis = s.all.all_minis;
    all_frames = s.all.all_frames;
    some = s.all.some;
  };
  long = record { arena_long = arena_long; marks_long = marks_long; minis_long = s.long.minis_long; frame_marks_long = s.long.frame_marks_long };
}

-- with what stands there, which is nothing: the page stands in a frame
pub but_full_placed : {m n : Option ℕ} (page i h : ℕ) (parts : Parts) → parts.map.place page ≡ Absent → parts.map.full_page i ≡ None → i < parts.plan.dram_frames → parts.map.nvm page ≡ Some h
    → SteadyBut None m n parts → SteadyBut None m n (full_placed page i parts)
unfolding full_put
but_full_placed page i h parts absent free low framed s =
    but_full_put page i parts.arena parts.full_dirty parts absent free low (λ k other. refl) (λ k other. refl)
    (λ none. none_some (sym none ∙ framed)) (λ l small dirty. s.holds.there i l small dirty) s.long.arena_long s.long.marks_long s.holds.frame_long s

-- with all lines of these bytes
pub but_full_filled : {m n : Option ℕ} (page i : ℕ) (bytes : List ℕ) (parts : Parts) → parts.map.place page ≡ Absent → parts.map.full_page i ≡ None → i < parts.plan.dram_frames
    → SteadyBut None m n parts → SteadyBut None m n (full_put page i (with_frame i (filled (lines_of_page bytes)) parts.arena) parts.full_dirty parts)
but_full_filled page i bytes parts absent free low s =
    but_full_put page i after parts.full_dirty parts absent free low
    (λ k other. get_or-set_other parts.arena i k (filled (lines_of_page bytes)) empty_frame other) (λ k other. refl)
    (λ none l small. line l small) (λ l small dirty. line l small)
    (long_set parts.arena i (filled (lines_of_page bytes)) parts.plan.dram_frames s.long.arena_long) s.long.marks_long
    (set_keeps (λ (f : Frame). length f ≡ 64) parts.arena i (filled (lines_of_page bytes)) empty_frame (page_counted bytes) s.holds.frame_long) s
  where
    after : List Frame
    after = with_frame i (filled (lines_of_page bytes)) parts.arena

    line : (l : ℕ) → l < 64 → (value : Line) × (line_at (get_or (with_frame i (filled (lines_of_page bytes)) parts.arena) i empty_frame) l ≡ Some value)
    line l small =
        let long = s.long.arena_long in
        (_, ap (λ (x : Frame). line_at x l) (get_or-set_same parts.arena i (filled (lines_of_page bytes)) empty_frame (omega arith)) ∙ filled_at bytes l small)

pub but_mini_placed : {f n : Option ℕ} (page j h : ℕ) (parts : Parts) → parts.map.place page ≡ Absent → parts.map.mini_owner j ≡ None → j < parts.plan.minis → parts.map.nvm page ≡ Some h
    → SteadyBut f None n parts → SteadyBut f None n (mini_placed page j parts)
but_mini_placed page j h parts absent free low framed s = record {
  stands = record {
    agrees = with_mini-agrees parts.map page j s.stands.agrees absent free;
    full_clock = s.stands.full_clock;
    mini_clock = clocked-inserted parts.mini_clock parts.map.mini_owner j page (s.all.all_minis.there j low) s.stands.mini_clock;
    nvm_clock = s.stands.nvm_clock;
    over = record {
      frame = λ q k at. elim (cases_eq q page) [
        | inl same ↦ (h, ap parts.map.nvm same ∙ framed)
        | inr other ↦ s.stands.over.frame q k (sym (changed-other page (Mini j) parts.map.place q other) ∙ at)
      ];
    };
  };
  holds = holds_mini_put parts.map parts.arena parts.full_dirty parts.minis page j s.holds;
  all = record {
    all_fulls = s.all.all_fulls;
    all_minis = all_same parts.mini_clock (inserted j parts.mini_clock) parts.plan.minis (λ k. place_count-with_slot k j _ parts.mini_clock) s.all.all_minis;
    all_frames = s.all.all_frames;
    some = s.all.some;
  };
  long = s.long;
}

-- ---- victims

pub but_full_swept : {m n : Option ℕ} (v : Swept) (parts : Parts) → victim parts.full_clock ≡ Some v → SteadyBut None m n parts → SteadyBut (Some v.place) m n (full_swept (Some v) parts).parts
but_full_swept v parts found s = record {
  stands = record { agrees = s.stands.agrees; full_clock = clocked-victim parts.full_clock parts.map.full_page v found s.stands.full_clock; mini_clock = s.stands.mini_clock; nvm_clock = s.stands.nvm_clock; over = s.stands.over };
  holds = s.holds;
  all = record { all_fulls = all_same parts.full_clock v.clock parts.plan.dram_frames (victim-is parts.full_clock v found).places s.all.all_fulls; all_minis = s.all.all_minis; all_frames = s.all.all_frames; some = s.all.some };
  long = s.long;
}

pub but_mini_swept : {f n : Option ℕ} (v : Swept) (parts : Parts) → victim parts.mini_clock ≡ Some v → SteadyBut f None n parts → SteadyBut f (Some v.place) n (mini_swept (Some v) parts).parts
but_mini_swept v parts found s = record {
  stands = record { agrees = s.stands.agrees; full_clock = s.stands.full_clock; mini_clock = clocked-victim parts.mini_clock parts.map.mini_owner v found s.stands.mini_clock; nvm_clock = s.stands.nvm_clock; over = s.stands.over };
  holds = s.holds;
  all = record { all_fulls = s.all.all_fulls; all_minis = all_same parts.mini_clock v.clock parts.plan.minis (victim-is parts.mini_clock v found).places s.all.all_minis; all_frames = s.all.all_frames; some = s.all.some };
  long = s.long;
}

pub but_frame_swept : {f m : Option ℕ} (v : Swept) (parts : Parts) → victim parts.nvm_clock ≡ Some v → SteadyBut f m None parts → SteadyBut f m (Some v.place) (frame_swept (Some v) parts).parts
but_frame_swept v parts found s = record {
  stands = record { agrees = s.stands.agrees; full_clock = s.stands.full_clock; mini_clock = s.stands.mini_clock; nvm_clock = clocked-victim parts.nvm_clock parts.map.frame_page v found s.stands.nvm_clock; over = s.stands.over };
  holds = s.holds;
  all = record { all_fulls = s.all.all_fulls; all_minis = s.all.all_minis; all_frames = all_same parts.nvm_clock v.clock parts.frames (victim-is parts.nvm_clock v found).places s.all.all_frames; some = s.all.some };
  long = s.long;
}

-- the page of a victim has left its place
pub but_full_gone : {m n : Option ℕ} (i : ℕ) (parts : Parts) → parts.map.full_page i ≡ None → SteadyBut (Some i) m n parts → SteadyBut None m n parts
but_full_gone i parts gone s = record {
  stands = record { agrees = s.stands.agrees; full_clock = clock_left i parts.full_clock parts.map.full_page gone s.stands.full_clock; mini_clock = s.stands.mini_clock; nvm_clock = s.stands.nvm_clock; over = s.stands.over };
  holds = s.holds;
  all = s.all;
  long = s.long;
}

pub but_mini_gone : {f n : Option ℕ} (j : ℕ) (parts : Parts) → parts.map.mini_owner j ≡ None → SteadyBut f (Some j) n parts → SteadyBut f None n parts
but_mini_gone j parts gone s = record {
  stands = record { agrees = s.stands.agrees; full_clock = s.stands.full_clock; mini_clock = clock_left j parts.mini_clock parts.map.mini_owner gone s.stands.mini_clock; nvm_clock = s.stands.nvm_clock; over = s.stands.over };
  holds = s.holds;
  all = s.all;
  long = s.long;
}

pub but_frame_gone : {f m : Option ℕ} (k : ℕ) (parts : Parts) → parts.map.frame_page k ≡ None → SteadyBut f m (Some k) parts → SteadyBut f m None parts
but_frame_gone k parts gone s = record {
  stands = record { agrees = s.stands.agrees; full_clock = s.stands.full_clock; mini_clock = s.stands.mini_clock; nvm_clock = clock_left k parts.nvm_clock parts.map.frame_page gone s.stands.nvm_clock; over = s.stands.over };
  holds = s.holds;
  all = s.all;
  long = s.long;
}
