-- Lines that are loaded and written, and promotion: the fields do what the rules do.
use Rattle.std.proofs.Common.{◌≡◌, ◌≢◌, ℕ, zero, suc, ◌+◌, ◌*◌, ◌<◌, List, [], ◌∷◌, length, get_or, slice_set, inl, inr, refl, sym, ap, ◌∙◌, subst, arith}
use Rattle.std.specs.Prelude.{Option, Some, None}
use Rattle.std.proofs.lemmas.Bool.{cases_eq}
use Rattle.std.proofs.lemmas.List.{get_or-set_same, get_or-set_other}
use Rattle.nvm_model.specs.declared.line.Line.{Line}
use Rattle.tier_map.specs.declared.place.Place.{Place}
use Rattle.tier_map.specs.declared.place.Place.TheVariants.{Absent, Full, Mini}
use Rattle.tier_map.specs.Placement.{changed, mini_of, with_full, without_dram}
use Rattle.tier_map.proofs.PlacementLaws.{changed-same, changed-other, changed-kept}
use Rattle.page_frame.specs.LineSets.{with_line}
use Rattle.page_frame.specs.Frames.{Frame, empty_frame, line_at, resident_lines, with_value, frame_at, with_frame, frame_changed}
use Rattle.page_frame.proofs.FrameLaws.{resident-set, resident-cons, one_or_none}
use Rattle.mini_page.specs.MiniPages.{MiniPage, empty_mini, mini_at, with_mini, added, changed_line}
use Rattle.clock_sweep.specs.Clock.{inserted}
use Rattle.tier_rules.specs.Clocks.{removed_if}
use Rattle.tier_rules.specs.Tallies.{one_promotion}
use Rattle.tier_rules.specs.State.{TierState, counting}
use Rattle.tier_rules.specs.Touching as rule
use Rattle.tier_rules.specs.Touching.{loaded, marked_line, marked_frame}
use Rattle.tier_rules.specs.Parts.{Parts, copy_at, dirty_at, copy_line}
use Rattle.part_laws.proofs.PartLaws.{alone_full, alone_mini, free_full}
use Rattle.pool_laws.specs.States.{state_of}
use Rattle.tier_pool.specs.Places.{place_emptied}
use Rattle.tier_pool.specs.Bringing.{full_placed}
use Rattle.tier_pool.specs.Touching.{loaded_to_full, loaded_to_mini, full_written, mini_written, lines_moved, promoted}
use Rattle.tier_pool.specs.Standing.{IsSteady}
use Rattle.tier_pool.proofs.SteadyHolds.{none_some}
use Rattle.tier_pool.proofs.SteadyLaws.{at_default, full_low, mini_low}
use Rattle.pool_laws.proofs.StateLaws.{same_state}
use Rattle.pool_laws.proofs.StoreShown.{copy_other, mark_other, resident_now, dirty_now}

one_of : (v : Line) → one_or_none (Some v) ≡ 1
unfolding one_or_none
one_of v = refl

-- a value where there is one changes no set of lines
resident_kept : (frame : Frame) (l : ℕ) (v w : Line) → line_at frame l ≡ Some w → resident_lines (with_value l v frame) ≡ resident_lines frame
resident_kept [] l v w at = none_some at
resident_kept (x ∷ xs) zero v w at =
    resident-cons (Some v) xs ∙ ap (λ (n : ℕ). n + 2 * resident_lines xs) (same_one v w) ∙ ap (λ (o : Option Line). one_or_none o + 2 * resident_lines xs) (sym at) ∙ sym (resident-cons x xs)
  where
    same_one : (a b : Line) → one_or_none (Some a) ≡ one_or_none (Some b)
    same_one a b = one_of a ∙ sym (one_of b)
resident_kept (x ∷ xs) (suc l) v w at =
    resident-cons x (with_value l v xs) ∙ ap (λ (n : ℕ). one_or_none x + 2 * n) (resident_kept xs l v w at) ∙ sym (resident-cons x xs)

module _ (n page : ℕ) (parts : Parts) (s : IsSteady parts) where
  -- ---- a full copy

  module _ (i l : ℕ) (value : Line) (here : parts.map.place page ≡ Full i) (small : l < 64) where
    abbrev arena : List Frame
    arena = frame_changed i (with_value l value) parts.arena

    low : i < length parts.arena
    low = let up = full_low page i parts here s in let long = s.places.arena in omega arith

    marks_low : i < length parts.full_dirty
    marks_low = let up = full_low page i parts here s in let long = s.places.marks in omega arith

    same_frame : frame_at parts.arena i ≡ get_or parts.arena i empty_frame
    same_frame = at_default parts.arena i [] empty_frame low

    others : (marks : List ℕ) → ((k : ℕ) → k ≢ i → get_or marks k 0 ≡ get_or parts.full_dirty k 0) → (q k : ℕ) → q ≢ page → parts.map.place q ≡ Full k
        → (get_or (frame_changed i (with_value l value) parts.arena) k empty_frame ≡ get_or parts.arena k empty_frame) × (get_or marks k 0 ≡ get_or parts.full_dirty k 0)
    others marks same q k other at =
        let apart : k ≢ i = λ e. other (alone_full parts.map s.agrees page q i here (at ∙ ap Full e)) in
        (get_or-set_other parts.arena i k (with_value l value (frame_at parts.arena i)) empty_frame apart, same k apart)

    copy_now : copy_at (parts.map.place page) arena parts.minis ≡ with_value l value (frame_at parts.arena i)
    copy_now = ap (λ (p : Place). copy_at p arena parts.minis) here ∙ get_or-set_same parts.arena i (with_value l value (frame_at parts.arena i)) empty_frame low

    copy_was : copy_at (parts.map.place page) parts.arena parts.minis ≡ frame_at parts.arena i
    copy_was = ap (λ (p : Place). copy_at p parts.arena parts.minis) here ∙ sym same_frame

    pub state_full_loaded : state_of n (loaded_to_full i l value parts) ≡ loaded page l (state_of n parts)
    state_full_loaded = same_state (record {
      plan = refl;
      frames = refl;
      access = refl;
      map = refl;
      resident = resident_now page parts (loaded_to_full i l value parts) (others parts.full_dirty (λ k apart. refl)) (λ q j other at. refl) (with_line (resident_lines (copy_at (parts.map.place page) parts.arena parts.minis)) l)
          (ap resident_lines copy_now
          ∙ resident-set (frame_at parts.arena i) l value (let long = ap (λ (f : Frame). length f) same_frame ∙ s.long.each (Full i) in omega arith)
          ∙ ap (λ (f : Frame). with_line (resident_lines f) l) (sym copy_was));
      dirty = λ q. refl;
      frame_dirty = λ k. refl;
      full_clock = refl;
      mini_clock = refl;
      nvm_clock = refl;
      queue = refl;
      drawn = refl;
      tally = refl;
    })

    pub state_full_written : (was : Line) → copy_line parts page l ≡ Some was → state_of n (full_written i l value parts) ≡ marked_line page l (state_of n parts)
    state_full_written was there = same_state (record {
      plan = refl;
      frames = refl;
      access = refl;
      map = refl;
      resident = λ q. kept q;
      dirty = dirty_now page parts (full_written i l value parts) (others marks (λ k apart. get_or-set_other parts.full_dirty i k set 0 apart)) (λ q j other at. refl) (with_line (dirty_at (parts.map.place page) parts.full_dirty parts.minis) l)
          (ap (λ (p : Place). dirty_at p marks parts.minis) here ∙ get_or-set_same parts.full_dirty i set 0 marks_low ∙ ap (λ (p : Place). with_line (dirty_at p parts.full_dirty parts.minis) l) (sym here));
      frame_dirty = λ k. refl;
      full_clock = refl;
      mini_clock = refl;
      nvm_clock = refl;
      queue = refl;
      drawn = refl;
      tally = refl;
    })
      where
        set : ℕ
        set = with_line (get_or parts.full_dirty i 0) l

        marks : List ℕ
        marks = slice_set parts.full_dirty i (with_line (get_or parts.full_dirty i 0) l)

        now : resident_lines (copy_at (parts.map.place page) (frame_changed i (with_value l value) parts.arena) parts.minis) ≡ resident_lines (copy_at (parts.map.place page) parts.arena parts.minis)
        now = ap resident_lines copy_now ∙ resident_kept (frame_at parts.arena i) l value was (ap (λ (f : Frame). line_at f l) (sym copy_was) ∙ there) ∙ ap resident_lines (sym copy_was)

        kept : (q : ℕ) → resident_lines (copy_at (parts.map.place q) (frame_changed i (with_value l value) parts.arena) parts.minis) ≡ resident_lines (copy_at (parts.map.place q) parts.arena parts.minis)
        kept q =
            resident_now page parts (full_written i l value parts) (others marks (λ k apart. get_or-set_other parts.full_dirty i k set 0 apart)) (λ p j other at. refl)
            (resident_lines (copy_at (parts.map.place page) parts.arena parts.minis)) now q
            ∙ changed-kept page (resident_lines (copy_at (parts.map.place page) parts.arena parts.minis)) (λ p. resident_lines (copy_at (parts.map.place p) parts.arena parts.minis)) refl q

  -- ---- a mini copy

  module _ (j l : ℕ) (value : Line) (here : parts.map.place page ≡ Mini j) (small : l < 64) where
    mini_there : j < length parts.minis
    mini_there = let up = mini_low page j parts here s in let long = s.places.mini_pages in omega arith

    minis_other : (mini : MiniPage) (q k : ℕ) → q ≢ page → parts.map.place q ≡ Mini k → get_or (with_mini j mini parts.minis) k empty_mini ≡ get_or parts.minis k empty_mini
    minis_other mini q k other at = get_or-set_other parts.minis j k mini empty_mini (λ e. other (alone_mini parts.map s.agrees page q j here (at ∙ ap Mini e)))

    mini_now : (mini : MiniPage) → get_or (with_mini j mini parts.minis) j empty_mini ≡ mini
    mini_now mini = get_or-set_same parts.minis j mini empty_mini mini_there

    pub state_mini_loaded : state_of n (loaded_to_mini j l value parts) ≡ loaded page l (state_of n parts)
    state_mini_loaded = same_state (record {
      plan = refl;
      frames = refl;
      access = refl;
      map = refl;
      resident = resident_now page parts (loaded_to_mini j l value parts) (λ q i other at. (refl, refl)) (minis_other mini) (with_line (resident_lines (copy_at (parts.map.place page) parts.arena parts.minis)) l)
          (ap (λ (p : Place). resident_lines (copy_at p parts.arena (with_mini j mini parts.minis))) here
          ∙ ap (λ (m : MiniPage). resident_lines m.places) (mini_now mini)
          ∙ resident-set (mini_at parts.minis j).places l value (let long = s.long.each (Mini j) in omega arith)
          ∙ ap (λ (p : Place). with_line (resident_lines (copy_at p parts.arena parts.minis)) l) (sym here));
      dirty = λ q. kept q;
      frame_dirty = λ k. refl;
      full_clock = refl;
      mini_clock = refl;
      nvm_clock = refl;
      queue = refl;
      drawn = refl;
      tally = refl;
    })
      where
        mini : MiniPage
        mini = added l value (mini_at parts.minis j)

        kept : (q : ℕ) → dirty_at (parts.map.place q) parts.full_dirty (with_mini j (added l value (mini_at parts.minis j)) parts.minis) ≡ dirty_at (parts.map.place q) parts.full_dirty parts.minis
        kept q =
            dirty_now page parts (loaded_to_mini j l value parts) (λ p i other at. (refl, refl)) (minis_other mini) (dirty_at (parts.map.place page) parts.full_dirty parts.minis)
            (ap (λ (p : Place). dirty_at p parts.full_dirty (with_mini j mini parts.minis)) here ∙ ap (λ (m : MiniPage). m.dirty) (mini_now mini) ∙ ap (λ (p : Place). dirty_at p parts.full_dirty parts.minis) (sym here)) q
            ∙ changed-kept page (dirty_at (parts.map.place page) parts.full_dirty parts.minis) (λ p. dirty_at (parts.map.place p) parts.full_dirty parts.minis) refl q

    pub state_mini_written : (was : Line) → copy_line parts page l ≡ Some was → state_of n (mini_written j l value parts) ≡ marked_line page l (state_of n parts)
    state_mini_written was there = same_state (record {
      plan = refl;
      frames = refl;
      access = refl;
      map = refl;
      resident = λ q. kept q;
      dirty = dirty_now page parts (mini_written j l value parts) (λ q i other at. (refl, refl)) (minis_other mini) (with_line (dirty_at (parts.map.place page) parts.full_dirty parts.minis) l)
          (ap (λ (p : Place). dirty_at p parts.full_dirty (with_mini j mini parts.minis)) here ∙ ap (λ (m : MiniPage). m.dirty) (mini_now mini)
          ∙ ap (λ (p : Place). with_line (dirty_at p parts.full_dirty parts.minis) l) (sym here));
      frame_dirty = λ k. refl;
      full_clock = refl;
      mini_clock = refl;
      nvm_clock = refl;
      queue = refl;
      drawn = refl;
      tally = refl;
    })
      where
        mini : MiniPage
        mini = changed_line l value (mini_at parts.minis j)

        at : line_at (mini_at parts.minis j).places l ≡ Some was
        at = sym (ap (λ (p : Place). line_at (copy_at p parts.arena parts.minis) l) here) ∙ there

        kept : (q : ℕ) → resident_lines (copy_at (parts.map.place q) parts.arena (with_mini j (changed_line l value (mini_at parts.minis j)) parts.minis)) ≡ resident_lines (copy_at (parts.map.place q) parts.arena parts.minis)
        kept q =
            resident_now page parts (mini_written j l value parts) (λ p i other at. (refl, refl)) (minis_other mini) (resident_lines (copy_at (parts.map.place page) parts.arena parts.minis))
            (ap (λ (p : Place). resident_lines (copy_at p parts.arena (with_mini j mini parts.minis))) here ∙ ap (λ (m : MiniPage). resident_lines m.places) (mini_now mini)
            ∙ resident_kept (mini_at parts.minis j).places l value was at ∙ ap (λ (p : Place). resident_lines (copy_at p parts.arena parts.minis)) (sym here)) q
            ∙ changed-kept page (resident_lines (copy_at (parts.map.place page) parts.arena parts.minis)) (λ p. resident_lines (copy_at (parts.map.place p) parts.arena parts.minis)) refl q

  -- ---- promotion

  pub state_promoted : (j i : ℕ) → parts.map.place page ≡ Mini j → parts.map.full_page i ≡ None → i < parts.plan.dram_frames → state_of n (promoted page j i parts) ≡ rule.promoted page i (state_of n parts)
  state_promoted j i here free low = ap (counting one_promotion) (subst (λ (p : Place). state_of n (moved_at p) ≡ after) (sym here) (same_state (record {
    plan = refl;
    frames = refl;
    access = refl;
    map = refl;
    resident = λ q. elim (cases_eq q page) [
      | inl same ↦ ap (λ (p : Place). resident_lines (copy_at p new.arena new.minis)) (placed_here q same)
          ∙ ap resident_lines (get_or-set_same parts.arena i (mini_at parts.minis j).places empty_frame (let long = s.places.arena in omega arith))
          ∙ ap (λ (p : Place). resident_lines (copy_at p parts.arena parts.minis)) (sym here ∙ ap parts.map.place (sym same))
      | inr other ↦ ap (λ (p : Place). resident_lines (copy_at p new.arena new.minis)) (placed_there q other) ∙ copy_other page parts new fulls minis q other (parts.map.place q) refl
    ];
    dirty = λ q. elim (cases_eq q page) [
      | inl same ↦ ap (λ (p : Place). dirty_at p new.full_dirty new.minis) (placed_here q same)
          ∙ get_or-set_same parts.full_dirty i (mini_at parts.minis j).dirty 0 (let long = s.places.marks in omega arith)
          ∙ ap (λ (p : Place). dirty_at p parts.full_dirty parts.minis) (sym here ∙ ap parts.map.place (sym same))
      | inr other ↦ ap (λ (p : Place). dirty_at p new.full_dirty new.minis) (placed_there q other) ∙ mark_other page parts new fulls minis q other (parts.map.place q) refl
    ];
    frame_dirty = λ k. refl;
    full_clock = refl;
    mini_clock = sym (ap (λ (p : Place). removed_if (mini_of p) parts.mini_clock) here);
    nvm_clock = refl;
    queue = refl;
    drawn = refl;
    tally = refl;
  })))
    where
      moved_at : Place → Parts
      moved_at p = full_placed page i (record (place_emptied p (lines_moved j i parts)) { map = without_dram page parts.map })

      new : Parts
      new = full_placed page i (record (place_emptied (Mini j) (lines_moved j i parts)) { map = without_dram page parts.map })

      after : TierState
      after = let t = state_of n parts in record t { map = with_full page i (without_dram page parts.map); mini_clock = removed_if (mini_of (parts.map.place page)) parts.mini_clock; full_clock = inserted i parts.full_clock }

      placed_here : (q : ℕ) → q ≡ page → changed page (Full i) (changed page Absent parts.map.place) q ≡ Full i
      placed_here q same = changed-same page (Full i) (changed page Absent parts.map.place) q same

      placed_there : (q : ℕ) → q ≢ page → changed page (Full i) (changed page Absent parts.map.place) q ≡ parts.map.place q
      placed_there q other = changed-other page (Full i) (changed page Absent parts.map.place) q other ∙ changed-other page Absent parts.map.place q other

      fulls : (q k : ℕ) → q ≢ page → parts.map.place q ≡ Full k
          → (get_or (with_frame i (mini_at parts.minis j).places parts.arena) k empty_frame ≡ get_or parts.arena k empty_frame)
          × (get_or (slice_set parts.full_dirty i (mini_at parts.minis j).dirty) k 0 ≡ get_or parts.full_dirty k 0)
      fulls q k other at =
          let apart : k ≢ i = λ e. free_full parts.map s.agrees i free q (at ∙ ap Full e) in
          (get_or-set_other parts.arena i k (mini_at parts.minis j).places empty_frame apart, get_or-set_other parts.full_dirty i k (mini_at parts.minis j).dirty 0 apart)

      minis : (q k : ℕ) → q ≢ page → parts.map.place q ≡ Mini k → get_or (with_mini j empty_mini (with_mini j empty_mini parts.minis)) k empty_mini ≡ get_or parts.minis k empty_mini
      minis q k other at =
          let apart : k ≢ j = λ e. other (alone_mini parts.map s.agrees page q j here (at ∙ ap Mini e)) in
          get_or-set_other (with_mini j empty_mini parts.minis) j k empty_mini empty_mini apart ∙ get_or-set_other parts.minis j k empty_mini empty_mini apart
