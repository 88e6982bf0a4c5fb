-- A copy that is dropped, stored back or cleaned: the fields do what the rules do.
use Rattle.std.proofs.Common.{◌≡◌, ◌≢◌, ℕ, ◌<◌, Bool, true, false, List, length, get_or, slice_set, inl, inr, refl, sym, ap, ◌∙◌}
use Rattle.std.specs.Prelude.{Option, Some, None, ◌==◌, not}
use Rattle.std.proofs.lemmas.Bool.{cases_eq, eqb-true}
use Rattle.std.proofs.lemmas.List.{get_or-set_other}
use Rattle.tier_map.specs.declared.place.Place.{Place}
use Rattle.tier_map.specs.declared.place.Place.TheVariants.{Absent, Full, Mini}
use Rattle.tier_map.specs.Placement.{Placement, Agrees, changed, full_of, mini_of, without_dram}
use Rattle.tier_map.proofs.PlacementLaws.{changed-same, changed-other}
use Rattle.page_frame.specs.LineSets.{no_lines}
use Rattle.page_frame.specs.Frames.{empty_frame, resident_lines}
use Rattle.page_frame.proofs.ArenaLaws.{blank_mask}
use Rattle.page_frame.proofs.FillLaws.{set_twice}
use Rattle.mini_page.specs.MiniPages.{MiniPage, empty_mini, cleaned_mini, mini_at, mini_changed}
use Rattle.tier_rules.specs.Clocks.{removed_if}
use Rattle.tier_rules.specs.State.{TierState, is_dirty}
use Rattle.tier_rules.specs.Storing.{stored_back, dropped, frame_emptied, undirtied}
use Rattle.tier_rules.specs.NvmRoom.{released}
use Rattle.tier_rules.specs.Parts.{Parts, copy_at, dirty_at}
use Rattle.part_laws.proofs.PartLaws.{alone_full, alone_mini}
use Rattle.pool_laws.specs.States.{state_of}
use Rattle.tier_pool.specs.Places.{copy_cleaned, place_emptied, copy_dropped, frame_marked, stored_unless, copy_stored}
use Rattle.tier_pool.specs.NvmRoom.{copy_given_up, frame_left, victim_left}
use Rattle.tier_pool.proofs.NvmRoomLaws.{stored_map}
use Rattle.tier_pool.proofs.SteadyPieces.{set_at, set_back}
use Rattle.pool_laws.proofs.StateLaws.{same_state, mark_set, mark_cleared, mark_kept, or_true}

-- ---- other pages

module _ (page : ℕ) (old new : Parts)
    (frames : (q i : ℕ) → q ≢ page → old.map.place q ≡ Full i → (get_or new.arena i empty_frame ≡ get_or old.arena i empty_frame) × (get_or new.full_dirty i 0 ≡ get_or old.full_dirty i 0))
    (minis : (q j : ℕ) → q ≢ page → old.map.place q ≡ Mini j → get_or new.minis j empty_mini ≡ get_or old.minis j empty_mini) where
  pub copy_other : (q : ℕ) → q ≢ page → (place : Place) → old.map.place q ≡ place → resident_lines (copy_at place new.arena new.minis) ≡ resident_lines (copy_at place old.arena old.minis)
  copy_other q other Absent at = refl
  copy_other q other (Full i) at = ap resident_lines (frames q i other at).0
  copy_other q other (Mini j) at = ap (λ (m : MiniPage). resident_lines m.places) (minis q j other at)

  pub mark_other : (q : ℕ) → q ≢ page → (place : Place) → old.map.place q ≡ place → dirty_at place new.full_dirty new.minis ≡ dirty_at place old.full_dirty old.minis
  mark_other q other Absent at = refl
  mark_other q other (Full i) at = (frames q i other at).1
  mark_other q other (Mini j) at = ap (λ (m : MiniPage). m.dirty) (minis q j other at)

  -- the page has no copy any more
  pub resident_gone : (q : ℕ) → resident_lines (copy_at (changed page Absent old.map.place q) new.arena new.minis)
      ≡ changed page no_lines (λ p. resident_lines (copy_at (old.map.place p) old.arena old.minis)) q
  resident_gone q = elim (cases_eq q page) [
    | inl same ↦ ap (λ (p : Place). resident_lines (copy_at p new.arena new.minis)) (changed-same page Absent old.map.place q same) ∙ blank_mask
        ∙ sym (changed-same page no_lines (λ p. resident_lines (copy_at (old.map.place p) old.arena old.minis)) q same)
    | inr other ↦ ap (λ (p : Place). resident_lines (copy_at p new.arena new.minis)) (changed-other page Absent old.map.place q other) ∙ copy_other q other (old.map.place q) refl
        ∙ sym (changed-other page no_lines (λ p. resident_lines (copy_at (old.map.place p) old.arena old.minis)) q other)
  ]

  pub dirty_gone : (q : ℕ) → dirty_at (changed page Absent old.map.place q) new.full_dirty new.minis ≡ changed page no_lines (λ p. dirty_at (old.map.place p) old.full_dirty old.minis) q
  dirty_gone q = elim (cases_eq q page) [
    | inl same ↦ ap (λ (p : Place). dirty_at p new.full_dirty new.minis) (changed-same page Absent old.map.place q same)
        ∙ sym (changed-same page no_lines (λ p. dirty_at (old.map.place p) old.full_dirty old.minis) q same)
    | inr other ↦ ap (λ (p : Place). dirty_at p new.full_dirty new.minis) (changed-other page Absent old.map.place q other) ∙ mark_other q other (old.map.place q) refl
        ∙ sym (changed-other page no_lines (λ p. dirty_at (old.map.place p) old.full_dirty old.minis) q other)
  ]

  -- the page has a copy at another place
  pub resident_at : (at : Place) (set : ℕ) → resident_lines (copy_at at new.arena new.minis) ≡ set → (q : ℕ)
      → resident_lines (copy_at (changed page at old.map.place q) new.arena new.minis) ≡ changed page set (λ p. resident_lines (copy_at (old.map.place p) old.arena old.minis)) q
  resident_at at set now q = elim (cases_eq q page) [
    | inl same ↦ ap (λ (p : Place). resident_lines (copy_at p new.arena new.minis)) (changed-same page at old.map.place q same) ∙ now
        ∙ sym (changed-same page set (λ p. resident_lines (copy_at (old.map.place p) old.arena old.minis)) q same)
    | inr other ↦ ap (λ (p : Place). resident_lines (copy_at p new.arena new.minis)) (changed-other page at old.map.place q other) ∙ copy_other q other (old.map.place q) refl
        ∙ sym (changed-other page set (λ p. resident_lines (copy_at (old.map.place p) old.arena old.minis)) q other)
  ]

  pub dirty_at_place : (at : Place) (set : ℕ) → dirty_at at new.full_dirty new.minis ≡ set → (q : ℕ)
      → dirty_at (changed page at old.map.place q) new.full_dirty new.minis ≡ changed page set (λ p. dirty_at (old.map.place p) old.full_dirty old.minis) q
  dirty_at_place at set now q = elim (cases_eq q page) [
    | inl same ↦ ap (λ (p : Place). dirty_at p new.full_dirty new.minis) (changed-same page at old.map.place q same) ∙ now
        ∙ sym (changed-same page set (λ p. dirty_at (old.map.place p) old.full_dirty old.minis) q same)
    | inr other ↦ ap (λ (p : Place). dirty_at p new.full_dirty new.minis) (changed-other page at old.map.place q other) ∙ mark_other q other (old.map.place q) refl
        ∙ sym (changed-other page set (λ p. dirty_at (old.map.place p) old.full_dirty old.minis) q other)
  ]

  -- the page's copy is as it was, but that its dirty lines are these
  pub dirty_now : (set : ℕ) → dirty_at (old.map.place page) new.full_dirty new.minis ≡ set → (q : ℕ)
      → dirty_at (old.map.place q) new.full_dirty new.minis ≡ changed page set (λ p. dirty_at (old.map.place p) old.full_dirty old.minis) q
  dirty_now set now q = elim (cases_eq q page) [
    | inl same ↦ ap (λ (p : ℕ). dirty_at (old.map.place p) new.full_dirty new.minis) same ∙ now ∙ sym (changed-same page set (λ p. dirty_at (old.map.place p) old.full_dirty old.minis) q same)
    | inr other ↦ mark_other q other (old.map.place q) refl ∙ sym (changed-other page set (λ p. dirty_at (old.map.place p) old.full_dirty old.minis) q other)
  ]

  pub resident_now : (set : ℕ) → resident_lines (copy_at (old.map.place page) new.arena new.minis) ≡ set → (q : ℕ)
      → resident_lines (copy_at (old.map.place q) new.arena new.minis) ≡ changed page set (λ p. resident_lines (copy_at (old.map.place p) old.arena old.minis)) q
  resident_now set now q = elim (cases_eq q page) [
    | inl same ↦ ap (λ (p : ℕ). resident_lines (copy_at (old.map.place p) new.arena new.minis)) same ∙ now
        ∙ sym (changed-same page set (λ p. resident_lines (copy_at (old.map.place p) old.arena old.minis)) q same)
    | inr other ↦ copy_other q other (old.map.place q) refl ∙ sym (changed-other page set (λ p. resident_lines (copy_at (old.map.place p) old.arena old.minis)) q other)
  ]

module _ (n page : ℕ) (parts : Parts) (agrees : Agrees parts.map) where
  apart_full : (q i k : ℕ) → q ≢ page → parts.map.place page ≡ Full i → parts.map.place q ≡ Full k → k ≢ i
  apart_full q i k other here at same = other (alone_full parts.map agrees page q i here (at ∙ ap Full same))

  apart_mini : (q j k : ℕ) → q ≢ page → parts.map.place page ≡ Mini j → parts.map.place q ≡ Mini k → k ≢ j
  apart_mini q j k other here at same = other (alone_mini parts.map agrees page q j here (at ∙ ap Mini same))

  -- ---- a copy is dropped

  dropped_at : (place : Place) → parts.map.place page ≡ place → state_of n (record (place_emptied place parts) { map = without_dram page parts.map }) ≡ dropped page (state_of n parts)
  dropped_at Absent here = same_state (record {
    plan = refl;
    frames = refl;
    access = refl;
    map = refl;
    resident = resident_gone page parts (record parts { map = without_dram page parts.map }) (λ q i other at. (refl, refl)) (λ q j other at. refl);
    dirty = dirty_gone page parts (record parts { map = without_dram page parts.map }) (λ q i other at. (refl, refl)) (λ q j other at. refl);
    frame_dirty = λ k. refl;
    full_clock = sym (ap (λ (p : Place). removed_if (full_of p) parts.full_clock) here);
    mini_clock = sym (ap (λ (p : Place). removed_if (mini_of p) parts.mini_clock) here);
    nvm_clock = refl;
    queue = refl;
    drawn = refl;
    tally = refl;
  })
  dropped_at (Full i) here = same_state (record {
    plan = refl;
    frames = refl;
    access = refl;
    map = refl;
    resident = resident_gone page parts new frames (λ q j other at. refl);
    dirty = dirty_gone page parts new frames (λ q j other at. refl);
    frame_dirty = λ k. refl;
    full_clock = sym (ap (λ (p : Place). removed_if (full_of p) parts.full_clock) here);
    mini_clock = sym (ap (λ (p : Place). removed_if (mini_of p) parts.mini_clock) here);
    nvm_clock = refl;
    queue = refl;
    drawn = refl;
    tally = refl;
  })
    where
      new : Parts
      new = record (place_emptied (Full i) parts) { map = without_dram page parts.map }

      frames : (q k : ℕ) → q ≢ page → parts.map.place q ≡ Full k
          → (get_or (slice_set parts.arena i empty_frame) k empty_frame ≡ get_or parts.arena k empty_frame) × (get_or (slice_set parts.full_dirty i no_lines) k 0 ≡ get_or parts.full_dirty k 0)
      frames q k other at = (get_or-set_other parts.arena i k empty_frame empty_frame (apart_full q i k other here at), get_or-set_other parts.full_dirty i k no_lines 0 (apart_full q i k other here at))
  dropped_at (Mini j) here = same_state (record {
    plan = refl;
    frames = refl;
    access = refl;
    map = refl;
    resident = resident_gone page parts new (λ q i other at. (refl, refl)) minis;
    dirty = dirty_gone page parts new (λ q i other at. (refl, refl)) minis;
    frame_dirty = λ k. refl;
    full_clock = sym (ap (λ (p : Place). removed_if (full_of p) parts.full_clock) here);
    mini_clock = sym (ap (λ (p : Place). removed_if (mini_of p) parts.mini_clock) here);
    nvm_clock = refl;
    queue = refl;
    drawn = refl;
    tally = refl;
  })
    where
      new : Parts
      new = record (place_emptied (Mini j) parts) { map = without_dram page parts.map }

      minis : (q k : ℕ) → q ≢ page → parts.map.place q ≡ Mini k → get_or (slice_set parts.minis j empty_mini) k empty_mini ≡ get_or parts.minis k empty_mini
      minis q k other at = get_or-set_other parts.minis j k empty_mini empty_mini (apart_mini q j k other here at)

  pub state_dropped : state_of n (copy_dropped page parts) ≡ dropped page (state_of n parts)
  state_dropped = dropped_at (parts.map.place page) refl

  -- ---- a copy is cleaned

  cleaned_at : (place : Place) → parts.map.place page ≡ place → state_of n (copy_cleaned place parts) ≡ record (state_of n parts) { dirty = changed page no_lines (state_of n parts).dirty }
  cleaned_at Absent here = same_state (record {
    plan = refl;
    frames = refl;
    access = refl;
    map = refl;
    resident = λ q. refl;
    dirty = dirty_now page parts parts (λ q i other at. (refl, refl)) (λ q j other at. refl) no_lines (ap (λ (p : Place). dirty_at p parts.full_dirty parts.minis) here);
    frame_dirty = λ k. refl;
    full_clock = refl;
    mini_clock = refl;
    nvm_clock = refl;
    queue = refl;
    drawn = refl;
    tally = refl;
  })
  cleaned_at (Full i) here = same_state (record {
    plan = refl;
    frames = refl;
    access = refl;
    map = refl;
    resident = λ q. refl;
    dirty = dirty_now page parts (copy_cleaned (Full i) parts) (λ q k other at. (refl, get_or-set_other parts.full_dirty i k no_lines 0 (apart_full q i k other here at))) (λ q j other at. refl) no_lines
        (ap (λ (p : Place). dirty_at p (slice_set parts.full_dirty i no_lines) parts.minis) here ∙ set_back parts.full_dirty i no_lines);
    frame_dirty = λ k. refl;
    full_clock = refl;
    mini_clock = refl;
    nvm_clock = refl;
    queue = refl;
    drawn = refl;
    tally = refl;
  })
  cleaned_at (Mini j) here = same_state (record {
    plan = refl;
    frames = refl;
    access = refl;
    map = refl;
    resident = λ q. same_lines (parts.map.place q);
    dirty = dirty_now page parts (copy_cleaned (Mini j) parts) (λ q i other at. (refl, refl))
        (λ q k other at. get_or-set_other parts.minis j k (cleaned_mini (mini_at parts.minis j)) empty_mini (apart_mini q j k other here at)) no_lines
        (ap (λ (p : Place). dirty_at p parts.full_dirty (mini_changed j cleaned_mini parts.minis)) here ∙ ap (λ (m : MiniPage). m.dirty) changed_here);
    frame_dirty = λ k. refl;
    full_clock = refl;
    mini_clock = refl;
    nvm_clock = refl;
    queue = refl;
    drawn = refl;
    tally = refl;
  })
    where
      changed_here : get_or (mini_changed j cleaned_mini parts.minis) j empty_mini ≡ cleaned_mini (get_or parts.minis j empty_mini)
      changed_here = elim (set_at parts.minis j (cleaned_mini (mini_at parts.minis j)) empty_mini) [ inl is ↦ is | inr past ↦ past.0 ∙ ap cleaned_mini (sym past.1) ]

      same_mini : (k : ℕ) → (get_or (mini_changed j cleaned_mini parts.minis) k empty_mini).places ≡ (get_or parts.minis k empty_mini).places
      same_mini k = elim (cases_eq k j) [
        | inl same ↦ ap (λ (i : ℕ). (get_or (mini_changed j cleaned_mini parts.minis) i empty_mini).places) same ∙ ap (λ (m : MiniPage). m.places) changed_here
            ∙ ap (λ (i : ℕ). (get_or parts.minis i empty_mini).places) (sym same)
        | inr other ↦ ap (λ (m : MiniPage). m.places) (get_or-set_other parts.minis j k (cleaned_mini (mini_at parts.minis j)) empty_mini other)
      ]

      same_lines : (place : Place) → resident_lines (copy_at place parts.arena (mini_changed j cleaned_mini parts.minis)) ≡ resident_lines (copy_at place parts.arena parts.minis)
      same_lines Absent = refl
      same_lines (Full i) = refl
      same_lines (Mini k) = ap resident_lines (same_mini k)

  pub state_cleaned : state_of n (copy_cleaned (parts.map.place page) parts) ≡ record (state_of n parts) { dirty = changed page no_lines (state_of n parts).dirty }
  state_cleaned = cleaned_at (parts.map.place page) refl

-- ---- a copy that is cleaned and dropped is as one that is dropped

pub dropped_cleaned : (place : Place) (page : ℕ) (parts : Parts) → parts.map.place page ≡ place → copy_dropped page (copy_cleaned place parts) ≡ copy_dropped page parts
dropped_cleaned Absent page parts here = refl
dropped_cleaned (Full i) page parts here =
    ap (λ (p : Place). record (place_emptied p (copy_cleaned (Full i) parts)) { map = without_dram page parts.map }) here
    ∙ ap (λ (marks : List ℕ). record (place_emptied (Full i) parts) { map = without_dram page parts.map; full_dirty = marks }) (set_twice parts.full_dirty i no_lines no_lines)
    ∙ sym (ap (λ (p : Place). record (place_emptied p parts) { map = without_dram page parts.map }) here)
dropped_cleaned (Mini j) page parts here =
    ap (λ (p : Place). record (place_emptied p (copy_cleaned (Mini j) parts)) { map = without_dram page parts.map }) here
    ∙ ap (λ (minis : List MiniPage). record (place_emptied (Mini j) parts) { map = without_dram page parts.map; minis = minis }) (set_twice parts.minis j (cleaned_mini (mini_at parts.minis j)) empty_mini)
    ∙ sym (ap (λ (p : Place). record (place_emptied p parts) { map = without_dram page parts.map }) here)

-- ---- a frame is marked

pub state_marked : (n k : ℕ) (parts : Parts) → k < length parts.frame_dirty → state_of n (frame_marked k parts) ≡ record (state_of n parts) { frame_dirty = changed k true (state_of n parts).frame_dirty }
state_marked n k parts low = same_state (record {
  plan = refl;
  frames = refl;
  access = refl;
  map = refl;
  resident = λ q. refl;
  dirty = λ q. refl;
  frame_dirty = mark_set parts.frame_dirty k true low;
  full_clock = refl;
  mini_clock = refl;
  nvm_clock = refl;
  queue = refl;
  drawn = refl;
  tally = refl;
})

-- ---- storing back

dirtied_none : (s : TierState) (k : ℕ) → s ≡ stored_back (Some k) false s
dirtied_none s k = ap (λ (marks : ℕ → Bool). record s { frame_dirty = marks }) (λ i j. mark_kept s.frame_dirty k j i)

dirtied_some : (s : TierState) (k : ℕ) → record s { frame_dirty = changed k true s.frame_dirty } ≡ stored_back (Some k) true s
dirtied_some s k = ap (λ (b : Bool). record s { frame_dirty = changed k b s.frame_dirty }) (sym (or_true (s.frame_dirty k)))

-- stored back in a copy that is then dropped
module _ (n page k : ℕ) (place : Place) (parts : Parts) (here : parts.map.place page ≡ place) (agrees : Agrees parts.map) (low : k < length parts.frame_dirty) where
  dropped_by : (b : Bool) → state_of n (copy_dropped page (stored_unless b place k parts)) ≡ stored_back (Some k) (not b) (dropped page (state_of n parts))
  dropped_by true = state_dropped n page parts agrees ∙ dirtied_none (dropped page (state_of n parts)) k
  dropped_by false =
      ap (state_of n) (dropped_cleaned place page (frame_marked k parts) here)
      ∙ state_dropped n page (frame_marked k parts) agrees
      ∙ ap (dropped page) (state_marked n k parts low)
      ∙ dirtied_some (dropped page (state_of n parts)) k

  pub state_stored_dropped : state_of n (copy_dropped page (copy_stored place k parts)) ≡ stored_back (Some k) (is_dirty page (state_of n parts)) (dropped page (state_of n parts))
  state_stored_dropped =
      dropped_by (dirty_at place parts.full_dirty parts.minis == no_lines)
      ∙ ap (λ (p : Place). stored_back (Some k) (not (dirty_at p parts.full_dirty parts.minis == no_lines)) (dropped page (state_of n parts))) (sym here)

  -- stored back in a copy that stays
  stored_by : (b : Bool) → (dirty_at place parts.full_dirty parts.minis == no_lines) ≡ b
      → state_of n (stored_unless b place k parts) ≡ stored_back (Some k) (not b) (record (state_of n parts) { dirty = changed page no_lines (state_of n parts).dirty })
  stored_by true none =
      same_state (record {
        plan = refl;
        frames = refl;
        access = refl;
        map = refl;
        resident = λ q. refl;
        dirty = dirty_now page parts parts (λ q i other at. (refl, refl)) (λ q j other at. refl) no_lines
            (ap (λ (p : Place). dirty_at p parts.full_dirty parts.minis) here ∙ eqb-true (dirty_at place parts.full_dirty parts.minis) no_lines none);
        frame_dirty = λ j. refl;
        full_clock = refl;
        mini_clock = refl;
        nvm_clock = refl;
        queue = refl;
        drawn = refl;
        tally = refl;
      })
      ∙ dirtied_none (record (state_of n parts) { dirty = changed page no_lines (state_of n parts).dirty }) k
  stored_by false some =
      sym (ap (λ (p : Place). state_of n (copy_cleaned p (frame_marked k parts))) here)
      ∙ state_cleaned n page (frame_marked k parts) agrees
      ∙ ap (λ (s : TierState). record s { dirty = changed page no_lines s.dirty }) (state_marked n k parts low)
      ∙ dirtied_some (record (state_of n parts) { dirty = changed page no_lines (state_of n parts).dirty }) k

  pub state_stored : state_of n (copy_stored place k parts) ≡ stored_back (Some k) (is_dirty page (state_of n parts)) (record (state_of n parts) { dirty = changed page no_lines (state_of n parts).dirty })
  state_stored =
      stored_by (dirty_at place parts.full_dirty parts.minis == no_lines) refl
      ∙ ap (λ (p : Place). stored_back (Some k) (not (dirty_at p parts.full_dirty parts.minis == no_lines)) (record (state_of n parts) { dirty = changed page no_lines (state_of n parts).dirty })) (sym here)

pub state_given_up : (n page k : ℕ) (parts : Parts) → Agrees parts.map → k < length parts.frame_dirty
    → state_of n (copy_given_up page k parts) ≡ stored_back (Some k) (is_dirty page (state_of n parts)) (dropped page (state_of n parts))
state_given_up n page k parts agrees low = state_stored_dropped n page k (parts.map.place page) parts refl agrees low

-- ---- a page leaves its frame

pub state_frame_left : (n page k : ℕ) (parts : Parts) → parts.map.nvm page ≡ Some k → state_of n (frame_left page k parts) ≡ frame_emptied page (state_of n parts)
state_frame_left n page k parts framed = same_state (record {
  plan = refl;
  frames = refl;
  access = refl;
  map = refl;
  resident = λ q. refl;
  dirty = λ q. refl;
  frame_dirty = λ j. mark_cleared parts.frame_dirty k j ∙ sym (ap (λ (o : Option ℕ). undirtied o (λ i. get_or parts.frame_dirty i false) j) framed);
  full_clock = refl;
  mini_clock = refl;
  nvm_clock = refl;
  queue = refl;
  drawn = refl;
  tally = refl;
})

pub state_victim_left : (n : ℕ) (o : Option ℕ) (k : ℕ) (parts : Parts) → parts.map.frame_page k ≡ o → Agrees parts.map → k < length parts.frame_dirty
    → state_of n (victim_left o k parts) ≡ released o (state_of n parts)
state_victim_left n None k parts e agrees low = refl
state_victim_left n (Some q) k parts e agrees low =
    let at : parts.map.nvm q ≡ Some k = (agrees.nvm q k).1 e in
    let same = stored_map (parts.map.place q) k parts in
    state_frame_left n q k (copy_given_up q k parts) (ap (λ (m : Placement). m.nvm q) same ∙ at)
    ∙ ap (frame_emptied q) (state_given_up n q k parts agrees low ∙ sym (ap (λ (o : Option ℕ). stored_back o (is_dirty q (state_of n parts)) (dropped q (state_of n parts))) at))
