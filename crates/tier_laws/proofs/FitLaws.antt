-- Sizes and sets of lines stay in order, and settling leaves no dirty copy.
use Rattle.std.proofs.Common.{◌≡◌, ℕ, zero, suc, ◌<◌, inl, inr, Bool, true, false, refl, ap, sym, ◌∙◌, arith, ◌^◌, ◌/◌, ◌%◌, max}
use Rattle.std.specs.Prelude.{Option, Some, None, nat_lt, bit_or}
use Rattle.std.specs.Int.{bit_at}
use Rattle.std.proofs.lemmas.Bool.{cases_eq, eq-eqb, eqb-true}
use Rattle.std.proofs.lemmas.Nat.Bits.{bit_at-zero, bit_at_or, bit_at-pow_other}
use Rattle.tier_map.specs.declared.place.Place.{Place}
use Rattle.tier_map.specs.declared.place.Place.TheVariants.{Absent, Full, Mini}
use Rattle.page_frame.specs.LineSets.{no_lines, all_lines, has_line, with_line, line_count}
use Rattle.tier_map.specs.Placement.{changed, full_of, mini_of}
use Rattle.tier_rules.specs.Plans.{Plan, dram_question}
use Rattle.tier_rules.specs.Clocks.{place_count, removed_if}
use Rattle.clock_sweep.specs.Clock.{Circle, inserted, touched, Swept, lowest_empty, victim}
use Rattle.tier_rules.specs.Tallies.{nvm_hit, dram_eviction, nvm_eviction}
use Rattle.tier_rules.specs.State.{TierState, counting, is_dirty}
use Rattle.tier_rules.specs.Fitting.{Fits, Fitting}
use Rattle.tier_rules.specs.Storing.{dropped}
use Rattle.tier_rules.specs.NvmRoom.{released, nvm_evicted, nvm_room, room_in_nvm, installed, framed}
use Rattle.tier_rules.specs.FullRoom.{answered, draw, admission, moved_down, moved_if, handed_down, given_up, full_evicted, full_room, room_in_full}
use Rattle.tier_rules.specs.Bringing.{fetched, mini_given_up, mini_evicted, mini_room, room_in_mini, room_by, room_in_dram, copied, brought_to, brought, brought_through, brought_past}
use Rattle.tier_rules.specs.Entering.{begins, brought_if, framed_if, through_nvm, read_in, entered_at, entered, entered_if, accessed}
use Rattle.tier_rules.specs.Touching.{loaded, promoted, promoted_to, outgrown, mini_touched, full_touched, ready_at, made_ready, marked_frame, marked_line, marked_at, marked}
use Rattle.tier_rules.specs.Step.{Touch, ready_step, completed, tier_step}
use Rattle.tier_rules.specs.Sound.{Sound}
use Rattle.tier_map.proofs.PlacementLaws.{changed-same, changed-other}
use Rattle.tier_laws.proofs.StandLaws.{victim-is}
use Rattle.tier_laws.proofs.SoundLaws.{removed_if-there, place_count-inserted}
use Rattle.tier_laws.proofs.TouchLaws.{IsReady, accessed-ok, made_ready-ready, absent_not_full}
use Rattle.tier_laws.proofs.PrintLaws.{has-kept, ready_there}

pub nothing_there : (l : ℕ) (A : Type 0) → has_line no_lines l ≡ true → A
nothing_there l A h = let one : bit_at 0 l ≡ 1 = eqb-true (bit_at 0 l) 1 h in let none = bit_at-zero l in absurd (omega arith)

-- the clocks keep their places, in whatever order
same_places : (plan : Plan) (f g m n : Circle) (place : ℕ → Place) (r d : ℕ → ℕ) → ((i : ℕ) → place_count i g ≡ place_count i f) → ((j : ℕ) → place_count j n ≡ place_count j m)
    → Fits plan f m place r d → Fits plan g n place r d
same_places plan f g m n place r d a b h = record {
  full_size = λ i up. let same = a i in h.full_size i (omega arith);
  mini_size = λ j up. let same = b j in h.mini_size j (omega arith);
  clean_absent = h.clean_absent;
  there = h.there;
}

-- a page gets a place, with no dirty line
placed_clean : (plan : Plan) (f m : Circle) (place : ℕ → Place) (r d : ℕ → ℕ) (p lines : ℕ) (new : Place) → Fits plan f m place r d → Fits plan f m (changed p new place) (changed p lines r) (changed p no_lines d)
placed_clean plan f m place r d p lines new h = record {
  full_size = h.full_size;
  mini_size = h.mini_size;
  clean_absent = λ q e. elim (cases_eq q p) [
    | inl same ↦ changed-same p no_lines d q same
    | inr n ↦ changed-other p no_lines d q n ∙ h.clean_absent q (sym (changed-other p new place q n) ∙ e)
  ];
  there = λ q l e. elim (cases_eq q p) [
    | inl same ↦ nothing_there l (has_line (changed p lines r q) l ≡ true) (ap (λ set. has_line set l) (sym (changed-same p no_lines d q same)) ∙ e)
    | inr n ↦ ap (λ set. has_line set l) (changed-other p lines r q n) ∙ h.there q l (ap (λ set. has_line set l) (sym (changed-other p no_lines d q n)) ∙ e)
  ];
}

dropped-fits : (p : ℕ) (s : TierState) → Fitting s → Fitting (dropped p s)
dropped-fits p s h =
    same_places s.plan s.full_clock (removed_if (full_of (s.map.place p)) s.full_clock) s.mini_clock (removed_if (mini_of (s.map.place p)) s.mini_clock) _ _ _
    (removed_if-there (full_of (s.map.place p)) s.full_clock) (removed_if-there (mini_of (s.map.place p)) s.mini_clock)
    (placed_clean s.plan s.full_clock s.mini_clock s.map.place s.resident s.dirty p no_lines Absent h)

released-fits : (o : Option ℕ) (s : TierState) → Fitting s → Fitting (released o s)
released-fits None s h = h
released-fits (Some p) s h = dropped-fits p s h

nvm_evicted-fits : (o : Option Swept) (s : TierState) → Fitting s → Fitting (nvm_evicted o s).state
nvm_evicted-fits None s h = h
nvm_evicted-fits (Some v) s h = released-fits (s.map.frame_page v.place) (counting nvm_eviction (record s { nvm_clock = v.clock })) h

nvm_room-fits : (o : Option ℕ) (s : TierState) → Fitting s → Fitting (nvm_room o s).state
nvm_room-fits (Some k) s h = h
nvm_room-fits None s h = nvm_evicted-fits (victim s.nvm_clock) s h

room_in_nvm-fits : (s : TierState) → Fitting s → Fitting (room_in_nvm s).state
unfolding room_in_nvm
room_in_nvm-fits s h = nvm_room-fits (lowest_empty s.nvm_clock) s h

framed-fits : (p : ℕ) (s : TierState) → Fitting s → Fitting (framed p s)
unfolding framed installed
framed-fits p s h = room_in_nvm-fits s h

moved_down-fits : (dirty : Bool) (p : ℕ) (s : TierState) → Fitting s → Fitting (moved_down dirty p s)
unfolding moved_down installed
moved_down-fits dirty p s h = room_in_nvm-fits s h

moved_if-fits : (yes dirty : Bool) (p : ℕ) (s : TierState) → Fitting s → Fitting (moved_if yes dirty p s)
moved_if-fits true dirty p s h = moved_down-fits dirty p s h
moved_if-fits false true p s h = h
moved_if-fits false false p s h = h

handed_down-fits : (o : Option ℕ) (dirty : Bool) (p : ℕ) (s : TierState) → Fitting s → Fitting (handed_down o dirty p s)
handed_down-fits (Some k) dirty p s h = h
handed_down-fits None dirty p s h = let answer = admission dirty p s in moved_if-fits answer.yes dirty p (answered answer s) h

given_up-fits : (o : Option ℕ) (s : TierState) → Fitting s → Fitting (given_up o s)
given_up-fits None s h = h
given_up-fits (Some p) s h = handed_down-fits (s.map.nvm p) (is_dirty p s) p (dropped p s) (dropped-fits p s h)

full_evicted-fits : (o : Option Swept) (s : TierState) → victim s.full_clock ≡ o → Fitting s → Fitting (full_evicted o s).state
full_evicted-fits None s e h = h
full_evicted-fits (Some v) s e h =
    given_up-fits (s.map.full_page v.place) (counting dram_eviction (record s { full_clock = v.clock }))
    (same_places s.plan s.full_clock v.clock s.mini_clock s.mini_clock s.map.place s.resident s.dirty (victim-is s.full_clock v e).places (λ j. refl) h)

full_room-fits : (o : Option ℕ) (s : TierState) → Fitting s → Fitting (full_room o s).state
full_room-fits (Some i) s h = h
full_room-fits None s h = full_evicted-fits (victim s.full_clock) s refl h

room_in_full-fits : (s : TierState) → Fitting s → Fitting (room_in_full s).state
unfolding room_in_full
room_in_full-fits s h = full_room-fits (lowest_empty s.full_clock) s h

fetched-fits : (p i : ℕ) (s : TierState) → Fitting s → Fitting (fetched p i s)
unfolding fetched
fetched-fits p i s h =
    same_places s.plan s.full_clock (inserted i s.full_clock) s.mini_clock s.mini_clock _ _ _ (place_count-inserted i s.full_clock) (λ j. refl)
    (placed_clean s.plan s.full_clock s.mini_clock s.map.place s.resident s.dirty p all_lines (Full i) h)

mini_given_up-fits : (o : Option ℕ) (s : TierState) → Fitting s → Fitting (mini_given_up o s)
mini_given_up-fits None s h = h
mini_given_up-fits (Some p) s h = dropped-fits p s h

mini_evicted-fits : (o : Option Swept) (s : TierState) → victim s.mini_clock ≡ o → Fitting s → Fitting (mini_evicted o s).state
mini_evicted-fits None s e h = h
mini_evicted-fits (Some v) s e h =
    mini_given_up-fits (s.map.mini_owner v.place) (counting dram_eviction (record s { mini_clock = v.clock }))
    (same_places s.plan s.full_clock s.full_clock s.mini_clock v.clock s.map.place s.resident s.dirty (λ i. refl) (victim-is s.mini_clock v e).places h)

mini_room-fits : (o : Option ℕ) (s : TierState) → Fitting s → Fitting (mini_room o s).state
mini_room-fits (Some j) s h = h
mini_room-fits None s h = mini_evicted-fits (victim s.mini_clock) s refl h

room_in_mini-fits : (s : TierState) → Fitting s → Fitting (room_in_mini s).state
unfolding room_in_mini
room_in_mini-fits s h = mini_room-fits (lowest_empty s.mini_clock) s h

room_by-fits : (minis : ℕ) (s : TierState) → Fitting s → Fitting (room_by minis s).state
room_by-fits zero s h = room_in_full-fits s h
room_by-fits (suc minis) s h = room_in_mini-fits s h

room_in_dram-fits : (s : TierState) → Fitting s → Fitting (room_in_dram s).state
unfolding room_in_dram
room_in_dram-fits s h = room_by-fits s.plan.minis s h

-- a copy keeps its page's place where there is none to give
absent_clean : (plan : Plan) (f m : Circle) (place : ℕ → Place) (r d : ℕ → ℕ) (p lines : ℕ) → Fits plan f m place r d → Fits plan f m place (changed p lines r) (changed p no_lines d)
absent_clean plan f m place r d p lines h = record {
  full_size = h.full_size;
  mini_size = h.mini_size;
  clean_absent = λ q e. elim (cases_eq q p) [ inl same ↦ changed-same p no_lines d q same | inr n ↦ changed-other p no_lines d q n ∙ h.clean_absent q e ];
  there = λ q l e. elim (cases_eq q p) [
    | inl same ↦ nothing_there l (has_line (changed p lines r q) l ≡ true) (ap (λ set. has_line set l) (sym (changed-same p no_lines d q same)) ∙ e)
    | inr n ↦ ap (λ set. has_line set l) (changed-other p lines r q n) ∙ h.there q l (ap (λ set. has_line set l) (sym (changed-other p no_lines d q n)) ∙ e)
  ];
}

copied-fits : (p : ℕ) (place : Place) (s : TierState) → Fitting s → Fitting (copied p place s)
unfolding copied
copied-fits p Absent s h = absent_clean s.plan s.full_clock s.mini_clock s.map.place s.resident s.dirty p no_lines h
copied-fits p (Full i) s h =
    same_places s.plan s.full_clock (inserted i s.full_clock) s.mini_clock s.mini_clock _ _ _ (place_count-inserted i s.full_clock) (λ j. refl)
    (placed_clean s.plan s.full_clock s.mini_clock s.map.place s.resident s.dirty p no_lines (Full i) h)
copied-fits p (Mini j) s h =
    same_places s.plan s.full_clock s.full_clock s.mini_clock (inserted j s.mini_clock) _ _ _ (λ i. refl) (place_count-inserted j s.mini_clock)
    (placed_clean s.plan s.full_clock s.mini_clock s.map.place s.resident s.dirty p no_lines (Mini j) h)

brought_to-fits : (o : Option ℕ) (p : ℕ) (place : Place) (s : TierState) → Fitting s → Fitting (brought_to o p place s)
brought_to-fits (Some k) p place s h = copied-fits p place s h
brought_to-fits None p (Full i) s h = fetched-fits p i s h
brought_to-fits None p (Mini j) s h = h
brought_to-fits None p Absent s h = h

brought-fits : (p : ℕ) (s : TierState) → Fitting s → Fitting (brought p s)
unfolding brought
brought-fits p s h = let room = room_in_dram s in brought_to-fits (room.state.map.nvm p) p room.place room.state (room_in_dram-fits s h)

brought_through-fits : (p : ℕ) (s : TierState) → Fitting s → Fitting (brought_through p s)
unfolding brought_through
brought_through-fits p s h = let room = room_in_dram s in copied-fits p room.place (framed p room.state) (framed-fits p room.state (room_in_dram-fits s h))

brought_past-fits : (p : ℕ) (s : TierState) → Fitting s → Fitting (brought_past p s)
unfolding brought_past
brought_past-fits p s h = let room = room_in_full s in fetched-fits p room.place room.state (room_in_full-fits s h)

brought_if-fits : (yes : Bool) (p : ℕ) (s : TierState) → Fitting s → Fitting (brought_if yes p s)
brought_if-fits true p s h = brought-fits p s h
brought_if-fits false p s h = h

framed_if-fits : (yes : Bool) (p : ℕ) (s : TierState) → Fitting s → Fitting (framed_if yes p s)
framed_if-fits true p s h = brought_through-fits p s h
framed_if-fits false p s h = framed-fits p s h

read_in-fits : (yes : Bool) (p : ℕ) (w : Bool) (s : TierState) → Fitting s → Fitting (read_in yes p w s)
read_in-fits false p w s h = brought_past-fits p s h
read_in-fits true p w s h = let answer = draw (dram_question w) s in framed_if-fits answer.yes p (answered answer s) h

entered_at-fits : (place : Place) (o : Option ℕ) (p : ℕ) (w : Bool) (s : TierState) → Fitting s → Fitting (entered_at place o p w s)
entered_at-fits (Full i) o p w s h = same_places s.plan s.full_clock (touched i s.full_clock) s.mini_clock s.mini_clock s.map.place s.resident s.dirty (place_count-inserted i s.full_clock) (λ j. refl) h
entered_at-fits (Mini j) o p w s h = same_places s.plan s.full_clock s.full_clock s.mini_clock (touched j s.mini_clock) s.map.place s.resident s.dirty (λ i. refl) (place_count-inserted j s.mini_clock) h
entered_at-fits Absent (Some k) p w s h = let answer = draw (dram_question w) s in brought_if-fits answer.yes p (answered answer (counting nvm_hit (record s { nvm_clock = touched k s.nvm_clock }))) h
entered_at-fits Absent None p w s h = let answer = through_nvm s.frames s in read_in-fits answer.yes p w (answered answer s) h

entered_if-fits : (b : Bool) (p : ℕ) (w : Bool) (s : TierState) → Fitting s → Fitting (entered_if b p w s)
unfolding entered
entered_if-fits true p w s h = entered_at-fits (s.map.place p) (s.map.nvm p) p w (record s { access = Some (p, w) }) h
entered_if-fits false p w s h = h

accessed-fits : (p : ℕ) (w : Bool) (s : TierState) → Fitting s → Fitting (accessed p w s)
unfolding accessed
accessed-fits p w s h = entered_if-fits (begins s.access p w) p w s h

-- ---- lines

loaded-fits : (p l : ℕ) (s : TierState) → Fitting s → Fitting (loaded p l s)
loaded-fits p l s h = record {
  full_size = h.full_size;
  mini_size = h.mini_size;
  clean_absent = h.clean_absent;
  there = λ q k e. elim (cases_eq q p) [
    | inl same ↦ ap (λ set. has_line set k) (changed-same p (with_line (s.resident p) l) s.resident q same)
        ∙ has-kept (s.resident p) l k (h.there p k (ap (λ n. has_line (s.dirty n) k) (sym same) ∙ e))
    | inr n ↦ ap (λ set. has_line set k) (changed-other p (with_line (s.resident p) l) s.resident q n) ∙ h.there q k e
  ];
}

promoted-fits : (p i : ℕ) (s : TierState) → Fitting s → (s.map.place p ≡ Absent → ⊥) → Fitting (promoted p i s)
promoted-fits p i s h never =
    same_places s.plan s.full_clock (inserted i s.full_clock) s.mini_clock (removed_if (mini_of (s.map.place p)) s.mini_clock) _ s.resident s.dirty
    (place_count-inserted i s.full_clock) (removed_if-there (mini_of (s.map.place p)) s.mini_clock)
    (record {
      full_size = h.full_size;
      mini_size = h.mini_size;
      clean_absent = λ q e. elim (cases_eq q p) [
        | inl same ↦ absurd (let full = changed-same p (Full i) (changed p Absent s.map.place) q same in let both = sym full ∙ e in cc)
        | inr n ↦ h.clean_absent q (sym (changed-other p Absent s.map.place q n) ∙ sym (changed-other p (Full i) (changed p Absent s.map.place) q n) ∙ e)
      ];
      there = h.there;
    })

promoted_to-fits : (place : Place) (p l i : ℕ) (s : TierState) → s.map.place p ≡ place → Fitting s → Fitting (promoted_to place p l i s)
promoted_to-fits Absent p l i s e h = fetched-fits p i s h
promoted_to-fits (Full g) p l i s e h = h
promoted_to-fits (Mini j) p l i s e h = loaded-fits p l (promoted p i s) (promoted-fits p i s h (λ none. let both = sym none ∙ e in cc))

outgrown-fits : (p l : ℕ) (s : TierState) → Fitting s → Fitting (outgrown p l s)
unfolding outgrown
outgrown-fits p l s h = let room = room_in_full s in promoted_to-fits (room.state.map.place p) p l room.place room.state refl (room_in_full-fits s h)

mini_touched-fits : (b fits : Bool) (p l : ℕ) (s : TierState) → Fitting s → Fitting (mini_touched b fits p l s)
mini_touched-fits true fits p l s h = h
mini_touched-fits false true p l s h = loaded-fits p l s h
mini_touched-fits false false p l s h = outgrown-fits p l s h

full_touched-fits : (b : Bool) (p l : ℕ) (s : TierState) → Fitting s → Fitting (full_touched b p l s)
full_touched-fits true p l s h = h
full_touched-fits false p l s h = loaded-fits p l s h

ready_at-fits : (place : Place) (p l : ℕ) (s : TierState) → Fitting s → Fitting (ready_at place p l s)
ready_at-fits Absent p l s h = h
ready_at-fits (Full i) p l s h = full_touched-fits (has_line (s.resident p) l) p l s h
ready_at-fits (Mini j) p l s h = mini_touched-fits (has_line (s.resident p) l) (nat_lt (line_count (s.resident p)) 16) p l s h

made_ready-fits : (p l : ℕ) (s : TierState) → Fitting s → Fitting (made_ready p l s)
unfolding made_ready
made_ready-fits p l s h = ready_at-fits (s.map.place p) p l s h

has-other : (set l k : ℕ) → (k ≡ l → ⊥) → has_line (with_line set l) k ≡ true → has_line set k ≡ true
has-other set l k n h =
    let one : bit_at (bit_or set (2 ^ l)) k ≡ 1 = eqb-true (bit_at (bit_or set (2 ^ l)) k) 1 h in
    let bit : bit_at (bit_or set (2 ^ l)) k ≡ max (bit_at set k) (bit_at (2 ^ l) k) = bit_at_or set (2 ^ l) k in
    let none = bit_at-pow_other l k n in
    eq-eqb (set / 2 ^ k % 2) 1 (let was : bit_at set k ≡ 1 = omega arith in was)

marked_line-fits : (p l : ℕ) (s : TierState) → Fitting s → (s.map.place p ≡ Absent → ⊥) → has_line (s.resident p) l ≡ true → Fitting (marked_line p l s)
marked_line-fits p l s h never there = record {
  full_size = h.full_size;
  mini_size = h.mini_size;
  clean_absent = λ q e. elim (cases_eq q p) [
    | inl same ↦ absurd (never (ap s.map.place (sym same) ∙ e))
    | inr n ↦ changed-other p (with_line (s.dirty p) l) s.dirty q n ∙ h.clean_absent q e
  ];
  there = λ q k e. elim (cases_eq q p) [
    | inl same ↦
        let marked_set : has_line (with_line (s.dirty p) l) k ≡ true = ap (λ set. has_line set k) (sym (changed-same p (with_line (s.dirty p) l) s.dirty q same)) ∙ e in
        ap (λ n. has_line (s.resident n) k) same ∙ (elim (cases_eq k l) [
          | inl it ↦ ap (has_line (s.resident p)) it ∙ there
          | inr other ↦ h.there p k (has-other (s.dirty p) l k other marked_set)
        ])
    | inr n ↦ h.there q k (ap (λ set. has_line set k) (sym (changed-other p (with_line (s.dirty p) l) s.dirty q n)) ∙ e)
  ];
}

marked_frame-fits : (o : Option ℕ) (s : TierState) → Fitting s → Fitting (marked_frame o s)
marked_frame-fits None s h = h
marked_frame-fits (Some k) s h = h

marked_at-fits : (place : Place) (p l : ℕ) (s : TierState) → s.map.place p ≡ place → Fitting s → IsReady (s.map.place p) (s.resident p) l → Fitting (marked_at place p l s)
marked_at-fits Absent p l s at h r = marked_frame-fits (s.map.nvm p) s h
marked_at-fits (Full i) p l s at h r =
    let never : s.map.place p ≡ Absent → ⊥ = λ none. absent_not_full i (sym none ∙ at) in
    marked_line-fits p l s h never (ready_there (s.map.place p) (s.resident p) l never r)
marked_at-fits (Mini j) p l s at h r =
    let never : s.map.place p ≡ Absent → ⊥ = λ none. let both = sym none ∙ at in cc in
    marked_line-fits p l s h never (ready_there (s.map.place p) (s.resident p) l never r)

completed-fits : (w : Bool) (p l : ℕ) (s : TierState) → Fitting s → IsReady (s.map.place p) (s.resident p) l → Fitting (completed w p l s)
unfolding marked
completed-fits true p l s h r = marked_at-fits (s.map.place p) p l s refl h r
completed-fits false p l s h r = h

pub tier_step-fits : (touch : Touch) (s : TierState) → touch.line < 64 → Sound s → Fitting s → Fitting (tier_step touch s)
unfolding tier_step ready_step
tier_step-fits touch s h sound fits =
    let p = touch.page in
    let l = touch.line in
    let w = touch.writes in
    let a = accessed p w s in
    let open_a = accessed-ok p w s sound in
    completed-fits w p l (made_ready p l a) (made_ready-fits p l a (accessed-fits p w s fits)) (made_ready-ready p l a h open_a.sound)
