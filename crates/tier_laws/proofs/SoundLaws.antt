-- Each rule of the tiers keeps what holds in every state.
use Rattle.std.proofs.Common.{◌≡◌, ℕ, zero, suc, ◌≤◌, ◌⊎◌, inl, inr, Bool, true, false, refl, ap, sym, ◌∙◌, arith, subst}
use Rattle.std.specs.Prelude.{Option, Some, None}
use Rattle.std.proofs.lemmas.Bool.{cases_eq}
use Rattle.tier_map.specs.declared.place.Place.{Place}
use Rattle.tier_map.specs.declared.place.Place.TheVariants.{Absent, Full, Mini}
use Rattle.tier_rules.specs.declared.tally.Tally.{Tally}
use Rattle.page_frame.specs.LineSets.{no_lines}
use Rattle.tier_map.specs.Placement.{changed, full_of, mini_of, with_nvm, freed}
use Rattle.tier_rules.specs.Clocks.{place_count, removed_if}
use Rattle.clock_sweep.specs.Clock.{Circle, inserted, Swept, lowest_empty, victim}
use Rattle.tier_rules.specs.Tallies.{one_fetch, one_pass, nvm_eviction, dram_eviction}
use Rattle.tier_rules.specs.State.{TierState, Room, counting, is_dirty}
use Rattle.tier_rules.specs.Sound.{Clocked, HasPlace, Held, Sound}
use Rattle.tier_rules.specs.Storing.{stored_back, dropped, frame_emptied}
use Rattle.tier_rules.specs.NvmRoom.{released, nvm_evicted, nvm_room, room_in_nvm, installed, framed}
use Rattle.tier_rules.specs.FullRoom.{Answer, answered, admission_by, admission, moved_down, moved_if, handed_down, given_up, full_evicted, full_room, room_in_full}
use Rattle.tier_map.proofs.PlacementLaws.{changed-same, changed-other, changed-kept, with_nvm-agrees, without_dram-agrees, without_nvm-agrees}
use Rattle.tier_laws.proofs.StandLaws.{place_count-with_slot, clocked-like, clocked-inserted, clocked-removed, clocked-freed, clocked-victim, lowest-owner, victim-there, victim-is, victim-found}

-- ---- what stands, without the clocks

pub absent_not_full : (i : ℕ) → Absent ≡ Full i → ⊥
absent_not_full i h = cc

pub absent_not_mini : (i : ℕ) → Absent ≡ Mini i → ⊥
absent_not_mini i h = cc

pub none_not_some : (i : ℕ) → ◌≡◌ {A = Option ℕ} None (Some i) → ⊥
none_not_some i h = cc

pub dropped-held : (p : ℕ) (s : TierState) → Held s.map s.resident → Held (dropped p s).map (dropped p s).resident
dropped-held p s h = record {
  agrees = without_dram-agrees s.map p h.agrees;
  over_frame = λ q j e. elim (cases_eq q p) [
    | inl same ↦ absurd (absent_not_mini j (sym (changed-same p Absent s.map.place q same) ∙ e))
    | inr n ↦ h.over_frame q j (sym (changed-other p Absent s.map.place q n) ∙ e)
  ];
  whole = λ q i e none. elim (cases_eq q p) [
    | inl same ↦ absurd (absent_not_full i (sym (changed-same p Absent s.map.place q same) ∙ e))
    | inr n ↦ changed-other p no_lines s.resident q n ∙ h.whole q i (sym (changed-other p Absent s.map.place q n) ∙ e) none
  ];
}

-- a page with a DRAM copy is another one than a page without
apart : (s : TierState) (p q : ℕ) (place : Place) → s.map.place p ≡ Absent → s.map.place q ≡ place → (Absent ≡ place → ⊥) → q ≡ p → ⊥
apart s p q place absent e never same = never (sym absent ∙ ap s.map.place (sym same) ∙ e)

pub frame_emptied-held : (p : ℕ) (s : TierState) → Held s.map s.resident → s.map.place p ≡ Absent → Held (frame_emptied p s).map (frame_emptied p s).resident
frame_emptied-held p s h absent = record {
  agrees = without_nvm-agrees s.map p h.agrees;
  over_frame = λ q j e.
      let over = h.over_frame q j e in
      (over.0, changed-other p None s.map.nvm q (apart s p q (Mini j) absent e (absent_not_mini j)) ∙ over.1);
  whole = λ q i e none.
      h.whole q i e (sym (changed-other p None s.map.nvm q (apart s p q (Full i) absent e (absent_not_full i))) ∙ none);
}

pub installed-held : (p k : ℕ) (s : TierState) → Held s.map s.resident → s.map.nvm p ≡ None → s.map.frame_page k ≡ None → Held (with_nvm p k s.map) s.resident
installed-held p k s h none free = record {
  agrees = with_nvm-agrees s.map p k h.agrees none free;
  over_frame = λ q j e. elim (cases_eq q p) [
    | inl same ↦ (k, changed-same p (Some k) s.map.nvm q same)
    | inr n ↦ let over = h.over_frame q j e in (over.0, changed-other p (Some k) s.map.nvm q n ∙ over.1)
  ];
  whole = λ q i e gone. elim (cases_eq q p) [
    | inl same ↦ absurd (none_not_some k (sym gone ∙ changed-same p (Some k) s.map.nvm q same))
    | inr n ↦ h.whole q i e (sym (changed-other p (Some k) s.map.nvm q n) ∙ gone)
  ];
}

-- ---- what making room leaves alone

-- No page comes to DRAM or, without a copy, to NVM; free places stay free; no place comes or goes.
pub record Leaves (s t : TierState) : Type 0 where
  pub plan : t.plan ≡ s.plan
  pub frames : t.frames ≡ s.frames
  pub access : t.access ≡ s.access
  pub kept : (p : ℕ) → ((t.map.place p ≡ s.map.place p) × (t.resident p ≡ s.resident p)) ⊎ (t.map.place p ≡ Absent)
  pub absent : (p : ℕ) → s.map.place p ≡ Absent → t.map.place p ≡ Absent
  pub unframed : (p : ℕ) → s.map.place p ≡ Absent → s.map.nvm p ≡ None → t.map.nvm p ≡ None
  pub full_free : (i : ℕ) → s.map.full_page i ≡ None → t.map.full_page i ≡ None
  pub mini_free : (j : ℕ) → s.map.mini_owner j ≡ None → t.map.mini_owner j ≡ None
  pub full_there : (i : ℕ) → place_count i t.full_clock ≡ place_count i s.full_clock
  pub mini_there : (j : ℕ) → place_count j t.mini_clock ≡ place_count j s.mini_clock
  pub nvm_there : (k : ℕ) → place_count k t.nvm_clock ≡ place_count k s.nvm_clock

pub leaves_refl : (s : TierState) → Leaves s s
leaves_refl s = record {
  plan = refl;
  frames = refl;
  access = refl;
  kept = λ p. inl (refl, refl);
  absent = λ p e. e;
  unframed = λ p e n. n;
  full_free = λ i e. e;
  mini_free = λ j e. e;
  full_there = λ i. refl;
  mini_there = λ j. refl;
  nvm_there = λ k. refl;
}

kept_trans : (s t u : TierState) (p : ℕ) → ((t.map.place p ≡ s.map.place p) × (t.resident p ≡ s.resident p)) ⊎ (t.map.place p ≡ Absent)
    → ((u.map.place p ≡ t.map.place p) × (u.resident p ≡ t.resident p)) ⊎ (u.map.place p ≡ Absent)
    → ((u.map.place p ≡ s.map.place p) × (u.resident p ≡ s.resident p)) ⊎ (u.map.place p ≡ Absent)
kept_trans s t u p (inl a) (inl b) = inl (b.0 ∙ a.0, b.1 ∙ a.1)
kept_trans s t u p (inr a) (inl b) = inr (b.0 ∙ a)
kept_trans s t u p a (inr b) = inr b

pub leaves_trans : (s t u : TierState) → Leaves s t → Leaves t u → Leaves s u
leaves_trans s t u a b = record {
  plan = b.plan ∙ a.plan;
  frames = b.frames ∙ a.frames;
  access = b.access ∙ a.access;
  kept = λ p. kept_trans s t u p (a.kept p) (b.kept p);
  absent = λ p e. b.absent p (a.absent p e);
  unframed = λ p e n. b.unframed p (a.absent p e) (a.unframed p e n);
  full_free = λ i e. b.full_free i (a.full_free i e);
  mini_free = λ j e. b.mini_free j (a.mini_free j e);
  full_there = λ i. b.full_there i ∙ a.full_there i;
  mini_there = λ j. b.mini_there j ∙ a.mini_there j;
  nvm_there = λ k. b.nvm_there k ∙ a.nvm_there k;
}

pub freed-free : (o : Option ℕ) (f : ℕ → Option ℕ) (i : ℕ) → f i ≡ None → freed o f i ≡ None
freed-free None f i e = e
freed-free (Some j) f i e = elim (cases_eq i j) [ inl same ↦ changed-same j None f i same | inr n ↦ changed-other j None f i n ∙ e ]

pub removed_if-there : (o : Option ℕ) (xs : Circle) (i : ℕ) → place_count i (removed_if o xs) ≡ place_count i xs
removed_if-there None xs i = refl
removed_if-there (Some j) xs i = place_count-with_slot i j _ xs

kept_or : {A : Type 0} (p : ℕ) (v : A) (f : ℕ → A) (q : ℕ) → f q ≡ v → changed p v f q ≡ v
kept_or p v f q e = elim (cases_eq q p) [ inl same ↦ changed-same p v f q same | inr n ↦ changed-other p v f q n ∙ e ]

pub dropped-leaves : (p : ℕ) (s : TierState) → Leaves s (dropped p s)
dropped-leaves p s = record {
  plan = refl;
  frames = refl;
  access = refl;
  kept = λ q. elim (cases_eq q p) [ inl same ↦ inr (changed-same p Absent s.map.place q same) | inr n ↦ inl (changed-other p Absent s.map.place q n, changed-other p no_lines s.resident q n) ];
  absent = λ q e. kept_or p Absent s.map.place q e;
  unframed = λ q e n. n;
  full_free = λ i e. freed-free (full_of (s.map.place p)) s.map.full_page i e;
  mini_free = λ j e. freed-free (mini_of (s.map.place p)) s.map.mini_owner j e;
  full_there = removed_if-there (full_of (s.map.place p)) s.full_clock;
  mini_there = removed_if-there (mini_of (s.map.place p)) s.mini_clock;
  nvm_there = λ k. refl;
}

pub frame_emptied-leaves : (p : ℕ) (s : TierState) → Leaves s (frame_emptied p s)
frame_emptied-leaves p s = record {
  plan = refl;
  frames = refl;
  access = refl;
  kept = λ q. inl (refl, refl);
  absent = λ q e. e;
  unframed = λ q e n. kept_or p None s.map.nvm q n;
  full_free = λ i e. e;
  mini_free = λ j e. e;
  full_there = λ i. refl;
  mini_there = λ j. refl;
  nvm_there = λ k. refl;
}

-- ---- the clocks of a copy that is dropped

pub removed_if-clocked : (o : Option ℕ) (xs : Circle) (owner : ℕ → Option ℕ) → Clocked xs (freed o owner) → Clocked (removed_if o xs) (freed o owner)
removed_if-clocked None xs owner c = c
removed_if-clocked (Some i) xs owner c = clocked-removed xs (changed i None owner) i (changed-same i None owner i refl) c

freed-clocked : (o : Option ℕ) (xs : Circle) (owner : ℕ → Option ℕ) → Clocked xs owner → Clocked xs (freed o owner)
freed-clocked None xs owner c = c
freed-clocked (Some i) xs owner c = clocked-freed xs owner i c

pub dropped-full_clock : (p : ℕ) (s : TierState) → Clocked s.full_clock s.map.full_page → Clocked (dropped p s).full_clock (dropped p s).map.full_page
dropped-full_clock p s c = removed_if-clocked (full_of (s.map.place p)) s.full_clock s.map.full_page (freed-clocked (full_of (s.map.place p)) s.full_clock s.map.full_page c)

pub dropped-mini_clock : (p : ℕ) (s : TierState) → Clocked s.mini_clock s.map.mini_owner → Clocked (dropped p s).mini_clock (dropped p s).map.mini_owner
dropped-mini_clock p s c = removed_if-clocked (mini_of (s.map.place p)) s.mini_clock s.map.mini_owner (freed-clocked (mini_of (s.map.place p)) s.mini_clock s.map.mini_owner c)

pub has_place : (xs ys : Circle) → ((i : ℕ) → place_count i ys ≡ place_count i xs) → HasPlace xs → HasPlace ys
has_place xs ys same h = let there = h.1 in let at = same h.0 in (h.0, omega arith)

pub place_count-inserted : (k : ℕ) (xs : Circle) (i : ℕ) → place_count i (inserted k xs) ≡ place_count i xs
place_count-inserted k xs i = place_count-with_slot i k _ xs

-- ---- room in NVM

pub record NvmRoomOk (s : TierState) (room : Room) : Type 0 where
  pub sound : Sound room.state
  pub leaves : Leaves s room.state
  pub free : room.state.map.frame_page room.place ≡ None
  pub there : 1 ≤ place_count room.place room.state.nvm_clock

-- the frame of a victim: nothing named it, or its page leaves it
nvm_released : (s : TierState) (v : Swept) (o : Option ℕ) → victim s.nvm_clock ≡ Some v → Sound s → s.map.frame_page v.place ≡ o
    → NvmRoomOk s (record { place = v.place; state = released o (counting nvm_eviction (record s { nvm_clock = v.clock })) })
nvm_released s v None h sound e =
    let is = victim-is s.nvm_clock v h in
    record {
      sound = record {
        held = sound.held;
        full_clock = sound.full_clock;
        mini_clock = sound.mini_clock;
        nvm_clock = clocked-like v.clock (changed v.place None s.map.frame_page) s.map.frame_page (λ k. sym (changed-kept v.place None s.map.frame_page e k)) (clocked-victim s.nvm_clock s.map.frame_page v h sound.nvm_clock);
        some_full = sound.some_full;
        some_mini = sound.some_mini;
        some_frame = λ up. has_place s.nvm_clock v.clock is.places (sound.some_frame up);
      };
      leaves = record {
        plan = refl;
        frames = refl;
        access = refl;
        kept = λ p. inl (refl, refl);
        absent = λ p a. a;
        unframed = λ p a n. n;
        full_free = λ i a. a;
        mini_free = λ j a. a;
        full_there = λ i. refl;
        mini_there = λ j. refl;
        nvm_there = is.places;
      };
      free = e;
      there = victim-there s.nvm_clock s.map.frame_page v h;
    }
nvm_released s v (Some q) h sound e =
    let is = victim-is s.nvm_clock v h in
    let t = counting nvm_eviction (record s { nvm_clock = v.clock }) in
    let u = stored_back (t.map.nvm q) (is_dirty q t) (dropped q t) in
    let at : s.map.nvm q ≡ Some v.place = (sound.held.agrees.nvm q v.place).1 e in
    let gone : u.map.place q ≡ Absent = changed-same q Absent s.map.place q refl in
    let down = dropped-held q t sound.held in
    let clocked : Clocked v.clock (freed (Some v.place) s.map.frame_page) = clocked-victim s.nvm_clock s.map.frame_page v h sound.nvm_clock in
    let dropping = dropped-leaves q t in
    record {
      sound = record {
        held = frame_emptied-held q u down gone;
        full_clock = dropped-full_clock q t sound.full_clock;
        mini_clock = dropped-mini_clock q t sound.mini_clock;
        nvm_clock = subst (λ (o : Option ℕ). Clocked v.clock (freed o s.map.frame_page)) (sym at) clocked;
        some_full = has_place s.full_clock u.full_clock dropping.full_there sound.some_full;
        some_mini = λ up. has_place s.mini_clock u.mini_clock dropping.mini_there (sound.some_mini up);
        some_frame = λ up. has_place s.nvm_clock v.clock is.places (sound.some_frame up);
      };
      leaves = record {
        plan = refl;
        frames = refl;
        access = refl;
        kept = dropping.kept;
        absent = dropping.absent;
        unframed = λ p a n. kept_or q None s.map.nvm p n;
        full_free = dropping.full_free;
        mini_free = dropping.mini_free;
        full_there = dropping.full_there;
        mini_there = dropping.mini_there;
        nvm_there = is.places;
      };
      free = subst (λ (o : Option ℕ). freed o s.map.frame_page v.place ≡ None) (sym at) (changed-same v.place None s.map.frame_page v.place refl);
      there = victim-there s.nvm_clock s.map.frame_page v h;
    }

nvm_evicted-ok : (s : TierState) (w : Option Swept) → victim s.nvm_clock ≡ w → Sound s → 1 ≤ s.frames → lowest_empty s.nvm_clock ≡ None → NvmRoomOk s (nvm_evicted w s)
nvm_evicted-ok s (Some v) f sound up e = nvm_released s v (s.map.frame_page v.place) f sound refl
nvm_evicted-ok s None f sound up e = absurd (let found = victim-found s.nvm_clock (sound.some_frame up) e in cc)

nvm_room-ok : (s : TierState) (o : Option ℕ) → lowest_empty s.nvm_clock ≡ o → Sound s → 1 ≤ s.frames → NvmRoomOk s (nvm_room o s)
nvm_room-ok s (Some k) e sound up =
    let at = lowest-owner s.nvm_clock s.map.frame_page k e sound.nvm_clock in
    record { sound = sound; leaves = leaves_refl s; free = at.1; there = at.0 }
nvm_room-ok s None e sound up = nvm_evicted-ok s (victim s.nvm_clock) refl sound up e

pub room_in_nvm-ok : (s : TierState) → Sound s → 1 ≤ s.frames → NvmRoomOk s (room_in_nvm s)
unfolding room_in_nvm
room_in_nvm-ok s sound up = nvm_room-ok s (lowest_empty s.nvm_clock) refl sound up

-- ---- a page is installed

-- The page has no copy and gets a frame. The rest is as making room leaves it.
pub record Framed (p : ℕ) (s t : TierState) : Type 0 where
  pub sound : Sound t
  pub plan : t.plan ≡ s.plan
  pub frames : t.frames ≡ s.frames
  pub access : t.access ≡ s.access
  pub frame : (k : ℕ) × (t.map.nvm p ≡ Some k)
  pub kept : (q : ℕ) → ((t.map.place q ≡ s.map.place q) × (t.resident q ≡ s.resident q)) ⊎ (t.map.place q ≡ Absent)
  pub absent : (q : ℕ) → s.map.place q ≡ Absent → t.map.place q ≡ Absent
  pub unframed : (q : ℕ) → (q ≡ p → ⊥) → s.map.place q ≡ Absent → s.map.nvm q ≡ None → t.map.nvm q ≡ None
  pub full_free : (i : ℕ) → s.map.full_page i ≡ None → t.map.full_page i ≡ None
  pub mini_free : (j : ℕ) → s.map.mini_owner j ≡ None → t.map.mini_owner j ≡ None
  pub full_there : (i : ℕ) → place_count i t.full_clock ≡ place_count i s.full_clock
  pub mini_there : (j : ℕ) → place_count j t.mini_clock ≡ place_count j s.mini_clock
  pub nvm_there : (k : ℕ) → place_count k t.nvm_clock ≡ place_count k s.nvm_clock

installed-ok : (p k : ℕ) (dirty : Bool) (s t : TierState) → Leaves s t → Sound t → t.map.nvm p ≡ None → t.map.frame_page k ≡ None → 1 ≤ place_count k t.nvm_clock → Framed p s (installed p k dirty t)
unfolding installed
installed-ok p k dirty s t l sound none free there =
    let counts = place_count-inserted k t.nvm_clock in
    record {
      sound = record {
        held = installed-held p k t sound.held none free;
        full_clock = sound.full_clock;
        mini_clock = sound.mini_clock;
        nvm_clock = clocked-inserted t.nvm_clock t.map.frame_page k p there sound.nvm_clock;
        some_full = sound.some_full;
        some_mini = sound.some_mini;
        some_frame = λ up. has_place t.nvm_clock (inserted k t.nvm_clock) counts (sound.some_frame up);
      };
      plan = l.plan;
      frames = l.frames;
      access = l.access;
      frame = (k, changed-same p (Some k) t.map.nvm p refl);
      kept = l.kept;
      absent = l.absent;
      unframed = λ q n a e. changed-other p (Some k) t.map.nvm q n ∙ l.unframed q a e;
      full_free = l.full_free;
      mini_free = l.mini_free;
      full_there = l.full_there;
      mini_there = l.mini_there;
      nvm_there = λ j. counts j ∙ l.nvm_there j;
    }

pub framed-ok : (p : ℕ) (s : TierState) → Sound s → 1 ≤ s.frames → s.map.place p ≡ Absent → s.map.nvm p ≡ None → Framed p s (framed p s)
unfolding framed
framed-ok p s sound up absent none =
    let ok = room_in_nvm-ok s sound up in
    let room = room_in_nvm s in
    let l = ok.leaves in
    installed-ok p room.place false s (counting one_fetch room.state)
    (record {
      plan = l.plan;
      frames = l.frames;
      access = l.access;
      kept = l.kept;
      absent = l.absent;
      unframed = l.unframed;
      full_free = l.full_free;
      mini_free = l.mini_free;
      full_there = l.full_there;
      mini_there = l.mini_there;
      nvm_there = l.nvm_there;
    })
    (record {
      held = ok.sound.held;
      full_clock = ok.sound.full_clock;
      mini_clock = ok.sound.mini_clock;
      nvm_clock = ok.sound.nvm_clock;
      some_full = ok.sound.some_full;
      some_mini = ok.sound.some_mini;
      some_frame = ok.sound.some_frame;
    })
    (l.unframed p absent none) ok.free ok.there

-- ---- room for a full copy

pub record FullRoomOk (s : TierState) (room : Room) : Type 0 where
  pub sound : Sound room.state
  pub leaves : Leaves s room.state
  pub free : room.state.map.full_page room.place ≡ None
  pub there : 1 ≤ place_count room.place room.state.full_clock

-- the same of a state alone, at place i
record FreedAt (i : ℕ) (s t : TierState) : Type 0 where
  sound : Sound t
  leaves : Leaves s t
  free : t.map.full_page i ≡ None

-- Changes of what no rule of placement reads.
pub sound_marks : (s : TierState) (marks : ℕ → Bool) → Sound s → Sound (record s { frame_dirty = marks })
sound_marks s marks h = record {
  held = h.held;
  full_clock = h.full_clock;
  mini_clock = h.mini_clock;
  nvm_clock = h.nvm_clock;
  some_full = h.some_full;
  some_mini = h.some_mini;
  some_frame = h.some_frame;
}

pub sound_counted : (s : TierState) (rise : Tally → Tally) → Sound s → Sound (counting rise s)
sound_counted s rise h = record {
  held = h.held;
  full_clock = h.full_clock;
  mini_clock = h.mini_clock;
  nvm_clock = h.nvm_clock;
  some_full = h.some_full;
  some_mini = h.some_mini;
  some_frame = h.some_frame;
}

pub sound_answered : (s : TierState) (answer : Answer) → Sound s → Sound (answered answer s)
sound_answered s answer h = record {
  held = h.held;
  full_clock = h.full_clock;
  mini_clock = h.mini_clock;
  nvm_clock = h.nvm_clock;
  some_full = h.some_full;
  some_mini = h.some_mini;
  some_frame = h.some_frame;
}

pub leaves_marks : (s t : TierState) (marks : ℕ → Bool) → Leaves s t → Leaves s (record t { frame_dirty = marks })
leaves_marks s t marks l = record {
  plan = l.plan;
  frames = l.frames;
  access = l.access;
  kept = l.kept;
  absent = l.absent;
  unframed = l.unframed;
  full_free = l.full_free;
  mini_free = l.mini_free;
  full_there = l.full_there;
  mini_there = l.mini_there;
  nvm_there = l.nvm_there;
}

pub leaves_counted : (s t : TierState) (rise : Tally → Tally) → Leaves s t → Leaves s (counting rise t)
leaves_counted s t rise l = record {
  plan = l.plan;
  frames = l.frames;
  access = l.access;
  kept = l.kept;
  absent = l.absent;
  unframed = l.unframed;
  full_free = l.full_free;
  mini_free = l.mini_free;
  full_there = l.full_there;
  mini_there = l.mini_there;
  nvm_there = l.nvm_there;
}

pub leaves_answered : (s t : TierState) (answer : Answer) → Leaves s t → Leaves s (answered answer t)
leaves_answered s t answer l = record {
  plan = l.plan;
  frames = l.frames;
  access = l.access;
  kept = l.kept;
  absent = l.absent;
  unframed = l.unframed;
  full_free = l.full_free;
  mini_free = l.mini_free;
  full_there = l.full_there;
  mini_there = l.mini_there;
  nvm_there = l.nvm_there;
}

-- who says yes has NVM frames
admission_by-frames : (f len : ℕ) (dirty : Bool) (p : ℕ) (s : TierState) → (admission_by f len dirty p s).yes ≡ true → 1 ≤ f
admission_by-frames zero len dirty p s h = absurd (cc)
admission_by-frames (suc f) len dirty p s h = omega arith

admission-frames : (dirty : Bool) (p : ℕ) (s : TierState) → (admission dirty p s).yes ≡ true → 1 ≤ s.frames
unfolding admission
admission-frames dirty p s h = admission_by-frames s.frames s.plan.queue_len dirty p s h

-- a page that had a copy, and whose copy was dropped, may get a frame
after_framed : (q i : ℕ) (s d t : TierState) → Leaves s d → s.map.place q ≡ Full i → Framed q d t → Leaves s t
after_framed q i s d t l e f = record {
  plan = f.plan ∙ l.plan;
  frames = f.frames ∙ l.frames;
  access = f.access ∙ l.access;
  kept = λ p. kept_trans s d t p (l.kept p) (f.kept p);
  absent = λ p a. f.absent p (l.absent p a);
  unframed = λ p a n. f.unframed p (λ same. absent_not_full i (sym a ∙ ap s.map.place same ∙ e)) (l.absent p a) (l.unframed p a n);
  full_free = λ j a. f.full_free j (l.full_free j a);
  mini_free = λ j a. f.mini_free j (l.mini_free j a);
  full_there = λ j. f.full_there j ∙ l.full_there j;
  mini_there = λ j. f.mini_there j ∙ l.mini_there j;
  nvm_there = λ j. f.nvm_there j ∙ l.nvm_there j;
}

moved_down-ok : (dirty : Bool) (q i : ℕ) (s d : TierState) → FreedAt i s d → s.map.place q ≡ Full i → d.map.place q ≡ Absent → d.map.nvm q ≡ None → 1 ≤ d.frames → FreedAt i s (moved_down dirty q d)
unfolding moved_down
moved_down-ok dirty q i s d at e absent none up =
    let ok = room_in_nvm-ok d at.sound up in
    let room = room_in_nvm d in
    let f = installed-ok q room.place dirty d room.state ok.leaves ok.sound (ok.leaves.unframed q absent none) ok.free ok.there in
    record { sound = f.sound; leaves = after_framed q i s d (installed q room.place dirty room.state) at.leaves e f; free = f.full_free i at.free }

moved_if-ok : (yes dirty : Bool) (q i : ℕ) (s d : TierState) → (yes ≡ true → 1 ≤ d.frames) → FreedAt i s d → s.map.place q ≡ Full i → d.map.place q ≡ Absent → d.map.nvm q ≡ None → FreedAt i s (moved_if yes dirty q d)
moved_if-ok true dirty q i s d up at e absent none = moved_down-ok dirty q i s d at e absent none (up refl)
moved_if-ok false true q i s d up at e absent none = record { sound = sound_counted d one_pass at.sound; leaves = leaves_counted s d one_pass at.leaves; free = at.free }
moved_if-ok false false q i s d up at e absent none = at

handed_down-ok : (o : Option ℕ) (dirty : Bool) (q i : ℕ) (s d : TierState) → d.map.nvm q ≡ o → FreedAt i s d → s.map.place q ≡ Full i → d.map.place q ≡ Absent → FreedAt i s (handed_down o dirty q d)
handed_down-ok (Some k) dirty q i s d none at e absent = record { sound = sound_marks d _ at.sound; leaves = leaves_marks s d _ at.leaves; free = at.free }
handed_down-ok None dirty q i s d none at e absent =
    let answer = admission dirty q d in
    moved_if-ok answer.yes dirty q i s (answered answer d) (λ yes. admission-frames dirty q d yes)
    (record { sound = sound_answered d answer at.sound; leaves = leaves_answered s d answer at.leaves; free = at.free }) e absent none

pub full_of-is : (place : Place) (i : ℕ) → full_of place ≡ Some i → place ≡ Full i
full_of-is Absent i h = absurd (cc)
full_of-is (Full j) i h = let same : j ≡ i = cc in ap Full same
full_of-is (Mini j) i h = absurd (cc)

full_given_up : (s : TierState) (v : Swept) (o : Option ℕ) → victim s.full_clock ≡ Some v → Sound s → s.map.full_page v.place ≡ o
    → FreedAt v.place s (given_up o (counting dram_eviction (record s { full_clock = v.clock })))
full_given_up s v None h sound e =
    let is = victim-is s.full_clock v h in
    record {
      sound = record {
        held = sound.held;
        full_clock = clocked-like v.clock (changed v.place None s.map.full_page) s.map.full_page (λ k. sym (changed-kept v.place None s.map.full_page e k)) (clocked-victim s.full_clock s.map.full_page v h sound.full_clock);
        mini_clock = sound.mini_clock;
        nvm_clock = sound.nvm_clock;
        some_full = has_place s.full_clock v.clock is.places sound.some_full;
        some_mini = sound.some_mini;
        some_frame = sound.some_frame;
      };
      leaves = record {
        plan = refl;
        frames = refl;
        access = refl;
        kept = λ p. inl (refl, refl);
        absent = λ p a. a;
        unframed = λ p a n. n;
        full_free = λ i a. a;
        mini_free = λ j a. a;
        full_there = is.places;
        mini_there = λ j. refl;
        nvm_there = λ j. refl;
      };
      free = e;
    }
full_given_up s v (Some q) h sound e =
    let is = victim-is s.full_clock v h in
    let t = counting dram_eviction (record s { full_clock = v.clock }) in
    let d = dropped q t in
    let at : full_of (s.map.place q) ≡ Some v.place = (sound.held.agrees.full q v.place).1 e in
    let dropping = dropped-leaves q t in
    let freed_clock : Clocked v.clock (freed (Some v.place) s.map.full_page) = clocked-victim s.full_clock s.map.full_page v h sound.full_clock in
    let same_clock : Clocked v.clock (freed (full_of (s.map.place q)) s.map.full_page) = subst (λ (o : Option ℕ). Clocked v.clock (freed o s.map.full_page)) (sym at) freed_clock in
    handed_down-ok (t.map.nvm q) (is_dirty q t) q v.place s d refl
    (record {
      sound = record {
        held = dropped-held q t sound.held;
        full_clock = removed_if-clocked (full_of (s.map.place q)) v.clock s.map.full_page same_clock;
        mini_clock = dropped-mini_clock q t sound.mini_clock;
        nvm_clock = sound.nvm_clock;
        some_full = has_place s.full_clock d.full_clock (λ i. dropping.full_there i ∙ is.places i) sound.some_full;
        some_mini = λ up. has_place s.mini_clock d.mini_clock dropping.mini_there (sound.some_mini up);
        some_frame = sound.some_frame;
      };
      leaves = record {
        plan = refl;
        frames = refl;
        access = refl;
        kept = dropping.kept;
        absent = dropping.absent;
        unframed = dropping.unframed;
        full_free = dropping.full_free;
        mini_free = dropping.mini_free;
        full_there = λ i. dropping.full_there i ∙ is.places i;
        mini_there = dropping.mini_there;
        nvm_there = λ j. refl;
      };
      free = subst (λ (o : Option ℕ). freed o s.map.full_page v.place ≡ None) (sym at) (changed-same v.place None s.map.full_page v.place refl);
    })
    (full_of-is (s.map.place q) v.place at)
    (changed-same q Absent s.map.place q refl)

full_evicted-ok : (s : TierState) (w : Option Swept) → victim s.full_clock ≡ w → Sound s → lowest_empty s.full_clock ≡ None → FullRoomOk s (full_evicted w s)
full_evicted-ok s (Some v) f sound e =
    let at = full_given_up s v (s.map.full_page v.place) f sound refl in
    let there = victim-there s.full_clock s.map.full_page v f in
    let is = victim-is s.full_clock v f in
    let now = at.leaves.full_there v.place in
    let was = is.places v.place in
    record { sound = at.sound; leaves = at.leaves; free = at.free; there = omega arith }
full_evicted-ok s None f sound e = absurd (let found = victim-found s.full_clock sound.some_full e in cc)

full_room-ok : (s : TierState) (o : Option ℕ) → lowest_empty s.full_clock ≡ o → Sound s → FullRoomOk s (full_room o s)
full_room-ok s (Some k) e sound =
    let at = lowest-owner s.full_clock s.map.full_page k e sound.full_clock in
    record { sound = sound; leaves = leaves_refl s; free = at.1; there = at.0 }
full_room-ok s None e sound = full_evicted-ok s (victim s.full_clock) refl sound e

pub room_in_full-ok : (s : TierState) → Sound s → FullRoomOk s (room_in_full s)
unfolding room_in_full
room_in_full-ok s sound = full_room-ok s (lowest_empty s.full_clock) refl sound
