-- Each touch keeps what holds in every state.
use Rattle.std.proofs.Common.{◌≡◌, ℕ, zero, suc, ◌<◌, ◌≤◌, inl, inr, Bool, true, false, refl, ap, sym, ◌∙◌, arith, subst, ◌^◌, ◌/◌, ◌%◌}
use Rattle.std.specs.Prelude.{Option, Some, None, nat_lt}
use Rattle.std.proofs.lemmas.Bool.{cases_eq, eq-eqb}
use Rattle.std.proofs.lemmas.Nat.Bits.{bit_at_ones}
use Rattle.tier_map.specs.declared.place.Place.{Place}
use Rattle.tier_map.specs.declared.place.Place.TheVariants.{Absent, Full, Mini}
use Rattle.page_frame.specs.LineSets.{all_lines, no_lines, has_line, with_line, line_count}
use Rattle.tier_map.specs.Placement.{changed, Placement, full_of, mini_of, with_full, with_mini, freed}
use Rattle.tier_rules.specs.Clocks.{place_count}
use Rattle.clock_sweep.specs.Clock.{inserted, touched, Swept, lowest_empty, victim}
use Rattle.tier_rules.specs.Tallies.{dram_hit, nvm_hit, dram_eviction}
use Rattle.tier_rules.specs.State.{TierState, Room, counting}
use Rattle.tier_rules.specs.Sound.{Clocked, Held, Sound}
use Rattle.tier_rules.specs.Storing.{dropped}
use Rattle.tier_rules.specs.NvmRoom.{framed}
use Rattle.tier_rules.specs.FullRoom.{Answer, answered, draw, room_in_full}
use Rattle.tier_rules.specs.Bringing.{fetched, mini_given_up, mini_evicted, mini_room, room_in_mini, DramRoom, room_by, room_in_dram, copied, brought_to, brought, brought_through, brought_past}
use Rattle.tier_rules.specs.Plans.{dram_question}
use Rattle.tier_rules.specs.Entering.{brought_if, framed_if, through_nvm, read_in, entered_at, entered}
use Rattle.tier_rules.specs.Touching.{loaded, promoted, promoted_to, outgrown, mini_touched, full_touched, ready_at, made_ready, marked_frame, marked_line, marked_at, marked}
use Rattle.tier_map.proofs.PlacementLaws.{changed-same, changed-other, changed-kept, with_full-agrees, with_mini-agrees}
use Rattle.tier_laws.proofs.StandLaws.{clocked-like, clocked-inserted, clocked-touched, clocked-victim, lowest-owner, victim-there, victim-is, victim-found}
use Rattle.tier_laws.proofs.SoundLaws.{none_not_some, dropped-held, Leaves, leaves_refl, dropped-leaves, removed_if-clocked, dropped-full_clock, dropped-mini_clock, freed-free, has_place, place_count-inserted, Framed, framed-ok, room_in_full-ok, sound_marks, sound_answered}

-- ---- room for a mini copy

pub record MiniRoomOk (s : TierState) (room : Room) : Type 0 where
  pub sound : Sound room.state
  pub leaves : Leaves s room.state
  pub free : room.state.map.mini_owner room.place ≡ None
  pub there : 1 ≤ place_count room.place room.state.mini_clock

record MiniFreedAt (j : ℕ) (s t : TierState) : Type 0 where
  sound : Sound t
  leaves : Leaves s t
  free : t.map.mini_owner j ≡ None

mini_given_up-ok : (s : TierState) (v : Swept) (o : Option ℕ) → victim s.mini_clock ≡ Some v → Sound s → s.map.mini_owner v.place ≡ o
    → MiniFreedAt v.place s (mini_given_up o (counting dram_eviction (record s { mini_clock = v.clock })))
mini_given_up-ok s v None h sound e =
    let is = victim-is s.mini_clock v h in
    record {
      sound = record {
        held = sound.held;
        full_clock = sound.full_clock;
        mini_clock = clocked-like v.clock (changed v.place None s.map.mini_owner) s.map.mini_owner (λ k. sym (changed-kept v.place None s.map.mini_owner e k)) (clocked-victim s.mini_clock s.map.mini_owner v h sound.mini_clock);
        nvm_clock = sound.nvm_clock;
        some_full = sound.some_full;
        some_mini = λ up. has_place s.mini_clock v.clock is.places (sound.some_mini up);
        some_frame = sound.some_frame;
      };
      leaves = record {
        plan = refl;
        frames = refl;
        access = refl;
        kept = λ p. inl (refl, refl);
        absent = λ p a. a;
        unframed = λ p a n. n;
        full_free = λ i a. a;
        mini_free = λ j a. a;
        full_there = λ j. refl;
        mini_there = is.places;
        nvm_there = λ j. refl;
      };
      free = e;
    }
mini_given_up-ok s v (Some q) h sound e =
    let is = victim-is s.mini_clock v h in
    let t = counting dram_eviction (record s { mini_clock = v.clock }) in
    let d = dropped q t in
    let at : mini_of (s.map.place q) ≡ Some v.place = (sound.held.agrees.mini q v.place).1 e in
    let dropping = dropped-leaves q t in
    let freed_clock : Clocked v.clock (freed (Some v.place) s.map.mini_owner) = clocked-victim s.mini_clock s.map.mini_owner v h sound.mini_clock in
    let same_clock : Clocked v.clock (freed (mini_of (s.map.place q)) s.map.mini_owner) = subst (λ (o : Option ℕ). Clocked v.clock (freed o s.map.mini_owner)) (sym at) freed_clock in
    record {
      sound = record {
        held = dropped-held q t sound.held;
        full_clock = dropped-full_clock q t sound.full_clock;
        mini_clock = removed_if-clocked (mini_of (s.map.place q)) v.clock s.map.mini_owner same_clock;
        nvm_clock = sound.nvm_clock;
        some_full = has_place s.full_clock d.full_clock dropping.full_there sound.some_full;
        some_mini = λ up. has_place s.mini_clock d.mini_clock (λ i. dropping.mini_there i ∙ is.places i) (sound.some_mini up);
        some_frame = sound.some_frame;
      };
      leaves = record {
        plan = refl;
        frames = refl;
        access = refl;
        kept = dropping.kept;
        absent = dropping.absent;
        unframed = dropping.unframed;
        full_free = dropping.full_free;
        mini_free = dropping.mini_free;
        full_there = dropping.full_there;
        mini_there = λ i. dropping.mini_there i ∙ is.places i;
        nvm_there = λ j. refl;
      };
      free = subst (λ (o : Option ℕ). freed o s.map.mini_owner v.place ≡ None) (sym at) (changed-same v.place None s.map.mini_owner v.place refl);
    }

mini_evicted-ok : (s : TierState) (w : Option Swept) → victim s.mini_clock ≡ w → Sound s → 1 ≤ s.plan.minis → lowest_empty s.mini_clock ≡ None → MiniRoomOk s (mini_evicted w s)
mini_evicted-ok s (Some v) f sound up e =
    let at = mini_given_up-ok s v (s.map.mini_owner v.place) f sound refl in
    let there = victim-there s.mini_clock s.map.mini_owner v f in
    let is = victim-is s.mini_clock v f in
    let now = at.leaves.mini_there v.place in
    let was = is.places v.place in
    record { sound = at.sound; leaves = at.leaves; free = at.free; there = omega arith }
mini_evicted-ok s None f sound up e = absurd (let found = victim-found s.mini_clock (sound.some_mini up) e in cc)

mini_room-ok : (s : TierState) (o : Option ℕ) → lowest_empty s.mini_clock ≡ o → Sound s → 1 ≤ s.plan.minis → MiniRoomOk s (mini_room o s)
mini_room-ok s (Some k) e sound up =
    let at = lowest-owner s.mini_clock s.map.mini_owner k e sound.mini_clock in
    record { sound = sound; leaves = leaves_refl s; free = at.1; there = at.0 }
mini_room-ok s None e sound up = mini_evicted-ok s (victim s.mini_clock) refl sound up e

pub room_in_mini-ok : (s : TierState) → Sound s → 1 ≤ s.plan.minis → MiniRoomOk s (room_in_mini s)
unfolding room_in_mini
room_in_mini-ok s sound up = mini_room-ok s (lowest_empty s.mini_clock) refl sound up

-- ---- room in DRAM

-- a free place of its clock
pub IsFree : Place → TierState → Type 0
IsFree Absent t = ⊥
IsFree (Full i) t = (t.map.full_page i ≡ None) × (1 ≤ place_count i t.full_clock)
IsFree (Mini j) t = (t.map.mini_owner j ≡ None) × (1 ≤ place_count j t.mini_clock)

pub record DramRoomOk (s : TierState) (room : DramRoom) : Type 0 where
  pub sound : Sound room.state
  pub leaves : Leaves s room.state
  pub free : IsFree room.place room.state

room_by-ok : (minis : ℕ) (s : TierState) → minis ≡ s.plan.minis → Sound s → DramRoomOk s (room_by minis s)
unfolding IsFree
room_by-ok zero s e sound = let ok = room_in_full-ok s sound in record { sound = ok.sound; leaves = ok.leaves; free = (ok.free, ok.there) }
room_by-ok (suc minis) s e sound = let ok = room_in_mini-ok s sound (omega arith) in record { sound = ok.sound; leaves = ok.leaves; free = (ok.free, ok.there) }

pub room_in_dram-ok : (s : TierState) → Sound s → DramRoomOk s (room_in_dram s)
unfolding room_in_dram
room_in_dram-ok s sound = room_by-ok s.plan.minis s refl sound

-- ---- a copy is made

-- what a further rule may rest on: the state is sound, and the run and the access are the same
pub record Next (s t : TierState) : Type 0 where
  pub sound : Sound t
  pub plan : t.plan ≡ s.plan
  pub frames : t.frames ≡ s.frames
  pub access : t.access ≡ s.access

next_from : (s t u : TierState) → Leaves s t → Next t u → Next s u
next_from s t u l n = record { sound = n.sound; plan = n.plan ∙ l.plan; frames = n.frames ∙ l.frames; access = n.access ∙ l.access }

full_held : (p i lines : ℕ) (t : TierState) → Held t.map t.resident → t.map.place p ≡ Absent → t.map.full_page i ≡ None → (t.map.nvm p ≡ None → lines ≡ all_lines)
    → Held (with_full p i t.map) (changed p lines t.resident)
full_held p i lines t h absent free all = record {
  agrees = with_full-agrees t.map p i h.agrees absent free;
  over_frame = λ q j e. elim (cases_eq q p) [
    | inl same ↦ absurd (let at = changed-same p (Full i) t.map.place q same in cc)
    | inr n ↦ h.over_frame q j (sym (changed-other p (Full i) t.map.place q n) ∙ e)
  ];
  whole = λ q k e none. elim (cases_eq q p) [
    | inl same ↦ changed-same p lines t.resident q same ∙ all (ap t.map.nvm (sym same) ∙ none)
    | inr n ↦ changed-other p lines t.resident q n ∙ h.whole q k (sym (changed-other p (Full i) t.map.place q n) ∙ e) none
  ];
}

mini_held : (p j lines : ℕ) (t : TierState) → Held t.map t.resident → t.map.place p ≡ Absent → t.map.mini_owner j ≡ None → ((k : ℕ) × (t.map.nvm p ≡ Some k))
    → Held (with_mini p j t.map) (changed p lines t.resident)
mini_held p j lines t h absent free over = record {
  agrees = with_mini-agrees t.map p j h.agrees absent free;
  over_frame = λ q i e. elim (cases_eq q p) [
    | inl same ↦ (over.0, ap t.map.nvm same ∙ over.1)
    | inr n ↦ h.over_frame q i (sym (changed-other p (Mini j) t.map.place q n) ∙ e)
  ];
  whole = λ q k e none. elim (cases_eq q p) [
    | inl same ↦ absurd (let at = changed-same p (Mini j) t.map.place q same in cc)
    | inr n ↦ changed-other p lines t.resident q n ∙ h.whole q k (sym (changed-other p (Mini j) t.map.place q n) ∙ e) none
  ];
}

pub fetched-ok : (p i : ℕ) (t : TierState) → Sound t → t.map.place p ≡ Absent → t.map.full_page i ≡ None → 1 ≤ place_count i t.full_clock → Next t (fetched p i t)
unfolding fetched
fetched-ok p i t sound absent free there = record {
  sound = record {
    held = full_held p i all_lines t sound.held absent free (λ none. refl);
    full_clock = clocked-inserted t.full_clock t.map.full_page i p there sound.full_clock;
    mini_clock = sound.mini_clock;
    nvm_clock = sound.nvm_clock;
    some_full = has_place t.full_clock (inserted i t.full_clock) (place_count-inserted i t.full_clock) sound.some_full;
    some_mini = sound.some_mini;
    some_frame = sound.some_frame;
  };
  plan = refl;
  frames = refl;
  access = refl;
}

pub copied-ok : (p : ℕ) (place : Place) (t : TierState) → Sound t → t.map.place p ≡ Absent → ((k : ℕ) × (t.map.nvm p ≡ Some k)) → IsFree place t → Next t (copied p place t)
unfolding copied IsFree
copied-ok p Absent t sound absent over free = absurd free
copied-ok p (Full i) t sound absent over free = record {
  sound = record {
    held = full_held p i no_lines t sound.held absent free.0 (λ none. absurd (none_not_some over.0 (sym none ∙ over.1)));
    full_clock = clocked-inserted t.full_clock t.map.full_page i p free.1 sound.full_clock;
    mini_clock = sound.mini_clock;
    nvm_clock = sound.nvm_clock;
    some_full = has_place t.full_clock (inserted i t.full_clock) (place_count-inserted i t.full_clock) sound.some_full;
    some_mini = sound.some_mini;
    some_frame = sound.some_frame;
  };
  plan = refl;
  frames = refl;
  access = refl;
}
copied-ok p (Mini j) t sound absent over free = record {
  sound = record {
    held = mini_held p j no_lines t sound.held absent free.0 over;
    full_clock = sound.full_clock;
    mini_clock = clocked-inserted t.mini_clock t.map.mini_owner j p free.1 sound.mini_clock;
    nvm_clock = sound.nvm_clock;
    some_full = sound.some_full;
    some_mini = λ up. has_place t.mini_clock (inserted j t.mini_clock) (place_count-inserted j t.mini_clock) (sound.some_mini up);
    some_frame = sound.some_frame;
  };
  plan = refl;
  frames = refl;
  access = refl;
}

-- ---- the ways to DRAM

brought_to-ok : (o : Option ℕ) (p : ℕ) (place : Place) (t : TierState) → t.map.nvm p ≡ o → Sound t → t.map.place p ≡ Absent → IsFree place t → Next t (brought_to o p place t)
unfolding IsFree
brought_to-ok (Some k) p place t e sound absent free = copied-ok p place t sound absent (k, e) free
brought_to-ok None p (Full i) t e sound absent free = fetched-ok p i t sound absent free.0 free.1
brought_to-ok None p (Mini j) t e sound absent free = record { sound = sound; plan = refl; frames = refl; access = refl }
brought_to-ok None p Absent t e sound absent free = absurd free

pub brought-ok : (p : ℕ) (s : TierState) → Sound s → s.map.place p ≡ Absent → Next s (brought p s)
unfolding brought
brought-ok p s sound absent =
    let ok = room_in_dram-ok s sound in
    let room = room_in_dram s in
    next_from s room.state (brought p s) ok.leaves (brought_to-ok (room.state.map.nvm p) p room.place room.state refl ok.sound (ok.leaves.absent p absent) ok.free)

-- a free place stays free while a page is installed
free_framed : (p : ℕ) (place : Place) (s t : TierState) → Framed p s t → IsFree place s → IsFree place t
unfolding IsFree
free_framed p Absent s t f free = free
free_framed p (Full i) s t f free = let there = f.full_there i in let up = free.1 in (f.full_free i free.0, omega arith)
free_framed p (Mini j) s t f free = let there = f.mini_there j in let up = free.1 in (f.mini_free j free.0, omega arith)

pub brought_through-ok : (p : ℕ) (s : TierState) → Sound s → 1 ≤ s.frames → s.map.place p ≡ Absent → s.map.nvm p ≡ None → Next s (brought_through p s)
unfolding brought_through
brought_through-ok p s sound up absent none =
    let ok = room_in_dram-ok s sound in
    let room = room_in_dram s in
    let same = ok.leaves.frames in
    let f = framed-ok p room.state ok.sound (omega arith) (ok.leaves.absent p absent) (ok.leaves.unframed p absent none) in
    let t = framed p room.state in
    let n = copied-ok p room.place t f.sound (f.absent p (ok.leaves.absent p absent)) f.frame (free_framed p room.place room.state t f ok.free) in
    record {
      sound = n.sound;
      plan = n.plan ∙ f.plan ∙ ok.leaves.plan;
      frames = n.frames ∙ f.frames ∙ ok.leaves.frames;
      access = n.access ∙ f.access ∙ ok.leaves.access;
    }

pub brought_past-ok : (p : ℕ) (s : TierState) → Sound s → s.map.place p ≡ Absent → Next s (brought_past p s)
unfolding brought_past
brought_past-ok p s sound absent =
    let ok = room_in_full-ok s sound in
    let room = room_in_full s in
    next_from s room.state (brought_past p s) ok.leaves (fetched-ok p room.place room.state ok.sound (ok.leaves.absent p absent) ok.free ok.there)

-- ---- the beginning of an access

hit_full : (i p : ℕ) (s : TierState) → Sound s → Next s (counting dram_hit (record s { full_clock = touched i s.full_clock }))
hit_full i p s sound = record {
  sound = record {
    held = sound.held;
    full_clock = clocked-touched s.full_clock s.map.full_page i sound.full_clock;
    mini_clock = sound.mini_clock;
    nvm_clock = sound.nvm_clock;
    some_full = has_place s.full_clock (touched i s.full_clock) (place_count-inserted i s.full_clock) sound.some_full;
    some_mini = sound.some_mini;
    some_frame = sound.some_frame;
  };
  plan = refl;
  frames = refl;
  access = refl;
}

hit_mini : (j p : ℕ) (s : TierState) → Sound s → Next s (counting dram_hit (record s { mini_clock = touched j s.mini_clock }))
hit_mini j p s sound = record {
  sound = record {
    held = sound.held;
    full_clock = sound.full_clock;
    mini_clock = clocked-touched s.mini_clock s.map.mini_owner j sound.mini_clock;
    nvm_clock = sound.nvm_clock;
    some_full = sound.some_full;
    some_mini = λ up. has_place s.mini_clock (touched j s.mini_clock) (place_count-inserted j s.mini_clock) (sound.some_mini up);
    some_frame = sound.some_frame;
  };
  plan = refl;
  frames = refl;
  access = refl;
}

hit_nvm : (k p : ℕ) (answer : Answer) (s : TierState) → Sound s → Next s (answered answer (counting nvm_hit (record s { nvm_clock = touched k s.nvm_clock })))
hit_nvm k p answer s sound = record {
  sound = record {
    held = sound.held;
    full_clock = sound.full_clock;
    mini_clock = sound.mini_clock;
    nvm_clock = clocked-touched s.nvm_clock s.map.frame_page k sound.nvm_clock;
    some_full = sound.some_full;
    some_mini = sound.some_mini;
    some_frame = λ up. has_place s.nvm_clock (touched k s.nvm_clock) (place_count-inserted k s.nvm_clock) (sound.some_frame up);
  };
  plan = refl;
  frames = refl;
  access = refl;
}

next_trans : (s t u : TierState) → Next s t → Next t u → Next s u
next_trans s t u m n = record { sound = n.sound; plan = n.plan ∙ m.plan; frames = n.frames ∙ m.frames; access = n.access ∙ m.access }

next_refl : (s : TierState) → Sound s → Next s s
next_refl s sound = record { sound = sound; plan = refl; frames = refl; access = refl }

brought_if-ok : (yes : Bool) (p : ℕ) (s : TierState) → Sound s → s.map.place p ≡ Absent → Next s (brought_if yes p s)
brought_if-ok true p s sound absent = brought-ok p s sound absent
brought_if-ok false p s sound absent = next_refl s sound

framed_if-ok : (yes : Bool) (p : ℕ) (s : TierState) → Sound s → 1 ≤ s.frames → s.map.place p ≡ Absent → s.map.nvm p ≡ None → Next s (framed_if yes p s)
framed_if-ok true p s sound up absent none = brought_through-ok p s sound up absent none
framed_if-ok false p s sound up absent none = let f = framed-ok p s sound up absent none in record { sound = f.sound; plan = f.plan; frames = f.frames; access = f.access }

through_nvm-frames : (f : ℕ) (s : TierState) → (through_nvm f s).yes ≡ true → 1 ≤ f
through_nvm-frames zero s h = absurd (cc)
through_nvm-frames (suc f) s h = omega arith

read_in-ok : (yes : Bool) (p : ℕ) (w : Bool) (s : TierState) → (yes ≡ true → 1 ≤ s.frames) → Sound s → s.map.place p ≡ Absent → s.map.nvm p ≡ None → Next s (read_in yes p w s)
read_in-ok false p w s up sound absent none = brought_past-ok p s sound absent
read_in-ok true p w s up sound absent none =
    let answer = draw (dram_question w) s in
    let n = framed_if-ok answer.yes p (answered answer s) (sound_answered s answer sound) (up refl) absent none in
    record { sound = n.sound; plan = n.plan; frames = n.frames; access = n.access }

entered_at-ok : (place : Place) (o : Option ℕ) (p : ℕ) (w : Bool) (s : TierState) → s.map.place p ≡ place → s.map.nvm p ≡ o → Sound s → Next s (entered_at place o p w s)
entered_at-ok (Full i) o p w s e f sound = hit_full i p s sound
entered_at-ok (Mini j) o p w s e f sound = hit_mini j p s sound
entered_at-ok Absent (Some k) p w s e f sound =
    let answer = draw (dram_question w) s in
    let t = answered answer (counting nvm_hit (record s { nvm_clock = touched k s.nvm_clock })) in
    let n = hit_nvm k p answer s sound in
    next_trans s t (brought_if answer.yes p t) n (brought_if-ok answer.yes p t n.sound e)
entered_at-ok Absent None p w s e f sound =
    let answer = through_nvm s.frames s in
    let n = read_in-ok answer.yes p w (answered answer s) (λ yes. through_nvm-frames s.frames s yes) (sound_answered s answer sound) e f in
    record { sound = n.sound; plan = n.plan; frames = n.frames; access = n.access }

-- the access is that of the page and the kind
pub record Open (p : ℕ) (w : Bool) (s t : TierState) : Type 0 where
  pub sound : Sound t
  pub plan : t.plan ≡ s.plan
  pub frames : t.frames ≡ s.frames
  pub access : t.access ≡ Some (p, w)

pub with_access : (s : TierState) (access : Option (ℕ × Bool)) → Sound s → Sound (record s { access = access })
with_access s access h = record {
  held = h.held;
  full_clock = h.full_clock;
  mini_clock = h.mini_clock;
  nvm_clock = h.nvm_clock;
  some_full = h.some_full;
  some_mini = h.some_mini;
  some_frame = h.some_frame;
}

pub entered-ok : (p : ℕ) (w : Bool) (s : TierState) → Sound s → Open p w s (entered p w s)
unfolding entered
entered-ok p w s sound =
    let n = entered_at-ok (s.map.place p) (s.map.nvm p) p w (record s { access = Some (p, w) }) refl refl (with_access s (Some (p, w)) sound) in
    record { sound = n.sound; plan = n.plan; frames = n.frames; access = n.access }

-- ---- a line is touched

loaded_held : (p l : ℕ) (s : TierState) → Held s.map s.resident → ((i : ℕ) → s.map.place p ≡ Full i → s.map.nvm p ≡ None → ⊥) → Held s.map (changed p (with_line (s.resident p) l) s.resident)
loaded_held p l s h never = record {
  agrees = h.agrees;
  over_frame = h.over_frame;
  whole = λ q i e none. elim (cases_eq q p) [
    | inl same ↦ absurd (never i (ap s.map.place (sym same) ∙ e) (ap s.map.nvm (sym same) ∙ none))
    | inr n ↦ changed-other p (with_line (s.resident p) l) s.resident q n ∙ h.whole q i e none
  ];
}

loaded-ok : (p l : ℕ) (s : TierState) → Sound s → ((i : ℕ) → s.map.place p ≡ Full i → s.map.nvm p ≡ None → ⊥) → Next s (loaded p l s)
loaded-ok p l s sound never = record {
  sound = record {
    held = loaded_held p l s sound.held never;
    full_clock = sound.full_clock;
    mini_clock = sound.mini_clock;
    nvm_clock = sound.nvm_clock;
    some_full = sound.some_full;
    some_mini = sound.some_mini;
    some_frame = sound.some_frame;
  };
  plan = refl;
  frames = refl;
  access = refl;
}

all_there : (l : ℕ) → l < 64 → has_line all_lines l ≡ true
all_there l h = eq-eqb (all_lines / 2 ^ l % 2) 1 (bit_at_ones 64 l h)

full_touched-ok : (b : Bool) (p l i : ℕ) (s : TierState) → has_line (s.resident p) l ≡ b → l < 64 → s.map.place p ≡ Full i → Sound s → Next s (full_touched b p l s)
full_touched-ok true p l i s e h at sound = next_refl s sound
full_touched-ok false p l i s e h at sound = loaded-ok p l s sound
    (λ j full none.
    let whole = sound.held.whole p j full none in
    let there : has_line (s.resident p) l ≡ true = ap (λ set. has_line set l) whole ∙ all_there l h in
    (let both : true ≡ false = sym there ∙ e in cc))

-- a page over a frame has it
mini_over : (p j : ℕ) (s : TierState) → Sound s → s.map.place p ≡ Mini j → s.map.nvm p ≡ None → ⊥
mini_over p j s sound at none = let over = sound.held.over_frame p j at in none_not_some over.0 (sym none ∙ over.1)

held_like : (m : Placement) (r r' : ℕ → ℕ) → ((q : ℕ) → r' q ≡ r q) → Held m r → Held m r'
held_like m r r' same h = record { agrees = h.agrees; over_frame = h.over_frame; whole = λ q i e none. same q ∙ h.whole q i e none }

promoted-ok : (p j i : ℕ) (t : TierState) → Sound t → t.map.place p ≡ Mini j → t.map.full_page i ≡ None → 1 ≤ place_count i t.full_clock → Next t (promoted p i t)
promoted-ok p j i t sound at free there =
    let d = dropped p t in
    let not_full : full_of (t.map.place p) ≡ None = ap full_of at in
    let free_still : d.map.full_page i ≡ None = freed-free (full_of (t.map.place p)) t.map.full_page i free in
    let gone : d.map.place p ≡ Absent = changed-same p Absent t.map.place p refl in
    record {
      sound = record {
        held = held_like (with_full p i d.map) (changed p (t.resident p) d.resident) t.resident (λ q. elim (cases_eq q p) [
          | inl same ↦ ap t.resident same ∙ sym (changed-same p (t.resident p) d.resident q same)
          | inr n ↦ sym (changed-other p no_lines t.resident q n) ∙ sym (changed-other p (t.resident p) d.resident q n)
        ])
            (full_held p i (t.resident p) d (dropped-held p t sound.held) gone free_still (λ none. absurd (mini_over p j t sound at none)));
        full_clock = subst (λ (o : Option ℕ). Clocked (inserted i t.full_clock) (changed i (Some p) (freed o t.map.full_page))) (sym not_full)
            (clocked-inserted t.full_clock t.map.full_page i p there sound.full_clock);
        mini_clock = dropped-mini_clock p t sound.mini_clock;
        nvm_clock = sound.nvm_clock;
        some_full = has_place t.full_clock (inserted i t.full_clock) (place_count-inserted i t.full_clock) sound.some_full;
        some_mini = λ up. has_place t.mini_clock d.mini_clock (dropped-leaves p t).mini_there (sound.some_mini up);
        some_frame = sound.some_frame;
      };
      plan = refl;
      frames = refl;
      access = refl;
    }

promoted_to-ok : (place : Place) (p l i : ℕ) (t : TierState) → t.map.place p ≡ place → Sound t → t.map.full_page i ≡ None → 1 ≤ place_count i t.full_clock → Next t (promoted_to place p l i t)
promoted_to-ok Absent p l i t e sound free there = fetched-ok p i t sound e free there
promoted_to-ok (Full h) p l i t e sound free there = next_refl t sound
promoted_to-ok (Mini j) p l i t e sound free there =
    let n = promoted-ok p j i t sound e free there in
    let u = promoted p i t in
    next_trans t u (loaded p l u) n (loaded-ok p l u n.sound (λ k full none. mini_over p j t sound e none))

outgrown-ok : (p l : ℕ) (s : TierState) → Sound s → Next s (outgrown p l s)
unfolding outgrown
outgrown-ok p l s sound =
    let ok = room_in_full-ok s sound in
    let room = room_in_full s in
    next_from s room.state (outgrown p l s) ok.leaves (promoted_to-ok (room.state.map.place p) p l room.place room.state refl ok.sound ok.free ok.there)

mini_touched-ok : (b fits : Bool) (p l j : ℕ) (s : TierState) → s.map.place p ≡ Mini j → Sound s → Next s (mini_touched b fits p l s)
mini_touched-ok true fits p l j s at sound = next_refl s sound
mini_touched-ok false true p l j s at sound = loaded-ok p l s sound (λ i full none. mini_over p j s sound at none)
mini_touched-ok false false p l j s at sound = outgrown-ok p l s sound

ready_at-ok : (place : Place) (p l : ℕ) (s : TierState) → s.map.place p ≡ place → l < 64 → Sound s → Next s (ready_at place p l s)
ready_at-ok Absent p l s at h sound = next_refl s sound
ready_at-ok (Full i) p l s at h sound = full_touched-ok (has_line (s.resident p) l) p l i s refl h at sound
ready_at-ok (Mini j) p l s at h sound = mini_touched-ok (has_line (s.resident p) l) (nat_lt (line_count (s.resident p)) 16) p l j s at sound

pub made_ready-ok : (p l : ℕ) (s : TierState) → l < 64 → Sound s → Next s (made_ready p l s)
unfolding made_ready
made_ready-ok p l s h sound = ready_at-ok (s.map.place p) p l s refl h sound

marked_frame-ok : (o : Option ℕ) (s : TierState) → Sound s → Next s (marked_frame o s)
marked_frame-ok None s sound = next_refl s sound
marked_frame-ok (Some k) s sound = record { sound = sound_marks s _ sound; plan = refl; frames = refl; access = refl }

marked_line-ok : (p l : ℕ) (s : TierState) → Sound s → Next s (marked_line p l s)
marked_line-ok p l s h = record {
  sound = record {
    held = h.held;
    full_clock = h.full_clock;
    mini_clock = h.mini_clock;
    nvm_clock = h.nvm_clock;
    some_full = h.some_full;
    some_mini = h.some_mini;
    some_frame = h.some_frame;
  };
  plan = refl;
  frames = refl;
  access = refl;
}

marked_at-ok : (place : Place) (p l : ℕ) (s : TierState) → Sound s → Next s (marked_at place p l s)
marked_at-ok Absent p l s sound = marked_frame-ok (s.map.nvm p) s sound
marked_at-ok (Full i) p l s sound = marked_line-ok p l s sound
marked_at-ok (Mini j) p l s sound = marked_line-ok p l s sound

pub marked-ok : (p l : ℕ) (s : TierState) → Sound s → Next s (marked p l s)
unfolding marked
marked-ok p l s sound = marked_at-ok (s.map.place p) p l s sound
