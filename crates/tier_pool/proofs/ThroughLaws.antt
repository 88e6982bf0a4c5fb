-- What room in DRAM leaves of NVM, and room in NVM of DRAM: a page without a frame gets none, the clock of frames knows the frames
-- that have a page, and a free place stays free.
use Rattle.std.proofs.Common.{◌≡◌, ℕ, ◌≤◌, Bool, true, false, length, refl, sym, ap, ◌∙◌, subst, inl, inr}
use Rattle.std.specs.Prelude.{Option, Some, None, ◌==◌}
use Rattle.std.proofs.lemmas.Bool.{cases_eq}
use Rattle.page_frame.specs.LineSets.{no_lines}
use Rattle.clock_sweep.specs.Clock.{Circle, Swept, lowest_empty, victim}
use Rattle.clock_sweep.proofs.ClockLaws.{victim-some}
use Rattle.tier_map.specs.declared.place.Place.{Place}
use Rattle.tier_map.specs.declared.place.Place.TheVariants.{Absent, Full, Mini}
use Rattle.tier_map.specs.Placement.{Agrees, Placement, changed, freed, full_of, without_dram}
use Rattle.tier_map.proofs.PlacementLaws.{changed-same, changed-other}
use Rattle.tier_rules.specs.Clocks.{place_count}
use Rattle.tier_rules.specs.Sound.{Clocked}
use Rattle.tier_rules.specs.Parts.{Parts, dirty_at}
use Rattle.tier_laws.proofs.StandLaws.{lowest-owner, clocked-like, clocked-inserted, clocked-victim, victim-there}
use Rattle.tier_laws.proofs.SoundLaws.{freed-free}
use Rattle.tier_pool.specs.Places.{copy_cleaned, copy_stored, copy_dropped, frame_marked, place_emptied, stored_unless}
use Rattle.tier_pool.specs.NvmRoom.{PartsRoom, copy_given_up, victim_left, frame_swept, swept_left, frame_room_by, frame_room}
use Rattle.tier_pool.specs.FullRoom.{drawn_if, admission_by, admitted, moved_if, handed_by, handed_down, full_dirty_at, full_left, full_swept, full_room_by}
use Rattle.tier_pool.specs.Bringing.{PartsPlace, IsFree, mini_given_up, mini_left, mini_swept, mini_room_by, dram_room_by, dram_room}
use Rattle.tier_pool.proofs.NvmRoomLaws.{stored_map, swept_map, homeless_by}
use Rattle.tier_pool.proofs.FullRoomLaws.{full_swept_map, is_full}
use Rattle.tier_pool.proofs.ClockLaws.{all_stand}

-- the frames and their clock are as they were
pub record SameNvm (a b : Parts) : Type 0 where
  pub clock : b.nvm_clock ≡ a.nvm_clock
  pub nvm : b.map.nvm ≡ a.map.nvm
  pub owner : b.map.frame_page ≡ a.map.frame_page

same_refl : (a : Parts) → SameNvm a a
same_refl a = record { clock = refl; nvm = refl; owner = refl }

same_then : (a b c : Parts) → SameNvm a b → SameNvm b c → SameNvm a c
same_then a b c first second = record {
  clock = second.clock ∙ first.clock;
  nvm = second.nvm ∙ first.nvm;
  owner = second.owner ∙ first.owner;
}

same_cleaned : (place : Place) (parts : Parts) → SameNvm parts (copy_cleaned place parts)
same_cleaned Absent parts = same_refl parts
same_cleaned (Full i) parts = record { clock = refl; nvm = refl; owner = refl }
same_cleaned (Mini j) parts = record { clock = refl; nvm = refl; owner = refl }

same_unless : (clean : Bool) (place : Place) (k : ℕ) (parts : Parts) → SameNvm parts (stored_unless clean place k parts)
same_unless true place k parts = same_refl parts
same_unless false place k parts =
    let marked = same_cleaned place (frame_marked k parts) in record { clock = marked.clock; nvm = marked.nvm; owner = marked.owner }

same_stored : (place : Place) (k : ℕ) (parts : Parts) → SameNvm parts (copy_stored place k parts)
same_stored place k parts = same_unless (dirty_at place parts.full_dirty parts.minis == no_lines) place k parts

emptied_clock : (place : Place) (parts : Parts) → (place_emptied place parts).nvm_clock ≡ parts.nvm_clock
emptied_clock Absent parts = refl
emptied_clock (Full i) parts = refl
emptied_clock (Mini j) parts = refl

same_dropped : (page : ℕ) (parts : Parts) → SameNvm parts (copy_dropped page parts)
same_dropped page parts = record { clock = emptied_clock (parts.map.place page) parts; nvm = refl; owner = refl }

same_given : (page k : ℕ) (parts : Parts) → SameNvm parts (copy_given_up page k parts)
same_given page k parts =
    let stored = copy_stored (parts.map.place page) k parts in
    same_then parts stored (copy_dropped page stored) (same_stored (parts.map.place page) k parts) (same_dropped page stored)

clocked_same : (a b : Parts) → SameNvm a b → Clocked a.nvm_clock a.map.frame_page → Clocked b.nvm_clock b.map.frame_page
clocked_same a b same clocked = rw (same.clock, same.owner) clocked

-- ---- room in NVM

-- the clock of frames knows those that have a page, and the place is one of it
pub record FrameRoomOk (room : PartsRoom) : Type 0 where
  pub clocked : Clocked room.parts.nvm_clock room.parts.map.frame_page
  pub there : 1 ≤ place_count room.place room.parts.nvm_clock

unchanged : (k i : ℕ) (f : ℕ → Option ℕ) → f k ≡ None → f i ≡ changed k None f i
unchanged k i f none = elim (cases_eq i k) [
  | inl same ↦ ap f same ∙ none ∙ sym (changed-same k None f i same)
  | inr other ↦ sym (changed-other k None f i other)
]

freed_clocked : (q : ℕ) (a : Parts) (circle : Circle) (o : Option ℕ) (f : ℕ → Option ℕ) → a.nvm_clock ≡ circle → a.map.nvm q ≡ o → a.map.frame_page ≡ f
    → Clocked circle (freed o f) → Clocked a.nvm_clock (freed (a.map.nvm q) a.map.frame_page)
freed_clocked q a circle o f c n p clocked = rw (c, n, p) clocked

victim_ok : (o : Option ℕ) (v : Swept) (parts : Parts) → victim parts.nvm_clock ≡ Some v → Clocked parts.nvm_clock parts.map.frame_page → Agrees parts.map
    → parts.map.frame_page v.place ≡ o → FrameRoomOk (record { place = v.place; parts = victim_left o v.place (frame_swept (Some v) parts).parts })
victim_ok None v parts is clocked agrees e = record {
  clocked = clocked-like v.clock (changed v.place None parts.map.frame_page) parts.map.frame_page (λ i. unchanged v.place i parts.map.frame_page e)
      (clocked-victim parts.nvm_clock parts.map.frame_page v is clocked);
  there = victim-there parts.nvm_clock parts.map.frame_page v is;
}
victim_ok (Some q) v parts is clocked agrees e =
    let swept = (frame_swept (Some v) parts).parts in
    let left = copy_given_up q v.place swept in
    let same = same_given q v.place swept in
    let at : parts.map.nvm q ≡ Some v.place = (agrees.nvm q v.place).1 e in
    record {
      clocked = freed_clocked q left v.clock (Some v.place) parts.map.frame_page same.clock (ap (λ (f : ℕ → Option ℕ). f q) same.nvm ∙ at) same.owner
          (clocked-victim parts.nvm_clock parts.map.frame_page v is clocked);
      there = subst (λ (circle : Circle). 1 ≤ place_count v.place circle) (sym same.clock) (victim-there parts.nvm_clock parts.map.frame_page v is);
    }

evicted_ok : (w : Option Swept) (parts : Parts) → victim parts.nvm_clock ≡ w → (v : Swept) × (victim parts.nvm_clock ≡ Some v)
    → Clocked parts.nvm_clock parts.map.frame_page → Agrees parts.map → FrameRoomOk (swept_left (frame_swept w parts))
evicted_ok None parts e found clocked agrees = absurd (let is = found.1 in cc)
evicted_ok (Some v) parts e found clocked agrees = victim_ok (parts.map.frame_page v.place) v parts e clocked agrees refl

room_ok_by : (o : Option ℕ) (parts : Parts) → lowest_empty parts.nvm_clock ≡ o → 1 ≤ length parts.nvm_clock → Clocked parts.nvm_clock parts.map.frame_page
    → Agrees parts.map → FrameRoomOk (frame_room_by o parts)
room_ok_by (Some k) parts e some clocked agrees =
    record { clocked = clocked; there = (lowest-owner parts.nvm_clock parts.map.frame_page k e clocked).0 }
room_ok_by None parts e some clocked agrees =
    evicted_ok (victim parts.nvm_clock) parts refl (victim-some parts.nvm_clock (all_stand parts.nvm_clock (length parts.nvm_clock) e refl some)) clocked agrees

pub frame_room_ok : (parts : Parts) → 1 ≤ length parts.nvm_clock → Clocked parts.nvm_clock parts.map.frame_page → Agrees parts.map → FrameRoomOk (frame_room parts)
frame_room_ok parts some clocked agrees = room_ok_by (lowest_empty parts.nvm_clock) parts refl some clocked agrees

-- a free place stays free
free_kept : (place : Place) (q : ℕ) (m : Placement) → IsFree m place → IsFree (without_dram q m) place
free_kept Absent q m free = tt
free_kept (Full i) q m free = freed-free (full_of (m.place q)) m.full_page i free
free_kept (Mini j) q m free = freed-free _ m.mini_owner j free

is_free_nvm : (place : Place) (a b : Placement) → IsFree a place → b.full_page ≡ a.full_page → b.mini_owner ≡ a.mini_owner → IsFree b place
is_free_nvm Absent a b free full mini = tt
is_free_nvm (Full i) a b free full mini = ap (λ (f : ℕ → Option ℕ). f i) full ∙ free
is_free_nvm (Mini j) a b free full mini = ap (λ (f : ℕ → Option ℕ). f j) mini ∙ free

left_free_kept : (o : Option ℕ) (k : ℕ) (place : Place) (parts : Parts) → IsFree parts.map place → IsFree (victim_left o k parts).map place
left_free_kept None k place parts free = free
left_free_kept (Some q) k place parts free =
    let stored = copy_stored (parts.map.place q) k parts in
    let kept : IsFree stored.map place = subst (λ (m : Placement). IsFree m place) (sym (stored_map (parts.map.place q) k parts)) free in
    is_free_nvm place (without_dram q stored.map) (victim_left (Some q) k parts).map (free_kept place q stored.map kept) refl refl

free_kept_by : (o : Option ℕ) (place : Place) (parts : Parts) → IsFree parts.map place → IsFree (frame_room_by o parts).parts.map place
free_kept_by (Some k) place parts free = free
free_kept_by None place parts free =
    let swept = frame_swept (victim parts.nvm_clock) parts in
    left_free_kept (swept.parts.map.frame_page swept.place) swept.place place swept.parts
    (subst (λ (m : Placement). IsFree m place) (sym (swept_map (victim parts.nvm_clock) parts)) free)

pub room_free_kept : (place : Place) (parts : Parts) → IsFree parts.map place → IsFree (frame_room parts).parts.map place
room_free_kept place parts free = free_kept_by (lowest_empty parts.nvm_clock) place parts free

pub free_with_nvm : (place : Place) (a b : Placement) → b.full_page ≡ a.full_page → b.mini_owner ≡ a.mini_owner → IsFree a place → IsFree b place
free_with_nvm place a b full mini free = is_free_nvm place a b free full mini

-- ---- room for a full copy

-- what is left of NVM: a page without a copy and without a frame gets none, and the clock knows the frames that have a page
pub record NvmLeft (p : ℕ) (b : Parts) : Type 0 where
  pub clocked : Clocked b.nvm_clock b.map.frame_page
  pub homeless : b.map.nvm p ≡ None

left_same : (p : ℕ) (a b : Parts) → SameNvm a b → NvmLeft p a → NvmLeft p b
left_same p a b same left = record {
  clocked = clocked_same a b same left.clocked;
  homeless = ap (λ (f : ℕ → Option ℕ). f p) same.nvm ∙ left.homeless;
}

same_drawn : (dirty : Bool) (parts : Parts) → SameNvm parts (drawn_if dirty parts).parts
same_drawn true parts = record { clock = refl; nvm = refl; owner = refl }
same_drawn false parts = same_refl parts

same_admission : (no_frames no_queue dirty : Bool) (page : ℕ) (parts : Parts) → SameNvm parts (admission_by no_frames no_queue dirty page parts).parts
same_admission true no_queue dirty page parts = same_refl parts
same_admission false true dirty page parts = same_drawn dirty parts
same_admission false false dirty page parts = record { clock = refl; nvm = refl; owner = refl }

-- the same, of what room is made in
pub record NvmBefore (p : ℕ) (a : Parts) : Type 0 where
  pub left : NvmLeft p a
  pub some : 1 ≤ length a.nvm_clock
  pub agrees : Agrees a.map

before_same : (p : ℕ) (a b : Parts) → SameNvm a b → b.map ≡ a.map → NvmBefore p a → NvmBefore p b
before_same p a b same map before = record {
  left = left_same p a b same before.left;
  some = subst (λ (circle : Circle). 1 ≤ length circle) (sym same.clock) before.some;
  agrees = subst Agrees (sym map) before.agrees;
}

module _ (p page i : ℕ) (other : p ≡ page → ⊥) where
  moved_left : (yes dirty : Bool) (parts : Parts) → NvmBefore p parts → NvmLeft p (moved_if yes dirty page i parts)
  moved_left true dirty parts before =
      let room = frame_room parts in
      let ok = frame_room_ok parts before.some before.left.clocked before.agrees in
      record {
        clocked = clocked-inserted room.parts.nvm_clock room.parts.map.frame_page room.place page ok.there ok.clocked;
        homeless = changed-other page (Some room.place) room.parts.map.nvm p other ∙ homeless_by (lowest_empty parts.nvm_clock) p parts before.left.homeless;
      }
  moved_left false true parts before = record { clocked = before.left.clocked; homeless = before.left.homeless }
  moved_left false false parts before = before.left

  handed_left : (o : Option ℕ) (parts : Parts) → NvmBefore p parts → NvmLeft p (handed_by o page i parts)
  handed_left (Some k) parts before = left_same p parts (copy_stored (Full i) k parts) (same_stored (Full i) k parts) before.left
  handed_left None parts before =
      let dirty = full_dirty_at i parts in
      let answer = admitted dirty page parts in
      let same = same_admission (parts.frames == 0) (parts.plan.queue_len == 0) dirty page parts in
      moved_left answer.yes dirty answer.parts (before_same p parts answer.parts same (admission_map (parts.frames == 0) (parts.plan.queue_len == 0) dirty page parts) before)
    where
      admission_map : (no_frames no_queue dirty : Bool) (page : ℕ) (parts : Parts) → (admission_by no_frames no_queue dirty page parts).parts.map ≡ parts.map
      admission_map true no_queue dirty page parts = refl
      admission_map false true true page parts = refl
      admission_map false true false page parts = refl
      admission_map false false dirty page parts = refl

not_absent : (p q i : ℕ) (f : ℕ → Place) → f p ≡ Absent → f q ≡ Full i → p ≡ q → ⊥
not_absent p q i f none at same = absurd (let there = ap f same in cc)

full_left_ok : (o : Option ℕ) (p i : ℕ) (parts : Parts) → parts.map.full_page i ≡ o → parts.map.place p ≡ Absent → NvmBefore p parts → NvmLeft p (full_left o i parts)
full_left_ok None p i parts e none before = before.left
full_left_ok (Some page) p i parts e none before =
    let at : parts.map.place page ≡ Full i = is_full (parts.map.place page) i ((before.agrees.full page i).1 e) in
    let after = handed_down page i parts in
    left_same p after (copy_dropped page after) (same_dropped page after)
    (handed_left p page i (not_absent p page i parts.map.place none at) (parts.map.nvm page) parts before)

same_swept : (o : Option Swept) (parts : Parts) → SameNvm parts (full_swept o parts).parts
same_swept None parts = same_refl parts
same_swept (Some v) parts = record { clock = refl; nvm = refl; owner = refl }

full_ok_by : (o : Option ℕ) (p : ℕ) (parts : Parts) → parts.map.place p ≡ Absent → NvmBefore p parts → NvmLeft p (full_room_by o parts).parts
full_ok_by (Some i) p parts none before = before.left
full_ok_by None p parts none before =
    let swept = full_swept (victim parts.full_clock) parts in
    let map = full_swept_map (victim parts.full_clock) parts in
    full_left_ok (swept.parts.map.full_page swept.place) p swept.place swept.parts refl (ap (λ (m : Placement). m.place p) map ∙ none)
    (before_same p parts swept.parts (same_swept (victim parts.full_clock) parts) map before)

-- ---- room for a mini copy, and room in DRAM

mini_given_same : (o : Option ℕ) (q : ℕ) (parts : Parts) → SameNvm parts (mini_given_up o q parts)
mini_given_same None q parts = same_refl parts
mini_given_same (Some k) q parts = same_given q k parts

mini_left_same : (o : Option ℕ) (parts : Parts) → SameNvm parts (mini_left o parts)
mini_left_same None parts = same_refl parts
mini_left_same (Some q) parts = mini_given_same (parts.map.nvm q) q parts

mini_swept_same : (o : Option Swept) (parts : Parts) → SameNvm parts (mini_swept o parts).parts
mini_swept_same None parts = same_refl parts
mini_swept_same (Some v) parts = record { clock = refl; nvm = refl; owner = refl }

mini_same_by : (o : Option ℕ) (parts : Parts) → SameNvm parts (mini_room_by o parts).parts
mini_same_by (Some j) parts = same_refl parts
mini_same_by None parts =
    let swept = mini_swept (victim parts.mini_clock) parts in
    same_then parts swept.parts (mini_left (swept.parts.map.mini_owner swept.place) swept.parts)
    (mini_swept_same (victim parts.mini_clock) parts) (mini_left_same (swept.parts.map.mini_owner swept.place) swept.parts)

dram_left_by : (no_minis : Bool) (p : ℕ) (parts : Parts) → parts.map.place p ≡ Absent → NvmBefore p parts → NvmLeft p (dram_room_by no_minis parts).parts
dram_left_by true p parts none before = full_ok_by (lowest_empty parts.full_clock) p parts none before
dram_left_by false p parts none before =
    left_same p parts (mini_room_by (lowest_empty parts.mini_clock) parts).parts (mini_same_by (lowest_empty parts.mini_clock) parts) before.left

pub dram_room_left : (parts after : Parts) (place : Place) (p : ℕ) → dram_room parts ≡ record { place = place; parts = after } → parts.map.place p ≡ Absent
    → NvmBefore p parts → NvmLeft p after
dram_room_left parts after place p is none before =
    subst (λ (room : PartsPlace). NvmLeft p room.parts) is (dram_left_by (parts.plan.minis == 0) p parts none before)
