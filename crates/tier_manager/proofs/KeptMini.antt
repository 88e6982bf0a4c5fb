-- Room for a full copy leaves a mini copy as it is, or its page loses it, with its frame.
use Rattle.std.proofs.Common.{◌≡◌, ◌≢◌, ℕ, Bool, true, false, refl, sym, ap, ◌∙◌, subst, inl, inr, ◌⊎◌}
use Rattle.std.specs.Prelude.{Option, Some, None, ◌==◌}
use Rattle.std.proofs.lemmas.Bool.{cases_eq}
use Rattle.std.proofs.lemmas.List.{get_or-set_other}
use Rattle.clock_sweep.specs.Clock.{Swept, lowest_empty, victim}
use Rattle.tier_map.specs.declared.place.Place.{Place}
use Rattle.tier_map.specs.declared.place.Place.TheVariants.{Absent, Full, Mini}
use Rattle.tier_map.specs.Placement.{Agrees, Placement, changed}
use Rattle.tier_map.proofs.PlacementLaws.{changed-same, changed-other}
use Rattle.page_frame.specs.LineSets.{no_lines}
use Rattle.mini_page.specs.MiniPages.{empty_mini, mini_at}
use Rattle.tier_rules.specs.Parts.{Parts, dirty_at}
use Rattle.part_laws.proofs.PartLaws.{alone_mini}
use Rattle.tier_pool.specs.Places.{place_emptied, copy_dropped, copy_stored, stored_unless}
use Rattle.tier_pool.specs.NvmRoom.{copy_given_up, victim_left, frame_swept, frame_room_by, frame_room}
use Rattle.tier_pool.specs.FullRoom.{drawn_if, admission_by, admitted, moved_if, handed_by, handed_down, full_dirty_at, full_left, full_swept, full_room_by, full_room}
use Rattle.tier_pool.proofs.NvmRoomLaws.{stored_map}
use Rattle.tier_pool.proofs.FullRoomLaws.{is_full, admitted_map, kept_by}

-- what became of the page's mini copy: it is as it was, or the page has neither copy nor frame
pub record Stays (page j : ℕ) (old new : Parts) : Type 0 where
  pub place : new.map.place page ≡ Mini j
  pub mini : mini_at new.minis j ≡ mini_at old.minis j

pub record Lost (page : ℕ) (new : Parts) : Type 0 where
  pub place : new.map.place page ≡ Absent
  pub frame : new.map.nvm page ≡ None

abbrev pub Kept : ℕ → ℕ → Parts → Parts → Type 0
Kept page j old new = Stays page j old new ⊎ Lost page new

kind : Place → ℕ
kind Absent = 0
kind (Full i) = 1
kind (Mini j) = 2

full_not_mini : (i j : ℕ) → Full i ≢ Mini j
full_not_mini i j e = absurd (let no = ap kind e in let x : ⊥ = cc in x)

same_place : (m j : ℕ) → m ≡ j → Mini m ≡ Mini j
same_place m j e = ap (λ (n : ℕ). Mini n) e

-- ---- what is done at another place

stored_mini : (b : Bool) (place : Place) (k j : ℕ) (parts : Parts) → place ≢ Mini j → mini_at (stored_unless b place k parts).minis j ≡ mini_at parts.minis j
stored_mini true place k j parts other = refl
stored_mini false Absent k j parts other = refl
stored_mini false (Full i) k j parts other = refl
stored_mini false (Mini m) k j parts other = get_or-set_other parts.minis m j _ empty_mini (λ same. other (same_place m j (sym same)))

emptied_mini : (place : Place) (j : ℕ) (parts : Parts) → place ≢ Mini j → mini_at (place_emptied place parts).minis j ≡ mini_at parts.minis j
emptied_mini Absent j parts other = refl
emptied_mini (Full i) j parts other = refl
emptied_mini (Mini m) j parts other = get_or-set_other parts.minis m j empty_mini empty_mini (λ same. other (same_place m j (sym same)))

given_mini : (q k j : ℕ) (parts : Parts) → parts.map.place q ≢ Mini j → mini_at (copy_given_up q k parts).minis j ≡ mini_at parts.minis j
given_mini q k j parts other =
    let place = parts.map.place q in let stored = copy_stored place k parts in
    emptied_mini (stored.map.place q) j stored (λ at. other (sym (ap (λ (m : Placement). m.place q) (stored_map place k parts)) ∙ at))
    ∙ stored_mini (dirty_at place parts.full_dirty parts.minis == no_lines) place k j parts other

module _ (page j : ℕ) where
  -- ---- room in NVM

  left_other : (q k : ℕ) (parts : Parts) → page ≢ q → Agrees parts.map → parts.map.place page ≡ Mini j → Stays page j parts (victim_left (Some q) k parts)
  left_other q k parts other agrees here = record {
    place = ap (λ (m : Placement). changed q Absent m.place page) (stored_map (parts.map.place q) k parts) ∙ changed-other q Absent parts.map.place page other ∙ here;
    mini = given_mini q k j parts (λ at. other (sym (alone_mini parts.map agrees page q j here at)));
  }

  left_same : (q k : ℕ) (parts : Parts) → page ≡ q → Lost page (victim_left (Some q) k parts)
  left_same q k parts same = record {
    place = changed-same q Absent (copy_stored (parts.map.place q) k parts).map.place page same;
    frame = changed-same q None (copy_given_up q k parts).map.nvm page same;
  }

  left_kept : (o : Option ℕ) (k : ℕ) (parts : Parts) → Agrees parts.map → parts.map.place page ≡ Mini j → Kept page j parts (victim_left o k parts)
  left_kept None k parts agrees here = inl (record { place = here; mini = refl })
  left_kept (Some q) k parts agrees here = elim (cases_eq page q) [
    | inl same ↦ inr (left_same q k parts same)
    | inr other ↦ inl (left_other q k parts other agrees here)
  ]

  nvm_swept : (o : Option Swept) (parts : Parts) → Agrees parts.map → parts.map.place page ≡ Mini j
      → Kept page j parts (victim_left ((frame_swept o parts).parts.map.frame_page (frame_swept o parts).place) (frame_swept o parts).place (frame_swept o parts).parts)
  nvm_swept None parts agrees here = left_kept (parts.map.frame_page 0) 0 parts agrees here
  nvm_swept (Some v) parts agrees here =
      from (left_kept (parts.map.frame_page v.place) v.place (frame_swept (Some v) parts).parts agrees here)
    where
      from : {new : Parts} → Kept page j (frame_swept (Some v) parts).parts new → Kept page j parts new
      from (inl stays) = inl (record { place = stays.place; mini = stays.mini })
      from (inr lost) = inr lost

  nvm_by : (o : Option ℕ) (parts : Parts) → Agrees parts.map → parts.map.place page ≡ Mini j → Kept page j parts (frame_room_by o parts).parts
  nvm_by (Some k) parts agrees here = inl (record { place = here; mini = refl })
  nvm_by None parts agrees here = nvm_swept (victim parts.nvm_clock) parts agrees here

  -- ---- where the lines of another page go

  installed : (q i : ℕ) (dirty : Bool) (parts : Parts) → page ≢ q → Kept page j parts (frame_room parts).parts → Kept page j parts (moved_if true dirty q i parts)
  installed q i dirty parts other (inl stays) = inl (record { place = stays.place; mini = stays.mini })
  installed q i dirty parts other (inr lost) = inr (record {
    place = lost.place;
    frame = changed-other q (Some (frame_room parts).place) (frame_room parts).parts.map.nvm page other ∙ lost.frame;
  })

  moved : (said dirty : Bool) (q i : ℕ) (parts : Parts) → page ≢ q → Agrees parts.map → parts.map.place page ≡ Mini j → Kept page j parts (moved_if said dirty q i parts)
  moved true dirty q i parts other agrees here = installed q i dirty parts other (nvm_by (lowest_empty parts.nvm_clock) parts agrees here)
  moved false true q i parts other agrees here = inl (record { place = here; mini = refl })
  moved false false q i parts other agrees here = inl (record { place = here; mini = refl })

  drawn_minis : (dirty : Bool) (parts : Parts) → mini_at (drawn_if dirty parts).parts.minis j ≡ mini_at parts.minis j
  drawn_minis true parts = refl
  drawn_minis false parts = refl

  admission_minis : (no_frames no_queue dirty : Bool) (q : ℕ) (parts : Parts) → mini_at (admission_by no_frames no_queue dirty q parts).parts.minis j ≡ mini_at parts.minis j
  admission_minis true no_queue dirty q parts = refl
  admission_minis false true dirty q parts = drawn_minis dirty parts
  admission_minis false false dirty q parts = refl

  kept_from : {old then new : Parts} → mini_at then.minis j ≡ mini_at old.minis j → Kept page j then new → Kept page j old new
  kept_from same (inl stays) = inl (record { place = stays.place; mini = stays.mini ∙ same })
  kept_from same (inr lost) = inr lost

  handed : (o : Option ℕ) (q i : ℕ) (parts : Parts) → page ≢ q → Agrees parts.map → parts.map.place page ≡ Mini j → Kept page j parts (handed_by o q i parts)
  handed (Some k) q i parts other agrees here = inl (record {
    place = ap (λ (m : Placement). m.place page) (stored_map (Full i) k parts) ∙ here;
    mini = stored_mini (dirty_at (Full i) parts.full_dirty parts.minis == no_lines) (Full i) k j parts (full_not_mini i j);
  })
  handed None q i parts other agrees here =
      let dirty = full_dirty_at i parts in let answer = admitted dirty q parts in let same = admitted_map dirty q parts in
      kept_from (admission_minis (parts.frames == 0) (parts.plan.queue_len == 0) dirty q parts)
      (moved answer.yes dirty q i answer.parts other (subst Agrees (sym same) agrees) (ap (λ (m : Placement). m.place page) same ∙ here))

-- its own copy stays at its place meanwhile
own_moved : (said dirty : Bool) (q i : ℕ) (parts : Parts) → Agrees parts.map → parts.map.nvm q ≡ None → (moved_if said dirty q i parts).map.place q ≡ parts.map.place q
own_moved true dirty q i parts agrees none = kept_by (lowest_empty parts.nvm_clock) q parts agrees none
own_moved false true q i parts agrees none = refl
own_moved false false q i parts agrees none = refl

own_handed : (o : Option ℕ) (q i : ℕ) (parts : Parts) → parts.map.nvm q ≡ o → Agrees parts.map → (handed_by o q i parts).map.place q ≡ parts.map.place q
own_handed (Some k) q i parts e agrees = ap (λ (m : Placement). m.place q) (stored_map (Full i) k parts)
own_handed None q i parts e agrees =
    let dirty = full_dirty_at i parts in let answer = admitted dirty q parts in let same = admitted_map dirty q parts in
    own_moved answer.yes dirty q i answer.parts (subst Agrees (sym same) agrees) (ap (λ (m : Placement). m.nvm q) same ∙ e) ∙ ap (λ (m : Placement). m.place q) same

module _ (page j : ℕ) where
  -- ---- the room

  dropped : (q i : ℕ) (old parts : Parts) → page ≢ q → parts.map.place q ≡ Full i → Kept page j old parts → Kept page j old (copy_dropped q parts)
  dropped q i old parts other at (inl stays) = inl (record {
    place = changed-other q Absent parts.map.place page other ∙ stays.place;
    mini = emptied_mini (parts.map.place q) j parts (λ mini. full_not_mini i j (sym at ∙ mini)) ∙ stays.mini;
  })
  dropped q i old parts other at (inr lost) = inr (record {
    place = changed-other q Absent parts.map.place page other ∙ lost.place;
    frame = lost.frame;
  })

  left_full : (o : Option ℕ) (i : ℕ) (parts : Parts) → parts.map.full_page i ≡ o → Agrees parts.map → parts.map.place page ≡ Mini j → Kept page j parts (full_left o i parts)
  left_full None i parts e agrees here = inl (record { place = here; mini = refl })
  left_full (Some q) i parts e agrees here =
      let at : parts.map.place q ≡ Full i = is_full (parts.map.place q) i ((agrees.full q i).1 e) in
      let other : page ≢ q = (λ same. full_not_mini i j (sym at ∙ ap parts.map.place (sym same) ∙ here)) in
      dropped q i parts (handed_down q i parts) other (own_handed (parts.map.nvm q) q i parts refl agrees ∙ at) (handed page j (parts.map.nvm q) q i parts other agrees here)

  full_swept_kept : (o : Option Swept) (parts : Parts) → Agrees parts.map → parts.map.place page ≡ Mini j
      → Kept page j parts (full_left ((full_swept o parts).parts.map.full_page (full_swept o parts).place) (full_swept o parts).place (full_swept o parts).parts)
  full_swept_kept None parts agrees here = left_full (parts.map.full_page 0) 0 parts refl agrees here
  full_swept_kept (Some v) parts agrees here =
      kept_from page j {old = parts} {then = (full_swept (Some v) parts).parts} refl (left_full (parts.map.full_page v.place) v.place (full_swept (Some v) parts).parts refl agrees here)

  full_by : (o : Option ℕ) (parts : Parts) → Agrees parts.map → parts.map.place page ≡ Mini j → Kept page j parts (full_room_by o parts).parts
  full_by (Some i) parts agrees here = inl (record { place = here; mini = refl })
  full_by None parts agrees here = full_swept_kept (victim parts.full_clock) parts agrees here

  pub room_kept : (parts : Parts) → Agrees parts.map → parts.map.place page ≡ Mini j → Kept page j parts (full_room parts).parts
  room_kept parts agrees here = full_by (lowest_empty parts.full_clock) parts agrees here
