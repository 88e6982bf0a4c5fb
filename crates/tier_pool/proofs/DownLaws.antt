-- A full copy that leaves its place leads from facts to facts.
use Rattle.std.proofs.Common.{Bool, true, false, ◌≡◌, ◌≢◌, ℕ, ◌<◌, length, refl, sym, ap, ◌∙◌, subst, Option, Some, None}
use Rattle.std.specs.Prelude.{◌==◌, not}
use Rattle.std.proofs.lemmas.Bool.{eqb-true}
use Rattle.nvm_model.specs.declared.line.Line.{Line}
use Rattle.store_model.specs.Layout.{Sizes}
use Rattle.tier_map.specs.declared.place.Place.{Place}
use Rattle.tier_map.specs.declared.place.Place.TheVariants.{Absent, Full}
use Rattle.tier_map.specs.Placement.{Placement, Agrees, without_dram}
use Rattle.tier_map.proofs.PlacementLaws.{changed-other}
use Rattle.page_frame.specs.LineSets.{no_lines, has_line}
use Rattle.mini_page.proofs.ChangeLaws.{has_none}
use Rattle.clock_sweep.specs.Clock.{Swept, lowest_empty, victim}
use Rattle.tier_rules.specs.Parts.{Parts, dirty_at, copy_line}
use Rattle.tier_facts.specs.Data.{installed, SameData}
use Rattle.tier_facts.specs.Facts.{IsClean}
use Rattle.part_laws.specs.PartData.{dirty_lines, data_of_parts, SameOthers}
use Rattle.part_laws.proofs.PartLaws
use Rattle.tier_pool.specs.Places.{copy_cleaned, copy_dropped, copy_stored, stored_unless, frame_marked}
use Rattle.tier_pool.specs.NvmRoom.{PartsRoom, copy_given_up, frame_left, victim_left, frame_swept, frame_room_by, frame_room, page_installed}
use Rattle.tier_pool.specs.FullRoom.{PartsAnswer, drawn_if, admission_by, admitted, moved_if, handed_by, handed_down, full_dirty_at, full_swept}
use Rattle.tier_pool.specs.Bringing.{mini_swept}
use Rattle.tier_pool.specs.Handing.{StandsWhole, StandsAt, AreWhole}
use Rattle.tier_pool.proofs.NvmRoomLaws.{stored_map, swept_map}
use Rattle.tier_pool.proofs.FullRoomLaws.{is_full}
use Rattle.tier_pool.proofs.StoringLaws.{cleaned_others, cleaned_marks}
use Rattle.tier_pool.proofs.RoomLaws.{emptied_others, stored_clean}

not_false : (b : Bool) → not b ≡ false → b ≡ true
not_false true e = refl
not_false false e = absurd (let no : ⊥ = cc in no)

clean_if : (lines : ℕ) → not (lines == no_lines) ≡ false → lines ≡ no_lines
clean_if lines e = eqb-true lines no_lines (not_false (lines == no_lines) e)

marks_at : (parts : Parts) (page i : ℕ) → parts.map.place page ≡ Full i → dirty_lines parts page ≡ dirty_at (Full i) parts.full_dirty parts.minis
marks_at parts page i here = ap (λ (x : Place). dirty_at x parts.full_dirty parts.minis) here

-- ---- a page whose copy stays as it was

pub record StaysAs (page : ℕ) (old new : Parts) : Type 0 where
  pub place : new.map.place page ≡ old.map.place page
  pub copies : (l : ℕ) → copy_line new page l ≡ copy_line old page l
  pub dirty : dirty_lines new page ≡ dirty_lines old page

stays_then : {page : ℕ} {a b c : Parts} → StaysAs page a b → StaysAs page b c → StaysAs page a c
stays_then first second = record { place = second.place ∙ first.place; copies = λ l. second.copies l ∙ first.copies l; dirty = second.dirty ∙ first.dirty }

pub stands_on : {page : ℕ} {place : Place} {old new : Parts} → StaysAs page old new → new.map.nvm page ≡ None → StandsWhole page place old → StandsWhole page place new
stands_on {page = page} {old = old} same none it = record {
  here = same.place ∙ it.here;
  homeless = none;
  whole = record { lines = λ l hl. let x : (line : Line) × (copy_line old page l ≡ Some line) = it.whole.lines l hl in (x.0, same.copies l ∙ x.1) };
}

pub marked_on : {page i : ℕ} {old new : Parts} → StaysAs page old new → old.map.place page ≡ Full i → full_dirty_at i old ≡ full_dirty_at i new
marked_on {page = page} {i = i} {old = old} {new = new} same here =
    ap (λ (lines : ℕ). not (lines == no_lines)) (sym (marks_at old page i here) ∙ sym same.dirty ∙ marks_at new page i (same.place ∙ here))

-- ---- what room in NVM leaves of the copy of a page that has no frame

stored_others : (b : Bool) (place : Place) (k : ℕ) (parts : Parts) (page : ℕ) → Agrees parts.map → parts.map.place page ≡ place → SameOthers page parts (stored_unless b place k parts)
stored_others true place k parts page agrees here = record { copies = λ p l other. refl; dirty = λ p other. refl }
stored_others false place k parts page agrees here =
    let it : SameOthers page (frame_marked k parts) (copy_cleaned place (frame_marked k parts)) = cleaned_others place (frame_marked k parts) page agrees here in
    record { copies = it.copies; dirty = it.dirty }

dropped_others : (parts : Parts) (page : ℕ) → Agrees parts.map → SameOthers page parts (copy_dropped page parts)
dropped_others parts page agrees =
    emptied_others (parts.map.place page) parts page agrees refl (without_dram page parts.map) (λ p other. changed-other page Absent parts.map.place p other)

given_stays : (parts : Parts) (q k page : ℕ) → Agrees parts.map → page ≢ q → StaysAs page parts (frame_left q k (copy_given_up q k parts))
given_stays parts q k page agrees apart = record {
  place = changed-other q Absent stored.map.place page apart ∙ ap (λ (m : Placement). m.place page) same;
  copies = λ l. drop.copies page l apart ∙ store.copies page l apart;
  dirty = drop.dirty page apart ∙ store.dirty page apart;
}
  where
    stored : Parts
    stored = copy_stored (parts.map.place q) k parts

    same : (copy_stored (parts.map.place q) k parts).map ≡ parts.map
    same = stored_map (parts.map.place q) k parts

    store : SameOthers q parts (copy_stored (parts.map.place q) k parts)
    store = stored_others (dirty_at (parts.map.place q) parts.full_dirty parts.minis == no_lines) (parts.map.place q) k parts q agrees refl

    drop : SameOthers q (copy_stored (parts.map.place q) k parts) (copy_dropped q (copy_stored (parts.map.place q) k parts))
    drop = dropped_others (copy_stored (parts.map.place q) k parts) q (subst Agrees (sym same) agrees)

not_both : (page q k : ℕ) (f : ℕ → Option ℕ) → f q ≡ Some k → f page ≡ None → page ≢ q
not_both page q k f at none same = absurd (let there = ap f same in cc)

left_stays : (o : Option ℕ) (k page : ℕ) (parts : Parts) → parts.map.frame_page k ≡ o → Agrees parts.map → parts.map.nvm page ≡ None → StaysAs page parts (victim_left o k parts)
left_stays None k page parts e agrees none = record { place = refl; copies = λ l. refl; dirty = refl }
left_stays (Some q) k page parts e agrees none = given_stays parts q k page agrees (not_both page q k parts.map.nvm ((agrees.nvm q k).1 e) none)

swept_stays : (o : Option Swept) (page : ℕ) (parts : Parts) → StaysAs page parts (frame_swept o parts).parts
swept_stays None page parts = record { place = refl; copies = λ l. refl; dirty = refl }
swept_stays (Some v) page parts = record { place = refl; copies = λ l. refl; dirty = refl }

room_stays_by : (o : Option ℕ) (page : ℕ) (parts : Parts) → Agrees parts.map → parts.map.nvm page ≡ None → StaysAs page parts (frame_room_by o parts).parts
room_stays_by (Some k) page parts agrees none = record { place = refl; copies = λ l. refl; dirty = refl }
room_stays_by None page parts agrees none =
    let swept = frame_swept (victim parts.nvm_clock) parts in
    let same = swept_map (victim parts.nvm_clock) parts in
    stays_then (swept_stays (victim parts.nvm_clock) page parts)
    (left_stays (swept.parts.map.frame_page swept.place) swept.place page swept.parts refl (subst Agrees (sym same) agrees) (ap (λ (m : Placement). m.nvm page) same ∙ none))

pub room_stays : (parts after : Parts) (k page : ℕ) → frame_room parts ≡ record { place = k; parts = after } → Agrees parts.map → parts.map.nvm page ≡ None → StaysAs page parts after
room_stays parts after k page is agrees none =
    subst (λ (room : PartsRoom). StaysAs page parts room.parts) is (room_stays_by (lowest_empty parts.nvm_clock) page parts agrees none)

-- ---- a copy that is installed

pub down_clean : (g : Sizes) (parts : Parts) (page i : ℕ) (dirty : Bool) → parts.map.place page ≡ Full i → dirty ≡ full_dirty_at i parts → dirty ≡ false → IsClean (data_of_parts g parts) page
down_clean g parts page i dirty here marked none = record {
  lines = λ l hl. ap (λ set. has_line set l) (marks_at parts page i here ∙ clean_if (dirty_at (Full i) parts.full_dirty parts.minis) (sym marked ∙ none)) ∙ has_none l;
}

pub installed_data : (g : Sizes) (parts : Parts) (page i k : ℕ) (dirty : Bool) → Agrees parts.map → parts.map.place page ≡ Full i → k < length parts.frame_dirty
    → SameData (installed page k dirty (data_of_parts g parts)) (data_of_parts g (copy_cleaned (Full i) (page_installed page k dirty parts)))
installed_data g parts page i k dirty agrees here low =
    PartLaws.page_installed g parts (copy_cleaned (Full i) (page_installed page k dirty parts)) page k dirty (record { copies = others.copies; dirty = others.dirty })
    (λ l hl. refl) (cleaned_marks (Full i) (page_installed page k dirty parts) page here) (λ p. refl) (λ n. refl) low refl
  where
    others : SameOthers page parts (copy_cleaned (Full i) parts)
    others = cleaned_others (Full i) parts page agrees here

-- ---- answers change no copy

drawn_data : (g : Sizes) (dirty : Bool) (parts : Parts) → data_of_parts g (drawn_if dirty parts).parts ≡ data_of_parts g parts
drawn_data g true parts = refl
drawn_data g false parts = refl

admission_data : (g : Sizes) (no_frames no_queue dirty : Bool) (page : ℕ) (parts : Parts) → data_of_parts g (admission_by no_frames no_queue dirty page parts).parts ≡ data_of_parts g parts
admission_data g true no_queue dirty page parts = refl
admission_data g false true dirty page parts = drawn_data g dirty parts
admission_data g false false dirty page parts = refl

drawn_stays : (dirty : Bool) (page : ℕ) (parts : Parts) → StaysAs page parts (drawn_if dirty parts).parts
drawn_stays true page parts = record { place = refl; copies = λ l. refl; dirty = refl }
drawn_stays false page parts = record { place = refl; copies = λ l. refl; dirty = refl }

admission_stays : (no_frames no_queue dirty : Bool) (p page : ℕ) (parts : Parts) → StaysAs page parts (admission_by no_frames no_queue dirty p parts).parts
admission_stays true no_queue dirty p page parts = record { place = refl; copies = λ l. refl; dirty = refl }
admission_stays false true dirty p page parts = drawn_stays dirty page parts
admission_stays false false dirty p page parts = record { place = refl; copies = λ l. refl; dirty = refl }

pub admitted_data : (g : Sizes) (dirty answer : Bool) (page : ℕ) (parts after : Parts) → admitted dirty page parts ≡ record { yes = answer; parts = after } → data_of_parts g after ≡ data_of_parts g parts
admitted_data g dirty answer page parts after is =
    ap (λ (x : PartsAnswer). data_of_parts g x.parts) (sym is) ∙ admission_data g (parts.frames == 0) (parts.plan.queue_len == 0) dirty page parts

pub admitted_stays : (dirty answer : Bool) (p page : ℕ) (parts after : Parts) → admitted dirty p parts ≡ record { yes = answer; parts = after } → StaysAs page parts after
admitted_stays dirty answer p page parts after is =
    subst (λ (x : PartsAnswer). StaysAs page parts x.parts) is (admission_stays (parts.frames == 0) (parts.plan.queue_len == 0) dirty p page parts)

-- ---- a copy that was handed down is clean

moved_clean : (yes dirty : Bool) (page i : ℕ) (parts : Parts) → Agrees parts.map → parts.map.nvm page ≡ None → parts.map.place page ≡ Full i → full_dirty_at i parts ≡ dirty
    → dirty_lines (moved_if yes dirty page i parts) page ≡ no_lines
moved_clean true dirty page i parts agrees none here is =
    cleaned_marks (Full i) (page_installed page (frame_room parts).place dirty (frame_room parts).parts) page
    ((room_stays_by (lowest_empty parts.nvm_clock) page parts agrees none).place ∙ here)
moved_clean false true page i parts agrees none here is = cleaned_marks (Full i) parts page here
moved_clean false false page i parts agrees none here is = marks_at parts page i here ∙ clean_if (dirty_at (Full i) parts.full_dirty parts.minis) is

handed_clean_by : (o : Option ℕ) (page i : ℕ) (parts : Parts) → parts.map.nvm page ≡ o → Agrees parts.map → parts.map.place page ≡ Full i → dirty_lines (handed_by o page i parts) page ≡ no_lines
handed_clean_by (Some k) page i parts e agrees here = stored_clean (dirty_at (Full i) parts.full_dirty parts.minis == no_lines) (Full i) k parts page here refl
handed_clean_by None page i parts e agrees here =
    let answer = admitted (full_dirty_at i parts) page parts in
    let same = map_same (parts.frames == 0) (parts.plan.queue_len == 0) (full_dirty_at i parts) in
    let stays = admission_stays (parts.frames == 0) (parts.plan.queue_len == 0) (full_dirty_at i parts) page page parts in
    moved_clean answer.yes (full_dirty_at i parts) page i answer.parts (subst Agrees (sym same) agrees) (ap (λ (m : Placement). m.nvm page) same ∙ e) (stays.place ∙ here) (sym (marked_on stays here))
  where
    map_drawn : (dirty : Bool) → (drawn_if dirty parts).parts.map ≡ parts.map
    map_drawn true = refl
    map_drawn false = refl

    map_same : (no_frames no_queue dirty : Bool) → (admission_by no_frames no_queue dirty page parts).parts.map ≡ parts.map
    map_same true no_queue dirty = refl
    map_same false true dirty = map_drawn dirty
    map_same false false dirty = refl

pub handed_clean : (page i : ℕ) (parts after : Parts) → after ≡ handed_down page i parts → Agrees parts.map → parts.map.place page ≡ Full i → dirty_lines after page ≡ no_lines
handed_clean page i parts after is agrees here = ap (λ (p : Parts). dirty_lines p page) is ∙ handed_clean_by (parts.map.nvm page) page i parts refl agrees here

-- ---- the page of a full place

pub stands_full : (parts : Parts) (page i : ℕ) → Agrees parts.map → parts.map.full_page i ≡ Some page → AreWhole parts → StandsAt page (Full i) parts
stands_full parts page i agrees owner whole = record { here = at; whole = λ none. whole.each page i at none }
  where
    at : parts.map.place page ≡ Full i
    at = is_full (parts.map.place page) i ((agrees.full page i).1 owner)

pub full_swept_data : (g : Sizes) (v : Option Swept) (parts : Parts) → data_of_parts g (full_swept v parts).parts ≡ data_of_parts g parts
full_swept_data g None parts = refl
full_swept_data g (Some v) parts = refl

full_swept_whole : (v : Option Swept) (parts : Parts) → AreWhole parts → AreWhole (full_swept v parts).parts
full_swept_whole None parts it = it
full_swept_whole (Some v) parts it = record { each = λ page i at none. record { lines = (it.each page i at none).lines } }

pub swept_whole : (v : Option Swept) (parts after : Parts) (i : ℕ) → full_swept v parts ≡ record { place = i; parts = after } → AreWhole parts → AreWhole after
swept_whole v parts after i is it = subst (λ (room : PartsRoom). AreWhole room.parts) is (full_swept_whole v parts it)

-- ---- the page of a mini place

pub mini_swept_data : (g : Sizes) (v : Option Swept) (parts : Parts) → data_of_parts g (mini_swept v parts).parts ≡ data_of_parts g parts
mini_swept_data g None parts = refl
mini_swept_data g (Some v) parts = refl
