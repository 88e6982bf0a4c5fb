-- Lines that are loaded into a copy, written in it or move with it, as the facts of the tiers have them.
use Rattle.std.proofs.Common.{false, ◌≡◌, ◌≢◌, ℕ, ◌<◌, [], length, get_or, slice_index, refl, sym, ap, ◌∙◌, subst, inl, inr, arith, IsTrue, Option, Some, None, Result, Ok}
use Rattle.std.specs.Prelude.{IsSome, IfSome, IfOk}
use Rattle.std.proofs.lemmas.Bool.{cases_Bool, cases_eq}
use Rattle.std.proofs.lemmas.List.{get_or-set_same, get_or-set_other}
use Rattle.nvm_model.specs.declared.line.Line.{Line}
use Rattle.devices.specs.State.{State, Image, current, line_at as loaded_line}
use Rattle.devices.specs.World.{Standing, now}
use Rattle.line_pages.specs.declared.stop.Stop.{Stop}
use Rattle.store_model.specs.Layout.{Sizes, frame_line}
use Rattle.device_calls.specs.Leads.{Looked, Leads, Given}
use Rattle.device_calls.proofs.LeadsLaws.{leads_ok}
use Rattle.tier_map.specs.declared.place.Place.{Place}
use Rattle.tier_map.specs.declared.place.Place.TheVariants.{Absent, Full, Mini}
use Rattle.tier_map.specs.Placement.{Agrees, changed, without_dram}
use Rattle.tier_map.proofs.PlacementLaws.{changed-same, changed-other}
use Rattle.page_frame.specs.LineSets.{has_line, with_line}
use Rattle.page_frame.specs.Frames.{Frame, empty_frame, frame_at, frame_changed, with_value, line_at}
use Rattle.mini_page.specs.MiniPages.{MiniPage, empty_mini, mini_at, added, changed_line, with_mini}
use Rattle.tier_rules.specs.Tallies.{one_promotion}
use Rattle.tier_rules.specs.Parts.{Parts, copy_at, dirty_at, copy_line}
use Rattle.tier_facts.specs.Data.{put_in, SameData, IsHome, Recopied}
use Rattle.tier_facts.specs.Facts.{Held, Facts}
use Rattle.tier_facts.specs.Reads.{IsCurrentLine}
use Rattle.tier_facts.proofs.CopyLaws.{some_line}
use Rattle.tier_facts.proofs.LineLaws.{home_line}
use Rattle.tier_facts.proofs.CallLaws.{leads_recopied}
use Rattle.tier_facts.proofs.CurrentLaws.{leads_framed}
use Rattle.part_laws.specs.PartData.{dirty_lines, data_of_parts, SameOthers}
use Rattle.part_laws.proofs.PartLaws.{others_by, alone_full, alone_mini, free_full, page_recopied, page_put}
use Rattle.tier_pool.specs.Places.{place_emptied}
use Rattle.tier_pool.specs.Bringing.{full_placed}
use Rattle.tier_pool.specs.Standing.{AreThere}
use Rattle.tier_pool.specs.Touching.{LiesInFrame, loaded_to_full, loaded_to_mini, full_written, mini_written, lines_moved, promoted}
use Rattle.tier_pool.proofs.CopyLaws.{other_default}

clash : {A : Type 0} {x : Line} → Some x ≡ None → A
clash e = absurd (let no : ⊥ = cc in no)

-- a line that a copy has not is not dirty
pub not_dirty : (parts : Parts) (page l : ℕ) → l < 64 → AreThere parts → copy_line parts page l ≡ None → has_line (dirty_lines parts page) l ≡ false
not_dirty parts page l low there absent = elim (cases_Bool (has_line (dirty_lines parts page) l)) [
  | inr not ↦ not
  | inl is ↦ (let found : (value : Line) × (copy_line parts page l ≡ Some value) = there.each (parts.map.place page) l low is in clash (sym found.1 ∙ absent))
]

-- a line that was read of the frame of its page is its home
loaded_home : (g : Sizes) (parts new : Parts) (page k l : ℕ) (value : Line) (s : State) → parts.map.nvm page ≡ Some k → l < 64 → AreThere parts → copy_line parts page l ≡ None
    → copy_line new page l ≡ Some value → dirty_lines new page ≡ dirty_lines parts page → value ≡ loaded_line s (frame_line g k l) → IsHome (data_of_parts g parts) (data_of_parts g new) (current s) page l
loaded_home g parts new page k l value s placed low there absent here marks read = record {
  was = λ dirty. absent;
  clean = ap (λ set. has_line set l) marks ∙ not_dirty parts page l low there absent;
  words = λ x at w hw. home_line (data_of_parts g parts) s page k l w x placed (some_line x value (sym at ∙ here) ∙ read) hw;
}

-- ---- a full copy

module _ (g : Sizes) (parts : Parts) (page i line : ℕ) (value : Line) (agrees : Agrees parts.map) (here : parts.map.place page ≡ Full i)
    (low : i < length parts.arena) (whole : length (frame_at parts.arena i) ≡ 64) (in_page : line < 64) where
  full_apart : (p n : ℕ) → p ≢ page → parts.map.place p ≡ Full n → n ≢ i
  full_apart p n other at e = other (alone_full parts.map agrees page p i here (at ∙ ap (λ (x : ℕ). Full x) e))

  full_line_here : line_at (get_or (frame_changed i (with_value line value) parts.arena) i empty_frame) line ≡ Some value
  full_line_here = ap (λ (f : Frame). line_at f line) (get_or-set_same parts.arena i (with_value line value (frame_at parts.arena i)) empty_frame low)
      ∙ get_or-set_same (frame_at parts.arena i) line (Some value) None (omega (arith, whole, in_page))

  full_line_other : (l : ℕ) → l ≢ line → line_at (get_or (frame_changed i (with_value line value) parts.arena) i empty_frame) l ≡ line_at (get_or parts.arena i empty_frame) l
  full_line_other l other = ap (λ (f : Frame). line_at f l) (get_or-set_same parts.arena i (with_value line value (frame_at parts.arena i)) empty_frame low)
      ∙ get_or-set_other (frame_at parts.arena i) line l (Some value) None other
      ∙ ap (λ (f : Frame). line_at f l) (other_default parts.arena i [] empty_frame low)

  -- a line was loaded
  loaded_full_others : SameOthers page parts (loaded_to_full i line value parts)
  loaded_full_others = others_by page parts (loaded_to_full i line value parts) (λ p other. refl)
      (λ p n other at. (get_or-set_other parts.arena i n (with_value line value (frame_at parts.arena i)) empty_frame (full_apart p n other at), refl)) (λ p j other at. refl)

  loaded_full_line : copy_line (loaded_to_full i line value parts) page line ≡ Some value
  loaded_full_line = ap (λ (x : Place). line_at (copy_at x (loaded_to_full i line value parts).arena parts.minis) line) here ∙ full_line_here

  pub loaded_full : (k : ℕ) (s : State) → AreThere parts → LiesInFrame g page line (Some k) parts → value ≡ loaded_line s (frame_line g k line)
      → Recopied (data_of_parts g parts) (data_of_parts g (loaded_to_full i line value parts)) (current s)
  loaded_full k s there lies read =
      page_recopied g parts (loaded_to_full i line value parts) page loaded_full_others (record { nvm = λ p. refl; frame_page = λ n. refl; marks = refl }) (current s) (λ l hl. elim (cases_eq l line) [
        | inl same ↦ inr (subst (λ (n : ℕ). IsHome (data_of_parts g parts) (data_of_parts g (loaded_to_full i line value parts)) (current s) page n) (sym same)
            (loaded_home g parts (loaded_to_full i line value parts) page k line value s lies.framed in_page there lies.uncopied loaded_full_line refl read))
        | inr other ↦ inl (
          ap (λ (x : Place). line_at (copy_at x (loaded_to_full i line value parts).arena parts.minis) l) here ∙ full_line_other l other
              ∙ sym (ap (λ (x : Place). line_at (copy_at x parts.arena parts.minis) l) here),
          refl,
        )
      ])

  -- a line was written
  pub written_full : i < length parts.full_dirty → SameData (put_in page line value (data_of_parts g parts)) (data_of_parts g (full_written i line value parts))
  written_full marks = page_put g parts (full_written i line value parts) page
      (others_by page parts (full_written i line value parts) (λ p other. refl)
      (λ p n other at. (
        get_or-set_other parts.arena i n (with_value line value (frame_at parts.arena i)) empty_frame (full_apart p n other at),
        get_or-set_other parts.full_dirty i n (with_line (slice_index parts.full_dirty i) line) 0 (full_apart p n other at),
      )) (λ p j other at. refl))
      (record { nvm = λ p. refl; frame_page = λ n. refl; marks = refl }) line value in_page
      (ap (λ (x : Place). line_at (copy_at x (full_written i line value parts).arena parts.minis) line) here ∙ full_line_here)
      (λ l hl other. ap (λ (x : Place). line_at (copy_at x (full_written i line value parts).arena parts.minis) l) here ∙ full_line_other l other
      ∙ sym (ap (λ (x : Place). line_at (copy_at x parts.arena parts.minis) l) here))
      (ap (λ (x : Place). dirty_at x (full_written i line value parts).full_dirty parts.minis) here
      ∙ get_or-set_same parts.full_dirty i (with_line (slice_index parts.full_dirty i) line) 0 marks
      ∙ ap (λ (set : ℕ). with_line set line) (sym (ap (λ (x : Place). dirty_at x parts.full_dirty parts.minis) here)))

-- ---- a mini copy

module _ (g : Sizes) (parts : Parts) (page j line : ℕ) (value : Line) (agrees : Agrees parts.map) (here : parts.map.place page ≡ Mini j)
    (low : j < length parts.minis) (whole : length (mini_at parts.minis j).places ≡ 64) (in_page : line < 64) where
  mini_apart : (p n : ℕ) → p ≢ page → parts.map.place p ≡ Mini n → n ≢ j
  mini_apart p n other at e = other (alone_mini parts.map agrees page p j here (at ∙ ap (λ (x : ℕ). Mini x) e))

  -- a line was loaded
  loaded_mini_others : SameOthers page parts (loaded_to_mini j line value parts)
  loaded_mini_others = others_by page parts (loaded_to_mini j line value parts) (λ p other. refl) (λ p n other at. (refl, refl))
      (λ p n other at. get_or-set_other parts.minis j n (added line value (mini_at parts.minis j)) empty_mini (mini_apart p n other at))

  loaded_mini_page : get_or (loaded_to_mini j line value parts).minis j empty_mini ≡ added line value (mini_at parts.minis j)
  loaded_mini_page = get_or-set_same parts.minis j (added line value (mini_at parts.minis j)) empty_mini low

  loaded_mini_line : copy_line (loaded_to_mini j line value parts) page line ≡ Some value
  loaded_mini_line = ap (λ (x : Place). line_at (copy_at x parts.arena (loaded_to_mini j line value parts).minis) line) here
      ∙ ap (λ (m : MiniPage). line_at m.places line) loaded_mini_page
      ∙ get_or-set_same (mini_at parts.minis j).places line (Some value) None (omega (arith, whole, in_page))

  loaded_mini_other : (l : ℕ) → l ≢ line → copy_line (loaded_to_mini j line value parts) page l ≡ copy_line parts page l
  loaded_mini_other l other = ap (λ (x : Place). line_at (copy_at x parts.arena (loaded_to_mini j line value parts).minis) l) here
      ∙ ap (λ (m : MiniPage). line_at m.places l) loaded_mini_page
      ∙ get_or-set_other (mini_at parts.minis j).places line l (Some value) None other
      ∙ sym (ap (λ (x : Place). line_at (copy_at x parts.arena parts.minis) l) here)

  loaded_mini_marks : dirty_lines (loaded_to_mini j line value parts) page ≡ dirty_lines parts page
  loaded_mini_marks = ap (λ (x : Place). dirty_at x parts.full_dirty (loaded_to_mini j line value parts).minis) here
      ∙ ap (λ (m : MiniPage). m.dirty) loaded_mini_page
      ∙ sym (ap (λ (x : Place). dirty_at x parts.full_dirty parts.minis) here)

  pub loaded_mini : (k : ℕ) (s : State) → AreThere parts → LiesInFrame g page line (Some k) parts → value ≡ loaded_line s (frame_line g k line)
      → Recopied (data_of_parts g parts) (data_of_parts g (loaded_to_mini j line value parts)) (current s)
  loaded_mini k s there lies read =
      page_recopied g parts (loaded_to_mini j line value parts) page loaded_mini_others (record { nvm = λ p. refl; frame_page = λ n. refl; marks = refl }) (current s) (λ l hl. elim (cases_eq l line) [
        | inl same ↦ inr (subst (λ (n : ℕ). IsHome (data_of_parts g parts) (data_of_parts g (loaded_to_mini j line value parts)) (current s) page n) (sym same)
            (loaded_home g parts (loaded_to_mini j line value parts) page k line value s lies.framed in_page there lies.uncopied loaded_mini_line loaded_mini_marks read))
        | inr other ↦ inl (loaded_mini_other l other, ap (λ set. has_line set l) loaded_mini_marks)
      ])

  -- a line was written
  written_mini_page : get_or (mini_written j line value parts).minis j empty_mini ≡ changed_line line value (mini_at parts.minis j)
  written_mini_page = get_or-set_same parts.minis j (changed_line line value (mini_at parts.minis j)) empty_mini low

  pub written_mini : SameData (put_in page line value (data_of_parts g parts)) (data_of_parts g (mini_written j line value parts))
  written_mini = page_put g parts (mini_written j line value parts) page
      (others_by page parts (mini_written j line value parts) (λ p other. refl) (λ p n other at. (refl, refl))
      (λ p n other at. get_or-set_other parts.minis j n (changed_line line value (mini_at parts.minis j)) empty_mini (mini_apart p n other at)))
      (record { nvm = λ p. refl; frame_page = λ n. refl; marks = refl }) line value in_page
      (ap (λ (x : Place). line_at (copy_at x parts.arena (mini_written j line value parts).minis) line) here
      ∙ ap (λ (m : MiniPage). line_at m.places line) written_mini_page ∙ get_or-set_same (mini_at parts.minis j).places line (Some value) None (omega (arith, whole, in_page)))
      (λ l hl other. ap (λ (x : Place). line_at (copy_at x parts.arena (mini_written j line value parts).minis) l) here
      ∙ ap (λ (m : MiniPage). line_at m.places l) written_mini_page ∙ get_or-set_other (mini_at parts.minis j).places line l (Some value) None other
      ∙ sym (ap (λ (x : Place). line_at (copy_at x parts.arena parts.minis) l) here))
      (ap (λ (x : Place). dirty_at x parts.full_dirty (mini_written j line value parts).minis) here ∙ ap (λ (m : MiniPage). m.dirty) written_mini_page
      ∙ ap (λ (set : ℕ). with_line set line) (sym (ap (λ (x : Place). dirty_at x parts.full_dirty parts.minis) here)))

-- ---- a mini copy that becomes a full one

module _ (g : Sizes) (parts : Parts) (page j i : ℕ) (agrees : Agrees parts.map) (here : parts.map.place page ≡ Mini j) (free : parts.map.full_page i ≡ None)
    (low : i < length parts.arena) (marks_low : i < length parts.full_dirty) where
  abbrev moved_from : Place → Parts
  moved_from place = let moved = full_placed page i (record (place_emptied place (lines_moved j i parts)) { map = without_dram page parts.map }) in record moved { tally = one_promotion moved.tally }

  free_apart : (p n : ℕ) → parts.map.place p ≡ Full n → n ≢ i
  free_apart p n at e = free_full parts.map agrees i free p (at ∙ ap (λ (x : ℕ). Full x) e)

  moved_apart : (p n : ℕ) → p ≢ page → parts.map.place p ≡ Mini n → n ≢ j
  moved_apart p n other at e = other (alone_mini parts.map agrees page p j here (at ∙ ap (λ (x : ℕ). Mini x) e))

  moved_others : SameOthers page parts (moved_from (Mini j))
  moved_others = others_by page parts (moved_from (Mini j))
      (λ p other. changed-other page (Full i) (changed page Absent parts.map.place) p other ∙ changed-other page Absent parts.map.place p other)
      (λ p n other at. (
        get_or-set_other parts.arena i n (mini_at parts.minis j).places empty_frame (free_apart p n at),
        get_or-set_other parts.full_dirty i n (mini_at parts.minis j).dirty 0 (free_apart p n at),
      ))
      (λ p n other at. get_or-set_other (with_mini j empty_mini parts.minis) j n empty_mini empty_mini (moved_apart p n other at)
      ∙ get_or-set_other parts.minis j n empty_mini empty_mini (moved_apart p n other at))

  now_full : (moved_from (Mini j)).map.place page ≡ Full i
  now_full = changed-same page (Full i) (changed page Absent parts.map.place) page refl

  moved_line : (l : ℕ) → copy_line (moved_from (Mini j)) page l ≡ copy_line parts page l
  moved_line l = ap (λ (x : Place). line_at (copy_at x (moved_from (Mini j)).arena (moved_from (Mini j)).minis) l) now_full
      ∙ ap (λ (f : Frame). line_at f l) (get_or-set_same parts.arena i (mini_at parts.minis j).places empty_frame low)
      ∙ sym (ap (λ (x : Place). line_at (copy_at x parts.arena parts.minis) l) here)

  moved_marks : dirty_lines (moved_from (Mini j)) page ≡ dirty_lines parts page
  moved_marks = ap (λ (x : Place). dirty_at x (moved_from (Mini j)).full_dirty (moved_from (Mini j)).minis) now_full
      ∙ get_or-set_same parts.full_dirty i (mini_at parts.minis j).dirty 0 marks_low
      ∙ sym (ap (λ (x : Place). dirty_at x parts.full_dirty parts.minis) here)

  pub promoted_data : (image : Image) → Recopied (data_of_parts g parts) (data_of_parts g (promoted page j i parts)) image
  promoted_data image = subst (λ (x : Place). Recopied (data_of_parts g parts) (data_of_parts g (moved_from x)) image) (sym here)
      (page_recopied g parts (moved_from (Mini j)) page moved_others (record { nvm = λ p. refl; frame_page = λ n. refl; marks = refl }) image
      (λ l hl. inl (moved_line l, ap (λ set. has_line set l) moved_marks)))

-- ---- loads, by the frame in which an access works

module _ (g : Sizes) (parts : Parts) (page line : ℕ) (in_page : line < 64) where
  -- a line of the frame
  pub reads_frame : {a b : Standing} (r : Result Line Stop) (frame : Option ℕ) → IsSome frame → LiesInFrame g page line frame parts → Looked a b r
      → (IsTrue a.told → IfOk r (λ found. IfSome frame (λ k. found ≡ loaded_line (now a) (frame_line g k line))))
      → Leads Held (Facts (data_of_parts g parts)) (Given (IsCurrentLine page line r) (Facts (data_of_parts g parts))) a b r
  reads_frame r None some lies looked value = absurd (let no : ⊥ = cc in no)
  reads_frame r (Some k) some lies looked value =
      leads_framed r (data_of_parts g parts) page k line (record { in_store = lies.in_store; placed = lies.framed }) in_page lies.uncopied looked value

  -- one that goes into a copy
  pub loads_frame : {a b : Standing} (value : Line) (new : Parts) (frame : Option ℕ) → IsSome frame → LiesInFrame g page line frame parts
      → ((k : ℕ) → LiesInFrame g page line (Some k) parts → value ≡ loaded_line (now a) (frame_line g k line) → Recopied (data_of_parts g parts) (data_of_parts g new) (current (now a)))
      → Looked {T = Line} a b (Ok value) → (IsTrue a.told → IfSome frame (λ k. value ≡ loaded_line (now a) (frame_line g k line)))
      → Leads {T = Unit {0}} Held (Facts (data_of_parts g parts)) (Facts (data_of_parts g new)) a b (Ok tt)
  loads_frame value new None some lies recopied looked read = absurd (let no : ⊥ = cc in no)
  loads_frame value new (Some k) some lies recopied looked read = leads_ok (leads_recopied looked (λ told. recopied k lies (read told)))
