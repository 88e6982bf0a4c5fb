-- A page that comes to DRAM or to NVM leads from facts to facts.
use Rattle.std.proofs.Common.{false, ◌≡◌, ℕ, ◌<◌, List, length, refl, sym, ap, ◌∙◌, subst, inl, inr, IsTrue, Some, None, Result, Ok, Err}
use Rattle.std.specs.Prelude.{OnOk}
use Rattle.std.proofs.lemmas.List.{get_or-set_same, get_or-set_other, get_or-replicate}
use Rattle.nvm_model.specs.declared.line.Line.{Line}
use Rattle.devices.specs.State.{State, Image, current}
use Rattle.devices.specs.World.{Standing, now}
use Rattle.line_pages.specs.declared.stop.Stop.{Stop}
use Rattle.line_pages.specs.Bytes.{line_at as byte_line}
use Rattle.store_model.specs.Layout.{Sizes, page_block}
use Rattle.store_model.specs.Format.{word_in}
use Rattle.device_calls.specs.Leads.{Looked, Leads}
use Rattle.device_calls.proofs.LeadsLaws.{leads_looked, leads_then, leads_stop, leads_data, looked_same}
use Rattle.home_move.specs.Frames.{page_lines}
use Rattle.home_move.proofs.FrameLaws.{line_at-block}
use Rattle.tier_map.specs.declared.place.Place.{Place}
use Rattle.tier_map.specs.declared.place.Place.TheVariants.{Absent, Full, Mini}
use Rattle.tier_map.specs.Placement.{Agrees}
use Rattle.tier_map.proofs.PlacementLaws.{changed-same, changed-other}
use Rattle.page_frame.specs.LineSets.{no_lines, has_line}
use Rattle.page_frame.specs.Frames.{Frame, empty_frame, line_at, filled, lines_of_page}
use Rattle.page_frame.proofs.FillLaws.{filled_at}
use Rattle.mini_page.proofs.ChangeLaws.{has_none}
use Rattle.tier_rules.specs.Parts.{Parts, copy_at, dirty_at, copy_line}
use Rattle.tier_facts.specs.Data.{Data, home_of, installed, SameData, Recopied}
use Rattle.tier_facts.specs.Facts.{Aim, Held, Facts, IsClean, AreCurrent}
use Rattle.tier_facts.proofs.PlaceLaws.{facts_held}
use Rattle.tier_facts.proofs.CopyLaws.{some_line}
use Rattle.tier_facts.proofs.LineLaws.{home_block, block_line-word, block_current}
use Rattle.tier_facts.proofs.CallLaws.{leads_recopied, then_same}
use Rattle.part_laws.specs.PartData.{dirty_lines, data_of_parts, SameOthers}
use Rattle.part_laws.proofs.PartLaws.{others_by, free_full, page_recopied}
use Rattle.part_laws.proofs.PartLaws
use Rattle.tier_pool.specs.NvmRoom.{page_installed}
use Rattle.tier_pool.specs.Bringing.{full_placed, block_fetched, place_filled, copied_to, fetched_to_frame}
use Rattle.tier_pool.specs.Standing.{IsBare}
use Rattle.tier_pool.specs.Handing.{InstallsPage}
use Rattle.tier_pool.proofs.CopyLaws.{nothing_at}
use Rattle.tier_pool.proofs.RoomLaws.{at_data}

clash : {A : Type 0} {x : Line} → Some x ≡ None → A
clash e = absurd (let no : ⊥ = cc in no)

-- ---- a page without a copy

no_copy : (parts : Parts) (page l : ℕ) → parts.map.place page ≡ Absent → l < 64 → copy_line parts page l ≡ None
no_copy parts page l absent low = sym (nothing_at (parts.map.place page) parts.arena parts.minis l absent low)

no_marks : (parts : Parts) (page : ℕ) → parts.map.place page ≡ Absent → dirty_lines parts page ≡ no_lines
no_marks parts page absent = ap (λ (x : Place). dirty_at x parts.full_dirty parts.minis) absent

absent_clean : (g : Sizes) (parts : Parts) (page : ℕ) → parts.map.place page ≡ Absent → IsClean (data_of_parts g parts) page
absent_clean g parts page absent = record { lines = λ l hl. ap (λ set. has_line set l) (no_marks parts page absent) ∙ has_none l }

-- ---- a page that is fetched into a full place

fetched_line : (g : Sizes) (t : Data) (image : Image) (page l w : ℕ) (x : Line) (bytes : List ℕ) → t.sizes ≡ g → t.frame page ≡ None → bytes ≡ image.ssd (page_block g page) → x ≡ byte_line bytes l → w < 8
    → word_in x w ≡ home_of t.sizes t image page l w
fetched_line g t image page l w x bytes sizes homeless read is hw =
    ap (λ (y : Line). word_in y w) (is ∙ line_at-block bytes l) ∙ block_line-word bytes l w hw
    ∙ home_block t image page l w bytes homeless (read ∙ ap (λ (s : Sizes). image.ssd (page_block s page)) (sym sizes))

module _ (g : Sizes) (parts : Parts) (page i : ℕ) (bytes : List ℕ) (agrees : Agrees parts.map) (absent : parts.map.place page ≡ Absent) (free : parts.map.full_page i ≡ None)
    (low : i < length parts.arena) where
  abbrev fetched_parts : Parts
  fetched_parts = full_placed page i (place_filled i bytes (block_fetched parts))

  fetched_others : SameOthers page parts fetched_parts
  fetched_others = others_by page parts fetched_parts (λ p other. changed-other page (Full i) parts.map.place p other)
      (λ p n other at. (get_or-set_other parts.arena i n (filled (lines_of_page bytes)) empty_frame (λ e. free_full parts.map agrees i free p (at ∙ ap (λ (x : ℕ). Full x) e)), refl))
      (λ p j other at. refl)

  fetched_place : fetched_parts.map.place page ≡ Full i
  fetched_place = changed-same page (Full i) parts.map.place page refl

  fetched_lines : (l : ℕ) → l < 64 → copy_line fetched_parts page l ≡ Some (byte_line bytes l)
  fetched_lines l hl = ap (λ (x : Place). line_at (copy_at x fetched_parts.arena parts.minis) l) fetched_place
      ∙ ap (λ (f : Frame). line_at f l) (get_or-set_same parts.arena i (filled (lines_of_page bytes)) empty_frame low)
      ∙ filled_at bytes l hl

  pub fetched_data : parts.map.nvm page ≡ None → IsBare parts (Full i) → (image : Image) → bytes ≡ image.ssd (page_block g page)
      → Recopied (data_of_parts g parts) (data_of_parts g (full_placed page i (place_filled i bytes (block_fetched parts)))) image
  fetched_data homeless bare image read =
      page_recopied g parts fetched_parts page fetched_others (record { nvm = λ p. refl; frame_page = λ k. refl; marks = refl }) image (λ l hl. inr (record {
        was = λ dirty. no_copy parts page l absent hl;
        clean = ap (λ (x : Place). has_line (dirty_at x parts.full_dirty parts.minis) l) fetched_place ∙ ap (λ set. has_line set l) bare.clean ∙ has_none l;
        words = λ x at w hw. fetched_line g (data_of_parts g parts) image page l w x bytes refl homeless read (some_line x (byte_line bytes l) (sym at ∙ fetched_lines l hl)) hw;
      }))

  pub fetches_into : {a b : Standing} → parts.map.nvm page ≡ None → IsBare parts (Full i) → Looked {T = Unit {0}} a b (Ok tt) → (IsTrue a.told → bytes ≡ ((now a).ssd (page_block g page)).bytes)
      → Leads {T = Unit {0}} Held (Facts (data_of_parts g parts)) (Facts (data_of_parts g (full_placed page i (place_filled i bytes (block_fetched parts))))) a b (Ok tt)
  fetches_into {a} homeless bare looked read = leads_recopied looked (λ told. fetched_data homeless bare (current (now a)) (read told))

-- ---- a copy with no line over the page's frame

module _ (g : Sizes) (page : ℕ) (parts : Parts) (absent : parts.map.place page ≡ Absent) (image : Image) where
  -- the page has an empty place
  placed_empty : (place : Place) (new : Parts) → new.map.place page ≡ place → SameOthers page parts new → ((p : ℕ) → new.map.nvm p ≡ parts.map.nvm p) → ((k : ℕ) → new.map.frame_page k ≡ parts.map.frame_page k)
      → new.frame_dirty ≡ parts.frame_dirty → IsBare new place → Recopied (data_of_parts g parts) (data_of_parts g new) image
  placed_empty place new here others nvm owners marks bare = page_recopied g parts new page others (record { nvm = nvm; frame_page = owners; marks = marks }) image (λ l hl. inl (
    ap (λ (x : Place). line_at (copy_at x new.arena new.minis) l) here ∙ ap (λ (f : Frame). line_at f l) bare.empty ∙ get_or-replicate 64 l None None hl ∙ sym (no_copy parts page l absent hl),
    ap (λ (x : Place). has_line (dirty_at x new.full_dirty new.minis) l) here ∙ ap (λ set. has_line set l) bare.clean ∙ sym (ap (λ set. has_line set l) (no_marks parts page absent)),
  ))

  pub copied_data : (place : Place) → IsBare parts place → Recopied (data_of_parts g parts) (data_of_parts g (copied_to place page parts)) image
  copied_data Absent bare = placed_empty Absent (copied_to Absent page parts) absent (record { copies = λ p l other. refl; dirty = λ p other. refl }) (λ p. refl) (λ k. refl) refl
      (record { empty = refl; clean = refl })
  copied_data (Full i) bare = placed_empty (Full i) (copied_to (Full i) page parts) (changed-same page (Full i) parts.map.place page refl)
      (others_by page parts (copied_to (Full i) page parts) (λ p other. changed-other page (Full i) parts.map.place p other) (λ p n other at. (refl, refl)) (λ p j other at. refl))
      (λ p. refl) (λ k. refl) refl (record { empty = bare.empty; clean = bare.clean })
  copied_data (Mini j) bare = placed_empty (Mini j) (copied_to (Mini j) page parts) (changed-same page (Mini j) parts.map.place page refl)
      (others_by page parts (copied_to (Mini j) page parts) (λ p other. changed-other page (Mini j) parts.map.place p other) (λ p n other at. (refl, refl)) (λ p n other at. refl))
      (λ p. refl) (λ k. refl) refl (record { empty = bare.empty; clean = bare.clean })

-- ---- a page that is fetched to a frame

block_lines : (t : Data) (image : Image) (page : ℕ) (bytes : List ℕ) → t.frame page ≡ None → ((l : ℕ) → l < 64 → t.copy page l ≡ None) → bytes ≡ image.ssd (page_block t.sizes page)
    → AreCurrent t image page (page_lines bytes)
unfolding page_lines
block_lines t image page bytes homeless absent read = block_current t image page bytes homeless absent read

framed_data : (g : Sizes) (parts : Parts) (page k : ℕ) → parts.map.place page ≡ Absent → k < length parts.frame_dirty
    → SameData (installed page k false (data_of_parts g parts)) (data_of_parts g (fetched_to_frame page k parts))
framed_data g parts page k absent low =
    PartLaws.page_installed g parts (fetched_to_frame page k parts) page k false (record { copies = λ p l other. refl; dirty = λ p other. refl })
    (λ l hl. refl) (no_marks parts page absent) (λ p. refl) (λ n. refl) low refl

pub fetches_to_frame : {T : Type 0} {a b c : Standing} {r : Result T Stop} {g g' : Sizes} (parts fetched : Parts) (page k : ℕ) (bytes : List ℕ) → g' ≡ g → fetched ≡ block_fetched parts → parts.map.place page ≡ Absent → parts.map.nvm page ≡ None
    → k < length parts.frame_dirty → Looked {T = Unit {0}} a b (Ok tt) → (IsTrue a.told → bytes ≡ ((now a).ssd (page_block g page)).bytes)
    → InstallsPage g' page k false bytes fetched b c r → Leads Held (Facts (data_of_parts g parts)) (Facts (data_of_parts g (fetched_to_frame page k parts))) a c r
fetches_to_frame {a = a} {b = b} {c = c} {r = r} {g = g} {g' = g'} parts fetched page k bytes sizes is absent homeless low looked read installs =
    let at_page : InstallsPage g page k false bytes (block_fetched parts) b c r = subst (λ (p : Parts). InstallsPage g page k false bytes p b c r) is (subst (λ (x : Sizes). InstallsPage x page k false bytes fetched b c r) sizes installs) in
    then_same (framed_data g parts page k absent low)
    (leads_then (leads_looked (facts_held (data_of_parts g parts)) looked)
    (at_page.read (absent_clean g parts page absent) (λ told.
    let before : IsTrue a.told = subst (λ t. IsTrue t) looked.goes.told told in
    subst (λ (s : State). AreCurrent (data_of_parts g parts) (current s) page (page_lines bytes)) (sym (looked_same looked before))
    (block_lines (data_of_parts g parts) (current (now a)) page bytes homeless (λ l hl. no_copy parts page l absent hl) (read before)))))

-- ---- fields that are known where the call answers ok

pub leads_when : {T : Type 0} {A : Aim → State → Type 0} {a b : Standing} (F : Data → Aim → State → Type 0) {g g' : Sizes} (parts new : Parts) (r : Result T Stop) → g' ≡ g → OnOk r (new ≡ parts)
    → Leads Held A (F (data_of_parts g parts)) a b r → Leads Held A (F (data_of_parts g' new)) a b r
leads_when F parts new (Ok v) same made call = leads_data F (at_data same made) call
leads_when F parts new (Err why) same made call = leads_stop call (Err why) refl

-- a page that is installed behind a fetch
pub fetched_frame : {T : Type 0} (parts fetched new : Parts) (page k : ℕ) (r : Result T Stop) → fetched ≡ block_fetched parts → OnOk r (new ≡ page_installed page k false fetched)
    → OnOk r (new ≡ fetched_to_frame page k parts)
fetched_frame parts fetched new page k (Ok v) is made = made ∙ ap (page_installed page k false) is
fetched_frame parts fetched new page k (Err why) is made = tt
