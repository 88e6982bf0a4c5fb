-- A page that leaves its frame leads from facts to facts.
use Rattle.std.proofs.Common.{Bool, true, false, ◌≡◌, ◌≢◌, ℕ, ◌<◌, List, [], get_or, refl, sym, ap, ◌∙◌, subst, inr, IsTrue, Option, Some, None, Result, Ok, Err}
use Rattle.std.specs.Prelude.{OnOk, ◌==◌}
use Rattle.std.proofs.lemmas.Bool.{eqb-true}
use Rattle.devices.specs.State.{State, Image}
use Rattle.devices.specs.World.{Standing, now}
use Rattle.line_pages.specs.declared.stop.Stop.{Stop}
use Rattle.store_model.specs.Layout.{Sizes, pages}
use Rattle.device_calls.specs.Leads.{Made, Leads}
use Rattle.device_calls.proofs.LeadsLaws.{leads_given}
use Rattle.home_move.specs.Moves.{Releases, release_makes}
use Rattle.tier_map.specs.declared.place.Place.{Place}
use Rattle.tier_map.specs.declared.place.Place.TheVariants.{Absent, Full, Mini}
use Rattle.tier_map.specs.Placement.{Placement, Agrees, without_dram}
use Rattle.tier_map.proofs.PlacementLaws.{changed-same, changed-other}
use Rattle.page_frame.specs.LineSets.{no_lines, has_line}
use Rattle.page_frame.specs.Frames.{empty_frame}
use Rattle.mini_page.specs.MiniPages.{empty_mini}
use Rattle.mini_page.proofs.ChangeLaws.{has_none}
use Rattle.std.proofs.lemmas.List.{get_or-set_other}
use Rattle.clock_sweep.specs.Clock.{Swept}
use Rattle.tier_rules.specs.Parts.{Parts, dirty_at}
use Rattle.tier_facts.specs.Data.{Data, released, Recopied}
use Rattle.tier_facts.specs.Facts.{Aim, Held, Hard, IsHardened, InFrame, HoldsFrame}
use Rattle.tier_facts.proofs.CallLaws.{hard_held, leads_released, leads_cleared, then_same_hard, then_recopied_hard}
use Rattle.part_laws.specs.PartData.{dirty_lines, data_of_parts, SameOthers, SameFrames}
use Rattle.part_laws.proofs.PartLaws.{others_by, alone_full, alone_mini, page_recopied, page_released}
use Rattle.tier_pool.specs.Places.{place_emptied, copy_dropped, frame_marked, copy_stored, stored_unless}
use Rattle.tier_pool.specs.NvmRoom.{copy_given_up, frame_left, frame_swept}
use Rattle.tier_pool.specs.Storing.{StoresBack}
use Rattle.tier_pool.proofs.CopyLaws.{nothing_at}
use Rattle.tier_pool.proofs.StoringLaws.{cleaned_marks}

clash : {A : Type 0} {x : Bool} → x ≡ true → x ≡ false → A
clash e f = absurd (let no : ⊥ = cc in no)

none_some : {A B : Type 0} {x : B} → None ≡ Some x → A
none_some e = absurd (let no : ⊥ = cc in no)

-- ---- a clean copy that is dropped

emptied_frames : (place : Place) (parts : Parts) (m : Placement) → ((p : ℕ) → m.nvm p ≡ parts.map.nvm p) → ((k : ℕ) → m.frame_page k ≡ parts.map.frame_page k) → SameFrames parts (record (place_emptied place parts) { map = m })
emptied_frames Absent parts m nvm owners = record { nvm = nvm; frame_page = owners; marks = refl }
emptied_frames (Full i) parts m nvm owners = record { nvm = nvm; frame_page = owners; marks = refl }
emptied_frames (Mini j) parts m nvm owners = record { nvm = nvm; frame_page = owners; marks = refl }

pub emptied_others : (place : Place) (parts : Parts) (page : ℕ) → Agrees parts.map → parts.map.place page ≡ place → (m : Placement) → ((p : ℕ) → p ≢ page → m.place p ≡ parts.map.place p)
    → SameOthers page parts (record (place_emptied place parts) { map = m })
emptied_others Absent parts page agrees here m places = others_by page parts (record parts { map = m }) places (λ p i other at. (refl, refl)) (λ p j other at. refl)
emptied_others (Full i) parts page agrees here m places = others_by page parts (record (place_emptied (Full i) parts) { map = m }) places
    (λ p n other at. (
      get_or-set_other parts.arena i n empty_frame empty_frame (λ e. other (alone_full parts.map agrees page p i here (at ∙ ap (λ (x : ℕ). Full x) e))),
      get_or-set_other parts.full_dirty i n no_lines 0 (λ e. other (alone_full parts.map agrees page p i here (at ∙ ap (λ (x : ℕ). Full x) e))),
    )) (λ p j other at. refl)
emptied_others (Mini j) parts page agrees here m places = others_by page parts (record (place_emptied (Mini j) parts) { map = m }) places (λ p i other at. (refl, refl))
    (λ p n other at. get_or-set_other parts.minis j n empty_mini empty_mini (λ e. other (alone_mini parts.map agrees page p j here (at ∙ ap (λ (x : ℕ). Mini x) e))))

pub dropped_data : (g : Sizes) (parts : Parts) (page : ℕ) → Agrees parts.map → dirty_lines parts page ≡ no_lines → (i : Image) → Recopied (data_of_parts g parts) (data_of_parts g (copy_dropped page parts)) i
dropped_data g parts page agrees clean i = page_recopied g parts (copy_dropped page parts) page
    (emptied_others (parts.map.place page) parts page agrees refl (without_dram page parts.map) (λ p other. changed-other page Absent parts.map.place p other))
    (emptied_frames (parts.map.place page) parts (without_dram page parts.map) (λ p. refl) (λ k. refl)) i
    (λ l low. inr (record {
      was = λ dirty. clash dirty (ap (λ set. has_line set l) clean ∙ has_none l);
      clean = ap (λ (x : Place). has_line (dirty_at x (copy_dropped page parts).full_dirty (copy_dropped page parts).minis) l) absent ∙ has_none l;
      words = λ x at w hw. none_some (nothing_at ((copy_dropped page parts).map.place page) (copy_dropped page parts).arena (copy_dropped page parts).minis l absent low ∙ at);
    }))
  where
    absent : (copy_dropped page parts).map.place page ≡ Absent
    absent = changed-same page Absent parts.map.place page refl

-- ---- storing back, and then dropping

stored_map : (b : Bool) (place : Place) (k : ℕ) (parts : Parts) → (stored_unless b place k parts).map ≡ parts.map
stored_map true place k parts = refl
stored_map false Absent k parts = refl
stored_map false (Full i) k parts = refl
stored_map false (Mini j) k parts = refl

pub stored_clean : (b : Bool) (place : Place) (k : ℕ) (parts : Parts) (page : ℕ) → parts.map.place page ≡ place → (dirty_at place parts.full_dirty parts.minis == no_lines) ≡ b → dirty_lines (stored_unless b place k parts) page ≡ no_lines
stored_clean true place k parts page here none = ap (λ (x : Place). dirty_at x parts.full_dirty parts.minis) here ∙ eqb-true (dirty_at place parts.full_dirty parts.minis) no_lines none
stored_clean false place k parts page here some = cleaned_marks place (frame_marked k parts) page here

pub given_up_nvm : (parts : Parts) (page k p : ℕ) → (copy_given_up page k parts).map.nvm p ≡ parts.map.nvm p
given_up_nvm parts page k p = ap (λ (m : Placement). m.nvm p) (stored_map (dirty_at (parts.map.place page) parts.full_dirty parts.minis == no_lines) (parts.map.place page) k parts)

pub gives_up : {T : Type 0} {a b : Standing} {r : Result T Stop} (g : Sizes) (parts : Parts) (page k : ℕ) → Agrees parts.map → page < pages g → parts.map.nvm page ≡ Some k
    → StoresBack g (parts.map.place page) k parts (copy_stored (parts.map.place page) k parts) a b r → Leads Held (Hard (data_of_parts g parts)) (Hard (data_of_parts g (copy_given_up page k parts))) a b r
gives_up g parts page k agrees low placed back =
    then_recopied_hard (dropped_data g (copy_stored (parts.map.place page) k parts) page (subst Agrees (sym same_map) agrees)
    (stored_clean (dirty_at (parts.map.place page) parts.full_dirty parts.minis == no_lines) (parts.map.place page) k parts page refl refl))
    (back.each page (record { in_store = low; here = refl; framed = placed }) agrees)
  where
    same_map : (copy_stored (parts.map.place page) k parts).map ≡ parts.map
    same_map = stored_map (dirty_at (parts.map.place page) parts.full_dirty parts.minis == no_lines) (parts.map.place page) k parts

-- ---- the release

never : {T : Type 0} (X : Type 0) (o : Option (List ℕ)) → o ≡ None → (x : Result T Stop) → OnOk x (IsTrue true → o ≢ None) → OnOk x X
never X o none (Ok v) some = absurd (some refl none)
never X o none (Err why) some = tt

pub released_call : {T : Type 0} {a b : Standing} {r : Result T Stop} (t : Data) (page k : ℕ) → InFrame t page k → (write : Bool) → (write ≡ false → t.worn k ≡ false) → (loaded : Option (List ℕ))
    → Made (release_makes t.sizes k page write loaded) a b r → (IsTrue a.told → (bytes : List ℕ) → loaded ≡ Some bytes → HoldsFrame t.sizes k (now a) bytes) → OnOk r (IsTrue write → loaded ≢ None)
    → Leads Held (Hard t) (Hard (released page k t)) a b r
released_call t page k place false unworn loaded made holds whole = leads_given IsHardened (leads_cleared page k place (unworn refl) made)
released_call t page k place true unworn (Some bytes) made holds whole = leads_given IsHardened (leads_released page k bytes place (λ told. holds told bytes refl) made)
released_call {T = T} {r = r} t page k place true unworn None made holds whole = record {
  goes = made.goes;
  cause = made.cause;
  calls = [];
  makes = made.makes;
  facts = λ told aim s reads it. never _ None refl r whole;
  moments = λ told aim s reads it mid at. subst (λ (x : State). Held aim x) (sym at) (hard_held t aim s it);
}

pub leaves_frame : {T : Type 0} {a b : Standing} {r : Result T Stop} (g : Sizes) (parts : Parts) (page k : ℕ) (write : Bool) → page < pages g → parts.map.nvm page ≡ Some k → write ≡ get_or parts.frame_dirty k false
    → Releases g k page write a b r → Leads Held (Hard (data_of_parts g parts)) (Hard (data_of_parts g (frame_left page k parts))) a b r
leaves_frame g parts page k write low placed marked rel =
    then_same_hard (page_released g parts (frame_left page k parts) page k (record { copies = λ p l. refl; dirty = λ p. refl }) placed (λ p. refl) (λ n. refl) refl)
    (released_call (data_of_parts g parts) page k (record { in_store = low; placed = placed }) write (λ not. sym marked ∙ not) rel.loaded rel.made
    (λ told bytes at. record { words = λ l w hl hw. (rel.holds told bytes at).words l w hl hw }) rel.whole)

-- ---- fields of the same data

pub at_data : {g g' : Sizes} {parts parts' : Parts} → g' ≡ g → parts' ≡ parts → data_of_parts g' parts' ≡ data_of_parts g parts
at_data {g' = g'} {parts = parts} same made = ap (data_of_parts g') made ∙ ap (λ (x : Sizes). data_of_parts x parts) same

pub leads_to : {T : Type 0} {A : Aim → State → Type 0} {t u : Data} {a b : Standing} {r : Result T Stop} → u ≡ t → Leads Held A (Hard t) a b r → Leads Held A (Hard u) a b r
leads_to {A = A} {a = a} {b = b} {r = r} same call = subst (λ (x : Data). Leads Held A (Hard x) a b r) (sym same) call

pub leads_at : {T : Type 0} {B : Aim → State → Type 0} {t u : Data} {a b : Standing} {r : Result T Stop} → u ≡ t → Leads Held (Hard u) B a b r → Leads Held (Hard t) B a b r
leads_at {B = B} {a = a} {b = b} {r = r} same call = subst (λ (x : Data). Leads Held (Hard x) B a b r) same call

pub swept_data : (g : Sizes) (v : Option Swept) (parts : Parts) → data_of_parts g (frame_swept v parts).parts ≡ data_of_parts g parts
swept_data g None parts = refl
swept_data g (Some v) parts = refl

pub back_place : {T : Type 0} {g : Sizes} {place place' : Place} {k : ℕ} {parts after : Parts} {a b : Standing} {r : Result T Stop} → place' ≡ place → after ≡ copy_stored place' k parts
    → StoresBack g place' k parts after a b r → StoresBack g place k parts (copy_stored place k parts) a b r
back_place {g = g} {place' = place'} {k = k} {parts = parts} {after = after} {a = a} {b = b} {r = r} same made back =
    subst (λ (x : Place). StoresBack g x k parts (copy_stored x k parts) a b r) same (subst (λ (p : Parts). StoresBack g place' k parts p a b r) made back)
