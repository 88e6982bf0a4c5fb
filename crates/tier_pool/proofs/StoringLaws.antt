-- What storing back keeps of the facts of the tiers.
use Rattle.std.proofs.Common.{true, false, ◌≡◌, ℕ, zero, suc, ◌+◌, ◌<◌, List, [], ◌∷◌, length, get_or, slice_set, refl, sym, ap, ◌∙◌, subst, Some, None, Result, Ok, Err}
use Rattle.std.proofs.lemmas.List.{get_or-set_same, get_or-set_other}
use Rattle.std.specs.Result.{IsErrAnd}
use Rattle.nvm_model.specs.declared.line.Line.{Line}
use Rattle.devices.specs.State.Call.{fence}
use Rattle.devices.specs.World.{Standing}
use Rattle.line_pages.specs.declared.stop.Stop.{Stop}
use Rattle.store_model.specs.Layout.{Sizes}
use Rattle.store_model.specs.Install.{store_calls}
use Rattle.device_calls.specs.Leads.{Made, Leads}
use Rattle.device_calls.proofs.LeadsLaws.{leads_none, leads_then, leads_exit, leads_ok}
use Rattle.tier_map.specs.declared.place.Place.{Place}
use Rattle.tier_map.specs.declared.place.Place.TheVariants.{Absent, Full, Mini}
use Rattle.tier_map.specs.Placement.{Agrees}
use Rattle.page_frame.specs.LineSets.{no_lines, has_line}
use Rattle.page_frame.specs.Frames.{line_at}
use Rattle.mini_page.specs.MiniPages.{MiniPage, empty_mini, cleaned_mini}
use Rattle.tier_rules.specs.Parts.{Parts, copy_at, dirty_at, copy_line}
use Rattle.tier_facts.specs.Data.{lines_cleaned, page_cleaned, marked_worn, SameData}
use Rattle.tier_facts.specs.Facts.{Held, Hard}
use Rattle.tier_facts.proofs.LineLaws.{stores_past, stores_absent, lines_none, lines_all}
use Rattle.tier_facts.proofs.CallLaws.{hard_held, leads_stored, leads_fence_hard, then_same_hard, from_same_hard, from_marked_hard}
use Rattle.part_laws.specs.PartData.{dirty_lines, data_of_parts, SameOthers, SameFrames}
use Rattle.part_laws.proofs.PartLaws.{others_by, alone_full, alone_mini, page_clean}
use Rattle.part_laws.proofs.PartLaws
use Rattle.tier_pool.specs.Places.{copy_cleaned, frame_marked}
use Rattle.tier_pool.specs.Storing.{LiesOver, StoresLines, StoresBack}

-- ---- one line after the other

module _ (g : Sizes) (place : Place) (k : ℕ) (parts : Parts) where
  pub lines_start : (a : Standing) → StoresLines {T = Unit {0}} g place k 0 0 parts a a (Ok tt)
  lines_start a = record { each = λ page lies marked. leads_none (hard_held (lines_cleaned page 0 (data_of_parts g parts))) (λ aim s it. it) }

  pub lines_then : {T U : Type 0} {v : U} {from mid to : ℕ} {a b c : Standing} {r : Result T Stop} → StoresLines {T = U} g place k from mid parts a b (Ok v) → StoresLines g place k mid to parts b c r → StoresLines g place k from to parts a c r
  lines_then first second = record { each = λ page lies marked. leads_then (first.each page lies marked) (second.each page lies marked) }

  pub lines_exit : {T U : Type 0} {why : Stop} {from mid to : ℕ} {a b : Standing} (r : Result T Stop) → IsErrAnd r (λ y. y ≡ why) → StoresLines {T = U} g place k from mid parts a b (Err why) → StoresLines g place k from to parts a b r
  lines_exit r is first = record { each = λ page lies marked. leads_exit r is (first.each page lies marked) }

  pub lines_ok : {T U : Type 0} {v : U} (w : T) {from to : ℕ} {a b : Standing} → StoresLines {T = U} g place k from to parts a b (Ok v) → StoresLines {T = T} g place k from to parts a b (Ok w)
  lines_ok w first = record { each = λ page lies marked. leads_ok (first.each page lies marked) }

  -- a line that is not dirty
  pub line_past : (line : ℕ) (a : Standing) → has_line (dirty_at place parts.full_dirty parts.minis) line ≡ false → StoresLines {T = Unit {0}} g place k line (line + 1) parts a a (Ok tt)
  line_past line a not = record {
    each = λ page lies marked. leads_none (hard_held (lines_cleaned page line (data_of_parts g parts)))
        (stores_past page (data_of_parts g parts) line (ap (λ (x : Place). has_line (dirty_at x parts.full_dirty parts.minis) line) lies.here ∙ not));
  }

  -- one that is not there
  pub line_absent : (line : ℕ) (a : Standing) → line_at (copy_at place parts.arena parts.minis) line ≡ None → StoresLines {T = Unit {0}} g place k line (line + 1) parts a a (Ok tt)
  line_absent line a absent = record {
    each = λ page lies marked. leads_none (hard_held (lines_cleaned page line (data_of_parts g parts)))
        (stores_absent page (data_of_parts g parts) line (ap (λ (x : Place). line_at (copy_at x parts.arena parts.minis) line) lies.here ∙ absent));
  }

  -- one that is
  pub line_stored : {T : Type 0} {a b : Standing} {r : Result T Stop} (line : ℕ) (value : Line) → line < 64 → has_line (dirty_at place parts.full_dirty parts.minis) line ≡ true
      → line_at (copy_at place parts.arena parts.minis) line ≡ Some value → Made (store_calls g k line value) a b r → StoresLines g place k line (line + 1) parts a b r
  line_stored line value low dirty there made = record {
    each = λ page lies marked. leads_stored page k line value (record { in_store = lies.in_store; placed = lies.framed }) low marked
        (ap (λ (x : Place). line_at (copy_at x parts.arena parts.minis) line) lies.here ∙ there) (ap (λ (x : Place). has_line (dirty_at x parts.full_dirty parts.minis) line) lies.here ∙ dirty) made;
  }

-- ---- a copy that is clean then

-- an item that is changed, and is there or is as what is not
changed_item : {X : Type 0} (h : X → X) (d : X) → h d ≡ d → (xs : List X) (i : ℕ) → get_or (slice_set xs i (h (get_or xs i d))) i d ≡ h (get_or xs i d)
changed_item h d same [] i = sym same
changed_item h d same (x ∷ xs) zero = refl
changed_item h d same (x ∷ xs) (suc i) = changed_item h d same xs i

cleaned_frames : (place : Place) (parts : Parts) → SameFrames parts (copy_cleaned place parts)
cleaned_frames Absent parts = record { nvm = λ p. refl; frame_page = λ k. refl; marks = refl }
cleaned_frames (Full i) parts = record { nvm = λ p. refl; frame_page = λ k. refl; marks = refl }
cleaned_frames (Mini j) parts = record { nvm = λ p. refl; frame_page = λ k. refl; marks = refl }

pub cleaned_others : (place : Place) (parts : Parts) (page : ℕ) → Agrees parts.map → parts.map.place page ≡ place → SameOthers page parts (copy_cleaned place parts)
cleaned_others Absent parts page agrees here = others_by page parts parts (λ p other. refl) (λ p i other at. (refl, refl)) (λ p j other at. refl)
cleaned_others (Full i) parts page agrees here = others_by page parts (copy_cleaned (Full i) parts) (λ p other. refl)
    (λ p n other at. (refl, get_or-set_other parts.full_dirty i n no_lines 0 (λ e. other (alone_full parts.map agrees page p i here (at ∙ ap (λ (m : ℕ). Full m) e))))) (λ p j other at. refl)
cleaned_others (Mini j) parts page agrees here = others_by page parts (copy_cleaned (Mini j) parts) (λ p other. refl) (λ p i other at. (refl, refl))
    (λ p n other at. get_or-set_other parts.minis j n (cleaned_mini (get_or parts.minis j empty_mini)) empty_mini (λ e. other (alone_mini parts.map agrees page p j here (at ∙ ap (λ (m : ℕ). Mini m) e))))

cleaned_line : (place : Place) (parts : Parts) (page l : ℕ) → parts.map.place page ≡ place → copy_line (copy_cleaned place parts) page l ≡ copy_line parts page l
cleaned_line Absent parts page l here = refl
cleaned_line (Full i) parts page l here = refl
cleaned_line (Mini j) parts page l here = ap (λ (x : Place). line_at (copy_at x parts.arena (copy_cleaned (Mini j) parts).minis) l) here
    ∙ ap (λ (m : MiniPage). line_at m.places l) (changed_item cleaned_mini empty_mini refl parts.minis j) ∙ sym (ap (λ (x : Place). line_at (copy_at x parts.arena parts.minis) l) here)

pub cleaned_marks : (place : Place) (parts : Parts) (page : ℕ) → parts.map.place page ≡ place → dirty_lines (copy_cleaned place parts) page ≡ no_lines
cleaned_marks Absent parts page here = ap (λ (x : Place). dirty_at x parts.full_dirty parts.minis) here
cleaned_marks (Full i) parts page here = ap (λ (x : Place). dirty_at x (copy_cleaned (Full i) parts).full_dirty parts.minis) here ∙ changed_item (λ (x : ℕ). no_lines) no_lines refl parts.full_dirty i
cleaned_marks (Mini j) parts page here = ap (λ (x : Place). dirty_at x parts.full_dirty (copy_cleaned (Mini j) parts).minis) here ∙ ap (λ (m : MiniPage). m.dirty) (changed_item cleaned_mini empty_mini refl parts.minis j)

pub cleaned_data : (g : Sizes) (place : Place) (parts : Parts) (page : ℕ) → Agrees parts.map → parts.map.place page ≡ place → SameData (page_cleaned page (data_of_parts g parts)) (data_of_parts g (copy_cleaned place parts))
cleaned_data g place parts page agrees here = page_clean g parts (copy_cleaned place parts) page (cleaned_others place parts page agrees here) (cleaned_frames place parts)
    (λ l low. cleaned_line place parts page l here) (cleaned_marks place parts page here)

-- ---- storing back

-- nothing is dirty
pub back_none : (g : Sizes) (place : Place) (k : ℕ) (parts : Parts) (a : Standing) → StoresBack {T = Unit {0}} g place k parts parts a a (Ok tt)
back_none g place k parts a = record { each = λ page lies agrees. leads_none (hard_held (data_of_parts g parts)) (λ aim s it. it) }

-- the frame is marked, the lines are stored, a fence
module _ (g : Sizes) (place : Place) (k : ℕ) (parts : Parts) (low : k < length parts.frame_dirty) where
  abbrev marked_parts : Parts
  marked_parts = frame_marked k parts

  pub marked_data : SameData (marked_worn k (data_of_parts g parts)) (data_of_parts g (frame_marked k parts))
  marked_data = PartLaws.frame_marked g parts (frame_marked k parts) k (record { copies = λ p l. refl; dirty = λ p. refl }) (λ p. refl) (λ n. refl) low refl

  pub is_marked : get_or (frame_marked k parts).frame_dirty k false ≡ true
  is_marked = get_or-set_same parts.frame_dirty k true false low

  -- the way there, whatever comes behind
  back_lines : {T : Type 0} {a b : Standing} {r : Result T Stop} → StoresLines g place k 0 64 (frame_marked k parts) a b r → (page : ℕ) → LiesOver g page place k parts
      → Leads Held (Hard (data_of_parts g parts)) (Hard (page_cleaned page (data_of_parts g (frame_marked k parts)))) a b r
  back_lines lines page lies = from_marked_hard k (from_same_hard marked_data (from_same_hard (lines_none page (data_of_parts g (frame_marked k parts)))
      (then_same_hard (lines_all page (data_of_parts g (frame_marked k parts)))
      (lines.each page (record { in_store = lies.in_store; here = lies.here; framed = lies.framed }) is_marked))))

  pub back_stored : {a b c : Standing} → StoresLines {T = Unit {0}} g place k 0 64 (frame_marked k parts) a b (Ok tt) → Made {T = Unit {0}} (fence ∷ []) b c (Ok tt)
      → StoresBack {T = Unit {0}} g place k parts (copy_cleaned place (frame_marked k parts)) a c (Ok tt)
  back_stored lines fenced = record {
    each = λ page lies agrees. then_same_hard (cleaned_data g place (frame_marked k parts) page agrees lies.here)
        (leads_then (back_lines lines page lies) (leads_fence_hard {t = page_cleaned page (data_of_parts g (frame_marked k parts))} fenced));
  }

  -- the exits
  pub back_lines_exit : {T U : Type 0} {why : Stop} {after : Parts} {a b : Standing} (r : Result T Stop) → IsErrAnd r (λ y. y ≡ why) → StoresLines {T = U} g place k 0 64 (frame_marked k parts) a b (Err why)
      → StoresBack g place k parts after a b r
  back_lines_exit r is lines = record { each = λ page lies agrees. leads_exit r is (back_lines lines page lies) }

  pub back_fence_exit : {T U : Type 0} {why : Stop} {after : Parts} {a b c : Standing} (r : Result T Stop) → IsErrAnd r (λ y. y ≡ why) → StoresLines {T = Unit {0}} g place k 0 64 (frame_marked k parts) a b (Ok tt)
      → Made {T = U} (fence ∷ []) b c (Err why) → StoresBack g place k parts after a c r
  back_fence_exit r is lines fenced = record {
    each = λ page lies agrees. leads_exit r is (leads_then (back_lines lines page lies) (leads_fence_hard {t = page_cleaned page (data_of_parts g (frame_marked k parts))} fenced));
  }

-- equal sizes and fields
pub lines_at : {T : Type 0} {g g' : Sizes} {place : Place} {k from to : ℕ} {parts parts' : Parts} {a b : Standing} {r : Result T Stop} → g' ≡ g → parts' ≡ parts
    → StoresLines g' place k from to parts' a b r → StoresLines g place k from to parts a b r
lines_at {g = g} {place = place} {k = k} {from = from} {to = to} {parts = parts} {parts' = parts'} {a = a} {b = b} {r = r} same made lines =
    subst (λ (p : Parts). StoresLines g place k from to p a b r) made (subst (λ (x : Sizes). StoresLines x place k from to parts' a b r) same lines)

pub lines_to : {T : Type 0} {g : Sizes} {place : Place} {k from to to' : ℕ} {parts : Parts} {a b : Standing} {r : Result T Stop} → to ≡ to' → StoresLines g place k from to parts a b r → StoresLines g place k from to' parts a b r
lines_to {g = g} {place = place} {k = k} {from = from} {parts = parts} {a = a} {b = b} {r = r} same lines = subst (λ n. StoresLines g place k from n parts a b r) same lines

pub back_at : {T : Type 0} {g : Sizes} {place : Place} {k : ℕ} {before after after' : Parts} {a b : Standing} {r : Result T Stop} → after' ≡ after → StoresBack g place k before after a b r → StoresBack g place k before after' a b r
back_at {g = g} {place = place} {k = k} {before = before} {a = a} {b = b} {r = r} same back = subst (λ (p : Parts). StoresBack g place k before p a b r) (sym same) back
