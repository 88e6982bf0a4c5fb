-- Behind the first part of a touch: a line that is not in a copy stands in the frame of its page.
use Rattle.std.proofs.Common.{◌≡◌, ℕ, ◌<◌, refl, sym, ap, ◌∙◌, subst, Ok}
use Rattle.std.specs.Prelude.{Option, Some, None, IfSome, Result}
use Rattle.devices.specs.State.{State}
use Rattle.devices.specs.World.{Standing}
use Rattle.line_pages.specs.declared.stop.Stop.{Stop}
use Rattle.nvm_model.specs.declared.line.Line.{Line}
use Rattle.store_model.specs.Layout.{Sizes, pages}
use Rattle.tier_map.specs.declared.place.Place.{Place}
use Rattle.tier_map.specs.declared.place.Place.TheVariants.{Absent, Full, Mini}
use Rattle.page_frame.specs.Frames.{line_at}
use Rattle.tier_rules.specs.Parts.{Parts, copy_at, copy_line}
use Rattle.device_calls.specs.Leads.{Leads, Given}
use Rattle.device_calls.proofs.LeadsLaws.{leads_then, leads_ok, leads_map, leads_given}
use Rattle.tier_facts.specs.Data.{Data}
use Rattle.tier_facts.specs.Facts.{Aim, Held, Facts, Hard, IsHardened}
use Rattle.tier_facts.specs.Reads.{IsCurrentLine}
use Rattle.tier_facts.proofs.CurrentLaws.{copied_line, then_copied}
use Rattle.tier_pool.specs.declared.pool.Spot.{Spot}
use Rattle.tier_pool.specs.declared.pool.TierPool.{TierPool}
use Rattle.tier_pool.specs.Fields.{parts_of}
use Rattle.tier_pool.specs.Touching.{HasFrame, LiesInFrame}
use Rattle.tier_pool.proofs.RangeLaws.{nvm_in}
use Rattle.tier_manager.specs.Steady.{LiesAt}
use Rattle.tier_manager.specs.Touching.{IsThere}
use Rattle.tier_manager.proofs.SteadyTouch.{value_at}

no_line : {A : Type 0} (x : Line) → ◌≡◌ {A = Option Line} None (Some x) → A
no_line x e = absurd (cc)

-- a copy has the line that was touched
pub uncopied_absent : (place : Place) (line : ℕ) (parts : Parts) → IsThere place line parts → line_at (copy_at place parts.arena parts.minis) line ≡ None → place ≡ Absent
uncopied_absent Absent line parts there none = refl
uncopied_absent (Full i) line parts there none = let it = value_at (copy_at (Full i) parts.arena parts.minis) line there in no_line it.0 (sym none ∙ it.1)
uncopied_absent (Mini j) line parts there none = let it = value_at (copy_at (Mini j) parts.arena parts.minis) line there in no_line it.0 (sym none ∙ it.1)

pub frame_within : (t : TierPool) (page : ℕ) (o : Option ℕ) → o ≡ (parts_of t).map.nvm page → IfSome o (λ k. k < t.geometry.frames)
frame_within t page None e = tt
frame_within t page (Some k) e = nvm_in t page k (sym e)

pub has_frame : (t : TierPool) (page line : ℕ) (spot : Spot) → LiesAt page spot (parts_of t).map → IsThere spot.place line (parts_of t)
    → line_at (copy_at spot.place (parts_of t).arena (parts_of t).minis) line ≡ None → HasFrame spot.frame t.geometry.frames
has_frame t page line spot lies there none = record {
  some = lies.framed (uncopied_absent spot.place line (parts_of t) there none);
  within = frame_within t page spot.frame lies.frame;
}

pub lies_in_frame : (g : Sizes) (page line : ℕ) (spot : Spot) (parts : Parts) → page < pages g → LiesAt page spot parts.map
    → line_at (copy_at spot.place parts.arena parts.minis) line ≡ None → LiesInFrame g page line spot.frame parts
lies_in_frame g page line spot parts low lies none = record {
  in_store = low;
  framed = sym lies.frame;
  uncopied = ap (λ (p : Place). line_at (copy_at p parts.arena parts.minis) line) (sym lies.place) ∙ none;
}

-- ---- the line that is answered is the current one

-- a line of the copy, behind the first part of a touch
pub then_current : {T : Type 0} {A : Aim → State → Type 0} {a b : Standing} {v : T} (t : Data) (page line : ℕ) (x y : Line) → y ≡ x → page < pages t.sizes → line < 64 → t.copy page line ≡ Some x
    → Leads {T = T} Held A (Facts t) a b (Ok v) → Leads {T = Line} Held A (Given (IsCurrentLine page line (Ok y)) (Facts t)) a b (Ok y)
then_current {A = A} {a = a} {b = b} t page line x y same low small copied call =
    subst (λ (z : Line). Leads {T = Line} Held A (Given (IsCurrentLine page line (Ok z)) (Facts t)) a b (Ok z)) (sym same)
    (then_copied t page line x low small copied (leads_ok call))

pub then_current_hard : {T : Type 0} {A : Aim → State → Type 0} {a b : Standing} {v : T} (t : Data) (page line : ℕ) (x y : Line) → y ≡ x → page < pages t.sizes → line < 64 → t.copy page line ≡ Some x
    → Leads {T = T} Held A (Hard t) a b (Ok v) → Leads {T = Line} Held A (Given (IsCurrentLine page line (Ok y)) (Hard t)) a b (Ok y)
then_current_hard {A = A} {a = a} {b = b} t page line x y same low small copied call =
    subst (λ (z : Line). Leads {T = Line} Held A (Given (IsCurrentLine page line (Ok z)) (Hard t)) a b (Ok z)) (sym same)
    (leads_map (λ aim s it. record { of_aim = copied_line t page line x low small copied aim s it.holds; holds = it }) (leads_ok call))

-- a line of the frame
pub then_loaded : {T : Type 0} {A : Aim → State → Type 0} {a b c : Standing} {v : T} (t : Data) (page line : ℕ) (x y : Line) → y ≡ x
    → Leads {T = T} Held A (Facts t) a b (Ok v) → Leads {T = Line} Held (Facts t) (Given (IsCurrentLine page line (Ok x)) (Facts t)) b c (Ok x)
    → Leads {T = Line} Held A (Given (IsCurrentLine page line (Ok y)) (Facts t)) a c (Ok y)
then_loaded {A = A} {a = a} {c = c} t page line x y same first second =
    subst (λ (z : Line). Leads {T = Line} Held A (Given (IsCurrentLine page line (Ok z)) (Facts t)) a c (Ok z)) (sym same) (leads_then first second)

pub then_loaded_hard : {T : Type 0} {A : Aim → State → Type 0} {a b c : Standing} {v : T} (t : Data) (page line : ℕ) (x y : Line) → y ≡ x
    → Leads {T = T} Held A (Hard t) a b (Ok v) → Leads {T = Line} Held (Facts t) (Given (IsCurrentLine page line (Ok x)) (Facts t)) b c (Ok x)
    → Leads {T = Line} Held A (Given (IsCurrentLine page line (Ok y)) (Hard t)) a c (Ok y)
then_loaded_hard {A = A} {a = a} {c = c} t page line x y same first second =
    subst (λ (z : Line). Leads {T = Line} Held A (Given (IsCurrentLine page line (Ok z)) (Hard t)) a c (Ok z)) (sym same)
    (leads_map (λ aim s it. record { of_aim = it.holds.of_aim; holds = record { of_aim = it.of_aim; holds = it.holds.holds } }) (leads_then first (leads_given IsHardened second)))

pub copied_there : (page line : ℕ) (spot : Spot) (parts : Parts) (x : Line) → LiesAt page spot parts.map → line_at (copy_at spot.place parts.arena parts.minis) line ≡ Some x → copy_line parts page line ≡ Some x
copied_there page line spot parts x lies found = ap (λ (p : Place). line_at (copy_at p parts.arena parts.minis) line) (sym lies.place) ∙ found

pub leads_by : {T : Type 0} {A B : Aim → State → Type 0} {a b c : Standing} {r : Result T Stop} → c ≡ b → Leads Held A B a b r → Leads Held A B a c r
leads_by {A = A} {B = B} {a = a} {r = r} same call = subst (λ (d : Standing). Leads Held A B a d r) (sym same) call
