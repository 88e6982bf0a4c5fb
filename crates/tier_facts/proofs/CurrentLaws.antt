-- A line that is read is the current one: in a copy, or in the frame of its page; and a line that is written.
use Rattle.std.proofs.Common.{◌≡◌, ℕ, ◌<◌, [], ◌∷◌, sym, ap, ◌∙◌, subst, IsTrue, Option, Some, None, Result, Ok, Err}
use Rattle.std.specs.Prelude.{OnOk, IfOk}
use Rattle.nvm_model.specs.declared.line.Line.{Line}
use Rattle.devices.specs.State.{State, Image, current, fresh, line_at}
use Rattle.devices.specs.State.Call.{fence}
use Rattle.devices.specs.World.{Standing, now}
use Rattle.line_pages.specs.declared.stop.Stop.{Stop}
use Rattle.store_model.specs.Layout.{Sizes, pages, frame_line}
use Rattle.device_calls.specs.Leads.{Steps, Made, Looked, Leads, Given}
use Rattle.device_calls.proofs.LeadsLaws.{leads_looked, leads_map, leads_from, leads_seen, leads_step}
use Rattle.tier_facts.specs.Data.{Data, or_home, home_of, put_in, marked_worn, SameData, Recopied}
use Rattle.tier_facts.specs.Facts.{Aim, Held, Facts, Hard, InFrame, IsLoose, FactsWith, aim_sizes, aim_with}
use Rattle.tier_facts.specs.Reads.{IsCurrentLine}
use Rattle.tier_facts.proofs.PlaceLaws.{facts_held}
use Rattle.tier_facts.proofs.CopyLaws.{facts_same, puts}
use Rattle.tier_facts.proofs.StoreLaws.{fences}
use Rattle.tier_facts.proofs.LineLaws.{home_line, facts_marked}
use Rattle.tier_facts.proofs.ShownLaws.{image_seen}
use Rattle.tier_facts.proofs.CallLaws.{leads_recopied}

-- ---- what is read

-- a line of a copy
pub copied_line : (t : Data) (page line : ℕ) (x : Line) → page < pages t.sizes → line < 64 → t.copy page line ≡ Some x
    → (aim : Aim) (s : State) → Facts t aim s → IsCurrentLine page line (Ok x) aim
copied_line t page line x in_store low copied aim s it = record {
  words = λ w hw. sym (ap (λ (c : Option Line). or_home c w (home_of (aim_sizes aim) t (current s) page line w)) copied)
      ∙ it.words page line w (record { page = subst (λ (g : Sizes). page < pages g) it.sizes_same in_store; line = low; word = hw });
}

-- a line of a frame, where no copy has it
pub framed_line : (t : Data) (page k line : ℕ) (x : Line) → InFrame t page k → line < 64 → t.copy page line ≡ None
    → (aim : Aim) (s : State) → x ≡ line_at s (frame_line t.sizes k line) → Facts t aim s → IsCurrentLine page line (Ok x) aim
framed_line t page k line x framed low absent aim s read it = record {
  words = λ w hw. home_line t s page k line w x framed.placed read hw
      ∙ ap (λ (g : Sizes). home_of g t (current s) page line w) it.sizes_same
      ∙ sym (ap (λ (c : Option Line). or_home c w (home_of (aim_sizes aim) t (current s) page line w)) absent)
      ∙ it.words page line w (record { page = subst (λ (g : Sizes). page < pages g) it.sizes_same framed.in_store; line = low; word = hw });
}

-- behind a call, of the copy that the data name then
pub then_copied : {T : Type 0} {A : Aim → State → Type 0} {a b : Standing} {r : Result T Stop} (t : Data) (page line : ℕ) (x : Line) → page < pages t.sizes → line < 64 → t.copy page line ≡ Some x
    → Leads Held A (Facts t) a b r → Leads Held A (Given (IsCurrentLine page line (Ok x)) (Facts t)) a b r
then_copied t page line x in_store low copied call =
    leads_map (λ aim s it. record { of_aim = copied_line t page line x in_store low copied aim s it; holds = it }) call

-- a load from the frame
pub leads_framed : {a b : Standing} (r : Result Line Stop) (t : Data) (page k line : ℕ) → InFrame t page k → line < 64 → t.copy page line ≡ None
    → Looked a b r → (IsTrue a.told → IfOk r (λ found. found ≡ line_at (now a) (frame_line t.sizes k line)))
    → Leads Held (Facts t) (Given (IsCurrentLine page line r) (Facts t)) a b r
leads_framed {a} {b} r t page k line framed low absent looked value =
    leads_seen (λ told aim s reads it. seen r aim s (image_seen (λ (i : Image). IfOk r (λ found. found ≡ line_at (fresh i) (frame_line t.sizes k line))) s looked value told reads) it)
    (leads_looked (facts_held t) looked)
  where
    seen : (x : Result Line Stop) (aim : Aim) (s : State) → IfOk x (λ found. found ≡ line_at s (frame_line t.sizes k line)) → Facts t aim s → OnOk x (Given (IsCurrentLine page line x) (Facts t) aim s)
    seen (Ok found) aim s read it = record { of_aim = framed_line t page k line found framed low absent aim s read it; holds = it }
    seen (Err why) aim s read it = tt

-- a load from the frame into the copy
pub leads_loaded : {a b : Standing} (x : Line) (t u : Data) (page line : ℕ) → page < pages u.sizes → line < 64 → u.copy page line ≡ Some x
    → Looked {T = Line} a b (Ok x) → (IsTrue a.told → Recopied t u (current (now a)))
    → Leads {T = Line} Held (Facts t) (Given (IsCurrentLine page line (Ok x)) (Facts u)) a b (Ok x)
leads_loaded x t u page line in_store low copied looked read = then_copied u page line x in_store low copied (leads_recopied looked read)

-- ---- what is written

-- a line of a copy, behind a call
pub then_written : {T : Type 0} {A : Aim → State → Type 0} {a b : Standing} {r : Result T Stop} {t u : Data} (page line : ℕ) (value : Line) → SameData (put_in page line value t) u
    → Leads Held A (Given (IsLoose page line) (Facts t)) a b r → Leads Held A (FactsWith page line value u) a b r
then_written {t = t} page line value same call =
    leads_map (λ aim s it. facts_same same (aim_with page line value aim) s (puts t page line value aim s it)) call

-- the facts with a line that is written are of data that say the same
pub then_same_with : {T : Type 0} {A : Aim → State → Type 0} {a b : Standing} {r : Result T Stop} {t u : Data} (page line : ℕ) (value : Line) → SameData t u
    → Leads Held A (FactsWith page line value t) a b r → Leads Held A (FactsWith page line value u) a b r
then_same_with page line value same call = leads_map (λ aim s it. facts_same same (aim_with page line value aim) s it) call

-- a fence behind a line that is written
pub leads_fenced_with : {T : Type 0} {a b : Standing} {r : Result T Stop} (t : Data) (page line : ℕ) (value : Line) → Made (fence ∷ []) a b r
    → Leads Held (FactsWith page line value t) (FactsWith page line value t) a b r
leads_fenced_with t page line value made = leads_step made (λ aim s it.
    let steps : Steps Held (Facts t) (fence ∷ []) (aim_with page line value aim) s = fences t (aim_with page line value aim) s it in
    record { facts = steps.facts; moments = steps.moments })

-- a frame that is marked, and data that say the same, before a line is written
pub from_marked_loose : {T : Type 0} {a b : Standing} {r : Result T Stop} {B : Aim → State → Type 0} {t u : Data} (page line k : ℕ) → SameData (marked_worn k t) u
    → Leads Held (Given (IsLoose page line) (Hard u)) B a b r → Leads Held (Given (IsLoose page line) (Hard t)) B a b r
from_marked_loose {t = t} page line k same call = leads_from (λ aim s it. record {
  of_aim = it.of_aim;
  holds = record { of_aim = it.holds.of_aim; holds = facts_same same aim s (facts_marked t k aim s it.holds.holds) };
}) call
