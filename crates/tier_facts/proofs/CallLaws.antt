-- Calls of the layer below as calls that lead from facts to facts.
use Rattle.std.proofs.Common.{Bool, true, false, ◌≡◌, ℕ, ◌+◌, ◌<◌, List, [], ◌∷◌, IsTrue, Result, Ok, Err, Some, None}
use Rattle.std.specs.Prelude.{OnOk}
use Rattle.nvm_model.specs.declared.line.Line.{Line}
use Rattle.devices.specs.State.{State, Image, current}
use Rattle.devices.specs.State.Call.{fence}
use Rattle.devices.specs.World.{Standing, now}
use Rattle.line_pages.specs.declared.stop.Stop.{Stop}
use Rattle.store_model.specs.Install.{store_calls, entry_calls, install_calls, release_calls}
use Rattle.device_calls.specs.Leads.{Made, Looked, ReadsAs, Leads, Given}
use Rattle.device_calls.proofs.LeadsLaws.{leads_made, leads_step, leads_looked, leads_map, leads_from, leads_given, leads_seen}
use Rattle.tier_facts.specs.Data.{Data, put_in, lines_cleaned, marked_worn, installed, released, SameData, Recopied}
use Rattle.tier_facts.specs.Facts.{Aim, Held, Facts, Hard, IsHardened, InFrame, MayInstall, IsClean, AreClean, AreCurrent, HoldsFrame, IsLoose, FactsWith, Settled}
use Rattle.tier_facts.proofs.PlaceLaws.{facts_held}
use Rattle.tier_facts.proofs.CopyLaws.{facts_same, facts_recopied, puts}
use Rattle.tier_facts.proofs.StoreLaws.{fences, stores_in_place}
use Rattle.tier_facts.proofs.InstallLaws.{installs, installs_clean}
use Rattle.tier_facts.proofs.ReleaseLaws.{releases, releases_clean}
use Rattle.tier_facts.proofs.LineLaws.{given_same, holds_as, facts_marked, stores_next, settles}
use Rattle.tier_facts.proofs.ShownLaws.{image_as, image_seen}

pub hard_held : (t : Data) (aim : Aim) (s : State) → Hard t aim s → Held aim s
hard_held t aim s it = facts_held t aim s it.holds

module _ {T : Type 0} {a b : Standing} {r : Result T Stop} where
  -- ---- the facts of data that say the same, behind a call and before one

  pub then_same : {A : Aim → State → Type 0} {t u : Data} → SameData t u → Leads Held A (Facts t) a b r → Leads Held A (Facts u) a b r
  then_same same call = leads_map (facts_same same) call

  pub then_same_hard : {A : Aim → State → Type 0} {t u : Data} → SameData t u → Leads Held A (Hard t) a b r → Leads Held A (Hard u) a b r
  then_same_hard same call = leads_map (given_same same) call

  pub from_same_hard : {B : Aim → State → Type 0} {t u : Data} → SameData t u → Leads Held (Hard u) B a b r → Leads Held (Hard t) B a b r
  from_same_hard same call = leads_from (given_same same) call

  -- ---- reads

  -- Clean copies that were read of the devices, or dropped.
  pub leads_recopied : {t u : Data} → Looked a b r → (IsTrue a.told → OnOk r (Recopied t u (current (now a)))) → Leads Held (Facts t) (Facts u) a b r
  leads_recopied {t} {u} looked read = leads_seen (λ told aim s reads it. recopied told aim s reads it r (image_seen (λ (i : Image). OnOk r (Recopied t u i)) s looked read told reads)) (leads_looked (facts_held t) looked)
    where
      recopied : IsTrue b.told → (aim : Aim) (s : State) → ReadsAs s (now b) → Facts t aim s → (x : Result T Stop) → OnOk x (Recopied t u (current s)) → OnOk x (Facts u aim s)
      recopied told aim s reads it (Ok v) re = facts_recopied t u aim s it re
      recopied told aim s reads it (Err why) re = tt

  pub leads_recopied_hard : {t u : Data} → Looked a b r → (IsTrue a.told → OnOk r (Recopied t u (current (now a)))) → Leads Held (Hard t) (Hard u) a b r
  leads_recopied_hard looked read = leads_given IsHardened (leads_recopied looked read)

  -- ---- stores and fences

  pub leads_fence : {t : Data} → Made (fence ∷ []) a b r → Leads Held (Facts t) (Facts t) a b r
  leads_fence {t} made = leads_step made (fences t)

  pub leads_fence_hard : {t : Data} → Made (fence ∷ []) a b r → Leads Held (Hard t) (Hard t) a b r
  leads_fence_hard {t} made = leads_given IsHardened (leads_fence made)

  pub leads_settled : {t : Data} → AreClean t → Made (fence ∷ []) a b r → Leads Held (Hard t) (Settled t) a b r
  leads_settled {t} clean made = leads_step made (settles t clean)

  -- a dirty line of a copy, behind those before it
  pub leads_stored : {t : Data} (page k n : ℕ) (value : Line) → InFrame t page k → n < 64 → t.worn k ≡ true → t.copy page n ≡ Some value → t.dirty page n ≡ true
      → Made (store_calls t.sizes k n value) a b r → Leads Held (Hard (lines_cleaned page n t)) (Hard (lines_cleaned page (n + 1) t)) a b r
  leads_stored {t} page k n value place low worn copied dirty made = leads_step made (stores_next page t k n value place low worn copied dirty)

  -- a line with no copy
  pub leads_in_place : {t : Data} (page k line : ℕ) (value : Line) → InFrame t page k → line < 64 → t.worn k ≡ true → t.copy page line ≡ None
      → Made (store_calls t.sizes k line value) a b r → Leads Held (Given (IsLoose page line) (Hard t)) (FactsWith page line value t) a b r
  leads_in_place {t} page k line value place low worn absent made = leads_step made (stores_in_place t page k line value place low worn absent)

  -- ---- pages

  -- the lines of a whole copy, or any that are current in each image
  pub leads_installed : {t : Data} (page k : ℕ) (lines : List Line) (worn : Bool) → MayInstall t page k → (worn ≡ false → IsClean t page) → ((i : Image) → AreCurrent t i page lines)
      → Made (install_calls t.sizes k page lines) a b r → Leads Held (Hard t) (Hard (installed page k worn t)) a b r
  leads_installed {t} page k lines worn may marked current_lines made = leads_step made (λ aim s it. installs t page k lines worn may marked aim s (current_lines (current s)) it)

  -- lines that are those of the devices
  pub leads_installed_clean : {t : Data} (page k : ℕ) (lines : List Line) (worn : Bool) → MayInstall t page k → IsClean t page → (IsTrue a.told → AreCurrent t (current (now a)) page lines)
      → Made (install_calls t.sizes k page lines) a b r → Leads Held (Facts t) (Facts (installed page k worn t)) a b r
  leads_installed_clean {t} page k lines worn may clean are made =
      leads_made made (λ told aim s reads it. installs_clean t page k lines worn may clean aim s (image_as (λ (i : Image). AreCurrent t i page lines) s (now a) reads (are told)) it)

  pub leads_released : {t : Data} (page k : ℕ) (bytes : List ℕ) → InFrame t page k → (IsTrue a.told → HoldsFrame t.sizes k (now a) bytes)
      → Made (release_calls t.sizes k page bytes) a b r → Leads Held (Facts t) (Facts (released page k t)) a b r
  leads_released {t} page k bytes place holds made = leads_made made (λ told aim s reads it. releases t page k bytes place aim s (holds_as t.sizes k (now a) s bytes reads (holds told)) it)

  pub leads_cleared : {t : Data} (page k : ℕ) → InFrame t page k → t.worn k ≡ false → Made (entry_calls k 0) a b r → Leads Held (Facts t) (Facts (released page k t)) a b r
  leads_cleared {t} page k place unworn made = leads_step made (releases_clean t page k place unworn)

-- ---- with no call

-- a frame is marked, before what follows
pub from_marked : {T : Type 0} {a b : Standing} {r : Result T Stop} {B : Aim → State → Type 0} {t : Data} (k : ℕ) → Leads Held (Facts (marked_worn k t)) B a b r → Leads Held (Facts t) B a b r
from_marked {t = t} k call = leads_from (facts_marked t k) call

pub from_marked_hard : {T : Type 0} {a b : Standing} {r : Result T Stop} {B : Aim → State → Type 0} {t : Data} (k : ℕ) → Leads Held (Hard (marked_worn k t)) B a b r → Leads Held (Hard t) B a b r
from_marked_hard {t = t} k call = leads_from (λ aim s it. record { of_aim = it.of_aim; holds = facts_marked t k aim s it.holds }) call

-- a clean copy is dropped, or lines move to another place, behind a call
pub then_recopied : {T : Type 0} {a b : Standing} {r : Result T Stop} {A : Aim → State → Type 0} {t u : Data} → ((i : Image) → Recopied t u i) → Leads Held A (Facts t) a b r → Leads Held A (Facts u) a b r
then_recopied {t = t} {u = u} re call = leads_map (λ aim s it. facts_recopied t u aim s it (re (current s))) call

pub then_recopied_hard : {T : Type 0} {a b : Standing} {r : Result T Stop} {A : Aim → State → Type 0} {t u : Data} → ((i : Image) → Recopied t u i) → Leads Held A (Hard t) a b r → Leads Held A (Hard u) a b r
then_recopied_hard {t = t} {u = u} re call = leads_map (λ aim s it. record { of_aim = it.of_aim; holds = facts_recopied t u aim s it.holds (re (current s)) }) call

-- a line of a copy gets a value, behind a call
pub then_put : {T : Type 0} {a b : Standing} {r : Result T Stop} {A : Aim → State → Type 0} {t : Data} (page line : ℕ) (value : Line)
    → Leads Held A (Given (IsLoose page line) (Facts t)) a b r → Leads Held A (FactsWith page line value (put_in page line value t)) a b r
then_put {t = t} page line value call = leads_map (puts t page line value) call
