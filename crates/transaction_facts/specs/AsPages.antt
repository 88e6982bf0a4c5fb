-- A store as pages: the current and the committed lines as one reads them, and what a crash may leave.
use Rattle.std.specs.Prelude.{◌≡◌, ◌⊎◌, ℕ, ◌≤◌, IsTrue, Result, OnOk}
use Rattle.nvm_model.specs.declared.line.Line.{Line}
use Rattle.devices.specs.State.{State, Image, Leaves, current, fresh}
use Rattle.devices.specs.World.{Standing, now}
use Rattle.line_pages.specs.declared.stop.Stop.{Stop}
use Rattle.store_model.specs.Layout.{Sizes, pages}
use Rattle.store_model.specs.Log.{Words}
use Rattle.store_model.specs.Format.{Format}
use Rattle.store_model.specs.Recovered.{super_of, lines_of, recovered_pages, IsStore}
use Rattle.transaction_facts.specs.Books.{BookData, Goal, Holds}
use Rattle.transaction_facts.specs.Showing.{lines_now}

-- the current lines
abbrev pub page_lines : BookData → Standing → ℕ → ℕ → Line
page_lines b d = lines_of (pages b.tiers.sizes) (lines_now b d)

-- the committed lines: what recovery gives of what one reads
abbrev pub committed_in : Format → State → ℕ → ℕ → Line
committed_in format s = recovered_pages format (current s)

-- the store holds, for some current and committed lines
pub record Stands (b : BookData) (s : State) : Type 0 where
  pub goal : Goal
  pub holds : Holds b goal s

-- the image is a store of this format and these sizes
pub record IsSized (format : Format) (g : Sizes) (i : Image) : Type 0 where
  pub store : IsStore format i
  pub sizes : (super_of i).sizes ≡ g

-- A crash at that moment may leave an image that recovers to these lines. One that is no store counts as an image of any.
abbrev pub MayLeave : Format → Sizes → Standing → ℕ → (ℕ → ℕ → Line) → Type 0
MayLeave format g d m lines = (i : Image) × Leaves (d.at m) i × (IsSized format g i → recovered_pages format i ≡ lines)

-- A call that commits nothing: the current lines become what is said, the committed ones stay, whatever it answers, and a
-- crash at each moment of it leaves them.
pub record KeepsCommitted {T : Type 0} (changed : Words → Words) (old : BookData) (a : Standing) (new : BookData) (b : Standing) (result : Result T Stop) : Type 0 where
  pub read : IsTrue a.told → Stands old (fresh (current (now a))) → OnOk result (Stands new (fresh (current (now b))))
  pub steady : IsTrue a.told → Stands old (now a) → OnOk result (Stands new (now b))
  pub shows : IsTrue a.told → Stands old (fresh (current (now a))) → OnOk result (page_lines new b ≡ lines_of (pages old.tiers.sizes) (changed (lines_now old a)))
  pub committed : IsTrue a.told → Stands old (fresh (current (now a))) → committed_in old.format (now b) ≡ committed_in old.format (now a)
  pub during : IsTrue a.told → Stands old (now a) → (m : ℕ) → a.clock ≤ m → m ≤ b.clock → (lines : ℕ → ℕ → Line) → MayLeave old.format old.tiers.sizes b m lines
      → lines ≡ committed_in old.format (now a)

-- A commit: the current lines stay, and become the committed ones; a crash while it goes on leaves those or the ones before.
pub record CommitsCurrent {T : Type 0} (old : BookData) (a : Standing) (new : BookData) (b : Standing) (result : Result T Stop) : Type 0 where
  pub read : IsTrue a.told → Stands old (fresh (current (now a))) → OnOk result (Stands new (fresh (current (now b))))
  pub steady : IsTrue a.told → Stands old (now a) → OnOk result (Stands new (now b))
  pub shows : IsTrue a.told → Stands old (fresh (current (now a))) → OnOk result (page_lines new b ≡ page_lines old a)
  pub committed : IsTrue a.told → Stands old (fresh (current (now a))) → OnOk result (committed_in old.format (now b) ≡ page_lines old a)
  pub during : IsTrue a.told → Stands old (now a) → (m : ℕ) → a.clock ≤ m → m ≤ b.clock → (lines : ℕ → ℕ → Line) → MayLeave old.format old.tiers.sizes b m lines
      → (lines ≡ committed_in old.format (now a)) ⊎ (lines ≡ page_lines old a)
