-- What the layers above see of a call of a store.
use Rattle.std.specs.Prelude.{◌≡◌, ◌⊎◌, ℕ, IsTrue, Result, OnOk}
use Rattle.devices.specs.State.{Image, Leaves, current, fresh}
use Rattle.devices.specs.World.{Standing, Goes, Moments, now}
use Rattle.line_pages.specs.declared.stop.Stop.{Stop}
use Rattle.device_calls.specs.Stops.{StopCause}
use Rattle.store_model.specs.Log.{Words}
use Rattle.store_model.specs.StoreFacts.{IsWord}
use Rattle.tier_facts.specs.Data.{current_in}
use Rattle.tier_facts.specs.Shown.{IsStoreOf}
use Rattle.transaction_facts.specs.Books.{BookData, Goal, Holds}

-- the current lines, as one reads them
abbrev pub lines_now : BookData → Standing → Words
lines_now b d = current_in b.tiers.sizes b.tiers (current (now d))

-- the current lines are these
pub record LinesAre (b : BookData) (d : Standing) (words : Words) : Type 0 where
  pub each : (p l w : ℕ) → IsWord b.tiers.sizes p l w → lines_now b d p l w ≡ words p l w

-- the image recovers to the committed lines
abbrev pub Committed : Goal → Image → Type 0
Committed goal i = IsStoreOf goal.format goal.sizes goal.kept i

-- to those, or to the current ones, which are being committed
abbrev pub Either : Goal → Image → Type 0
Either goal i = IsStoreOf goal.format goal.sizes goal.kept i ⊎ IsStoreOf goal.format goal.sizes goal.words i

-- A call of a store that makes of the current lines what `changed` says, and of what the store is for what `later` says. Whatever
-- it answers, what every call of the devices keeps, and a stop has its cause. Where the devices are told and the store holds of
-- what one reads of them, it holds again, the current lines are as said, and what one reads at each moment is as `Seen` says;
-- and where it holds of the devices themselves it holds again, and each image at each moment is as `Seen` says.
pub record Showing {T : Type 0} (Seen : Goal → Image → Type 0) (changed : Words → Words) (later : Goal → Goal) (old : BookData) (a : Standing) (new : BookData) (b : Standing) (result : Result T Stop) : Type 0 where
  pub goes : Goes a b
  pub cause : StopCause a b result
  pub read : IsTrue a.told → (goal : Goal) → Holds old goal (fresh (current (now a))) → OnOk result (Holds new (later goal) (fresh (current (now b))))
  pub lines : IsTrue a.told → (goal : Goal) → Holds old goal (fresh (current (now a))) → OnOk result (LinesAre new b (changed (lines_now old a)))
  pub read_seen : IsTrue a.told → (goal : Goal) → Holds old goal (fresh (current (now a))) → Moments a b (λ s. Seen goal (current s))
  pub steady : IsTrue a.told → (goal : Goal) → Holds old goal (now a) → OnOk result (Holds new (later goal) (now b))
  pub seen : IsTrue a.told → (goal : Goal) → Holds old goal (now a) → Moments a b (λ s. (i : Image) → Leaves s i → Seen goal i)
