-- What a call that may find damage makes of a store.
use Rattle.std.specs.Prelude.{◌≡◌, List, IsTrue, Result, OnOk, IfErr}
use Rattle.devices.specs.State.{State, Call, Amid, after_all}
use Rattle.devices.specs.World.{Standing, Goes, MakesAll, now}
use Rattle.line_pages.specs.declared.stop.Stop.{Stop}
use Rattle.store_model.specs.Layout.{Sizes}
use Rattle.device_calls.specs.Leads.{ReadsAs}
use Rattle.log_records.specs.Back.{IsUndamaged}
use Rattle.tier_facts.specs.Data.{Data}
use Rattle.transaction_facts.specs.Books.{Goal, HeldGoal}

-- As `Leads`, but for the cause of a stop: no damage is found where what is asked holds of what one reads.
pub record Undoing {Aim T : Type 0} (Held Before After : Aim → State → Type 0) (old new : Standing) (result : Result T Stop) : Type 0 where
  pub goes : Goes old new
  pub calls : List Call
  pub makes : MakesAll calls old new result
  pub sound : IsTrue old.told → (aim : Aim) (s : State) → ReadsAs s (now old) → Before aim s → IfErr result IsUndamaged
  pub facts : IsTrue old.told → (aim : Aim) (s : State) → ReadsAs s (now old) → Before aim s → OnOk result (After aim (after_all calls s))
  pub moments : IsTrue old.told → (aim : Aim) (s : State) → ReadsAs s (now old) → Before aim s → (mid : State) → Amid s calls mid → Held aim mid

-- whatever a store's tiers have in memory
pub record UndoesFor {T : Type 0} (g : Sizes) (Before After : Data → Goal → State → Type 0) (old new : Standing) (result : Result T Stop) : Type 0 where
  pub each : (tiers : Data) → tiers.sizes ≡ g → Undoing HeldGoal (Before tiers) (After tiers) old new result
