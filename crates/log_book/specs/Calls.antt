-- What a call of the log makes of a store.
use Rattle.std.specs.Prelude.{◌≡◌, ℕ, Result}
use Rattle.nvm_model.specs.declared.line.Line.{Line}
use Rattle.devices.specs.State.{State}
use Rattle.devices.specs.World.{Standing, Goes}
use Rattle.line_pages.specs.declared.stop.Stop.{Stop}
use Rattle.store_model.specs.Layout.{Sizes}
use Rattle.device_calls.specs.Stops.{StopCause}
use Rattle.device_calls.specs.Leads.{Leads}
use Rattle.tier_facts.specs.Data.{Data}
use Rattle.tier_facts.specs.Facts.{AreClean}
use Rattle.transaction_facts.specs.Books.{Goal, HeldGoal}
use Rattle.log_book.specs.LogData.{LogData}
use Rattle.log_book.specs.Open.{OpenIn, RecordedIn, SettledIn}

-- The devices go on, and a stop has its cause; and whatever the store's tiers have in memory, what holds of it leads to what holds.
pub record ForTiers {T : Type 0} (g : Sizes) (Held : Goal → State → Type 0) (Before After : Data → Goal → State → Type 0) (old new : Standing) (result : Result T Stop) : Type 0 where
  pub goes : Goes old new
  pub cause : StopCause old new result
  pub each : (tiers : Data) → tiers.sizes ≡ g → Leads Held (Before tiers) (After tiers) old new result

-- an open store stays one
abbrev pub KeepsOpen : {T : Type 0} → Sizes → LogData → LogData → Standing → Standing → Result T Stop → Type 0
KeepsOpen g before after old new result = ForTiers g HeldGoal (λ t. OpenIn t before) (λ t. OpenIn t after) old new result

-- and so does one on the way of a write
pub record KeepsRecorded {T : Type 0} (g : Sizes) (before after : LogData) (old new : Standing) (result : Result T Stop) : Type 0 where
  pub each : (page line : ℕ) (value : Line) → ForTiers g HeldGoal (λ t. RecordedIn page line value t before) (λ t. RecordedIn page line value t after) old new result

-- a store whose homes are durable and current, and whose tiers have no dirty line, is an open one with an empty log
pub record Empties {T : Type 0} (g : Sizes) (before after : LogData) (old new : Standing) (result : Result T Stop) : Type 0 where
  pub goes : Goes old new
  pub cause : StopCause old new result
  pub each : (tiers : Data) → tiers.sizes ≡ g → AreClean tiers → Leads HeldGoal (SettledIn tiers before) (OpenIn tiers after) old new result
