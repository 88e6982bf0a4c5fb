-- What the opening of an engine answers.
use Rattle.std.specs.Prelude.{◌≡◌, ◌<◌, ◌≤◌, List, Result, Ok, Err, IfOk}
use Rattle.devices.specs.World.{Standing, Moments}
use Rattle.rows.specs.Tables.{Table}
use Rattle.flat_transactions.specs.BookCalls.{IsNew}
use Rattle.flat_transactions.specs.Order.{Sizes}
use Rattle.flat_recovery.specs.Opening.{Answers, FindsInLog, IsComplete, ChangesNothing, parts_sizes}
use Rattle.flat_recovery.specs.Causes.{OpenCause}
use Rattle.flat_recovery.specs.declared.opening.Parts.{Parts}
use Rattle.flat_recovery.specs.declared.errors.OpenError.{OpenError}
use Rattle.flat_recovery.specs.declared.errors.OpenError.TheVariants.{TooSmall}
use Rattle.script.specs.Machine.{opening}
use Rattle.engine.specs.declared.engine.Engine.{Engine}
use Rattle.engine.specs.Holds.{HasOnly}
use Rattle.engine.specs.Engine.{engine_sizes, IsSteadyFor, Shows}

-- The answer is that of a recovery: an engine of the sizes that it found, or its refusal.
abbrev pub Follows : Result Parts OpenError → Result Engine OpenError → Type 0
Follows (Ok parts) (Ok engine) = engine_sizes engine ≡ parts_sizes parts
Follows (Ok parts) (Err why) = ⊥
Follows (Err found) (Ok engine) = ⊥
Follows (Err found) (Err why) = why ≡ found

-- What a recovery found, why it was refused, and what stays then.
pub record Opens (old new : Standing) (result : Result Engine OpenError) : Type 0 where
  pub found : Result Parts OpenError
  pub follows : Follows found result
  pub answers : 4 ≤ old.lines → Answers old found
  pub small : old.lines < 4 → found ≡ Err TooSmall
  pub finds : FindsInLog old found
  pub complete : IsComplete old found
  pub cause : OpenCause old new found
  pub nothing : ChangesNothing old new found

-- The engine shows the state at the start of a run, of the tables that the devices hold.
pub record ShowsHeld (g : Sizes) (T : List Table) (new : Standing) (engine : Engine) : Type 0 where
  pub shows : Shows engine new (opening T)
  pub sizes : engine_sizes engine ≡ g

-- Devices in order stay it, with the same tables, at each moment and for each image; and so an engine goes on with them.
pub record KeepsOrder (g : Sizes) (T : List Table) (old new : Standing) (result : Result Engine OpenError) : Type 0 where
  pub moments : Moments old new (HasOnly g T old.lines old.blocks)
  pub steady : IfOk result (λ engine. IsSteadyFor engine new)

-- The engine of a store that was recovered: a new book, and the limits of its geometry.
pub record IsOver (parts : Parts) (engine : Engine) : Type 0 where
  pub book : IsNew parts.log parts.loose engine.book
  pub tables : engine.limits.tables ≡ parts.geometry.tables
  pub rows : engine.limits.rows ≡ parts.geometry.rows
  pub writes : engine.writes ≡ parts.geometry.writes
  pub commits : engine.commits ≡ 0
