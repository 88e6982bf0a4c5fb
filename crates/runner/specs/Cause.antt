-- Why a run stops.
use Rattle.std.specs.Prelude.{◌≡◌, ◌≤◌, List, ℕ, Result, IfErr, OnOk}
use Rattle.devices.specs.World.{Standing, Rose, NoFault, now}
use Rattle.damage.specs.declared.evidence.Evidence.{Evidence}
use Rattle.line_pages.specs.declared.stop.Stop.{Stop}
use Rattle.line_pages.specs.declared.stop.Stop.TheVariants.{Nvm, Ssd, Damaged}
use Rattle.engine.specs.declared.engine.Engine.{Engine}
use Rattle.engine.specs.Engine.{engine_sizes, StandsFor, evidence_bytes}
use Rattle.engine.specs.Causes.{IsDamage}
use Rattle.runner.specs.declared.stop.Halt.{Halt}
use Rattle.runner.specs.declared.stop.Halt.TheVariants.{Store, Source, Sink}

-- The engine stopped for damage: at a moment between these two an engine of these sizes stood for the devices as they were
-- then, it stopped at this or a later moment as the engine after it, and the evidence shows damage of them; a page of the
-- evidence stands in this buffer, and whatever the devices hold, it or the line that is kept fails the check named.
pub record Shown (page : List ℕ) (kept : Evidence) (engine : Engine) (old new : Standing) : Type 0 where
  pub before : Engine
  pub at : Standing
  pub after : Engine
  pub stop : Standing
  pub sizes : engine_sizes before ≡ engine_sizes engine
  pub stands : StandsFor before at
  pub damage : IsDamage before at after stop page kept
  pub told : at.told ≡ new.told
  pub since : old.clock ≤ at.clock
  pub until : at.clock ≤ stop.clock
  pub past : stop.clock ≤ new.clock
  pub same : now at ≡ new.at at.clock
  pub same_at_stop : now stop ≡ new.at stop.clock

-- the count of the device or the stream rose, or there is damage, whose page is that of the engine
abbrev pub StoreCaused : Stop → Standing → Engine → Standing → Type 0
StoreCaused Nvm old engine new = Rose old.nvm_faults new.nvm_faults
StoreCaused Ssd old engine new = Rose old.ssd_faults new.ssd_faults
StoreCaused (Damaged kept) old engine new = Shown (evidence_bytes engine) kept engine old new

abbrev pub Caused : Halt → Standing → Engine → Standing → Type 0
Caused (Store stop) old engine new = StoreCaused stop old engine new
Caused Source old engine new = Rose old.outside.source_faults new.outside.source_faults
Caused Sink old engine new = Rose old.outside.sink_faults new.outside.sink_faults

-- what is answered has its cause, and with ok no count rose
pub record HasCause {T : Type 0} (old : Standing) (engine : Engine) (new : Standing) (result : Result T Halt) : Type 0 where
  pub failed : IfErr result (λ why. Caused why old engine new)
  pub ok : OnOk result (NoFault old new)

-- a stop that is no damage
abbrev pub HaltsByFault : Halt → Type 0
HaltsByFault (Store Nvm) = Unit {0}
HaltsByFault (Store Ssd) = Unit {0}
HaltsByFault (Store (Damaged kept)) = ⊥
HaltsByFault Source = Unit {0}
HaltsByFault Sink = Unit {0}
