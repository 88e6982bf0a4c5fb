-- Why a call on both devices stops.
use Rattle.std.specs.Prelude.{◌≡◌, Result, IfErr, OnOk}
use Rattle.devices.specs.World.{Standing, Rose}
use Rattle.line_pages.specs.declared.stop.Stop.{Stop}
use Rattle.line_pages.specs.declared.stop.Stop.TheVariants.{Nvm, Ssd, Damaged}

-- the count of that device rose; no damage is found
abbrev pub IsFault : Standing → Standing → Stop → Type 0
IsFault a b Nvm = Rose a.nvm_faults b.nvm_faults
IsFault a b Ssd = Rose a.ssd_faults b.ssd_faults
IsFault a b (Damaged evidence) = ⊥

-- each stop has its cause, and no fault is passed over
pub record StopCause {T : Type 0} (a b : Standing) (result : Result T Stop) : Type 0 where
  pub failed : IfErr result (IsFault a b)
  pub nvm : OnOk result (b.nvm_faults ≡ a.nvm_faults)
  pub ssd : OnOk result (b.ssd_faults ≡ a.ssd_faults)

-- it stops with this alone
abbrev pub StopsWith : {T : Type 0} → Stop → Result T Stop → Type 0
StopsWith stop result = IfErr result (λ why. why ≡ stop)
