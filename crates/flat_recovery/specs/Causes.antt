-- Why a store is not made or not recovered, and what stays then.
use Rattle.std.specs.Prelude.{◌≡◌, ◌⊎◌, ◌<◌, Result, IfErr, OnOk}
use Rattle.devices.specs.World.{Standing, Rose, Stays}
use Rattle.flat_store_meaning.specs.Layout.{Sizes, nvm_lines, ssd_blocks}
use Rattle.flat_nvm_layout.specs.Opening.{NoFault}
use Rattle.flat_recovery.specs.declared.errors.FormatError.{FormatError}
use Rattle.flat_recovery.specs.declared.errors.FormatError.TheVariants as format
use Rattle.flat_recovery.specs.declared.errors.OpenError.{OpenError}
use Rattle.flat_recovery.specs.declared.errors.OpenError.TheVariants as opening

-- a device is smaller than these sizes need
abbrev pub IsTooSmall : Sizes → Standing → Type 0
IsTooSmall g d = (d.lines < nvm_lines g) ⊎ (d.blocks < ssd_blocks g)

-- While all pages stay in NVM no call on the disk is made.
abbrev pub FormatStops : FormatError → Standing → Standing → Type 0
FormatStops format.TooSmall old new = NoFault old new × Stays old new
FormatStops format.Nvm old new = Rose old.nvm_faults new.nvm_faults
FormatStops format.Ssd old new = ⊥

-- why a format fails, and which counts stay
pub record FormatCause {T : Type 0} (old new : Standing) (result : Result T FormatError) : Type 0 where
  pub stopped : IfErr result (λ why. FormatStops why old new)
  pub done : OnOk result (NoFault old new)
  pub reads : new.block_reads ≡ old.block_reads

-- why a store is not recovered: a fault was counted, or none was
abbrev pub OpenStops : OpenError → Standing → Standing → Type 0
OpenStops opening.Nvm old new = Rose old.nvm_faults new.nvm_faults
OpenStops opening.Ssd old new = ⊥
OpenStops opening.NotAStore old new = NoFault old new
OpenStops opening.TooSmall old new = NoFault old new
OpenStops opening.LogEnded old new = NoFault old new
OpenStops (opening.Damaged kept) old new = NoFault old new
OpenStops opening.NoMemory old new = NoFault old new

pub record OpenCause {T : Type 0} (old new : Standing) (result : Result T OpenError) : Type 0 where
  pub stopped : IfErr result (λ why. OpenStops why old new)
  pub done : OnOk result (NoFault old new)
  pub reads : new.block_reads ≡ old.block_reads
