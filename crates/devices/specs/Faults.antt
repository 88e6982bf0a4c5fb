-- Which calls a plan of faults names.
use Rattle.std.specs.Prelude.{ℕ, Bool, List, ◌==◌, ◌&&◌}
use Rattle.std.specs.List.{list_any}
use Rattle.devices.specs.declared.faults.Fault.{Fault}
use Rattle.devices.specs.declared.faults.FaultKind.{FaultKind}
use Rattle.devices.specs.declared.faults.FaultKind.TheVariants.{Nvm, Ssd, Settings, Source, Sink}

abbrev pub number_of : FaultKind → ℕ
number_of Nvm = 0
number_of Ssd = 1
number_of Settings = 2
number_of Source = 3
number_of Sink = 4

-- a fault names the nth call of this kind
abbrev pub is_named : List Fault → FaultKind → ℕ → Bool
is_named plan kind nth = list_any (λ fault. number_of fault.kind == number_of kind && fault.nth == nth) plan
