-- No settings are read.
use Rattle.std.proofs.Common.{◌∙◌, ap, refl, true, false}
use Rattle.devices.specs.World.{Standing, Outside, Goes, OnlyChanges}
use Rattle.spitfire_app.specs.Promises.{ReadsNoSettings}

-- by a call of the devices
pub none_by_goes : {a b : Standing} → Goes a b → ReadsNoSettings a b
none_by_goes goes = record { settings = ap (λ (o : Outside). o.settings) goes.outside; faults = ap (λ (o : Outside). o.settings_faults) goes.outside }

-- and by a write behind it
pub none_by_write : {a b c : Standing} → ReadsNoSettings a b → OnlyChanges false false true b c → ReadsNoSettings a c
none_by_write first rest = record { settings = (rest.settings refl).0 ∙ first.settings; faults = (rest.settings refl).1 ∙ first.faults }
