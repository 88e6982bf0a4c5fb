-- A run without a fault, and words of no form.
use Rattle.std.proofs.Common.{refl}
use Rattle.spitfire_app.proofs.top.spitfire.Goals as goal

pub returns-in-Some-Run-clause-complete : goal.returns-in-Some-Run-clause-complete
returns-in-Some-Run-clause-complete g c = λ sizes T is store holds few none. c.run.ensures.complete sizes T store holds few none

pub returns-in-None-clause-settings : goal.returns-in-None-clause-settings
returns-in-None-clause-settings g c = record { settings = refl; faults = refl }
