-- What was loaded is judged.
use Rattle.std.proofs.Common.{refl}
use Rattle.flat_recovery.proofs.HeadLaws.{judged_cause, judged_loaded}
use Rattle.flat_recovery.specs.Reading.{lines_at}
use Rattle.flat_nvm_layout.specs.Sizes.{sizes_of}
use Rattle.devices.specs.World.{now}
use Rattle.flat_recovery.proofs.checking.head_at.Goals as goal

pub returns-in-Ok-clause-cause : goal.returns-in-Ok-clause-cause
returns-in-Ok-clause-cause g c =
    judged_cause c.args.log.now c.args.at c.in-Ok.line _ _ c.judged.result c.judged.ensures (record { nvm = c.in-Ok.ensures.cause.nvm; ssd = c.in-Ok.ensures.cause.ssd }) c.in-Ok.ensures.cause.reads

pub returns-in-Ok-clause-reads : goal.returns-in-Ok-clause-reads
returns-in-Ok-clause-reads g c = record { line = c.in-Ok.line; held = c.in-Ok.ensures.value; judged = judged_loaded c.args.log.now c.args.at c.in-Ok.line c.judged.result c.judged.ensures }

pub returns-in-Err-clause-reads : goal.returns-in-Err-clause-reads
returns-in-Err-clause-reads g c =
    record { line = lines_at (sizes_of c.args.log.now.geometry) c.args.log.now.start (now (g.D.Devices.standing c.args.dev.now)) c.args.at; held = λ told. refl; judged = tt }
