use Rattle.device_files.proofs.file_world.FileWorldDevices.load.Goals as goal

pub returns-in-Ok-clause-known : goal.returns-in-Ok-clause-known
returns-in-Ok-clause-known g c = λ found h. let same = c.load.ensures.known found h in cc

pub returns-in-Err-clause-known : goal.returns-in-Err-clause-known
returns-in-Err-clause-known g c = λ found h. let same = c.load.ensures.known found h in cc
