use Rattle.device_files.proofs.LineLaws.{unknown_by}
use Rattle.device_files.proofs.NvmFileLaws.{loads_known}
use Rattle.device_files.proofs.nvm_file.NvmFile.load.Goals as goal

pub load_unknown-requires-clause-unknown : goal.load_unknown-requires-clause-unknown
load_unknown-requires-clause-unknown g c = unknown_by _ _ _ c.get.result c.get.ensures.known c.in-None.is

pub returns-in-Some-clause-known : goal.returns-in-Some-clause-known
returns-in-Some-clause-known g c = λ value h. let same = c.in-Some.ensures.known value h in cc

pub returns-in-Some-clause-found : goal.returns-in-Some-clause-found
returns-in-Some-clause-found g c = loads_known _ _ _ _ _ c.in-Some.ensures.known c.in-Some.ensures.found

pub returns-in-None-clause-known : goal.returns-in-None-clause-known
returns-in-None-clause-known g c = λ value h. absurd (unknown_by _ _ _ c.get.result c.get.ensures.known c.in-None.is value h)
