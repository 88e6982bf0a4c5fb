use Rattle.device_files.proofs.NvmFileLaws.{stores_word}
use Rattle.device_files.proofs.nvm_file.NvmFile.store_word.Goals as goal

pub returns-clause-stored : goal.returns-clause-stored
returns-clause-stored g c = stores_word _ _ _ _ c.in_ok-changed.changed _ c.load.new.self.device.file _ _ c.load.new.self.memory _ c.store_line.result c.in_ok-changed.ensures.found c.store_line.ensures.stored
