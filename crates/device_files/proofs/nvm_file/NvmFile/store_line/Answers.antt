use Rattle.std.proofs.Common.{rules}
use Rattle.device_files.proofs.NvmFileLaws.{stores_after}
use Rattle.device_files.proofs.nvm_file.NvmFile.store_line.Goals as goal

pub returns-clause-stored : goal.returns-clause-stored
returns-clause-stored g c =
    let hands = c.in_ok-write_gathered.ensures.written in
    let again = c.put-taken.ensures in
    stores_after _ _ _ _ _ c.args.self.now.memory c.put.new.self c.write_gathered.new.self.memory c.put-taken.new.self (c.put.ensures.refused (search rules)) hands (again.taken (again.empty hands.empty)) again.others
