use Rattle.std.proofs.Common.{◌≡◌, ◌+◌, ◌-◌, ◌%◌, rules, arith}
use Rattle.device_files.proofs.LearnLaws.{loads_unknown}
use Rattle.device_files.proofs.nvm_file.NvmFile.load_unknown.Goals as goal

pub returns-clause-found : goal.returns-clause-found
returns-clause-found g c =
    let line = c.args.line in
    let done = c.learn_chunk.ensures in
    let at : (line - line % 64) + line % 64 ≡ line = omega arith in
    loads_unknown _ (line - line % 64) (line % 64) line _ _ _ _ _ _ _ c.learn_chunk.result at c.requires.unknown c.start_of_line.ensures (search rules)
    c.in_ok-read_at.ensures done.found done.now done.learns
