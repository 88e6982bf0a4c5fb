use Rattle.std.proofs.Common.{rules}
use Rattle.device_files.proofs.LineLaws.{unknown_by}
use Rattle.device_files.proofs.line_memory.LineMemory.learn.Goals as goal

pub keep-requires-clause-unknown : goal.keep-requires-clause-unknown
keep-requires-clause-unknown c = unknown_by _ _ c.args.line c.get.result c.get.ensures.known (search rules)
