use Rattle.std.proofs.Common.{◌%◌, arith}
use Rattle.device_files.proofs.LineLaws.{none_in}
use Rattle.device_files.proofs.line_cache.LineCache.new.Goals as goal

pub returns : goal.returns
returns c = λ line value. none_in 4096 (line % 4096) (record { line = line; value = value }) (omega arith)
