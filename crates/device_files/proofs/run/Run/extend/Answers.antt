use Rattle.std.proofs.Common.{◌≡◌, ◌+◌, ◌++◌, ℕ, List, length, ap, ◌∙◌, rules}
use Rattle.device_files.specs.Positioned.{with_bytes}
use Rattle.device_files.specs.LineBytes.{line_start, line_bytes}
use Rattle.device_files.specs.Run.{run_bytes}
use Rattle.device_files.proofs.RunLaws.{run_more, length-run_bytes}
use Rattle.device_files.proofs.run.Run.extend.Goals as goal

pub returns-clause-taken : goal.returns-clause-taken
returns-clause-taken c = λ _ xs.
    let run = c.args.self.now in
    let new = c.append.new.self in
    let placed = c.args.placed.now in
    let size : length run.bytes ≡ 4096 = search rules in
    let next : run.first + run.count ≡ placed.line = search rules in
    let bytes : run_bytes new ≡ run_bytes run ++ line_bytes placed.value =
    c.append.ensures.bytes ∙ ap (λ (l : List ℕ). run_bytes run ++ l) c.bytes_of_line.ensures in
    ap (λ (n : ℕ). with_bytes (line_start n) (run_bytes new) xs) c.append.ensures.first
    ∙ run_more run.first run.count placed.line (run_bytes run) (run_bytes new) (line_bytes placed.value) xs (length-run_bytes run run.bound size) next bytes
