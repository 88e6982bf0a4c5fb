use Rattle.std.proofs.Common.{◌≡◌, ◌<◌, ◌≤◌, ℕ}
use Rattle.nvm_model.specs.Word.{single, trimmed}
use Rattle.nvm_model.specs.Contents.{memory_of, lines_of}
use Rattle.devices.specs.Replay.{word_at}
use Rattle.devices.proofs.replay.place_lines.Given as goal

-- the first lines are placed, and the others hold zeros
abbrev pub invariant-loop-line : goal.invariant-loop-line
invariant-loop-line l = record {
  placed : (k w : ℕ) → k < l.line → trimmed (memory_of l.nvm k w) ≡ single (word_at l.lines k w);
  ahead : (k w : ℕ) → l.line ≤ k → memory_of l.nvm k w ≡ single 0;
  size : lines_of l.nvm ≡ lines_of l.fn.nvm;
}
