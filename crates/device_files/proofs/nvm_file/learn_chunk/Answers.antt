use Rattle.std.proofs.Common.{◌≢◌, ◌<◌, ◌+◌, refl, sym, subst, rules}
use Rattle.device_files.specs.declared.line_memory.LineMemory.{LineMemory}
use Rattle.device_files.proofs.LearnLaws.{IsLearning, learning_first, learning_more, learning_past}
use Rattle.device_files.proofs.nvm_file.learn_chunk.Goals.{then-i-place+then-line-lt-NVM_LINES, else-i-place}
use Rattle.device_files.proofs.nvm_file.learn_chunk.Goals as goal

pub lines-init : goal.lines-init
lines-init c = learning_first c.args.first c.args.place c.args.chunk.now c.line_of_chunk-found.result c.args.memory.now c.learn.new.self c.requires.place
    (record { place = c.args.place; below = c.requires.place; line_is = refl; words = c.line_of_chunk-found.ensures })
    c.learn.ensures.learns c.learn.ensures.now c.learn.ensures.stay

pub lines-preserved : goal.lines-preserved
lines-preserved c =
    let i = c.lines.i in
    let below : i < 64 = search rules in
    elim c.if-i-place.branch [
      | then-i-place+then-line-lt-NVM_LINES w ↦
          let apart : i ≢ c.args.place = search rules in
          subst (λ (m : LineMemory). IsLearning c.args.first (i + 1) c.args.place c.args.chunk.now c.line_of_chunk-found.result c.args.memory.now m) (sym w.memory-is)
          (learning_more c.args.first i c.args.place c.args.chunk.now c.line_of_chunk-found.result w.line_of_chunk.result c.args.memory.now c.lines.memory _ c.requires.place below apart
          (record { place = i; below = below; line_is = refl; words = w.line_of_chunk.ensures }) c.lines.invariant
          w.learn-then-line-lt-NVM_LINES.ensures.learns w.learn-then-line-lt-NVM_LINES.ensures.stay)
      | else-i-place w ↦
          subst (λ (m : LineMemory). IsLearning c.args.first (i + 1) c.args.place c.args.chunk.now c.line_of_chunk-found.result c.args.memory.now m) (sym w.memory-is)
          (learning_past c.args.first i c.args.place c.args.chunk.now c.line_of_chunk-found.result c.args.memory.now c.lines.memory c.lines.invariant)
    ]

pub returns-clause-now : goal.returns-clause-now
returns-clause-now c = c.lines.invariant.kept

pub returns-clause-learns : goal.returns-clause-learns
returns-clause-learns c = c.lines.invariant.learns
