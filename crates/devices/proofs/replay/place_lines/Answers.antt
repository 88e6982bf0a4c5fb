use Rattle.std.proofs.Common.{rules, ◌∙◌}
use Rattle.nvm_model.specs.Contents.{memory_of}
use Rattle.devices.proofs.ReplayLaws.{all_placed}
use Rattle.devices.proofs.replay.place_lines.Goals as goal

pub returns-clause-placed : goal.returns-clause-placed
returns-clause-placed c =
    let loop = c.loop-line in
    c.fence.ensures.words ∙ all_placed (memory_of loop.nvm) c.args.lines.now loop.line (search rules) loop.invariant.placed loop.invariant.ahead
