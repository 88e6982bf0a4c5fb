use Rattle.nvm_model.specs.Contents.{memory_of}
use Rattle.nvm_model.proofs.MemoryLaws.{image_more}
use Rattle.std.proofs.Common.{◌∙◌}
use Rattle.nvm_model.proofs.state.NvmState.image_by.Goals as goal

pub loop-line-preserved : goal.loop-line-preserved
loop-line-preserved c =
    c.in_ok-push_line.ensures.pushed ∙ image_more c.args.choice (memory_of c.args.self.now) c.loop-line.line c.loop-line.image.items c.chosen_line-left.result c.loop-line.invariant c.chosen_line-left.ensures
