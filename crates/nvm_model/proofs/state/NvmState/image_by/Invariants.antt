use Rattle.std.proofs.Common.{◌≡◌}
use Rattle.nvm_model.specs.Choose.{image_of}
use Rattle.nvm_model.specs.Contents.{memory_of}
use Rattle.nvm_model.proofs.state.NvmState.image_by.Given as goal

abbrev pub invariant-loop-line : goal.invariant-loop-line
invariant-loop-line l = l.image.items ≡ image_of l.choice (memory_of l.self) l.line
