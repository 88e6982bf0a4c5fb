-- The lines up to i were learned.
use Rattle.device_files.proofs.LearnLaws.{IsLearning}
use Rattle.device_files.proofs.nvm_file.learn_chunk.Given as goal

abbrev pub invariant-lines : goal.invariant-lines
invariant-lines l = IsLearning l.first l.i l.place l.chunk l.found l.fn.memory l.memory
