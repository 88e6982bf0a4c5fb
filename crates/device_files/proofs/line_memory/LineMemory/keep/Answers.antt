use Rattle.device_files.proofs.LineLaws.{agree_learn}
use Rattle.device_files.proofs.LearnLaws.{learns_kept, recalls_still}
use Rattle.device_files.proofs.line_memory.LineMemory.keep.Goals as goal

pub invariant_of-self : goal.invariant_of-self
invariant_of-self c = record { agree = agree_learn c.args.line _ _ _ c.args.self.now.agree c.requires.unknown c.keep.ensures.fewer }

pub returns-clause-learns : goal.returns-clause-learns
returns-clause-learns c = learns_kept c.args.line c.args.value.now _ _ _ c.requires.unknown c.keep.ensures.alone c.keep.ensures.fewer

pub returns-clause-stay : goal.returns-clause-stay
returns-clause-stay c = recalls_still c.args.line _ _ _ c.keep.ensures.stay
