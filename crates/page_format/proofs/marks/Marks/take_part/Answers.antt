use Rattle.std.proofs.Common.{refl, slice_index_or, arith}
use Rattle.page_format.proofs.MarkBits.{part_free, part_marked}
use Rattle.page_format.proofs.marks.Marks.take_part.Goals as goal

pub returns-clause-free : goal.returns-clause-free
returns-clause-free c = part_free c.args.self.now.words c.args.word c.args.from c.args.until (slice_index_or c.args.self.now.words c.args.word 0) c.mask_of-mask.result c.requires.within refl c.mask_of-mask.ensures

pub returns-clause-marks : goal.returns-clause-marks
returns-clause-marks c = part_marked c.args.self.now.words c.args.word c.args.from c.args.until (slice_index_or c.args.self.now.words c.args.word 0) c.mask_of-mask.result c.requires.within refl c.mask_of-mask.ensures (grind arith)
