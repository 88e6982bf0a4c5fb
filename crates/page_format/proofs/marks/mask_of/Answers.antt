use Rattle.page_format.proofs.MarkBits.{run_mask}
use Rattle.page_format.proofs.marks.mask_of.Goals as goal

pub returns : goal.returns
returns c = run_mask c.args.from c.args.until c.requires.some c.requires.within
