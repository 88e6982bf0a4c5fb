use Rattle.page_format.proofs.MarkBits.{none_marked}
use Rattle.page_format.proofs.marks.Marks.new.Goals as goal

pub returns : goal.returns
returns c = none_marked 64
