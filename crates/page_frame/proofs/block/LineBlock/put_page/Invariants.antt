-- So far the first lines of the page stand in their places, and the other places are as they were.
use Rattle.std.proofs.Common.{◌≡◌}
use Rattle.page_frame.specs.Blocks.{places_of}
use Rattle.page_frame.proofs.FillLaws.{page_up_to}
use Rattle.page_frame.proofs.block.LineBlock.put_page.Given as goal

abbrev pub invariant-loop-line : goal.invariant-loop-line
invariant-loop-line l = places_of l.self ≡ page_up_to l.page l.from l.line (places_of l.fn.self)
