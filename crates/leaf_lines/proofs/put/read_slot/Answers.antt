use Rattle.std.proofs.Common.{◌+◌, ◌*◌, arith}
use Rattle.line_pages.proofs.CostLaws.{Costs-trans}
use Rattle.page_alloc.proofs.CostLaws.{costs_half}
use Rattle.line_pages.proofs.StandingLaws.{ReadsPage-trans}
use Rattle.leaf_lines.proofs.put.read_slot.Goals as goal

pub returns-clause-reads : goal.returns-clause-reads
returns-clause-reads g c = ReadsPage-trans c.in_ok-place.ensures.reads c.in_ok-size.ensures.reads

pub returns-clause-costs : goal.returns-clause-costs
returns-clause-costs g c = Costs-trans (costs_half (64 + 4 * c.args.at) (omega arith) c.in_ok-place.ensures.lines) (costs_half (64 + 4 * c.args.at + 2) (omega arith) c.in_ok-size.ensures.lines)
