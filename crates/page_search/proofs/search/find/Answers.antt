use Rattle.std.proofs.Common.{arith, refl}
use Rattle.line_pages.specs.Bytes.{bytes_of}
use Rattle.line_pages.proofs.CauseLaws.{unless_never}
use Rattle.line_pages.proofs.CostLaws.{AddsLines-weaker, Costs-weaker}
use Rattle.page_search.specs.Cost.{most_lines}
use Rattle.page_search.proofs.ProbeLaws.{search_cost}
use Rattle.page_search.proofs.BoundLaws.{whole_bound}
use Rattle.line_pages.proofs.StandingLaws.{one_access, still_open, KeepsPages-trans}
use Rattle.page_search.proofs.OpenLaws.{then_reads_unless}
use Rattle.page_search.proofs.search.find.Goals as goal

pub returns-in-None-clause-reads : goal.returns-in-None-clause-reads
returns-in-None-clause-reads g c = then_reads_unless (g.P.Pages.standing c.args.pages.now) (g.P.Pages.standing c.probe.new.pages) (g.P.Pages.standing c.find_whole.new.pages) c.find_whole.result c.in_ok-spot.ensures.reads c.find_whole.ensures.reads

pub returns-in-None-clause-few : goal.returns-in-None-clause-few
returns-in-None-clause-few g c = omega (arith, one_access c.in_ok-spot.ensures.reads, c.find_whole.ensures.again (still_open c.in_ok-spot.ensures.reads))

pub returns-in-Some-clause-cost : goal.returns-in-Some-clause-cost
returns-in-Some-clause-cost g c = λ told well.
    let bytes = bytes_of (g.P.Pages.standing c.args.pages.now).current c.args.page in
    AddsLines-weaker (λ lines searches. search_cost c.args.expect.now.level bytes lines c.args.expect.now refl well searches) (c.in_ok-spot.ensures.lines told well)

pub returns-in-Some-clause-bound : goal.returns-in-Some-clause-bound
returns-in-Some-clause-bound g c = Costs-weaker (omega arith) c.in_ok-spot.ensures.bound

pub returns-in-None-clause-bound : goal.returns-in-None-clause-bound
returns-in-None-clause-bound g c =
    whole_bound (most_lines c.args.expect.now.level) (g.P.Pages.standing c.args.pages.now) (g.P.Pages.standing c.probe.new.pages) (g.P.Pages.standing c.find_whole.new.pages) c.find_whole.result
    c.in_ok-spot.ensures.bound c.find_whole.ensures.lines

pub returns-in-None-clause-call : goal.returns-in-None-clause-call
returns-in-None-clause-call g c = KeepsPages-trans c.in_ok-spot.ensures.call c.find_whole.ensures.call

pub returns-in_err-spot-clause-reads : goal.returns-in_err-spot-clause-reads
returns-in_err-spot-clause-reads g c = unless_never _ (g.P.Pages.standing c.args.pages.now) (g.P.Pages.standing c.probe.new.pages) c.from_residual.result c.in_err-spot.field-0.0 c.from_residual.ensures c.in_err-spot.ensures.cause.failed
