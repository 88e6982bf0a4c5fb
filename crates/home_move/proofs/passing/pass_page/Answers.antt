-- Another page leaves the frame, and this one comes there.
use Rattle.std.proofs.Common.{None, sym, ◌∙◌}
use Rattle.nvm_layout.specs.Sizes.{sizes_of}
use Rattle.device_calls.proofs.LeadsLaws.{leads_then, leads_from, leads_given, leads_exit}
use Rattle.home_move.specs.Homes.{IsKeptIn}
use Rattle.home_move.specs.Passing.{WritesBlocks, leaving_for}
use Rattle.home_move.proofs.HomeLaws.{there_already, is_there, is_elsewhere}
use Rattle.home_move.proofs.WriteLaws.{writes_none, writes_then, writes_number, there_stays, elsewhere_leaves, at_exit}
use Rattle.home_move.proofs.passing.pass_page.Goals as goal

pub returns-in_err-end_passage-clause-call : goal.returns-in_err-end_passage-clause-call
returns-in_err-end_passage-clause-call g c =
    leads_exit c.from_residual.result c.from_residual.ensures.1 (leads_from (λ aim s before. before.holds) c.in_err-end_passage.ensures.call)

pub returns-in_err-enter-clause-call : goal.returns-in_err-enter-clause-call
returns-in_err-enter-clause-call g c =
    leads_exit c.from_residual-in_err-enter.result c.from_residual-in_err-enter.ensures.1
    (leads_then (leads_given (IsKeptIn (sizes_of c.args.geometry.now) c.args.page None) c.in_ok-end_passage.ensures.call) c.in_err-enter.ensures.call)

pub returns-clause-call : goal.returns-clause-call
returns-clause-call g c = leads_then (leads_given (IsKeptIn (sizes_of c.args.geometry.now) c.args.page None) c.in_ok-end_passage.ensures.call) c.in_ok-enter.ensures.call

-- the page is there already
pub returns-then-eq-clause-call : goal.returns-then-eq-clause-call
returns-then-eq-clause-call g c = there_already (sizes_of c.args.geometry.now) c.args.passage.now.page c.args.page
    (is_there c.args.passage.now.page c.args.page (sym c.eq.ensures ∙ c.if-eq.true))

pub returns-then-eq-clause-writes : goal.returns-then-eq-clause-writes
returns-then-eq-clause-writes g c = writes_number (there_stays c.args.page c.args.passage.now.page (is_there c.args.passage.now.page c.args.page (sym c.eq.ensures ∙ c.if-eq.true)))
    (writes_none (g.D.Devices.standing c.args.dev.now))

pub returns-clause-writes : goal.returns-clause-writes
returns-clause-writes g c =
    writes_number (elsewhere_leaves c.args.page c.args.passage.now.page (is_elsewhere c.args.passage.now.page c.args.page (sym c.eq.ensures ∙ c.if-eq.false)))
    (writes_then c.in_ok-end_passage.ensures.call.goes c.in_ok-enter.ensures.call.goes c.in_ok-end_passage.ensures.writes c.in_ok-enter.ensures.writes)

pub returns-in_err-enter-clause-writes : goal.returns-in_err-enter-clause-writes
returns-in_err-enter-clause-writes g c =
    at_exit (λ r. WritesBlocks (leaving_for None c.args.page c.args.passage.now.page) (g.D.Devices.standing c.args.dev.now) (g.D.Devices.standing c.enter.new.dev) r)
    c.from_residual-in_err-enter.result c.from_residual-in_err-enter.ensures.1
    (writes_number (elsewhere_leaves c.args.page c.args.passage.now.page (is_elsewhere c.args.passage.now.page c.args.page (sym c.eq.ensures ∙ c.if-eq.false)))
    (writes_then c.in_ok-end_passage.ensures.call.goes c.in_err-enter.ensures.call.goes c.in_ok-end_passage.ensures.writes c.in_err-enter.ensures.writes))
