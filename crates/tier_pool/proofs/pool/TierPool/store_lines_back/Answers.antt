use Rattle.std.proofs.Common.{◌≡◌, arith}
use Rattle.nvm_layout.specs.Sizes.{sizes_of}
use Rattle.tier_pool.specs.Fields.{parts_of}
use Rattle.tier_pool.proofs.CallLaws.{fits_later, stores_none, stores_then, stores_exit}
use Rattle.tier_pool.proofs.StoringLaws.{lines_start, lines_then, lines_exit, lines_to}
use Rattle.tier_pool.proofs.pool.TierPool.store_lines_back.Goals as goal

pub loop-line-init : goal.loop-line-init
loop-line-init g c = (stores_none _, lines_start (sizes_of c.args.self.now.geometry) c.args.place c.args.frame (parts_of c.args.self.now) _)

pub store_line_back-requires-clause-fits : goal.store_line_back-requires-clause-fits
store_line_back-requires-clause-fits g c = fits_later _ c.requires.fits (c.loop-line.invariant.0).goes

pub loop-line-preserved : goal.loop-line-preserved
loop-line-preserved g c = (
  stores_then c.loop-line.invariant.0 c.in_ok-store_line_back.ensures.call,
  lines_then (sizes_of c.args.self.now.geometry) c.args.place c.args.frame (parts_of c.args.self.now) c.loop-line.invariant.1 c.in_ok-store_line_back.ensures.lines,
)

pub returns-in_err-store_line_back-clause-call : goal.returns-in_err-store_line_back-clause-call
returns-in_err-store_line_back-clause-call g c = stores_exit c.from_residual.result c.from_residual.ensures.1 (stores_then c.loop-line.invariant.0 c.in_err-store_line_back.ensures.call)

pub returns-in_err-store_line_back-clause-lines : goal.returns-in_err-store_line_back-clause-lines
returns-in_err-store_line_back-clause-lines g c =
    lines_exit (sizes_of c.args.self.now.geometry) c.args.place c.args.frame (parts_of c.args.self.now) c.from_residual.result c.from_residual.ensures.1
    (lines_then (sizes_of c.args.self.now.geometry) c.args.place c.args.frame (parts_of c.args.self.now) c.loop-line.invariant.1 c.in_err-store_line_back.ensures.lines)

pub returns-clause-call : goal.returns-clause-call
returns-clause-call g c = c.loop-line.invariant.0

pub returns-clause-lines : goal.returns-clause-lines
returns-clause-lines g c =
    let end : c.loop-line.line ≡ 64 = omega (arith, c.loop-line.auto.line-end, c.loop-line-test.false) in
    lines_to end c.loop-line.invariant.1
