-- One line more is stored and flushed, or the stores stop.
use Rattle.std.proofs.Common.{arith}
use Rattle.nvm_layout.specs.Sizes.{sizes_of}
use Rattle.home_move.proofs.FrameLaws.{fills_more, fills_exit, fills_all}
use Rattle.home_move.proofs.frames.fill_frame.Goals as goal

pub returns-in_err-store_line : goal.returns-in_err-store_line
returns-in_err-store_line g c =
    fills_exit c.from_residual.result (sizes_of c.args.geometry.now) c.args.frame c.loop-line.line c.args.lines.now c.loop-line-test.true c.from_residual.ensures.0 c.from_residual.ensures.1
    (fills_more (sizes_of c.args.geometry.now) c.args.frame c.loop-line.line c.args.lines.now c.page_line.result c.page_line.ensures.value c.loop-line.invariant c.in_err-store_line.ensures.made)

pub loop-line-preserved : goal.loop-line-preserved
loop-line-preserved g c =
    fills_more (sizes_of c.args.geometry.now) c.args.frame c.loop-line.line c.args.lines.now c.page_line.result c.page_line.ensures.value c.loop-line.invariant c.in_ok-store_line.ensures.made

pub returns : goal.returns
returns g c = fills_all (sizes_of c.args.geometry.now) c.args.frame c.loop-line.line c.args.lines.now (omega arith) c.loop-line.invariant
