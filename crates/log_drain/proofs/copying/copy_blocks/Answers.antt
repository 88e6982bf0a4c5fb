-- One block more is copied, or the copies stop.
use Rattle.std.proofs.Common.{◌+◌, arith}
use Rattle.nvm_layout.specs.Sizes.{sizes_of}
use Rattle.log_drain.proofs.CopyLaws.{copies_none, copies_then, copies_on, copies_stop}
use Rattle.log_drain.proofs.copying.copy_blocks.Goals as goal

pub loop-block-init : goal.loop-block-init
loop-block-init g c = copies_none (sizes_of c.args.geometry.now) c.args.offset (g.D.Devices.standing c.args.dev.now)

pub loop-block-preserved : goal.loop-block-preserved
loop-block-preserved g c =
    let next = c.in_ok-copy_block.ensures in
    copies_on (sizes_of c.args.geometry.now) c.args.offset c.loop-block.block (g.D.Devices.standing c.args.dev.now) c.loop-block.invariant next.goes next.cause.nvm next.cause.ssd next.reads next.copies

pub returns-in_err-copy_block-clause-copies : goal.returns-in_err-copy_block-clause-copies
returns-in_err-copy_block-clause-copies g c =
    let next = c.in_err-copy_block.ensures in
    copies_stop (sizes_of c.args.geometry.now) c.args.offset (c.loop-block.block + 1) c.args.count c.from_residual.result c.from_residual.ensures.0 (omega arith)
    (copies_then (sizes_of c.args.geometry.now) c.args.offset c.loop-block.block c.loop-block.invariant next.goes next.copies)
