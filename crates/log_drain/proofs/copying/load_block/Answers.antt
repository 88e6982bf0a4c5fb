-- One line more is loaded.
use Rattle.std.proofs.Common.{◌+◌, sym, subst}
use Rattle.log_drain.specs.Copies.{LoadsSo}
use Rattle.nvm_layout.specs.Sizes.{sizes_of}
use Rattle.log_drain.proofs.CopyLaws.{loads_more}
use Rattle.log_drain.proofs.copying.load_block.Goals as goal

pub loop-line-preserved : goal.loop-line-preserved
loop-line-preserved g c =
    let read = c.in_ok-found.ensures in
    let before = c.loop-line.invariant in
    subst (λ bytes. LoadsSo (sizes_of c.args.geometry.now) c.args.offset (c.loop-line.line + 1) bytes (g.D.Devices.standing c.args.dev.now) (g.D.Devices.standing c.load.new.dev)) (sym c.set_page_line.ensures.bytes)
    (loads_more (sizes_of c.args.geometry.now) c.args.offset c.loop-line.line c.ring_line.result c.loop-line.into (g.D.Devices.standing c.args.dev.now) (g.D.Devices.standing c.loop-line.dev)
    (g.D.Devices.standing c.load.new.dev) c.in_ok-found.found c.whole_line.result before c.loop-line-test.true c.ring_line.ensures.place read.goes read.stays read.cause.nvm read.cause.ssd read.reads read.value
    c.whole_line.ensures.value c.whole_line.ensures.is_line)
