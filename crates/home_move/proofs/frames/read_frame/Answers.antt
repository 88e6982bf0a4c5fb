-- One line more is loaded.
use Rattle.std.proofs.Common.{◌+◌, sym, subst}
use Rattle.nvm_layout.specs.Sizes.{sizes_of}
use Rattle.home_move.specs.Frames.{ReadsSo}
use Rattle.home_move.proofs.FrameLaws.{reads_more}
use Rattle.home_move.proofs.frames.read_frame.Goals as goal

pub loop-line-preserved : goal.loop-line-preserved
loop-line-preserved g c =
    let read = c.in_ok-found.ensures in
    subst (λ bytes. ReadsSo (sizes_of c.args.geometry.now) c.args.frame (c.loop-line.line + 1) bytes (g.D.Devices.standing c.args.dev.now) (g.D.Devices.standing c.load_line.new.dev)) (sym c.set_page_line.ensures.bytes)
    (reads_more (sizes_of c.args.geometry.now) c.args.frame c.loop-line.line c.loop-line.into c.in_ok-found.found c.whole_line.result c.loop-line.invariant c.loop-line-test.true
    c.set_page_line.ensures.size_old read.looked read.reads read.value c.whole_line.ensures.value c.whole_line.ensures.is_line)
