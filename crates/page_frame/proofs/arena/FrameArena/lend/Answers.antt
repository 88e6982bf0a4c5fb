use Rattle.std.proofs.Common.{arith, ◌∙◌}
use Rattle.page_frame.proofs.ArenaCalls.{lent}
use Rattle.page_frame.proofs.arena.FrameArena.lend.Goals as goal

pub overflow_add-frame : goal.overflow_add-frame
overflow_add-frame c =
    let small = (lent c.args.self.now c.args.frame c.requires.frame c.args.line c.requires.resident).0 in
    omega (arith, c.ranges.frame.fits)

pub get-requires : goal.get-requires
get-requires c = (lent c.args.self.now c.args.frame c.requires.frame c.args.line c.requires.resident).1

pub returns : goal.returns
returns c = (lent c.args.self.now c.args.frame c.requires.frame c.args.line c.requires.resident).2 ∙ c.get.ensures
