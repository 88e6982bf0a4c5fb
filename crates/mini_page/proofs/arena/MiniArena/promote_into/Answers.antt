use Rattle.std.proofs.Common.{◌≡◌, arith, ap, ◌∙◌}
use Rattle.page_frame.specs.Frames.{frame_at, with_frame}
use Rattle.page_frame.specs.Arena.{frames_of}
use Rattle.page_frame.proofs.ArenaCalls.{sized}
use Rattle.mini_page.specs.MiniPages.{mini_at}
use Rattle.mini_page.specs.Minis.{minis_of}
use Rattle.mini_page.proofs.CallLaws.{moved_up_to, move_goes_on, move_ends}
use Rattle.mini_page.proofs.arena.MiniArena.promote_into.Goals as goal

pub loop-line-preserved : goal.loop-line-preserved
loop-line-preserved c =
    let frames = c.args.frames.now in
    let long = sized frames c.args.frame c.requires.frame in
    c.copy_line.ensures
    ∙ move_goes_on (frames_of frames) c.args.frame (mini_at (minis_of c.args.self.now) c.args.mini).places c.requires.frame long c.mask-mask.ensures.is_mini.places c.requires.empty
    (frames_of c.loop-line.frames) c.loop-line.line c.loop-line-test.true c.loop-line.invariant

pub returns-clause-frame : goal.returns-clause-frame
returns-clause-frame c =
    let frames = c.args.frames.now in
    let long = sized frames c.args.frame c.requires.frame in
    let places = (mini_at (minis_of c.args.self.now) c.args.mini).places in
    let all : c.loop-line.line ≡ 64 = omega arith in
    c.loop-line.invariant
    ∙ ap (λ k. with_frame c.args.frame (moved_up_to k places (frame_at (frames_of frames) c.args.frame)) (frames_of frames)) all
    ∙ move_ends (frames_of frames) c.args.frame places c.requires.frame long c.mask-mask.ensures.is_mini.places c.requires.empty

pub returns-clause-dirty : goal.returns-clause-dirty
returns-clause-dirty c = c.mask-mask.ensures.dirty
