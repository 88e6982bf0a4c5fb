use Rattle.page_frame.proofs.ArenaCalls.{cleared}
use Rattle.page_frame.proofs.arena.FrameArena.clear.Goals as goal

pub invariant_of-self-clause-places : goal.invariant_of-self-clause-places
invariant_of-self-clause-places c = (cleared c.args.self.now c.args.frame c.requires c.forget.new.self c.forget.ensures).sized

pub invariant_of-self-clause-masks : goal.invariant_of-self-clause-masks
invariant_of-self-clause-masks c = (cleared c.args.self.now c.args.frame c.requires c.forget.new.self c.forget.ensures).masked

pub returns : goal.returns
returns c = (cleared c.args.self.now c.args.frame c.requires c.forget.new.self c.forget.ensures).shown
