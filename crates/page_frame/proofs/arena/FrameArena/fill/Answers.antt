use Rattle.page_frame.proofs.ArenaCalls.{page_put}
use Rattle.page_frame.proofs.arena.FrameArena.fill.Goals as goal

pub invariant_of-self-clause-places : goal.invariant_of-self-clause-places
invariant_of-self-clause-places c = (page_put c.args.self.now c.args.frame c.requires c.args.page.now c.put_page.new.self c.put_page.ensures).sized

pub invariant_of-self-clause-masks : goal.invariant_of-self-clause-masks
invariant_of-self-clause-masks c = (page_put c.args.self.now c.args.frame c.requires c.args.page.now c.put_page.new.self c.put_page.ensures).masked

pub returns : goal.returns
returns c = (page_put c.args.self.now c.args.frame c.requires c.args.page.now c.put_page.new.self c.put_page.ensures).shown
