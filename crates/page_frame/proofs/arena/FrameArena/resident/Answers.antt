use Rattle.page_frame.proofs.ArenaCalls.{sized}
use Rattle.page_frame.proofs.arena.FrameArena.resident.Goals as goal

pub returns-clause-places : goal.returns-clause-places
returns-clause-places c = sized c.args.self.now c.args.frame c.requires
