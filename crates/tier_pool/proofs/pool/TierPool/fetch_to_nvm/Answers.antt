use Rattle.tier_pool.specs.Fields.{parts_of}
use Rattle.tier_pool.proofs.NvmRoomLaws.{room_free, room_homeless}
use Rattle.std.proofs.Common.{sym, ap, ◌∙◌}
use Rattle.device_calls.proofs.LeadsLaws.{leads_then, leads_exit, leads_given}
use Rattle.tier_facts.specs.Facts.{IsHardened}
use Rattle.tier_pool.specs.NvmRoom.{PartsRoom}
use Rattle.tier_pool.proofs.FullRoomLaws.{room_absent}
use Rattle.tier_pool.proofs.FetchLaws.{frame_room_fetches, counted_before}
use Rattle.tier_pool.proofs.pool.TierPool.fetch_to_nvm.Goals as goal

pub fetch_to_frame-requires-clause-homeless : goal.fetch_to_frame-requires-clause-homeless
fetch_to_frame-requires-clause-homeless g c =
    room_homeless (parts_of c.args.self.now) (parts_of c.room_in_nvm.new.self) c.in_ok-frame.frame c.args.page c.in_ok-frame.ensures.room c.requires.homeless

pub fetch_to_frame-requires-clause-free : goal.fetch_to_frame-requires-clause-free
fetch_to_frame-requires-clause-free g c =
    room_free (parts_of c.args.self.now) (parts_of c.room_in_nvm.new.self) c.in_ok-frame.frame c.in_ok-frame.ensures.room c.requires.clocked c.args.self.now.map.agrees

pub returns-in_err-frame-clause-leads : goal.returns-in_err-frame-clause-leads
returns-in_err-frame-clause-leads g c = λ absent. leads_exit c.from_residual.result c.from_residual.ensures.1 c.in_err-frame.ensures.leads

pub returns-clause-leads : goal.returns-clause-leads
returns-clause-leads g c = λ absent.
    leads_then c.in_ok-frame.ensures.leads (leads_given IsHardened (c.fetch_to_frame.ensures.leads
    (ap (λ (room : PartsRoom). room.parts.map.place c.args.page) (sym c.in_ok-frame.ensures.room) ∙ room_absent c.args.page (parts_of c.args.self.now) absent)))

pub returns-clause-reads : goal.returns-clause-reads
returns-clause-reads g c =
    counted_before (parts_of c.args.self.now) (parts_of c.room_in_nvm.new.self) (parts_of c.fetch_to_frame.new.self) _ _ _ c.fetch_to_frame.result
    (frame_room_fetches (parts_of c.args.self.now) (parts_of c.room_in_nvm.new.self) c.in_ok-frame.frame c.in_ok-frame.ensures.room) c.in_ok-frame.ensures.call.reads c.fetch_to_frame.ensures.reads
