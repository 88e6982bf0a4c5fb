use Rattle.std.proofs.Common.{◌∙◌}
use Rattle.device_calls.proofs.LeadsLaws.{leads_then, leads_exit}
use Rattle.tier_pool.proofs.DownLaws.{room_stays, stands_on, marked_on}
use Rattle.tier_pool.specs.Fields.{parts_of}
use Rattle.tier_pool.proofs.NvmRoomLaws.{room_free, room_homeless}
use Rattle.tier_pool.proofs.pool.TierPool.move_down.Goals as goal

pub install_copy-requires-clause-homeless : goal.install_copy-requires-clause-homeless
install_copy-requires-clause-homeless g c =
    room_homeless (parts_of c.args.self.now) (parts_of c.room_in_nvm.new.self) c.in_ok-frame.frame c.args.page c.in_ok-frame.ensures.room c.requires.homeless

pub install_copy-requires-clause-free : goal.install_copy-requires-clause-free
install_copy-requires-clause-free g c =
    room_free (parts_of c.args.self.now) (parts_of c.room_in_nvm.new.self) c.in_ok-frame.frame c.in_ok-frame.ensures.room c.requires.clocked c.args.self.now.map.agrees

pub returns-in_err-frame-clause-leads : goal.returns-in_err-frame-clause-leads
returns-in_err-frame-clause-leads g c = λ stands marked. leads_exit c.from_residual.result c.from_residual.ensures.1 c.in_err-frame.ensures.leads

pub returns-clause-leads : goal.returns-clause-leads
returns-clause-leads g c = λ stands marked.
    let parts = parts_of c.args.self.now in
    let stays = room_stays parts (parts_of c.room_in_nvm.new.self) c.in_ok-frame.frame c.args.page c.in_ok-frame.ensures.room c.args.self.now.map.agrees c.requires.homeless in
    leads_then c.in_ok-frame.ensures.leads
    (c.install_copy.ensures.leads (stands_on stays (room_homeless parts (parts_of c.room_in_nvm.new.self) c.in_ok-frame.frame c.args.page c.in_ok-frame.ensures.room c.requires.homeless) stands) (marked ∙ marked_on stays stands.here))
