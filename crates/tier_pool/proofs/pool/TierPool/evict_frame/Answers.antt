use Rattle.std.proofs.Common.{◌≡◌, ap, sym, ◌∙◌}
use Rattle.device_calls.proofs.LeadsLaws.{leads_ok, leads_exit}
use Rattle.nvm_layout.specs.Sizes.{sizes_of}
use Rattle.clock_sweep.specs.Clock.{victim}
use Rattle.tier_pool.specs.Fields.{parts_of}
use Rattle.tier_pool.specs.NvmRoom.{PartsRoom}
use Rattle.tier_pool.specs.Storing.{data_of}
use Rattle.tier_pool.proofs.RoomLaws.{leads_at, at_data, swept_data}
use Rattle.tier_pool.proofs.pool.TierPool.evict_frame.Goals as goal

pub returns-in_err-leave_frame-clause-leads : goal.returns-in_err-leave_frame-clause-leads
returns-in_err-leave_frame-clause-leads g c =
    let same : data_of c.sweep_frames-frame.new.self ≡ data_of c.args.self.now =
    at_data (ap sizes_of c.sweep_frames-frame.ensures.same.geometry) (ap (λ (room : PartsRoom). room.parts) (sym c.sweep_frames-frame.ensures.swept))
    ∙ swept_data (sizes_of c.args.self.now.geometry) (victim (parts_of c.args.self.now).nvm_clock) (parts_of c.args.self.now) in
    leads_exit c.from_residual.result c.from_residual.ensures.1 (leads_at same c.in_err-leave_frame.ensures.leads)

pub returns-clause-leads : goal.returns-clause-leads
returns-clause-leads g c =
    let same : data_of c.sweep_frames-frame.new.self ≡ data_of c.args.self.now =
    at_data (ap sizes_of c.sweep_frames-frame.ensures.same.geometry) (ap (λ (room : PartsRoom). room.parts) (sym c.sweep_frames-frame.ensures.swept))
    ∙ swept_data (sizes_of c.args.self.now.geometry) (victim (parts_of c.args.self.now).nvm_clock) (parts_of c.args.self.now) in
    leads_ok (leads_at same c.in_ok-leave_frame.ensures.leads)
