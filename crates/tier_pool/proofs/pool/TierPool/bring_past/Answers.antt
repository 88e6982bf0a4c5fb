use Rattle.tier_pool.specs.Fields.{parts_of}
use Rattle.tier_pool.proofs.FullRoomLaws.{full_room_free, full_room_absent}
use Rattle.device_calls.proofs.LeadsLaws.{leads_then, leads_exit, leads_given, leads_ok}
use Rattle.tier_facts.specs.Facts.{IsHardened}
use Rattle.tier_pool.proofs.BareLaws.{full_room_bare, full_room_homeless}
use Rattle.tier_pool.proofs.FetchLaws.{full_room_fetches, fetches_before}
use Rattle.tier_pool.proofs.pool.TierPool.bring_past.Goals as goal

pub fetch_into-requires-clause-absent : goal.fetch_into-requires-clause-absent
fetch_into-requires-clause-absent g c =
    full_room_absent (parts_of c.args.self.now) (parts_of c.room_in_full.new.self) c.in_ok-full.full c.args.page c.in_ok-full.ensures.room c.requires.absent

pub fetch_into-requires-clause-free : goal.fetch_into-requires-clause-free
fetch_into-requires-clause-free g c =
    full_room_free (parts_of c.args.self.now) (parts_of c.room_in_full.new.self) c.in_ok-full.full c.in_ok-full.ensures.room c.requires.fulls c.args.self.now.map.agrees

pub returns-in_err-full-clause-leads : goal.returns-in_err-full-clause-leads
returns-in_err-full-clause-leads g c = λ steady homeless. leads_exit c.from_residual.result c.from_residual.ensures.1 (c.in_err-full.ensures.leads steady.whole)

pub returns-in_err-fetch_into-clause-leads : goal.returns-in_err-fetch_into-clause-leads
returns-in_err-fetch_into-clause-leads g c = λ steady homeless.
    let parts = parts_of c.args.self.now in
    let after = parts_of c.room_in_full.new.self in
    leads_exit c.from_residual-in_err-fetch_into.result c.from_residual-in_err-fetch_into.ensures.1 (leads_then (c.in_ok-full.ensures.leads steady.whole) (leads_given IsHardened (c.in_err-fetch_into.ensures.leads
    (full_room_homeless parts after c.in_ok-full.full c.args.page c.in_ok-full.ensures.room steady.agrees c.requires.absent homeless)
    (full_room_bare parts after c.in_ok-full.full c.in_ok-full.ensures.room steady))))

pub returns-clause-leads : goal.returns-clause-leads
returns-clause-leads g c = λ steady homeless.
    let parts = parts_of c.args.self.now in
    let after = parts_of c.room_in_full.new.self in
    leads_ok (leads_then (c.in_ok-full.ensures.leads steady.whole) (leads_given IsHardened (c.in_ok-fetch_into.ensures.leads
    (full_room_homeless parts after c.in_ok-full.full c.args.page c.in_ok-full.ensures.room steady.agrees c.requires.absent homeless)
    (full_room_bare parts after c.in_ok-full.full c.in_ok-full.ensures.room steady))))

pub returns-clause-reads : goal.returns-clause-reads
returns-clause-reads g c =
    fetches_before (parts_of c.args.self.now) (parts_of c.room_in_full.new.self) (parts_of c.fetch_into.new.self) _ _ _
    (full_room_fetches (parts_of c.args.self.now) (parts_of c.room_in_full.new.self) c.in_ok-full.full c.in_ok-full.ensures.room) c.in_ok-full.ensures.call.reads c.in_ok-fetch_into.ensures.reads
