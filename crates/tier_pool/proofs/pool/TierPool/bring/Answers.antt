use Rattle.std.proofs.Common.{refl}
use Rattle.tier_pool.specs.Fields.{parts_of}
use Rattle.tier_pool.proofs.MiniRoomLaws.{dram_room_free, dram_room_absent}
use Rattle.device_calls.proofs.LeadsLaws.{leads_then, leads_exit, leads_given, leads_ok}
use Rattle.tier_facts.specs.Facts.{IsHardened}
use Rattle.tier_pool.proofs.BareLaws.{dram_room_bare}
use Rattle.tier_pool.proofs.FetchLaws.{dram_room_fetches, fetches_before}
use Rattle.tier_pool.proofs.pool.TierPool.bring.Goals as goal

pub copy_or_fetch-requires-clause-absent : goal.copy_or_fetch-requires-clause-absent
copy_or_fetch-requires-clause-absent g c =
    dram_room_absent (parts_of c.args.self.now) (parts_of c.room_in_dram.new.self) c.in_ok-place.place c.args.page c.in_ok-place.ensures.room c.requires.absent

pub copy_or_fetch-requires-clause-free : goal.copy_or_fetch-requires-clause-free
copy_or_fetch-requires-clause-free g c =
    dram_room_free (parts_of c.args.self.now) (parts_of c.room_in_dram.new.self) c.in_ok-place.place c.in_ok-place.ensures.room
    c.requires.standing.fulls c.requires.standing.minis c.args.self.now.map.agrees c.requires.standing.over

pub returns-clause-brought : goal.returns-clause-brought
returns-clause-brought g c = record {
  room = record { place = c.in_ok-place.place; parts = parts_of c.room_in_dram.new.self };
  made = c.in_ok-place.ensures.room;
  place = refl;
  is = c.in_ok-copy_or_fetch.ensures.parts;
}

pub returns-in_err-place-clause-leads : goal.returns-in_err-place-clause-leads
returns-in_err-place-clause-leads g c = λ steady. leads_exit c.from_residual.result c.from_residual.ensures.1 (c.in_err-place.ensures.leads steady.whole)

pub returns-in_err-copy_or_fetch-clause-leads : goal.returns-in_err-copy_or_fetch-clause-leads
returns-in_err-copy_or_fetch-clause-leads g c = λ steady.
    leads_exit c.from_residual-in_err-copy_or_fetch.result c.from_residual-in_err-copy_or_fetch.ensures.1 (leads_then (c.in_ok-place.ensures.leads steady.whole) (leads_given IsHardened (c.in_err-copy_or_fetch.ensures.leads
    (dram_room_bare (parts_of c.args.self.now) (parts_of c.room_in_dram.new.self) c.in_ok-place.place c.in_ok-place.ensures.room steady))))

pub returns-clause-leads : goal.returns-clause-leads
returns-clause-leads g c = λ steady.
    leads_ok (leads_then (c.in_ok-place.ensures.leads steady.whole) (leads_given IsHardened (c.in_ok-copy_or_fetch.ensures.leads
    (dram_room_bare (parts_of c.args.self.now) (parts_of c.room_in_dram.new.self) c.in_ok-place.place c.in_ok-place.ensures.room steady))))

pub returns-clause-reads : goal.returns-clause-reads
returns-clause-reads g c =
    fetches_before (parts_of c.args.self.now) (parts_of c.room_in_dram.new.self) (parts_of c.copy_or_fetch.new.self) _ _ _
    (dram_room_fetches (parts_of c.args.self.now) (parts_of c.room_in_dram.new.self) c.in_ok-place.place c.in_ok-place.ensures.room) c.in_ok-place.ensures.call.reads c.in_ok-copy_or_fetch.ensures.reads
