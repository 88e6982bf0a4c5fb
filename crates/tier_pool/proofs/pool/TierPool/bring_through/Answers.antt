use Rattle.std.proofs.Common.{◌≤◌, ap, ◌∙◌, subst, sym, refl}
use Rattle.tier_rules.specs.Parts.{Parts}
use Rattle.tier_pool.specs.Fields.{parts_of}
use Rattle.tier_pool.specs.NvmRoom.{frame_room}
use Rattle.tier_pool.proofs.FullRoomLaws.{room_absent}
use Rattle.tier_pool.proofs.MiniRoomLaws.{dram_room_free, dram_room_absent}
use Rattle.tier_pool.proofs.ThroughLaws.{room_free_kept, free_with_nvm}
use Rattle.device_calls.proofs.LeadsLaws.{leads_then, leads_exit, leads_ok}
use Rattle.nvm_layout.specs.Sizes.{sizes_of}
use Rattle.tier_facts.proofs.CallLaws.{then_recopied_hard}
use Rattle.nvm_layout.specs.declared.geometry.Geometry.{Geometry}
use Rattle.tier_pool.proofs.RoomLaws.{leads_to, at_data}
use Rattle.tier_pool.proofs.BareLaws.{dram_room_steady, through_bare, through_left}
use Rattle.tier_pool.proofs.BringingLaws.{copied_data}
use Rattle.tier_pool.proofs.FetchLaws.{dram_room_fetches, fetches_before, fetches_behind, placed_fetches}
use Rattle.tier_rules.specs.Tallies.{dram_load}
use Rattle.tier_pool.proofs.pool.TierPool.bring_through.Goals as goal

pub fetch_to_nvm-requires-clause-clocked : goal.fetch_to_nvm-requires-clause-clocked
fetch_to_nvm-requires-clause-clocked g c =
    (through_left c.args.self.now (parts_of c.room_in_dram.new.self) c.in_ok-place.place c.args.page c.requires.some c.requires.standing c.requires.homeless c.requires.absent c.in_ok-place.ensures.room).clocked

pub fetch_to_nvm-requires-clause-homeless : goal.fetch_to_nvm-requires-clause-homeless
fetch_to_nvm-requires-clause-homeless g c =
    (through_left c.args.self.now (parts_of c.room_in_dram.new.self) c.in_ok-place.place c.args.page c.requires.some c.requires.standing c.requires.homeless c.requires.absent c.in_ok-place.ensures.room).homeless

pub copy_to-requires-clause-absent : goal.copy_to-requires-clause-absent
copy_to-requires-clause-absent g c =
    let made = parts_of c.room_in_dram.new.self in
    let none = dram_room_absent (parts_of c.args.self.now) made c.in_ok-place.place c.args.page c.in_ok-place.ensures.room c.requires.absent in
    ap (λ (parts : Parts). parts.map.place c.args.page) c.in_ok-fetch_to_nvm.ensures.parts ∙ room_absent c.args.page made none

pub copy_to-requires-clause-free : goal.copy_to-requires-clause-free
copy_to-requires-clause-free g c =
    let made = parts_of c.room_in_dram.new.self in
    let free = dram_room_free (parts_of c.args.self.now) made c.in_ok-place.place c.in_ok-place.ensures.room
    c.requires.standing.fulls c.requires.standing.minis c.args.self.now.map.agrees c.requires.standing.over in
    free_with_nvm c.in_ok-place.place (frame_room made).parts.map (parts_of c.fetch_to_nvm.new.self).map
    (ap (λ (parts : Parts). parts.map.full_page) c.in_ok-fetch_to_nvm.ensures.parts)
    (ap (λ (parts : Parts). parts.map.mini_owner) c.in_ok-fetch_to_nvm.ensures.parts)
    (room_free_kept c.in_ok-place.place made free)

pub returns-in_err-place-clause-leads : goal.returns-in_err-place-clause-leads
returns-in_err-place-clause-leads g c = λ steady. leads_exit c.from_residual.result c.from_residual.ensures.1 (c.in_err-place.ensures.leads steady.whole)

pub returns-in_err-fetch_to_nvm-clause-leads : goal.returns-in_err-fetch_to_nvm-clause-leads
returns-in_err-fetch_to_nvm-clause-leads g c = λ steady.
    let made = parts_of c.room_in_dram.new.self in
    let none = dram_room_absent (parts_of c.args.self.now) made c.in_ok-place.place c.args.page c.in_ok-place.ensures.room c.requires.absent in
    leads_exit c.from_residual-in_err-fetch_to_nvm.result c.from_residual-in_err-fetch_to_nvm.ensures.1 (leads_then (c.in_ok-place.ensures.leads steady.whole) (c.in_err-fetch_to_nvm.ensures.leads none))

pub returns-clause-leads : goal.returns-clause-leads
returns-clause-leads g c = λ steady.
    let parts = parts_of c.args.self.now in
    let made = parts_of c.room_in_dram.new.self in
    let fetched = parts_of c.fetch_to_nvm.new.self in
    let place = c.in_ok-place.place in
    let none = dram_room_absent parts made place c.args.page c.in_ok-place.ensures.room c.requires.absent in
    let free = free_with_nvm place (frame_room made).parts.map fetched.map
    (ap (λ (p : Parts). p.map.full_page) c.in_ok-fetch_to_nvm.ensures.parts)
    (ap (λ (p : Parts). p.map.mini_owner) c.in_ok-fetch_to_nvm.ensures.parts)
    (room_free_kept place made (dram_room_free parts made place c.in_ok-place.ensures.room steady.standing.fulls steady.standing.minis steady.agrees steady.standing.over)) in
    let left = through_left c.args.self.now (parts_of c.room_in_dram.new.self) c.in_ok-place.place c.args.page c.requires.some c.requires.standing c.requires.homeless c.requires.absent c.in_ok-place.ensures.room in
    let bare = through_bare made fetched place c.args.page c.in_ok-fetch_to_nvm.ensures.parts
    (subst (λ (x : Geometry). 1 ≤ x.frames) (sym c.room_in_dram.ensures.same.geometry) c.requires.some) left.homeless free (dram_room_steady parts made place c.in_ok-place.ensures.room steady) in
    let absent = ap (λ (p : Parts). p.map.place c.args.page) c.in_ok-fetch_to_nvm.ensures.parts ∙ room_absent c.args.page made none in
    leads_to (at_data (ap sizes_of c.copy_to.ensures.same.geometry) c.copy_to.ensures.parts)
    (then_recopied_hard (λ image. copied_data (sizes_of c.fetch_to_nvm.new.self.geometry) c.args.page fetched absent image place bare)
    (leads_ok (leads_then (c.in_ok-place.ensures.leads steady.whole) (c.in_ok-fetch_to_nvm.ensures.leads none))))

pub returns-clause-reads : goal.returns-clause-reads
returns-clause-reads g c =
    let fetched = parts_of c.fetch_to_nvm.new.self in
    fetches_before (parts_of c.args.self.now) (parts_of c.room_in_dram.new.self) (parts_of c.copy_to.new.self) _ _ _
    (dram_room_fetches (parts_of c.args.self.now) (parts_of c.room_in_dram.new.self) c.in_ok-place.place c.in_ok-place.ensures.room) c.in_ok-place.ensures.call.reads
    (fetches_behind (parts_of c.copy_to.new.self) _ c.in_ok-fetch_to_nvm.ensures.reads
    (ap (λ (p : Parts). p.tally.fetches) c.copy_to.ensures.parts ∙ placed_fetches c.in_ok-place.place c.args.page (record fetched { tally = dram_load fetched.tally })) refl)
