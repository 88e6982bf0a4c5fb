use Rattle.std.proofs.Common.{ap, ◌∙◌}
use Rattle.std.specs.Prelude.{◌==◌}
use Rattle.nvm_layout.specs.Sizes.{sizes_of}
use Rattle.device_calls.proofs.LeadsLaws.{leads_exit, leads_ok}
use Rattle.tier_map.specs.Placement.{Placement}
use Rattle.tier_pool.proofs.RoomLaws.{leads_at}
use Rattle.tier_pool.proofs.SteadyLaws.{steady_brought_past}
use Rattle.tier_manager.specs.Fields.{parts_of}
use Rattle.tier_manager.proofs.BegunLaws.{steady_through, through_data}
use Rattle.tier_manager.proofs.tiers.Tiers.enter_homed.Goals as goal

pub read_in-requires-clause-steady : goal.read_in-requires-clause-steady
read_in-requires-clause-steady g c =
    let old = parts_of c.args.self.now in
    steady_through (old.frames == 0) c.goes_through_nvm-through.result old (parts_of c.goes_through_nvm-through.new.self) c.goes_through_nvm-through.ensures.answer c.requires.steady

pub read_in-requires-clause-absent : goal.read_in-requires-clause-absent
read_in-requires-clause-absent g c = ap (λ (m : Placement). m.place c.args.page) c.goes_through_nvm-through.ensures.map ∙ c.requires.absent

pub read_in-requires-clause-homeless : goal.read_in-requires-clause-homeless
read_in-requires-clause-homeless g c = ap (λ (m : Placement). m.nvm c.args.page) c.goes_through_nvm-through.ensures.map ∙ c.requires.homeless

pub returns-then-through-clause-leads : goal.returns-then-through-clause-leads
returns-then-through-clause-leads g c =
    let old = parts_of c.args.self.now in
    leads_at
    (through_data (old.frames == 0) c.goes_through_nvm-through.result (sizes_of c.args.self.now.pool.geometry) (sizes_of c.goes_through_nvm-through.new.self.pool.geometry) old
    (parts_of c.goes_through_nvm-through.new.self) c.goes_through_nvm-through.ensures.answer (ap sizes_of c.goes_through_nvm-through.ensures.same.geometry))
    c.read_in.ensures.leads

pub bring_past-requires-clause-absent : goal.bring_past-requires-clause-absent
bring_past-requires-clause-absent g c = ap (λ (m : Placement). m.place c.args.page) c.goes_through_nvm-through.ensures.map ∙ c.requires.absent

pub returns-in_err-bring_past-clause-leads : goal.returns-in_err-bring_past-clause-leads
returns-in_err-bring_past-clause-leads g c =
    let old = parts_of c.args.self.now in
    let asked = parts_of c.goes_through_nvm-through.new.self in
    leads_exit c.from_residual.result c.from_residual.ensures.1
    (leads_at
    (through_data (old.frames == 0) c.goes_through_nvm-through.result (sizes_of c.args.self.now.pool.geometry) (sizes_of c.goes_through_nvm-through.new.self.pool.geometry) old asked
    c.goes_through_nvm-through.ensures.answer (ap sizes_of c.goes_through_nvm-through.ensures.same.geometry))
    (c.in_err-bring_past.ensures.leads
    (steady_through (old.frames == 0) c.goes_through_nvm-through.result old asked c.goes_through_nvm-through.ensures.answer c.requires.steady)
    (ap (λ (m : Placement). m.nvm c.args.page) c.goes_through_nvm-through.ensures.map ∙ c.requires.homeless)))

pub returns-clause-leads : goal.returns-clause-leads
returns-clause-leads g c =
    let old = parts_of c.args.self.now in
    let asked = parts_of c.goes_through_nvm-through.new.self in
    leads_ok
    (leads_at
    (through_data (old.frames == 0) c.goes_through_nvm-through.result (sizes_of c.args.self.now.pool.geometry) (sizes_of c.goes_through_nvm-through.new.self.pool.geometry) old asked
    c.goes_through_nvm-through.ensures.answer (ap sizes_of c.goes_through_nvm-through.ensures.same.geometry))
    (c.in_ok-bring_past.ensures.leads
    (steady_through (old.frames == 0) c.goes_through_nvm-through.result old asked c.goes_through_nvm-through.ensures.answer c.requires.steady)
    (ap (λ (m : Placement). m.nvm c.args.page) c.goes_through_nvm-through.ensures.map ∙ c.requires.homeless)))

pub returns-clause-keeps : goal.returns-clause-keeps
returns-clause-keeps g c =
    let old = parts_of c.args.self.now in
    let asked = parts_of c.goes_through_nvm-through.new.self in
    steady_brought_past c.args.page asked _ c.in_ok-bring_past.ensures.parts
    (ap (λ (m : Placement). m.place c.args.page) c.goes_through_nvm-through.ensures.map ∙ c.requires.absent)
    (steady_through (old.frames == 0) c.goes_through_nvm-through.result old asked c.goes_through_nvm-through.ensures.answer c.requires.steady)
