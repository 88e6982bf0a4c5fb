use Rattle.std.proofs.Common.{sym, ap, ◌∙◌, subst}
use Rattle.nvm_layout.specs.Sizes.{sizes_of}
use Rattle.tier_map.specs.Placement.{Placement}
use Rattle.tier_rules.specs.Parts.{Parts}
use Rattle.tier_pool.specs.Fields.{parts_of}
use Rattle.tier_pool.specs.FullRoom.{PartsAnswer}
use Rattle.tier_pool.specs.Standing.{IsSteady}
use Rattle.tier_pool.proofs.RoomLaws.{at_data, leads_at}
use Rattle.tier_pool.proofs.SteadyLaws.{steady_drawn, steady_frame_hit}
use Rattle.tier_manager.proofs.tiers.Tiers.enter_framed.Goals as goal

pub bring_if-requires-clause-steady : goal.bring_if-requires-clause-steady
bring_if-requires-clause-steady g c =
    steady_drawn c.dram_question.result (parts_of c.hit_frame.new.self) (parts_of c.decides-brings.new.self) c.decides-brings.result c.decides-brings.ensures.answer
    (subst IsSteady (sym c.hit_frame.ensures.parts) (steady_frame_hit (parts_of c.args.self.now.pool) c.requires.steady c.args.frame))

pub bring_if-requires-clause-absent : goal.bring_if-requires-clause-absent
bring_if-requires-clause-absent g c =
    ap (λ (m : Placement). m.place c.args.page) c.decides-brings.ensures.map ∙ ap (λ (p : Parts). p.map.place c.args.page) c.hit_frame.ensures.parts ∙ c.requires.absent

pub returns-clause-leads : goal.returns-clause-leads
returns-clause-leads g c =
    leads_at
    (at_data (ap sizes_of c.decides-brings.ensures.same.geometry) (sym (ap (λ (a : PartsAnswer). a.parts) c.decides-brings.ensures.answer))
    ∙ at_data (ap sizes_of c.hit_frame.ensures.same.geometry) c.hit_frame.ensures.parts)
    c.bring_if.ensures.leads
