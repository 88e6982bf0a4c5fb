use Rattle.std.proofs.Common.{sym, ap, ◌∙◌}
use Rattle.nvm_layout.specs.Sizes.{sizes_of}
use Rattle.tier_map.specs.Placement.{Placement}
use Rattle.tier_pool.specs.Fields.{parts_of}
use Rattle.tier_pool.specs.FullRoom.{PartsAnswer}
use Rattle.tier_pool.proofs.RoomLaws.{at_data, leads_at}
use Rattle.tier_pool.proofs.SteadyLaws.{steady_drawn}
use Rattle.tier_manager.proofs.tiers.Tiers.read_in.Goals as goal

pub bring_through_if-requires-clause-steady : goal.bring_through_if-requires-clause-steady
bring_through_if-requires-clause-steady g c =
    steady_drawn c.dram_question.result (parts_of c.args.self.now.pool) (parts_of c.decides-brings.new.self) c.decides-brings.result c.decides-brings.ensures.answer c.requires.steady

pub bring_through_if-requires-clause-absent : goal.bring_through_if-requires-clause-absent
bring_through_if-requires-clause-absent g c = ap (λ (m : Placement). m.place c.args.page) c.decides-brings.ensures.map ∙ c.requires.absent

pub bring_through_if-requires-clause-homeless : goal.bring_through_if-requires-clause-homeless
bring_through_if-requires-clause-homeless g c = ap (λ (m : Placement). m.nvm c.args.page) c.decides-brings.ensures.map ∙ c.requires.homeless

pub returns-clause-leads : goal.returns-clause-leads
returns-clause-leads g c =
    leads_at (at_data (ap sizes_of c.decides-brings.ensures.same.geometry) (sym (ap (λ (a : PartsAnswer). a.parts) c.decides-brings.ensures.answer))) c.bring_through_if.ensures.leads
