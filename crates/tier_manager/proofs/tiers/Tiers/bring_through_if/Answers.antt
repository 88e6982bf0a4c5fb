use Rattle.std.proofs.Common.{◌≡◌, sym, subst}
use Rattle.tier_pool.specs.Fields.{parts_of}
use Rattle.tier_pool.specs.Standing.{IsSteady}
use Rattle.tier_pool.specs.Bringing.{fetched_to_nvm}
use Rattle.tier_pool.proofs.SteadyLaws.{steady_fetched_to_nvm, steady_brought_through}
use Rattle.tier_manager.proofs.BegunLaws.{on_ok}
use Rattle.tier_manager.proofs.tiers.Tiers.bring_through_if.Goals as goal

pub returns-then-not-brings-clause-keeps : goal.returns-then-not-brings-clause-keeps
returns-then-not-brings-clause-keeps g c =
    let old = parts_of c.args.self.now.pool in
    on_ok c.fetch_to_nvm.result
    (λ (is : parts_of c.fetch_to_nvm.new.self ≡ fetched_to_nvm c.args.page old). subst IsSteady (sym is) (steady_fetched_to_nvm c.args.page old c.requires.some c.requires.homeless c.requires.steady))
    c.fetch_to_nvm.ensures.parts

pub returns-clause-keeps : goal.returns-clause-keeps
returns-clause-keeps g c =
    steady_brought_through c.args.page (parts_of c.args.self.now.pool) (parts_of c.bring_through.new.self) c.in_ok-bring_through.field-0 c.in_ok-bring_through.ensures.brought
    c.requires.absent c.requires.homeless c.requires.some c.requires.steady
