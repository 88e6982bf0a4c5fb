use Rattle.std.proofs.Common.{rules, refl, ap, ◌∙◌}
use Rattle.device_calls.proofs.LeadsLaws.{leads_none, leads_then, leads_ok, leads_exit}
use Rattle.migration_policy.specs.declared.policy.Policy.{Policy}
use Rattle.tier_facts.proofs.CallLaws.{hard_held}
use Rattle.tier_map.specs.declared.place.Place.TheVariants.{Mini}
use Rattle.tier_manager.specs.Fields.{parts_of, data_of}
use Rattle.tier_manager.proofs.CleanLaws.{same_none, same_then, mini_stands, steady_after, mini_next, minis_done}
use Rattle.tier_manager.proofs.DirtyLaws.{all_minis}
use Rattle.tier_manager.proofs.tiers.Tiers.clean_minis.Goals as goal

pub loop-mini-init : goal.loop-mini-init
loop-mini-init g c = record {
  cleans = record {
    call = search rules;
    leads = leads_none (hard_held (data_of c.args.self.now)) (λ aim s it. it);
    steady = c.requires.steady;
    told = refl;
    same = same_none c.args.self.now.pool;
    few = c.ranges.count.fits;
  };
  parts = all_minis c.args.count (parts_of c.args.self.now);
}

pub clean_place-requires-clause-stands : goal.clean_place-requires-clause-stands
clean_place-requires-clause-stands g c = mini_stands _ c.loop-mini.mini (parts_of c.loop-mini.self) c.loop-mini.invariant.cleans.steady c.mini_owner-page.ensures.page

pub returns-in_err-left-clause-leads : goal.returns-in_err-left-clause-leads
returns-in_err-left-clause-leads g c = leads_exit c.from_residual.result c.from_residual.ensures.1 (leads_then c.loop-mini.invariant.cleans.leads c.in_err-left.ensures.leads)

pub loop-mini-preserved : goal.loop-mini-preserved
loop-mini-preserved g c =
    let cleans = c.loop-mini.invariant.cleans in
    let before = parts_of c.loop-mini.self in
    let after = parts_of c.clean_place.new.self in
    record {
      cleans = record {
        call = search rules;
        leads = leads_ok (leads_then cleans.leads c.in_ok-left.ensures.leads);
        steady = steady_after c.mini_owner-page.result (Mini c.loop-mini.mini) c.loop-mini.left c.in_ok-left.left before after c.in_ok-left.ensures.parts cleans.steady;
        told = c.in_ok-left.ensures.told ∙ cleans.told;
        same = same_then cleans.same c.in_ok-left.ensures.same;
        few = search rules;
      };
      parts = mini_next c.loop-mini.mini c.loop-mini.left c.in_ok-left.left _ c.mini_owner-page.result before after cleans.steady c.loop-mini-test.true
          (ap (λ (p : Policy). p.minis) cleans.same.policy) c.mini_owner-page.ensures.page c.in_ok-left.ensures.parts ∙ c.loop-mini.invariant.parts;
    }

pub returns-clause-parts : goal.returns-clause-parts
returns-clause-parts g c = minis_done c.loop-mini.mini c.loop-mini.left _ (parts_of c.loop-mini.self) (ap (λ (p : Policy). p.minis) c.loop-mini.invariant.cleans.same.policy)
    c.loop-mini-test.false c.loop-mini.auto.mini-end ∙ c.loop-mini.invariant.parts
