use Rattle.std.proofs.Common.{rules, refl, ap, ◌∙◌}
use Rattle.device_calls.proofs.LeadsLaws.{leads_none, leads_then, leads_ok, leads_exit}
use Rattle.migration_policy.specs.declared.policy.Policy.{Policy}
use Rattle.tier_facts.proofs.CallLaws.{hard_held}
use Rattle.tier_map.specs.declared.place.Place.TheVariants.{Full}
use Rattle.tier_manager.specs.Fields.{parts_of, data_of}
use Rattle.tier_manager.proofs.CleanLaws.{same_none, same_then, full_stands, steady_after, full_next, fulls_done}
use Rattle.tier_manager.proofs.DirtyLaws.{all_fulls}
use Rattle.tier_manager.proofs.tiers.Tiers.clean_fulls.Goals as goal

pub loop-full-init : goal.loop-full-init
loop-full-init g c = record {
  cleans = record {
    call = search rules;
    leads = leads_none (hard_held (data_of c.args.self.now)) (λ aim s it. it);
    steady = c.requires.steady;
    told = refl;
    same = same_none c.args.self.now.pool;
    few = c.ranges.count.fits;
  };
  parts = all_fulls c.args.count (parts_of c.args.self.now);
}

pub clean_place-requires-clause-stands : goal.clean_place-requires-clause-stands
clean_place-requires-clause-stands g c = full_stands _ c.loop-full.full (parts_of c.loop-full.self) c.loop-full.invariant.cleans.steady c.full_page-page.ensures.page

pub returns-in_err-left-clause-leads : goal.returns-in_err-left-clause-leads
returns-in_err-left-clause-leads g c = leads_exit c.from_residual.result c.from_residual.ensures.1 (leads_then c.loop-full.invariant.cleans.leads c.in_err-left.ensures.leads)

pub loop-full-preserved : goal.loop-full-preserved
loop-full-preserved g c =
    let cleans = c.loop-full.invariant.cleans in
    let before = parts_of c.loop-full.self in
    let after = parts_of c.clean_place.new.self in
    record {
      cleans = record {
        call = search rules;
        leads = leads_ok (leads_then cleans.leads c.in_ok-left.ensures.leads);
        steady = steady_after c.full_page-page.result (Full c.loop-full.full) c.loop-full.left c.in_ok-left.left before after c.in_ok-left.ensures.parts cleans.steady;
        told = c.in_ok-left.ensures.told ∙ cleans.told;
        same = same_then cleans.same c.in_ok-left.ensures.same;
        few = search rules;
      };
      parts = full_next c.loop-full.full c.loop-full.left c.in_ok-left.left _ c.full_page-page.result before after cleans.steady c.loop-full-test.true
          (ap (λ (p : Policy). p.dram_frames) cleans.same.policy) c.full_page-page.ensures.page c.in_ok-left.ensures.parts ∙ c.loop-full.invariant.parts;
    }

pub returns-clause-parts : goal.returns-clause-parts
returns-clause-parts g c = fulls_done c.loop-full.full c.loop-full.left _ (parts_of c.loop-full.self) (ap (λ (p : Policy). p.dram_frames) c.loop-full.invariant.cleans.same.policy)
    c.loop-full-test.false c.loop-full.auto.full-end ∙ c.loop-full.invariant.parts
