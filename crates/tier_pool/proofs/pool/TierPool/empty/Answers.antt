use Rattle.std.proofs.Common.{length, ap, ◌∙◌}
use Rattle.std.proofs.lemmas.List.{length-replicate}
use Rattle.clock_sweep.proofs.ClockLaws.{length-new}
use Rattle.migration_policy.specs.Queue.{Queue}
use Rattle.tier_rules.specs.Plans.{plan_of}
use Rattle.tier_pool.proofs.OpeningLaws.{made_empty}
use Rattle.tier_pool.proofs.pool.TierPool.empty.Goals as goal

pub invariant_of-result : goal.invariant_of-result
invariant_of-result c = record {
  arena_fits = ap length c.in_ok-new.ensures ∙ length-replicate _ _;
  marks_fit = ap length c.in_ok-no_lines.ensures ∙ length-replicate _ _;
  minis_fit = ap length c.in_ok-new-2.ensures ∙ length-replicate _ _;
  frame_marks_fit = ap length c.in_ok-no_marks.ensures ∙ length-replicate _ _;
  full_clock_fits = ap length c.in_ok-new-3.ensures ∙ length-new 0 _;
  mini_clock_fits = ap length c.in_ok-new-4.ensures ∙ length-new 0 _;
  nvm_clock_fits = ap length c.in_ok-new-5.ensures ∙ length-new 0 _;
  map_fits = c.in_ok-empty_map.ensures.sizes;
  queue_fits = ap (λ (q : Queue). q.len) c.in_ok-new-6.ensures;
}

pub returns-clause-parts : goal.returns-clause-parts
returns-clause-parts c =
    made_empty (plan_of c.args.policy.now) c.args.geometry.now.frames _ _ _ _ _ _ _ _ _ _ _
    c.in_ok-new.ensures c.in_ok-no_lines.ensures c.in_ok-new-2.ensures c.in_ok-empty_map.ensures.placement c.in_ok-no_marks.ensures
    c.in_ok-new-3.ensures c.in_ok-new-4.ensures c.in_ok-new-5.ensures (ap (λ (q : Queue). q.pages) c.in_ok-new-6.ensures) c.new-7.ensures c.nothing_counted.ensures
