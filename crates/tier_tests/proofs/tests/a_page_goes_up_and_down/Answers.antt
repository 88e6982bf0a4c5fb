use Rattle.std.proofs.Common.{ap, ◌∙◌}
use Rattle.tier_map.specs.Placement.{with_mini, with_nvm, without_dram}
use Rattle.tier_tests.proofs.tests.a_page_goes_up_and_down.Goals as goal

pub set_nvm-requires-clause-absent : goal.set_nvm-requires-clause-absent
set_nvm-requires-clause-absent g c = ap (λ placement. placement.nvm 8) c.in_ok-map.ensures.placement

pub set_nvm-requires-clause-free : goal.set_nvm-requires-clause-free
set_nvm-requires-clause-free g c = ap (λ placement. placement.frame_page 3) c.in_ok-map.ensures.placement

pub set_mini-requires-clause-absent : goal.set_mini-requires-clause-absent
set_mini-requires-clause-absent g c = ap (λ placement. placement.place 8) (c.set_nvm.ensures.placement ∙ ap (with_nvm 8 3) c.in_ok-map.ensures.placement)

pub set_mini-requires-clause-free : goal.set_mini-requires-clause-free
set_mini-requires-clause-free g c = ap (λ placement. placement.mini_owner 2) (c.set_nvm.ensures.placement ∙ ap (with_nvm 8 3) c.in_ok-map.ensures.placement)

pub set_full-requires-clause-free : goal.set_full-requires-clause-free
set_full-requires-clause-free g c =
    let first = c.set_nvm.ensures.placement ∙ ap (with_nvm 8 3) c.in_ok-map.ensures.placement in
    let second = c.set_mini.ensures.placement ∙ ap (with_mini 8 2) first in
    ap (λ placement. placement.full_page 1) (c.clear_dram.ensures.placement ∙ ap (without_dram 8) second)
