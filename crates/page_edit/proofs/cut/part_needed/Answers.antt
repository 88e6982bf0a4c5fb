use Rattle.std.proofs.Common.{◌≡◌, ◌+◌, ◌-◌, ◌*◌, length, slice_range, ap, arith, List, ℕ}
use Rattle.page_format.specs.Node.{leaf_rows}
use Rattle.page_edit.specs.Cut.{needed}
use Rattle.page_format.specs.Room.{sizes}
use Rattle.page_edit.proofs.CutLemmas.{needed_step}
use Rattle.page_edit.proofs.cut.part_needed.Goals as goal

pub loop-i-preserved : goal.loop-i-preserved
loop-i-preserved c =
    let rows = leaf_rows c.args.page.now in
    let size = 12 + length c.leaf_value.result.now in
    let step = needed_step rows c.loop-i.i c.args.end c.loop-i.goal size (0, c.leaf_value.result.now) c.loop-i-test.true c.requires.within
    (ap (λ (v : List ℕ). 12 + length v) (c.leaf_value.ensures.value (0, c.leaf_value.result.now))) c.if-goal-eq0.false in
    let goal_is : c.saturating_sub-goal.result ≡ c.loop-i.goal - 2 * size = c.saturating_sub-goal.ensures in
    let same = ap (λ (g : ℕ). needed g (sizes (slice_range rows (c.loop-i.i + 1) c.args.end))) goal_is in
    record { so_far = omega (arith, c.loop-i.invariant.so_far, step, same, c.loop-i.auto.i) }
