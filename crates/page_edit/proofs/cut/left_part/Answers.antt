use Rattle.std.proofs.Common.{◌≡◌, ◌+◌, ◌-◌, ◌*◌, length, take, drop, slice_range, ap, ◌∙◌, arith, List, ℕ}
use Rattle.rows.specs.Rows.{Row}
use Rattle.page_format.specs.Node.{leaf_rows}
use Rattle.page_edit.specs.Cut.{needed}
use Rattle.page_format.specs.Room.{sizes}
use Rattle.page_format.specs.Sound.{row_bytes}
use Rattle.page_edit.proofs.CutLemmas.{whole_needed, front_is, back_is}
use Rattle.page_edit.proofs.cut.left_part.Goals as goal

pub returns : goal.returns
returns c =
    let rows = leaf_rows c.args.page.now in
    let row : Row = (c.args.key, c.args.value.now) in
    let front = front_is rows c.args.at in
    let back : slice_range rows c.args.at c.args.count ≡ drop c.args.at rows = ap (slice_range rows c.args.at) c.requires.count ∙ back_is rows c.args.at in
    let total = c.part_bytes-before.result + (12 + length c.args.value.now) + c.part_bytes-after.result in
    let rest = c.saturating_sub-rest.result - 2 * (12 + length c.args.value.now) in
    whole_needed (take c.args.at rows) (drop c.args.at rows) row _ _ _ total c.saturating_sub-rest.result c.part_bytes-before.result c.part_bytes-after.result
    (c.part_bytes-before.ensures.bytes ∙ ap row_bytes front) (c.part_bytes-after.ensures.bytes ∙ ap row_bytes back) (omega arith) c.saturating_sub-rest.ensures
    (c.part_needed-first.ensures.number ∙ ap (λ (xs : List Row). needed total (sizes xs)) front) c.one_needed-middle.ensures.number
    (c.part_needed-last.ensures.number ∙ ap (λ (g : ℕ). needed g (sizes (slice_range rows c.args.at c.args.count))) c.saturating_sub.ensures ∙ ap (λ (xs : List Row). needed rest (sizes xs)) back)
