use Rattle.std.proofs.Common.{◌+◌, List, ap, ◌∙◌}
use Rattle.rows.specs.Rows.{Row}
use Rattle.page_format.specs.Node.{leaf_rows}
use Rattle.page_edit.specs.Cut.{needed}
use Rattle.page_format.specs.Room.{sizes}
use Rattle.page_edit.proofs.CutLemmas.{both_needed, whole_is}
use Rattle.page_edit.proofs.join.joined_part.Goals as goal

pub returns : goal.returns
returns c =
    both_needed (leaf_rows c.args.left.now) (leaf_rows c.args.right.now) _ _ c.args.one c.args.two c.saturating_sub.result c.requires.one c.requires.two c.saturating_sub.ensures
    (c.part_needed-first.ensures.number ∙ ap (λ (xs : List Row). needed (c.args.one + c.args.two) (sizes xs)) (whole_is (leaf_rows c.args.left.now) c.args.left_count c.requires.left_count))
    (c.part_needed-second.ensures.number ∙ ap (λ (xs : List Row). needed c.saturating_sub.result (sizes xs)) (whole_is (leaf_rows c.args.right.now) c.args.right_count c.requires.right_count))
