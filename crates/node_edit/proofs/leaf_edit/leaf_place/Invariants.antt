use Rattle.std.proofs.Common.{◌≤◌}
use Rattle.page_format.specs.Node.{leaf_rows}
use Rattle.node_edit.specs.Edit.{place_of}
use Rattle.node_edit.proofs.leaf_edit.leaf_place.Given as goal

abbrev pub invariant-loop-i : goal.invariant-loop-i
invariant-loop-i l = l.i ≤ place_of l.key (leaf_rows l.page)
