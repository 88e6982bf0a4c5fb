use Rattle.std.proofs.Common.{◌≤◌}
use Rattle.page_format.specs.Node.{children}
use Rattle.node_edit.specs.Edit.{place_of}
use Rattle.node_edit.proofs.inner_edit.child_at.Given as goal

abbrev pub invariant-loop-i : goal.invariant-loop-i
invariant-loop-i l = l.i ≤ place_of l.key (children l.page)
