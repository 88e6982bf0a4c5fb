use Rattle.std.proofs.Common.{◌+◌, ◌*◌}
use Rattle.tree_search.proofs.next.+next_in.Given as goal

abbrev pub decreases-next_in : goal.decreases-next_in
decreases-next_in g l = 2 * l.expect.now.level + 1

abbrev pub decreases-next_after : goal.decreases-next_after
decreases-next_after g l = 2 * l.expect.now.level
