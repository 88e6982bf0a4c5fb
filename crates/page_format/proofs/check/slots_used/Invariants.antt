use Rattle.std.proofs.Common.{◌≡◌, ◌≤◌, ◌+◌, ◌*◌, drop}
use Rattle.page_format.specs.Node.{slots, bytes_used}
use Rattle.page_format.proofs.check.slots_used.Given as goal

abbrev pub invariant-loop-i : goal.invariant-loop-i
invariant-loop-i l = record { so_far : l.total + bytes_used (drop l.i (slots l.page)) ≡ bytes_used (slots l.page); few : l.total ≤ 65539 * l.i }
