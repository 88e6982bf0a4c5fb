-- No child so far begins above the key.
use Rattle.std.proofs.Common.{◌-◌, ◌<◌, ◌≤◌, get_or}
use Rattle.page_format.specs.Node.{Child, children}
use Rattle.page_format.proofs.scan.first_above.Given as goal

abbrev pub invariant-loop-i : goal.invariant-loop-i
invariant-loop-i l = record { low : (d : Child) → 1 < l.i → (get_or (children l.page) (l.i - 1) d).0 ≤ l.key }
