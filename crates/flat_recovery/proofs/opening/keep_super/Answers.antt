-- Four lines flushed, a fence.
use Rattle.devices.proofs.CallLaws.{makes_one, makes_then}
use Rattle.flat_recovery.proofs.opening.keep_super.Goals as goal

pub returns-clause-makes : goal.returns-clause-makes
returns-clause-makes g c =
    let one = c.in_ok-flush_lines.ensures in
    let two = c.fence.ensures in
    makes_then one.goes two.goes one.makes (makes_one two.makes)
