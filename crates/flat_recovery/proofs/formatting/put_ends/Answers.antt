-- The lines join, one behind the other.
use Rattle.devices.proofs.MomentLaws.{Goes-trans}
use Rattle.devices.proofs.CallLaws.{makes_then, makes_stop}
use Rattle.flat_nvm_log.specs.Puts.{line_put}
use Rattle.flat_recovery.specs.Calls.{number_line}
use Rattle.flat_recovery.proofs.CallsLaws.{put_is}
use Rattle.flat_recovery.proofs.formatting.put_ends.Goals as goal

pub returns-in_err-put_line-2-clause-makes : goal.returns-in_err-put_line-2-clause-makes
returns-in_err-put_line-2-clause-makes g c =
    let one = c.in_ok-put_line.ensures in
    let two = c.in_err-put_line-2.ensures in
    makes_then one.goes two.goes (put_is 1 c.number.ensures one.makes)
    (makes_stop (line_put 3 (number_line c.args.first)) c.from_residual-in_err-put_line-2.result c.from_residual-in_err-put_line-2.ensures.0 (put_is 2 c.number-2.ensures two.makes))

pub returns-clause-makes : goal.returns-clause-makes
returns-clause-makes g c =
    let one = c.in_ok-put_line.ensures in
    let two = c.in_ok-put_line-2.ensures in
    let three = c.put_line-3.ensures in
    makes_then one.goes (Goes-trans two.goes three.goes) (put_is 1 c.number.ensures one.makes)
    (makes_then two.goes three.goes (put_is 2 c.number-2.ensures two.makes) (put_is {r = c.put_line-3.result} 3 c.number-3.ensures three.makes))
