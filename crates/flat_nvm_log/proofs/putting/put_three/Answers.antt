-- The calls that were made join, up to the first that failed.
use Rattle.std.proofs.Common.{[], ◌∷◌}
use Rattle.devices.specs.State.Call.{store_line, flush, fence}
use Rattle.devices.proofs.MomentLaws.{Goes-trans}
use Rattle.devices.proofs.CallLaws.{makes_one, makes_then, makes_stop}
use Rattle.flat_nvm_log.proofs.putting.put_three.Goals as goal

pub returns-in_err-put_line-2-clause-makes : goal.returns-in_err-put_line-2-clause-makes
returns-in_err-put_line-2-clause-makes g c =
    makes_then c.in_ok-put_line.ensures.goes c.in_err-put_line-2.ensures.goes c.in_ok-put_line.ensures.makes
    (makes_stop (store_line c.args.places.2 c.args.after.now ∷ flush c.args.places.2 ∷ fence ∷ [])
    c.from_residual-in_err-put_line-2.result c.from_residual-in_err-put_line-2.ensures.0 c.in_err-put_line-2.ensures.makes)

pub returns-in_err-put_line-3-clause-makes : goal.returns-in_err-put_line-3-clause-makes
returns-in_err-put_line-3-clause-makes g c =
    makes_then c.in_ok-put_line.ensures.goes (Goes-trans c.in_ok-put_line-2.ensures.goes c.in_err-put_line-3.ensures.goes) c.in_ok-put_line.ensures.makes
    (makes_then c.in_ok-put_line-2.ensures.goes c.in_err-put_line-3.ensures.goes c.in_ok-put_line-2.ensures.makes
    (makes_stop (fence ∷ []) c.from_residual-in_err-put_line-3.result c.from_residual-in_err-put_line-3.ensures.0 c.in_err-put_line-3.ensures.makes))

pub returns-clause-makes : goal.returns-clause-makes
returns-clause-makes g c =
    makes_then c.in_ok-put_line.ensures.goes (Goes-trans c.in_ok-put_line-2.ensures.goes (Goes-trans c.in_ok-put_line-3.ensures.goes c.fence.ensures.goes)) c.in_ok-put_line.ensures.makes
    (makes_then c.in_ok-put_line-2.ensures.goes (Goes-trans c.in_ok-put_line-3.ensures.goes c.fence.ensures.goes) c.in_ok-put_line-2.ensures.makes
    (makes_then c.in_ok-put_line-3.ensures.goes c.fence.ensures.goes c.in_ok-put_line-3.ensures.makes
    (makes_one c.fence.ensures.makes)))
