-- The calls that were made join.
use Rattle.std.proofs.Common.{[], ◌∷◌}
use Rattle.devices.specs.State.Call.{store_word, flush, fence}
use Rattle.devices.proofs.MomentLaws.{Goes-trans}
use Rattle.devices.proofs.CallLaws.{makes_one, makes_then, makes_stop}
use Rattle.flat_nvm_log.proofs.ending.end_at.Goals as goal

pub returns-clause-makes : goal.returns-clause-makes
returns-clause-makes g c =
    makes_then c.in_ok-put_line.ensures.goes (Goes-trans c.in_ok-fence.ensures.goes c.put_gate.ensures.goes) c.in_ok-put_line.ensures.makes
    (makes_then c.in_ok-fence.ensures.goes c.put_gate.ensures.goes (makes_one c.in_ok-fence.ensures.makes) c.put_gate.ensures.makes)

pub returns-in_err-put_line-clause-makes : goal.returns-in_err-put_line-clause-makes
returns-in_err-put_line-clause-makes g c =
    makes_stop (fence ∷ store_word 3 0 c.args.tail ∷ flush 3 ∷ fence ∷ []) c.from_residual.result c.from_residual.ensures.0 c.in_err-put_line.ensures.makes

pub returns-in_err-fence-clause-makes : goal.returns-in_err-fence-clause-makes
returns-in_err-fence-clause-makes g c =
    makes_then c.in_ok-put_line.ensures.goes c.in_err-fence.ensures.goes c.in_ok-put_line.ensures.makes
    (makes_stop (store_word 3 0 c.args.tail ∷ flush 3 ∷ fence ∷ []) c.from_residual-in_err-fence.result c.from_residual-in_err-fence.ensures.0 (makes_one c.in_err-fence.ensures.makes))
