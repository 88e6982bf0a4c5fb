-- The record's calls, and those of the tail behind them.
use Rattle.std.proofs.Common.{[], ◌∷◌}
use Rattle.devices.specs.State.Call.{store_word, flush, fence}
use Rattle.devices.proofs.CallLaws.{makes_then, makes_stop}
use Rattle.flat_nvm_log.proofs.putting.append_at.Goals as goal

pub returns-clause-makes : goal.returns-clause-makes
returns-clause-makes g c = makes_then c.in_ok-put_three.ensures.goes c.put_gate.ensures.goes c.in_ok-put_three.ensures.makes c.put_gate.ensures.makes

pub returns-in_err-put_three-clause-makes : goal.returns-in_err-put_three-clause-makes
returns-in_err-put_three-clause-makes g c =
    makes_stop (store_word 3 0 c.args.tail ∷ flush 3 ∷ fence ∷ []) c.from_residual.result c.from_residual.ensures.0 c.in_err-put_three.ensures.makes
