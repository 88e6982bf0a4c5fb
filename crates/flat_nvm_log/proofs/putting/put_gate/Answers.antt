-- The calls that were made join.
use Rattle.devices.proofs.MomentLaws.{Goes-trans}
use Rattle.devices.proofs.CallLaws.{makes_one, makes_then}
use Rattle.flat_nvm_log.proofs.putting.put_gate.Goals as goal

pub returns-clause-makes : goal.returns-clause-makes
returns-clause-makes g c =
    makes_then c.in_ok-store_word.ensures.goes (Goes-trans c.in_ok-flush.ensures.goes c.fence.ensures.goes) (makes_one c.in_ok-store_word.ensures.makes)
    (makes_then c.in_ok-flush.ensures.goes c.fence.ensures.goes (makes_one c.in_ok-flush.ensures.makes) (makes_one c.fence.ensures.makes))
