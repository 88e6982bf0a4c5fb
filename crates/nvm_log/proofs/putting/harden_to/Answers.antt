-- The calls that were made join.
use Rattle.devices.proofs.CallLaws.{makes_one, makes_then}
use Rattle.nvm_log.proofs.putting.harden_to.Goals as goal

pub returns-clause-makes : goal.returns-clause-makes
returns-clause-makes g c = makes_then c.in_ok-fence.ensures.goes c.put_gate.ensures.goes (makes_one c.in_ok-fence.ensures.makes) c.put_gate.ensures.makes
