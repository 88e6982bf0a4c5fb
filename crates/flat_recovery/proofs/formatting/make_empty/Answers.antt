-- The magic word away, all else, the magic word.
use Rattle.devices.proofs.MomentLaws.{Goes-trans}
use Rattle.devices.proofs.CallLaws.{makes_then, makes_stop}
use Rattle.flat_store_meaning.specs.Format.{magic}
use Rattle.flat_store_meaning.specs.Format.Format.{whole_lines}
use Rattle.flat_nvm_log.specs.Puts.{gate_put}
use Rattle.flat_recovery.proofs.formatting.make_empty.Goals as goal

pub returns-in_err-prepare-clause-makes : goal.returns-in_err-prepare-clause-makes
returns-in_err-prepare-clause-makes g c =
    let one = c.in_ok-put_gate.ensures in
    let two = c.in_err-prepare.ensures in
    makes_then one.goes two.goes one.makes (makes_stop (gate_put 0 (magic whole_lines)) c.from_residual-in_err-prepare.result c.from_residual-in_err-prepare.ensures.0 two.makes)

pub returns-clause-makes : goal.returns-clause-makes
returns-clause-makes g c =
    let one = c.in_ok-put_gate.ensures in
    let two = c.in_ok-prepare.ensures in
    makes_then one.goes (Goes-trans two.goes c.put_gate-2.ensures.goes) one.makes (makes_then two.goes c.put_gate-2.ensures.goes two.makes c.put_gate-2.ensures.makes)
