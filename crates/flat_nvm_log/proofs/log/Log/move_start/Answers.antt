-- That the log is emptied, and the facts, follow from the calls.
use Rattle.std.proofs.Common.{refl, []}
use Rattle.devices.proofs.CallLaws.{makes_stop}
use Rattle.flat_nvm_log.proofs.EntryLaws.{empties_log, empties_failed, start_keeps}
use Rattle.flat_nvm_log.proofs.log.Log.move_start.Goals as goal

pub returns-clause-makes : goal.returns-clause-makes
returns-clause-makes g c = let made = c.in_ok-put_gate.ensures.makes in record { whole = made.whole; part = made.part }

pub returns-clause-empties : goal.returns-clause-empties
returns-clause-empties g c = empties_log c.args.self.now _ (returns-clause-makes g c) (record { geometry = refl; tail = refl; ok = refl; err = tt })

pub returns-clause-keeps : goal.returns-clause-keeps
returns-clause-keeps g c = start_keeps c.args.self.now (returns-clause-makes g c)

pub returns-in_err-put_gate-clause-makes : goal.returns-in_err-put_gate-clause-makes
returns-in_err-put_gate-clause-makes g c = makes_stop [] c.from_residual.result c.from_residual.ensures.0 c.in_err-put_gate.ensures.makes

pub returns-in_err-put_gate-clause-empties : goal.returns-in_err-put_gate-clause-empties
returns-in_err-put_gate-clause-empties g c = empties_failed c.args.self.now (returns-in_err-put_gate-clause-makes g c) c.from_residual.ensures.0

pub returns-in_err-put_gate-clause-keeps : goal.returns-in_err-put_gate-clause-keeps
returns-in_err-put_gate-clause-keeps g c = start_keeps c.args.self.now (returns-in_err-put_gate-clause-makes g c)
