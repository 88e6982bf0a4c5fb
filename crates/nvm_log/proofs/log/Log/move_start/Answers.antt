-- The groups and the facts follow from the calls.
use Rattle.std.proofs.Common.{[], refl, sym}
use Rattle.devices.proofs.CallLaws.{makes_stop}
use Rattle.nvm_log.specs.Offsets.{offsets_of, emptied}
use Rattle.nvm_log.proofs.ClauseLaws.{start_clause, start_keeps, stays_put}
use Rattle.nvm_log.proofs.log.Log.move_start.Goals as goal

pub returns-clause-groups : goal.returns-clause-groups
returns-clause-groups g c =
    let made = c.in_ok-put_gate.ensures.makes in
    start_clause c.args.self.now (emptied (offsets_of c.args.self.now)) refl (record { whole = made.whole; part = made.part })

pub returns-clause-keeps : goal.returns-clause-keeps
returns-clause-keeps g c =
    let made = c.in_ok-put_gate.ensures.makes in
    start_keeps c.args.self.now (emptied (offsets_of c.args.self.now)) (sym c.requires.nothing) refl (record { whole = made.whole; part = made.part })

pub returns-in_err-put_gate-clause-groups : goal.returns-in_err-put_gate-clause-groups
returns-in_err-put_gate-clause-groups g c =
    start_clause c.args.self.now (offsets_of c.args.self.now) (stays_put _ c.from_residual.result c.from_residual.ensures.0)
    (makes_stop [] c.from_residual.result c.from_residual.ensures.0 c.in_err-put_gate.ensures.makes)

pub returns-in_err-put_gate-clause-keeps : goal.returns-in_err-put_gate-clause-keeps
returns-in_err-put_gate-clause-keeps g c =
    start_keeps c.args.self.now (offsets_of c.args.self.now) (sym c.requires.nothing) (stays_put _ c.from_residual.result c.from_residual.ensures.0)
    (makes_stop [] c.from_residual.result c.from_residual.ensures.0 c.in_err-put_gate.ensures.makes)
