-- The groups and the facts follow from the calls.
use Rattle.std.proofs.Common.{[], refl}
use Rattle.devices.proofs.CallLaws.{makes_stop}
use Rattle.nvm_log.specs.Offsets.{offsets_of, hardened}
use Rattle.nvm_log.proofs.ClauseLaws.{harden_clause, harden_keeps, harden_idle, harden_keeps_idle, stays_put}
use Rattle.nvm_log.proofs.log.Log.harden.Goals as goal

pub returns-then-self-clause-groups : goal.returns-then-self-clause-groups
returns-then-self-clause-groups g c = harden_idle c.args.self.now c.if-self.true

pub returns-then-self-clause-keeps : goal.returns-then-self-clause-keeps
returns-then-self-clause-keeps g c = harden_keeps_idle c.args.self.now c.if-self.true

pub returns-clause-groups : goal.returns-clause-groups
returns-clause-groups g c =
    let made = c.in_ok-harden_to.ensures.makes in
    harden_clause c.args.self.now (hardened (offsets_of c.args.self.now)) refl (record { whole = made.whole; part = made.part })

pub returns-clause-keeps : goal.returns-clause-keeps
returns-clause-keeps g c =
    let made = c.in_ok-harden_to.ensures.makes in
    harden_keeps c.args.self.now (hardened (offsets_of c.args.self.now)) refl (record { whole = made.whole; part = made.part })

pub returns-in_err-harden_to-clause-groups : goal.returns-in_err-harden_to-clause-groups
returns-in_err-harden_to-clause-groups g c =
    harden_clause c.args.self.now (offsets_of c.args.self.now) (stays_put _ c.from_residual.result c.from_residual.ensures.0)
    (makes_stop [] c.from_residual.result c.from_residual.ensures.0 c.in_err-harden_to.ensures.makes)

pub returns-in_err-harden_to-clause-keeps : goal.returns-in_err-harden_to-clause-keeps
returns-in_err-harden_to-clause-keeps g c =
    harden_keeps c.args.self.now (offsets_of c.args.self.now) (stays_put _ c.from_residual.result c.from_residual.ensures.0)
    (makes_stop [] c.from_residual.result c.from_residual.ensures.0 c.in_err-harden_to.ensures.makes)
