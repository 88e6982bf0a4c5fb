-- The groups and the facts follow from the calls.
use Rattle.std.proofs.Common.{[], refl}
use Rattle.devices.proofs.CallLaws.{makes_stop}
use Rattle.nvm_log.specs.Offsets.{offsets_of, appended, hardened}
use Rattle.nvm_log.proofs.ClauseLaws.{end_clause, end_keeps, stays_put}
use Rattle.nvm_log.proofs.log.Log.end.Goals as goal

pub returns-clause-groups : goal.returns-clause-groups
returns-clause-groups g c =
    let made = c.in_ok-end_at.ensures.makes in
    end_clause c.args.kind c.args.self.now (hardened (appended 1 (offsets_of c.args.self.now))) c.requires.room refl (record { whole = made.whole; part = made.part })

pub returns-clause-keeps : goal.returns-clause-keeps
returns-clause-keeps g c =
    let made = c.in_ok-end_at.ensures.makes in
    end_keeps c.args.kind c.args.self.now (hardened (appended 1 (offsets_of c.args.self.now))) c.requires.room refl (record { whole = made.whole; part = made.part })

pub returns-in_err-end_at-clause-groups : goal.returns-in_err-end_at-clause-groups
returns-in_err-end_at-clause-groups g c =
    end_clause c.args.kind c.args.self.now (offsets_of c.args.self.now) c.requires.room (stays_put _ c.from_residual.result c.from_residual.ensures.0)
    (makes_stop [] c.from_residual.result c.from_residual.ensures.0 c.in_err-end_at.ensures.makes)

pub returns-in_err-end_at-clause-keeps : goal.returns-in_err-end_at-clause-keeps
returns-in_err-end_at-clause-keeps g c =
    end_keeps c.args.kind c.args.self.now (offsets_of c.args.self.now) c.requires.room (stays_put _ c.from_residual.result c.from_residual.ensures.0)
    (makes_stop [] c.from_residual.result c.from_residual.ensures.0 c.in_err-end_at.ensures.makes)
