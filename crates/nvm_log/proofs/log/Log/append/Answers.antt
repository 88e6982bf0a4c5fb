-- The groups and the facts follow from the calls.
use Rattle.std.proofs.Common.{[], refl}
use Rattle.devices.proofs.CallLaws.{makes_stop}
use Rattle.nvm_log.specs.Offsets.{offsets_of, appended}
use Rattle.nvm_log.proofs.ClauseLaws.{append_clause, record_keeps, stays_put}
use Rattle.nvm_log.proofs.log.Log.append.Goals as goal

pub returns-clause-groups : goal.returns-clause-groups
returns-clause-groups g c =
    let made = c.in_ok-put_record.ensures.makes in
    append_clause c.args.self.now (appended 3 (offsets_of c.args.self.now)) c.args.change.now c.eight.ensures c.eight-2.ensures c.requires.room refl (record { whole = made.whole; part = made.part })

pub returns-clause-keeps : goal.returns-clause-keeps
returns-clause-keeps g c =
    let made = c.in_ok-put_record.ensures.makes in
    record_keeps c.args.self.now (appended 3 (offsets_of c.args.self.now)) c.args.change.now c.eight.ensures c.eight-2.ensures c.requires.room refl (record { whole = made.whole; part = made.part })

pub returns-in_err-put_record-clause-groups : goal.returns-in_err-put_record-clause-groups
returns-in_err-put_record-clause-groups g c =
    append_clause c.args.self.now (offsets_of c.args.self.now) c.args.change.now c.eight.ensures c.eight-2.ensures c.requires.room (stays_put _ c.from_residual.result c.from_residual.ensures.0)
    (makes_stop [] c.from_residual.result c.from_residual.ensures.0 c.in_err-put_record.ensures.makes)

pub returns-in_err-put_record-clause-keeps : goal.returns-in_err-put_record-clause-keeps
returns-in_err-put_record-clause-keeps g c =
    record_keeps c.args.self.now (offsets_of c.args.self.now) c.args.change.now c.eight.ensures c.eight-2.ensures c.requires.room (stays_put _ c.from_residual.result c.from_residual.ensures.0)
    (makes_stop [] c.from_residual.result c.from_residual.ensures.0 c.in_err-put_record.ensures.makes)
