-- A record is one of the group; an end writes it.
use Rattle.std.proofs.Common.{◌+◌, sym, ap, ◌∙◌, subst, Ok, Err}
use Rattle.std.proofs.lemmas.Result.{err_from_is_err_and}
use Rattle.flat_nvm_log.specs.declared.head.Head.TheVariants as head
use Rattle.flat_recovery.specs.Heads.{ReadsHead}
use Rattle.flat_recovery.specs.Replaying.{TakesEntry}
use Rattle.flat_recovery.specs.declared.errors.OpenError.{OpenError}
use Rattle.flat_recovery.proofs.GroupLaws.{record_taken, head_stops, end_taken, end_stops}
use Rattle.flat_recovery.proofs.replaying.take_entry.Goals as goal

pub returns-in_err-head_at-clause-takes : goal.returns-in_err-head_at-clause-takes
returns-in_err-head_at-clause-takes g c =
    let step = c.in_err-head_at.ensures in
    let exit = err_from_is_err_and c.from_residual.result c.from_residual.ensures.1 in
    head_stops c.args.log.now c.args.group.now _ _ step.goes step.stays c.in_err-head_at.field-0.0 c.from_residual.result (exit.1 ∙ ap (λ (why : OpenError). Err why) exit.2) c.requires.below
    (subst (λ n. ReadsHead c.args.log.now n (g.D.Devices.standing c.args.dev.now) (Err c.in_err-head_at.field-0.0)) c.end_of-at.ensures step.reads)

pub returns-in_err-write_group-in-End-clause-takes : goal.returns-in_err-write_group-in-End-clause-takes
returns-in_err-write_group-in-End-clause-takes g c =
    let read = c.in_ok-head_at.ensures in
    let step = c.in_err-write_group-in-End.ensures in
    let exit = err_from_is_err_and c.from_residual-in_err-write_group-in-End.result c.from_residual-in_err-write_group-in-End.ensures.1 in
    end_stops c.args.log.now c.args.group.now _ _ read.goes read.stays c.in-End.kind c.requires.below
    (subst (λ n. ReadsHead c.args.log.now n (g.D.Devices.standing c.args.dev.now) (Ok (head.End c.in-End.kind))) c.end_of-at.ensures (rw c.in-End.is at read.reads))
    _ step.goes c.in_err-write_group-in-End.field-0.0 c.from_residual-in_err-write_group-in-End.result (exit.1 ∙ ap (λ (why : OpenError). Err why) exit.2) step.ends

pub returns-in-Line-clause-takes : goal.returns-in-Line-clause-takes
returns-in-Line-clause-takes g c =
    let read = c.in_ok-head_at.ensures in
    record_taken c.args.log.now c.args.group.now _ _ read.goes read.stays c.in-Line.page c.in-Line.line c.requires.below
    (subst (λ n. ReadsHead c.args.log.now n (g.D.Devices.standing c.args.dev.now) (Ok (head.Line c.in-Line.page c.in-Line.line))) c.end_of-at.ensures (rw c.in-Line.is at read.reads))

pub returns-in_ok-write_group-in-End-clause-takes : goal.returns-in_ok-write_group-in-End-clause-takes
returns-in_ok-write_group-in-End-clause-takes g c =
    let read = c.in_ok-head_at.ensures in
    let step = c.in_ok-write_group-in-End.ensures in
    subst (λ n. TakesEntry c.args.log.now c.args.group.now (g.D.Devices.standing c.args.dev.now) (g.D.Devices.standing c.write_group.new.dev) (Ok (record { first = n + 1; count = 0 }))) (sym c.end_of-at.ensures)
    (end_taken c.args.log.now c.args.group.now _ _ read.goes read.stays c.in-End.kind c.requires.below
    (subst (λ n. ReadsHead c.args.log.now n (g.D.Devices.standing c.args.dev.now) (Ok (head.End c.in-End.kind))) c.end_of-at.ensures (rw c.in-End.is at read.reads))
    _ step.goes step.ends)
