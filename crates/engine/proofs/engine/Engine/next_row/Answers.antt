use Rattle.std.proofs.Common.{◌∙◌, ap, List}
use Rattle.rows.specs.Tables.{Table}
use Rattle.rows.specs.Tables.{rows_of}
use Rattle.flat_transactions.specs.Order.{pages}
use Rattle.script.specs.Machine.{State, current}
use Rattle.engine.specs.declared.engine.Engine.{Engine}
use Rattle.engine.specs.Engine.{engine_sizes, engine_lines, engine_reach}
use Rattle.engine.proofs.CommandLaws.{does_ok, does_err, cause_err, store_shown}
use Rattle.engine.proofs.ScanningLaws.{rows_ascend, goes_on, gives_by, fewer_by, does_before, stands_between, shows_between, cause_before, cause_ok}
use Rattle.engine.proofs.RestLaws.{reads_between, reads_ok, reads_err}
use Rattle.engine.proofs.engine.Engine.next_row.Goals as goal

pub seek-requires : goal.seek-requires
seek-requires g c = stands_between c.args.self.now c.rest_after.new.self (g.W.Devices.standing c.args.world.now) c.rest_after.ensures c.requires.stands

pub returns-in_err-next-clause-does : goal.returns-in_err-next-clause-does
returns-in_err-next-clause-does g c =
    let a = g.W.Devices.standing c.args.world.now in
    does_before (λ (s : State). s) c.args.self.now c.rest_after.new.self a c.seek.new.self (g.W.Devices.standing c.seek.new.world) c.from_residual.result c.rest_after.ensures
    (does_err (λ (s : State). s) c.rest_after.new.self a c.seek.new.self (g.W.Devices.standing c.seek.new.world) c.from_residual.result c.in_err-next.field-0.0 c.from_residual.ensures c.in_err-next.ensures.does)

pub returns-in_err-next-clause-cause : goal.returns-in_err-next-clause-cause
returns-in_err-next-clause-cause g c =
    cause_before c.args.self.now c.rest_after.new.self (g.W.Devices.standing c.args.world.now) _ c.seek.new.self (g.W.Devices.standing c.seek.new.world) c.from_residual.result c.rest_after.ensures
    (cause_err _ _ _ c.from_residual.result c.in_err-next.field-0.0 c.from_residual.ensures c.in_err-next.ensures.cause)

pub returns-clause-cause : goal.returns-clause-cause
returns-clause-cause g c =
    cause_before c.args.self.now c.rest_after.new.self (g.W.Devices.standing c.args.world.now) _ c.seek.new.self (g.W.Devices.standing c.seek.new.world) _ c.rest_after.ensures
    (cause_ok c.rest_after.new.self (g.W.Devices.standing c.args.world.now) _ c.seek.new.self (g.W.Devices.standing c.seek.new.world) c.in_ok-next.next c.take.result c.in_ok-next.ensures.cause)

pub returns-clause-same_reach : goal.returns-clause-same_reach
returns-clause-same_reach g c = c.in_ok-next.ensures.same_reach ∙ ap engine_reach c.rest_after.ensures

pub returns-clause-does : goal.returns-clause-does
returns-clause-does g c =
    let a = g.W.Devices.standing c.args.world.now in
    does_before (λ (s : State). s) c.args.self.now c.rest_after.new.self a c.seek.new.self (g.W.Devices.standing c.seek.new.world) _ c.rest_after.ensures
    (does_ok (λ (s : State). s) c.rest_after.new.self a c.seek.new.self (g.W.Devices.standing c.seek.new.world) c.in_ok-next.next c.take.result c.in_ok-next.ensures.does)

pub returns-clause-gives : goal.returns-clause-gives
returns-clause-gives g c = rw (c.take.ensures.reply, c.take.ensures.left) (gives_by c.args.scan.now c.in_ok-next.next)

pub returns-clause-fewer : goal.returns-clause-fewer
returns-clause-fewer g c = rw c.take.ensures.left (fewer_by c.args.scan.now c.in_ok-next.next c.requires.left)

pub returns-clause-replies : goal.returns-clause-replies
returns-clause-replies g c = λ told s shows few.
    let a = g.W.Devices.standing c.args.world.now in
    let between = shows_between c.args.self.now c.rest_after.new.self a s c.rest_after.ensures shows in
    rw (c.take.ensures.reply ∙ c.in_ok-next.ensures.reply told s between, c.take.ensures.left ∙ c.in_ok-next.ensures.left told s between)
    (goes_on c.args.scan.now c.requires.left few (rows_of c.args.scan.now.name (current s))
    (λ rows is. rows_ascend c.args.self.now.limits (pages (engine_sizes c.args.self.now)) (engine_lines c.args.self.now a) (store_shown c.args.self.now a s c.requires.stands shows) c.args.scan.now.name rows
    (ap (λ (T : List Table). rows_of c.args.scan.now.name T) shows.seen.tables_are ∙ is)))

pub returns-in_err-next-clause-reads : goal.returns-in_err-next-clause-reads
returns-in_err-next-clause-reads g c =
    reads_between c.args.self.now (g.W.Devices.standing c.args.world.now) c.seek.new.self (g.W.Devices.standing c.seek.new.world) c.rest_after.new.self c.from_residual.result c.rest_after.ensures
    (reads_err _ _ _ _ c.from_residual.result c.in_err-next.field-0.0 c.from_residual.ensures c.in_err-next.ensures.reads)

pub returns-clause-reads : goal.returns-clause-reads
returns-clause-reads g c =
    reads_between c.args.self.now (g.W.Devices.standing c.args.world.now) c.seek.new.self (g.W.Devices.standing c.seek.new.world) c.rest_after.new.self _ c.rest_after.ensures
    (reads_ok _ _ _ _ c.in_ok-next.next c.take.result c.in_ok-next.ensures.reads)
