-- The check, the replay, an empty log.
use Rattle.std.proofs.Common.{ap, ◌∙◌, Err}
use Rattle.std.proofs.lemmas.Result.{err_from_is_err_and}
use Rattle.flat_recovery.specs.declared.errors.OpenError.{OpenError}
use Rattle.flat_recovery.proofs.ReopenLaws.{check_stops, super_stops, replay_stops, settle_stops, reopened, open_ring}
use Rattle.flat_recovery.proofs.opening.reopen.Goals as goal

pub returns-in_err-check_log-clause-reopens : goal.returns-in_err-check_log-clause-reopens
returns-in_err-check_log-clause-reopens g c =
    let opened = c.open-log.ensures in
    let checked = c.in_err-check_log.ensures in
    let exit = err_from_is_err_and c.from_residual.result c.from_residual.ensures.1 in
    check_stops c.args.gates.now c.open-log.result (record { geometry = opened.geometry; start = opened.start; tail = opened.tail }) _ _ checked.goes checked.stays
    c.in_err-check_log.field-0.0 c.from_residual.result (exit.1 ∙ ap (λ (why : OpenError). Err why) exit.2) checked.checks

pub returns-in_err-keep_super-clause-reopens : goal.returns-in_err-keep_super-clause-reopens
returns-in_err-keep_super-clause-reopens g c =
    let opened = c.open-log.ensures in
    let checked = c.in_ok-check_log.ensures in
    let kept = c.in_err-keep_super.ensures in
    let exit = err_from_is_err_and c.from_residual-in_err-keep_super.result c.from_residual-in_err-keep_super.ensures.1 in
    super_stops c.args.gates.now c.open-log.result (record { geometry = opened.geometry; start = opened.start; tail = opened.tail }) _ _ checked.goes checked.stays checked.checks
    (open_ring _ _ c.args.gates.now c.open-log.result c.requires opened.geometry) _ kept.goes
    c.in_err-keep_super.field-0.0 c.from_residual-in_err-keep_super.result (exit.1 ∙ ap (λ (why : OpenError). Err why) exit.2) kept.makes

pub returns-in_err-replay-clause-reopens : goal.returns-in_err-replay-clause-reopens
returns-in_err-replay-clause-reopens g c =
    let opened = c.open-log.ensures in
    let checked = c.in_ok-check_log.ensures in
    let kept = c.in_ok-keep_super.ensures in
    let replayed = c.in_err-replay.ensures in
    let exit = err_from_is_err_and c.from_residual-in_err-replay.result c.from_residual-in_err-replay.ensures.1 in
    replay_stops c.args.gates.now c.open-log.result (record { geometry = opened.geometry; start = opened.start; tail = opened.tail }) _ _ checked.goes checked.stays checked.checks
    (open_ring _ _ c.args.gates.now c.open-log.result c.requires opened.geometry) _ kept.goes kept.makes _ replayed.goes
    c.in_err-replay.field-0.0 c.from_residual-in_err-replay.result (exit.1 ∙ ap (λ (why : OpenError). Err why) exit.2) replayed.replays

pub returns-in_err-settle-clause-reopens : goal.returns-in_err-settle-clause-reopens
returns-in_err-settle-clause-reopens g c =
    let opened = c.open-log.ensures in
    let checked = c.in_ok-check_log.ensures in
    let kept = c.in_ok-keep_super.ensures in
    let replayed = c.in_ok-replay.ensures in
    let settled = c.in_err-settle.ensures in
    let exit = err_from_is_err_and c.from_residual-in_err-settle.result c.from_residual-in_err-settle.ensures.1 in
    settle_stops c.args.gates.now c.open-log.result (record { geometry = opened.geometry; start = opened.start; tail = opened.tail }) _ _ checked.goes checked.stays checked.checks
    (open_ring _ _ c.args.gates.now c.open-log.result c.requires opened.geometry) _ kept.goes kept.makes _ replayed.goes replayed.replays _ settled.goes
    c.in_err-settle.field-0.0 c.from_residual-in_err-settle.result (exit.1 ∙ ap (λ (why : OpenError). Err why) exit.2) settled.makes

pub returns-clause-reopens : goal.returns-clause-reopens
returns-clause-reopens g c =
    let opened = c.open-log.ensures in
    let checked = c.in_ok-check_log.ensures in
    let kept = c.in_ok-keep_super.ensures in
    let replayed = c.in_ok-replay.ensures in
    let settled = c.in_ok-settle.ensures in
    reopened c.args.gates.now c.open-log.result (record { geometry = opened.geometry; start = opened.start; tail = opened.tail }) _ _ checked.goes checked.stays checked.checks
    (open_ring _ _ c.args.gates.now c.open-log.result c.requires opened.geometry) _ kept.goes kept.makes _ replayed.goes replayed.replays _ settled.goes _ settled.makes
