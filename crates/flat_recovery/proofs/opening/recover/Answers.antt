-- What the parts of the opening do.
use Rattle.std.proofs.Common.{ap, ◌∙◌, Err}
use Rattle.std.proofs.lemmas.Result.{err_from_is_err_and}
use Rattle.flat_recovery.specs.declared.errors.OpenError.{OpenError}
use Rattle.flat_recovery.proofs.CompleteLaws.{complete}
use Rattle.flat_recovery.proofs.OpeningLaws.{keeps_still, reopened_keeps, reopened_nothing, reopened_parts, found_done, found_fault, found_super, super_answers, memory_answers, log_answers}
use Rattle.flat_recovery.proofs.opening.recover.Goals as goal

pub returns-in_err-gates-clause-answers : goal.returns-in_err-gates-clause-answers
returns-in_err-gates-clause-answers g c = λ some.
    let exit = err_from_is_err_and c.from_residual.result c.from_residual.ensures.1 in
    super_answers _ c.in_err-gates.field-0.0 c.from_residual.result (exit.1 ∙ ap (λ (why : OpenError). Err why) exit.2) c.in_err-gates.ensures.answers some

pub returns-in_err-gates-clause-keeps : goal.returns-in_err-gates-clause-keeps
returns-in_err-gates-clause-keeps g c = λ told. keeps_still _ _ c.in_err-gates.ensures.goes c.in_err-gates.ensures.stays told

pub returns-in_err-loose-clause-answers : goal.returns-in_err-loose-clause-answers
returns-in_err-loose-clause-answers g c = λ some.
    let exit = err_from_is_err_and c.from_residual-in_err-loose.result c.from_residual-in_err-loose.ensures.1 in
    memory_answers _ c.in_ok-gates.gates c.from_residual-in_err-loose.result (exit.1 ∙ ap (λ (why : OpenError). Err why) exit.2) (c.in_ok-gates.ensures.answers some (λ same. absurd (cc)))

pub returns-in_err-loose-clause-keeps : goal.returns-in_err-loose-clause-keeps
returns-in_err-loose-clause-keeps g c = λ told. keeps_still _ _ c.in_ok-gates.ensures.goes c.in_ok-gates.ensures.stays told

pub returns-in_err-log-clause-answers : goal.returns-in_err-log-clause-answers
returns-in_err-log-clause-answers g c = λ some.
    let exit = err_from_is_err_and c.from_residual-in_err-log.result c.from_residual-in_err-log.ensures.1 in
    log_answers _ c.in_ok-gates.gates c.in_err-log.field-0.0 c.from_residual-in_err-log.result (exit.1 ∙ ap (λ (why : OpenError). Err why) exit.2) c.in_err-log.ensures.keeps
    (c.in_ok-gates.ensures.answers some (λ same. absurd (cc)))

pub returns-in_err-log-clause-keeps : goal.returns-in_err-log-clause-keeps
returns-in_err-log-clause-keeps g c = λ told.
    let read = c.in_ok-gates.ensures in
    reopened_keeps c.in_ok-gates.gates _ _ _ read.goes read.stays c.in_err-log.ensures.goes told (read.opened told) read.sound c.reopen.result c.reopen.ensures.reopens

pub returns-in_err-log-clause-nothing : goal.returns-in_err-log-clause-nothing
returns-in_err-log-clause-nothing g c = λ told.
    let read = c.in_ok-gates.ensures in
    let exit = err_from_is_err_and c.from_residual-in_err-log.result c.from_residual-in_err-log.ensures.1 in
    reopened_nothing c.in_ok-gates.gates _ _ _ read.goes read.stays c.in_err-log.ensures.goes told (read.opened told) read.sound c.in_err-log.field-0.0 c.from_residual-in_err-log.result
    (exit.1 ∙ ap (λ (why : OpenError). Err why) exit.2) c.in_err-log.ensures.reopens

pub returns-clause-recovered : goal.returns-clause-recovered
returns-clause-recovered g c = λ told.
    let read = c.in_ok-gates.ensures in
    let log = c.in_ok-log.ensures in
    reopened_parts c.in_ok-gates.gates _ _ _ read.goes read.stays log.goes told (read.opened told) read.sound c.in_ok-log.log c.in_ok-loose.loose log.reopens log.log.1 log.log.2

pub returns-clause-keeps : goal.returns-clause-keeps
returns-clause-keeps g c = λ told.
    let read = c.in_ok-gates.ensures in
    reopened_keeps c.in_ok-gates.gates _ _ _ read.goes read.stays c.in_ok-log.ensures.goes told (read.opened told) read.sound c.reopen.result c.reopen.ensures.reopens

pub returns-clause-finds : goal.returns-clause-finds
returns-clause-finds g c = λ told.
    let read = c.in_ok-gates.ensures in
    found_done c.in_ok-gates.gates _ _ _ read.goes read.stays c.in_ok-log.ensures.goes told (read.opened told) read.sound c.in_ok-log.log c.in_ok-log.ensures.reopens

pub returns-in_err-gates-clause-finds : goal.returns-in_err-gates-clause-finds
returns-in_err-gates-clause-finds g c = λ told.
    let exit = err_from_is_err_and c.from_residual.result c.from_residual.ensures.1 in
    found_super _ c.in_err-gates.field-0.0 c.from_residual.result (exit.1 ∙ ap (λ (why : OpenError). Err why) exit.2) c.in_err-gates.ensures.answers c.in_err-gates.ensures.small

pub returns-in_err-log-clause-finds : goal.returns-in_err-log-clause-finds
returns-in_err-log-clause-finds g c = λ told.
    let read = c.in_ok-gates.ensures in
    let exit = err_from_is_err_and c.from_residual-in_err-log.result c.from_residual-in_err-log.ensures.1 in
    found_fault c.in_ok-gates.gates _ _ _ read.goes read.stays c.in_err-log.ensures.goes told (read.opened told) read.sound c.in_err-log.field-0.0 c.from_residual-in_err-log.result
    (exit.1 ∙ ap (λ (why : OpenError). Err why) exit.2) c.in_err-log.ensures.reopens

pub returns-in_err-gates-clause-complete : goal.returns-in_err-gates-clause-complete
returns-in_err-gates-clause-complete g c = complete _ c.from_residual.result (returns-in_err-gates-clause-answers g c) (returns-in_err-gates-clause-finds g c)

pub returns-in_err-log-clause-complete : goal.returns-in_err-log-clause-complete
returns-in_err-log-clause-complete g c = complete _ c.from_residual-in_err-log.result (returns-in_err-log-clause-answers g c) (returns-in_err-log-clause-finds g c)
