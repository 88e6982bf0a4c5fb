-- All records are taken back, and then the end follows; or a stop is handed on.
use Rattle.std.proofs.Common.{◌∙◌, ap, Err}
use Rattle.std.proofs.lemmas.Result.{err_from_is_err_and}
use Rattle.line_pages.specs.declared.stop.Stop.{Stop}
use Rattle.flat_nvm_layout.specs.Sizes.{sizes_of}
use Rattle.flat_transactions.proofs.ClosingLaws.{ends_aborts, stops_aborts}
use Rattle.flat_transactions.proofs.undo.undo.Goals as goal

pub returns-clause-aborts : goal.returns-clause-aborts
returns-clause-aborts g c told =
    let first = c.in_ok-take_back.ensures in
    ends_aborts (sizes_of c.args.log.now.geometry) c.args.log.now.start c.args.log.now.tail c.args.first _ _ _ c.end_abort.result
    first.goes c.end_abort.ensures.goes told (first.takes told) c.end_abort.ensures.makes c.requires.room c.end_abort.ensures.stops

pub returns-in_err-take_back-clause-aborts : goal.returns-in_err-take_back-clause-aborts
returns-in_err-take_back-clause-aborts g c told =
    let exit = err_from_is_err_and c.from_residual.result c.from_residual.ensures.1 in
    stops_aborts (sizes_of c.args.log.now.geometry) c.args.log.now.start c.args.log.now.tail c.args.first _ _ c.from_residual.result
    (exit.1 ∙ ap (λ (why : Stop). Err why) exit.2) (c.in_err-take_back.ensures.takes told)
