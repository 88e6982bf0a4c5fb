-- Nothing is stored where a load fails; else the line before, which was loaded, is put in its place.
use Rattle.std.proofs.Common.{◌+◌, ◌∙◌, sym, ap, subst, IsTrue, Err}
use Rattle.std.proofs.lemmas.Result.{err_from_is_err_and}
use Rattle.devices.specs.State.{State, current}
use Rattle.devices.proofs.MomentLaws.{Goes-trans, Goes-on}
use Rattle.devices.proofs.JoinLaws.{Stays-now, Stays-trans}
use Rattle.line_pages.specs.declared.stop.Stop.{Stop}
use Rattle.flat_store_meaning.specs.Recovered.{log_line}
use Rattle.flat_nvm_layout.specs.Sizes.{sizes_of}
use Rattle.flat_transactions.proofs.TakenBackLaws.{makes_behind, takes_nothing, takes_behind}
use Rattle.flat_transactions.proofs.undo.take_back_line.Goals as goal

pub returns-in_err-place-clause-takes : goal.returns-in_err-place-clause-takes
returns-in_err-place-clause-takes g c told =
    let exit = err_from_is_err_and c.from_residual.result c.from_residual.ensures.1 in
    takes_nothing (sizes_of c.args.log.now.geometry) c.args.log.now.start c.args.offset _ _ c.from_residual.result (exit.1 ∙ ap (λ (why : Stop). Err why) exit.2)
    c.in_err-place.ensures.goes c.in_err-place.ensures.stays (c.in_err-place.ensures.place told).stops

pub returns-in_err-before-clause-takes : goal.returns-in_err-before-clause-takes
returns-in_err-before-clause-takes g c told =
    let first = c.in_ok-place.ensures in
    let second = c.in_err-before.ensures in
    let exit = err_from_is_err_and c.from_residual-in_err-before.result c.from_residual-in_err-before.ensures.1 in
    takes_nothing (sizes_of c.args.log.now.geometry) c.args.log.now.start c.args.offset _ _ c.from_residual-in_err-before.result (exit.1 ∙ ap (λ (why : Stop). Err why) exit.2)
    (Goes-trans first.goes second.goes) (Stays-trans (Goes-on first.goes) (Goes-on second.goes) first.stays second.stays) (λ change at. second.stops)

pub returns-clause-takes : goal.returns-clause-takes
returns-clause-takes g c told =
    let first = c.in_ok-place.ensures in
    let second = c.in_ok-before.ensures in
    let goes = Goes-trans first.goes second.goes in
    let stays = Stays-trans (Goes-on first.goes) (Goes-on second.goes) first.stays second.stays in
    takes_behind (sizes_of c.args.log.now.geometry) c.args.log.now.start c.args.offset c.in_ok-place.place c.in_ok-before.before _ _ c.put_back.result told
    (first.place told).found
    (second.value (subst (λ t. IsTrue t) (sym first.goes.told) told)
    ∙ ap (λ (s : State). log_line (sizes_of c.args.log.now.geometry) c.args.log.now.start (current s) (c.args.offset + 1)) (Stays-now (Goes-on first.goes) first.stays told))
    c.put_back.ensures.apart (makes_behind goes c.put_back.ensures.goes stays c.put_back.ensures.makes) c.put_back.ensures.stops
