-- The last line is answered, and then an open transaction is aborted.
use Rattle.std.proofs.Common.{[], IsTrue, subst, sym, refl}
use Rattle.devices.proofs.MomentLaws.{Goes-on}
use Rattle.script.specs.Grammar.{commands, command_in}
use Rattle.script.specs.Machine.{State}
use Rattle.engine.specs.Answers.{closed}
use Rattle.engine.proofs.CauseLaws.{undoing_stops}
use Rattle.engine.specs.Steps.{after_line}
use Rattle.engine.specs.Engine.{evidence_bytes}
use Rattle.runner.specs.Run.{Aim, Owes, Proceeds, AreSafe}
use Rattle.runner.proofs.TalkLaws.{talks_goes, talks_then, on_ok, on_err, on_stop, ok_of}
use Rattle.runner.proofs.RunLaws.{safe_then, proceeds_ok, does_safe, done_by}
use Rattle.runner.proofs.CauseLaws.{cause_then, cause_stopped, quiet_step}
use Rattle.runner.proofs.ByteLaws.{owes_same, line_whole, fault_err, store_fault}
use Rattle.runner.proofs.RestLaws.{last_follows, shows_on}
use Rattle.runner.proofs.running.end_run.Given as given
use Rattle.runner.proofs.running.end_run.Goals.{After-answer, After-finish}
use Rattle.runner.proofs.running.end_run.Goals as goal

-- the last line
last : (g : given.Over) (c : After-answer g) (aim : Aim) (s : State) → IsTrue (g.W.Devices.standing c.args.world.now).told
    → Owes aim c.args.engine.now s [] (commands c.args.line.now) (g.W.Devices.standing c.args.world.now)
    → Proceeds aim c.answer.new.engine (after_line c.args.engine.now (command_in c.args.line.now) s) [] [] (g.W.Devices.standing c.args.world.now) (g.W.Devices.standing c.answer.new.world) c.answer.result
last g c aim s told owes = c.answer.ensures.proceeds aim s [] told (owes_same (line_whole c.args.line.now c.requires.one) owes)

pub returns-in_err-answer-clause-safe : goal.returns-in_err-answer-clause-safe
returns-in_err-answer-clause-safe g c = λ aim s told owes. (last g (goal.at.returns-in_err-answer-clause-safe g c).After-answer aim s told owes).safe

pub returns-in_err-answer-clause-sound : goal.returns-in_err-answer-clause-sound
returns-in_err-answer-clause-sound g c = λ aim s told owes.
    fault_err c.from_residual.result _ c.from_residual.ensures (c.in_err-answer.ensures.proceeds aim s [] told (owes_same (line_whole c.args.line.now c.requires.one) owes)).sound

-- and the end behind it
ended : (g : given.Over) (c : After-finish g) (aim : Aim) (s : State) → IsTrue (g.W.Devices.standing c.args.world.now).told
    → Proceeds aim c.answer.new.engine (after_line c.args.engine.now (command_in c.args.line.now) s) [] [] (g.W.Devices.standing c.args.world.now) (g.W.Devices.standing c.answer.new.world) c.answer.result
    → AreSafe aim (g.W.Devices.standing c.args.world.now) (g.W.Devices.standing c.finish.new.world)
ended g c aim s told went =
    let told_mid : IsTrue (g.W.Devices.standing c.answer.new.world).told = subst IsTrue (sym c.answer.ensures.goes.told) told in
    let owed = proceeds_ok went c.in_ok-answer.was in
    safe_then went.safe (Goes-on c.finish.ensures.does.goes) (does_safe aim _ _ _ _ _ _ owed closed _ c.finish.result refl (g.met.W.World.timed c.answer.new.world) told_mid c.finish.ensures.does)

pub returns-in_err-finish-clause-cause : goal.returns-in_err-finish-clause-cause
returns-in_err-finish-clause-cause g c =
    cause_then _ c.answer.ensures.goes.clock c.in_ok-answer.ensures.cause.ok
    (cause_stopped _ _ _ _ c.in_ok-answer.ensures.ready c.finish.ensures.does.goes c.finish.ensures.does.sizes c.from_residual-in_err-finish.result _ c.from_residual-in_err-finish.ensures
    (undoing_stops c.answer.new.engine (g.W.Devices.standing c.answer.new.world) c.finish.new.self (g.W.Devices.standing c.finish.new.world) _ c.in_err-finish.ensures.cause))

pub returns-in_err-finish-clause-safe : goal.returns-in_err-finish-clause-safe
returns-in_err-finish-clause-safe g c = λ aim s told owes.
    let at = goal.at.returns-in_err-finish-clause-safe g c in
    ended g at.After-finish aim s told (last g at.After-answer aim s told owes)

pub returns-in_err-finish-clause-sound : goal.returns-in_err-finish-clause-sound
returns-in_err-finish-clause-sound g c = λ aim s told owes.
    let at = goal.at.returns-in_err-finish-clause-sound g c in
    let told_mid : IsTrue (g.W.Devices.standing c.answer.new.world).told = subst IsTrue (sym c.answer.ensures.goes.told) told in
    let owed = proceeds_ok (last g at.After-answer aim s told owes) c.in_ok-answer.was in
    fault_err c.from_residual-in_err-finish.result _ c.from_residual-in_err-finish.ensures (store_fault _ (c.in_err-finish.ensures.does.sound told_mid _ owed.shows))

pub returns-clause-cause : goal.returns-clause-cause
returns-clause-cause g c =
    cause_then _ c.answer.ensures.goes.clock c.in_ok-answer.ensures.cause.ok (record {
      failed = tt;
      ok = quiet_step c.answer.new.engine (g.W.Devices.standing c.answer.new.world) c.finish.new.self (g.W.Devices.standing c.finish.new.world) c.in_ok-answer.ensures.ready c.finish.ensures.does.goes c.finish.ensures.does.sizes tt
          (undoing_stops c.answer.new.engine (g.W.Devices.standing c.answer.new.world) c.finish.new.self (g.W.Devices.standing c.finish.new.world) _ c.in_ok-finish.ensures.cause);
    })

pub returns-clause-safe : goal.returns-clause-safe
returns-clause-safe g c = λ aim s told owes.
    let at = goal.at.returns-clause-safe g c in
    ended g at.After-finish aim s told (last g at.After-answer aim s told owes)

pub returns-clause-ends : goal.returns-clause-ends
returns-clause-ends g c = λ aim s told owes.
    let at = goal.at.returns-clause-ends g c in
    let told_mid : IsTrue (g.W.Devices.standing c.answer.new.world).told = subst IsTrue (sym c.answer.ensures.goes.told) told in
    let owed = proceeds_ok (last g at.After-answer aim s told owes) c.in_ok-answer.was in
    done_by aim _ _ _ _ _ tt owed (g.met.W.World.timed c.answer.new.world) told_mid c.in_ok-finish.ensures.does

-- ---- where nothing was written so far

pub returns-in_err-answer-clause-reads : goal.returns-in_err-answer-clause-reads
returns-in_err-answer-clause-reads g c = λ lines before told follows are.
    let on = last_follows before c.args.line.now follows c.requires.one are in
    shows_on lines (evidence_bytes c.answer.new.engine) c.from_residual.result _ c.from_residual.ensures (c.in_err-answer.ensures.reads lines told on.0 on.1).shows

pub returns-in_err-finish-clause-reads : goal.returns-in_err-finish-clause-reads
returns-in_err-finish-clause-reads g c = λ lines before told follows are.
    let on = last_follows before c.args.line.now follows c.requires.one are in
    let told_mid : IsTrue (g.W.Devices.standing c.answer.new.world).told = subst IsTrue (sym c.answer.ensures.goes.told) told in
    shows_on lines (evidence_bytes c.finish.new.self) c.from_residual-in_err-finish.result _ c.from_residual-in_err-finish.ensures
    (c.in_err-finish.ensures.reads.shows told_mid lines (c.in_ok-answer.ensures.reads lines told on.0 on.1).stays)

-- ---- what is sent

pub returns-in_err-answer-clause-talks : goal.returns-in_err-answer-clause-talks
returns-in_err-answer-clause-talks g c = on_err c.from_residual.result _ c.from_residual.ensures c.in_err-answer.ensures.talks

pub returns-in_err-finish-clause-talks : goal.returns-in_err-finish-clause-talks
returns-in_err-finish-clause-talks g c = on_stop c.from_residual-in_err-finish.result _ c.from_residual-in_err-finish.ensures (talks_then (ok_of _ c.in_ok-answer.ensures.talks) c.answer.ensures.goes.told (talks_goes (g.met.W.World.timed c.answer.new.world) c.finish.ensures.does.goes))

pub returns-clause-talks : goal.returns-clause-talks
returns-clause-talks g c = on_ok _ (talks_then (ok_of _ c.in_ok-answer.ensures.talks) c.answer.ensures.goes.told (talks_goes (g.met.W.World.timed c.answer.new.world) c.finish.ensures.does.goes))
