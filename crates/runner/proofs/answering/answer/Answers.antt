-- The step, and then its replies.
use Rattle.std.proofs.Common.{refl, ◌≡◌, ◌+◌, ◌≤◌, ◌∙◌, ◌++◌, [], ◌∷◌, ℕ, List, Option, IsTrue, sym, ap, subst, arith}
use Rattle.std.proofs.lemmas.List.{append-nil}
use Rattle.std.proofs.lemmas.Result.{on_ok_weaker}
use Rattle.devices.specs.World.{NoFault}
use Rattle.devices.proofs.MomentLaws.{Goes-on, GoesOn-trans}
use Rattle.texts.specs.Output.{no_line}
use Rattle.texts.specs.Runs as run
use Rattle.texts.proofs.TextLaws.{text_one}
use Rattle.script.specs.declared.command.Command.{Command}
use Rattle.script.specs.Grammar.{command_in}
use Rattle.script.specs.Machine.{State, current}
use Rattle.script.specs.Replies.{reply_line, text}
use Rattle.script.specs.Script.{machine}
use Rattle.engine.specs.declared.scan.Step.{Step}
use Rattle.engine.specs.Holds.{bounds_in}
use Rattle.engine.specs.Engine.{engine_sizes, engine_reach}
use Rattle.engine.specs.Steps.{after_line, step_replies, IsBegun}
use Rattle.runner.specs.Run.{Aim, Owes, AreSafe}
use Rattle.runner.proofs.TalkLaws.{talks_goes, on_ok, on_then, on_stop, say_on}
use Rattle.runner.proofs.RunLaws.{step_safe, answered, proceeds_then, proceeds_stop}
use Rattle.runner.proofs.CauseLaws.{OnOk-any, cause_then, cause_stopped, quiet_step}
use Rattle.runner.proofs.RowsLaws.{scan_owed, scan_few}
use Rattle.devices.proofs.JoinLaws.{Stays-now}
use Rattle.runner.proofs.RestLaws.{rests_still, halted, said_on}
use Rattle.runner.proofs.answering.answer.Goals as goal
use Rattle.runner.proofs.answering.answer.Goals.{After-step, In_ok-step}
use Rattle.runner.proofs.answering.answer.Given as given

-- each moment of the step is safe
safe : (g : given.Over) (c : After-step g) (aim : Aim) (s : State) (commands : List (Option Command)) → IsTrue (g.W.Devices.standing c.args.world.now).told
    → Owes aim c.args.engine.now s [] (command_in c.args.line.now ++ commands) (g.W.Devices.standing c.args.world.now) → AreSafe aim (g.W.Devices.standing c.args.world.now) (g.W.Devices.standing c.step.new.world)
safe g c aim s commands told owes = step_safe aim c.args.engine.now c.step.new.self s c.args.line.now commands _ owes _ c.step.result (g.met.W.World.timed c.args.world.now) told c.step.ensures.does

-- no fault came
quiet : (g : given.Over) (c : In_ok-step g) → NoFault (g.W.Devices.standing c.args.world.now) (g.W.Devices.standing c.step.new.world)
quiet g c =
    let does = c.step.ensures.does in
    quiet_step c.args.engine.now (g.W.Devices.standing c.args.world.now) c.step.new.self (g.W.Devices.standing c.step.new.world) c.requires.ready does.goes does.sizes c.in_ok-step.field-0 c.in_ok-step.ensures.cause

-- what the step leads to gives the replies
replies_are : (g : given.Over) (c : In_ok-step g) (s : State) (step : Step) → IsTrue (g.W.Devices.standing c.args.world.now).told → (aim : Aim) (commands : List (Option Command))
    → Owes aim c.args.engine.now s [] (command_in c.args.line.now ++ commands) (g.W.Devices.standing c.args.world.now) → c.in_ok-step.field-0 ≡ step
    → step_replies step (current s) ≡ run.replies (machine (bounds_in (engine_sizes c.args.engine.now))) s (command_in c.args.line.now)
replies_are g c s step told aim commands owes is = ap (λ (x : Step). step_replies x (current s)) (sym is) ∙ c.in_ok-step.ensures.replies told s owes.shows

-- and they are owed
owed : (g : given.Over) (c : In_ok-step g) (aim : Aim) (s : State) (commands : List (Option Command)) (bytes : List ℕ) → IsTrue (g.W.Devices.standing c.args.world.now).told
    → Owes aim c.args.engine.now s [] (command_in c.args.line.now ++ commands) (g.W.Devices.standing c.args.world.now)
    → text (run.replies (machine (bounds_in (engine_sizes c.args.engine.now))) s (command_in c.args.line.now)) ≡ bytes
    → Owes aim c.step.new.self (after_line c.args.engine.now (command_in c.args.line.now) s) bytes commands (g.W.Devices.standing c.step.new.world)
owed g c aim s commands bytes told owes said =
    answered aim c.args.engine.now c.step.new.self s c.args.line.now commands _ owes _ c.in_ok-step.field-0 bytes (g.met.W.World.timed c.args.world.now) told c.in_ok-step.ensures.does said

pub returns-in_err-step-clause-cause : goal.returns-in_err-step-clause-cause
returns-in_err-step-clause-cause g c =
    let does = c.step.ensures.does in
    cause_stopped c.args.engine.now (g.W.Devices.standing c.args.world.now) c.step.new.self (g.W.Devices.standing c.step.new.world) c.requires.ready does.goes does.sizes
    c.from_residual.result c.in_err-step.field-0.0 c.from_residual.ensures c.in_err-step.ensures.cause

pub returns-in_err-step-clause-proceeds : goal.returns-in_err-step-clause-proceeds
returns-in_err-step-clause-proceeds g c = λ aim s commands told owes.
    proceeds_stop {engine = c.step.new.self} {s = after_line c.args.engine.now (command_in c.args.line.now) s} {bytes = []} {commands = commands} c.from_residual.result c.in_err-step.field-0.0 c.from_residual.ensures
    (safe g (goal.at.returns-in_err-step-clause-proceeds g c).After-step aim s commands told owes) (c.in_err-step.ensures.does.sound told s owes.shows)

pub returns-in-Silent-clause-proceeds : goal.returns-in-Silent-clause-proceeds
returns-in-Silent-clause-proceeds g c = λ aim s commands told owes.
    let at = (goal.at.returns-in-Silent-clause-proceeds g c).In_ok-step in
    record {
      safe = safe g (goal.at.returns-in-Silent-clause-proceeds g c).After-step aim s commands told owes;
      sound = tt;
      ok = owed g at aim s commands [] told owes (ap text (sym (replies_are g at s _ told aim commands owes c.in-Silent.is)));
    }

pub returns-in-Said-clause-goes : goal.returns-in-Said-clause-goes
returns-in-Said-clause-goes g c = GoesOn-trans (Goes-on c.step.ensures.does.goes) c.say.ensures.call.goes

pub returns-in-Said-clause-ready : goal.returns-in-Said-clause-ready
returns-in-Said-clause-ready g c = OnOk-any c.say.result (c.say.ensures.stands c.step.new.self c.in_ok-step.ensures.does.ready)

pub returns-in-Said-clause-reaches : goal.returns-in-Said-clause-reaches
returns-in-Said-clause-reaches g c = OnOk-any c.say.result c.in_ok-step.ensures.does.reach_rises

pub returns-in-Said-clause-cause : goal.returns-in-Said-clause-cause
returns-in-Said-clause-cause g c = cause_then c.say.result c.step.ensures.does.goes.clock (quiet g (goal.at.returns-in-Said-clause-cause g c).In_ok-step) (c.say.ensures.cause c.step.new.self)

pub returns-in-Said-clause-proceeds : goal.returns-in-Said-clause-proceeds
returns-in-Said-clause-proceeds g c = λ aim s commands told owes.
    let at = (goal.at.returns-in-Said-clause-proceeds g c).In_ok-step in
    let does = c.in_ok-step.ensures.does in
    let after = after_line c.args.engine.now (command_in c.args.line.now) s in
    let said : text (c.in-Said.reply ∷ []) ≡ c.as_slice.result.now = text_one reply_line c.in-Said.reply ∙ sym c.reply_text.ensures ∙ sym c.as_slice.ensures.value in
    let is_owed = owed g at aim s commands c.as_slice.result.now told owes (ap text (sym (replies_are g at s _ told aim commands owes c.in-Said.is)) ∙ said) in
    let told_new = subst IsTrue (sym does.goes.told) told in
    proceeds_then (safe g (goal.at.returns-in-Said-clause-proceeds g c).After-step aim s commands told owes) c.say.ensures.call.goes
    (c.say.ensures.proceeds aim c.step.new.self after [] commands told_new does.ready is_owed.bytes_whole no_line
    (subst (λ (l : List ℕ). Owes aim c.step.new.self after l commands (g.W.Devices.standing c.step.new.world)) (sym (append-nil c.as_slice.result.now)) is_owed))

pub returns-in-Scanning-clause-goes : goal.returns-in-Scanning-clause-goes
returns-in-Scanning-clause-goes g c = GoesOn-trans (Goes-on c.step.ensures.does.goes) c.give_rows.ensures.goes

pub returns-in-Scanning-clause-reaches : goal.returns-in-Scanning-clause-reaches
returns-in-Scanning-clause-reaches g c =
    let risen : engine_reach c.step.new.self ≤ engine_reach c.args.engine.now + 1921 = c.in_ok-step.ensures.does.reach_rises in
    on_ok_weaker c.give_rows.result (λ (same : engine_reach c.give_rows.new.engine ≡ engine_reach c.step.new.self). omega (arith, same, risen)) c.give_rows.ensures.reaches

pub returns-in-Scanning-clause-cause : goal.returns-in-Scanning-clause-cause
returns-in-Scanning-clause-cause g c = cause_then c.give_rows.result c.step.ensures.does.goes.clock (quiet g (goal.at.returns-in-Scanning-clause-cause g c).In_ok-step) c.give_rows.ensures.cause

pub returns-in-Scanning-clause-proceeds : goal.returns-in-Scanning-clause-proceeds
returns-in-Scanning-clause-proceeds g c = λ aim s commands told owes.
    let at = (goal.at.returns-in-Scanning-clause-proceeds g c).In_ok-step in
    let does = c.in_ok-step.ensures.does in
    let begun : IsBegun (Rattle.engine.specs.declared.scan.Step.TheVariants.Scanning c.in-Scanning.scan) = subst IsBegun c.in-Scanning.is c.in_ok-step.ensures.begun in
    let is_owed = scan_owed aim c.args.engine.now c.step.new.self s c.args.line.now commands _ owes (g.W.Devices.standing c.step.new.world) c.in-Scanning.scan (g.met.W.World.timed c.args.world.now) told
    c.in_ok-step.field-0 does begun.0 (replies_are g at s _ told aim commands owes c.in-Scanning.is) in
    let few = scan_few aim c.args.engine.now c.step.new.self s c.args.line.now commands _ owes (g.W.Devices.standing c.step.new.world) c.in-Scanning.scan (g.met.W.World.timed c.args.world.now) told is_owed begun.1 in
    proceeds_then (safe g (goal.at.returns-in-Scanning-clause-proceeds g c).After-step aim s commands told owes) c.give_rows.ensures.goes
    (c.give_rows.ensures.proceeds aim (after_line c.args.engine.now (command_in c.args.line.now) s) commands (subst IsTrue (sym does.goes.told) told) few is_owed)

-- ---- where nothing was written so far

pub returns-in_err-step-clause-reads : goal.returns-in_err-step-clause-reads
returns-in_err-step-clause-reads g c = λ lines told rests are. halted c.from_residual.result _ c.from_residual.ensures ((c.in_err-step.ensures.reads are).shows told lines rests)

pub returns-in-Silent-clause-reads : goal.returns-in-Silent-clause-reads
returns-in-Silent-clause-reads g c = λ lines told rests are. record { stays = (c.in_ok-step.ensures.reads are).stays told lines rests; next = refl; shows = tt }

pub returns-in-Said-clause-reads : goal.returns-in-Said-clause-reads
returns-in-Said-clause-reads g c = λ lines told rests are.
    let told_new = subst IsTrue (sym c.in_ok-step.ensures.does.goes.told) told in
    said_on c.say.result c.say.ensures.sink
    (rests_still lines c.step.new.self _ _ (Stays-now c.say.ensures.call.goes c.say.ensures.call.stays told_new) ((c.in_ok-step.ensures.reads are).stays told lines rests))

pub returns-in-Scanning-clause-reads : goal.returns-in-Scanning-clause-reads
returns-in-Scanning-clause-reads g c = λ lines told rests are.
    c.give_rows.ensures.reads lines (subst IsTrue (sym c.in_ok-step.ensures.does.goes.told) told) ((c.in_ok-step.ensures.reads are).stays told lines rests)

-- ---- what is sent

pub returns-in_err-step-clause-talks : goal.returns-in_err-step-clause-talks
returns-in_err-step-clause-talks g c = on_stop c.from_residual.result c.in_err-step.field-0.0 c.from_residual.ensures (talks_goes (g.met.W.World.timed c.args.world.now) c.step.ensures.does.goes)

pub returns-in-Silent-clause-talks : goal.returns-in-Silent-clause-talks
returns-in-Silent-clause-talks g c = on_ok _ (talks_goes (g.met.W.World.timed c.args.world.now) c.step.ensures.does.goes)

pub returns-in-Said-clause-talks : goal.returns-in-Said-clause-talks
returns-in-Said-clause-talks g c =
    on_then (talks_goes (g.met.W.World.timed c.args.world.now) c.step.ensures.does.goes) c.step.ensures.does.goes.told
    (say_on c.as_slice.result.now c.in-Said.reply c.say.result (c.as_slice.ensures.value ∙ c.reply_text.ensures) c.say.ensures.rest c.say.ensures.sends c.say.ensures.sink)

pub returns-in-Scanning-clause-talks : goal.returns-in-Scanning-clause-talks
returns-in-Scanning-clause-talks g c = on_then (talks_goes (g.met.W.World.timed c.args.world.now) c.step.ensures.does.goes) c.step.ensures.does.goes.told c.give_rows.ensures.talks
