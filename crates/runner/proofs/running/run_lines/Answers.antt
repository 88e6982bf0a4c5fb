-- One piece after the other, and then the last line.
use Rattle.std.proofs.Common.{rules, arith, ◌≡◌, ◌≤◌, ℕ, List, [], ◌++◌, take, append_assoc, IsTrue, Ok, subst, sym, refl, ◌∙◌, ap}
use Rattle.std.proofs.lemmas.Grind.{common_steps}
use Rattle.devices.proofs.JoinLaws.{GoesOn-refl, NoFault-refl, NoFault-trans}
use Rattle.devices.proofs.MomentLaws.{GoesOn-trans}
use Rattle.texts.specs.Lines.{IsOneLine}
use Rattle.texts.proofs.LinesLaws.{IsOneLine-empty}
use Rattle.script.specs.Grammar.{commands}
use Rattle.script.specs.Machine.{State}
use Rattle.runner.specs.Run.{Aim, Owes, Comes}
use Rattle.devices.proofs.JoinLaws.{Stays-now}
use Rattle.runner.proofs.TalkLaws.{talks_refl, talks_read, talks_then, on_ok, on_err, on_then, on_source, ok_of}
use Rattle.runner.proofs.RunLaws.{stands_still, safe_then}
use Rattle.runner.proofs.CauseLaws.{cause_then, cause_err}
use Rattle.runner.proofs.ByteLaws.{line_last, comes_same, comes_on, comes_well, comes_stopped, idle, fault_err, read_comes}
use Rattle.line_pages.specs.Lines.{Lines}
use Rattle.engine.specs.Resting.{AreReads, Rests}
use Rattle.engine.specs.Engine.{evidence_bytes}
use Rattle.runner.specs.Resting.{Follows}
use Rattle.runner.proofs.RestLaws.{rests_still, taken_all, shows_on, read_halt}
use Rattle.runner.proofs.running.run_lines.Given as given
use Rattle.runner.proofs.running.run_lines.Goals.{After-take_some, In_ok-count, After-end_run, After-read_script, After-end_run-2}
use Rattle.runner.proofs.running.run_lines.Goals as goal

pub loop-left-init : goal.loop-left-init
loop-left-init g c =
    let none : [] ≡ c.new-kept.result.items = search rules in
    record {
      goes = GoesOn-refl _;
      no_fault = NoFault-refl _;
      sizes = refl;
      ready = c.requires.ready;
      one = subst IsOneLine none IsOneLine-empty;
      talked = talks_refl _;
      within = omega arith;
      reaches = omega arith;
      counted = λ told. refl;
      comes = λ aim s told owes. idle c.requires.ready told (ap (λ (l : List ℕ). commands (l ++ (g.W.Devices.standing c.args.world.now).outside.input)) none) owes;
      reads = λ lines told rests. ([], refl, λ later are. (rests, subst (λ (l : List ℕ). AreReads (commands (l ++ later))) none are));
    }

-- the next piece
took : (g : given.Over) (c : After-take_some g) (aim : Aim) (s : State) → IsTrue (g.W.Devices.standing c.args.world.now).told
    → Owes aim c.args.engine.now s [] (commands (g.W.Devices.standing c.args.world.now).outside.input) (g.W.Devices.standing c.args.world.now)
    → Comes aim c.take_some.new.engine [] (commands (c.take_some.new.kept.items ++ (g.W.Devices.standing c.take_some.new.world).outside.input)) (g.W.Devices.standing c.args.world.now) (g.W.Devices.standing c.take_some.new.world) c.take_some.result
took g c aim s told owes =
    let inv = c.loop-left.invariant in
    comes_on (inv.comes aim s told owes) c.take_some.ensures.goes (λ t owed. c.take_some.ensures.comes aim t (subst IsTrue (sym inv.goes.told) told) owed)

-- where nothing was written so far, the next piece
next_piece : (g : given.Over) (c : In_ok-count g) (lines : Lines) → IsTrue (g.W.Devices.standing c.args.world.now).told → Rests lines c.args.engine.now (g.W.Devices.standing c.args.world.now)
    → (taken : List ℕ) × ((g.W.Devices.standing c.args.world.now).outside.input ≡ taken ++ (g.W.Devices.standing c.take_some.new.world).outside.input) × Follows lines taken c.take_some.new.kept.items c.take_some.new.engine (g.W.Devices.standing c.take_some.new.world)
next_piece g c lines told rests =
    let inv = c.loop-left.invariant in
    let come = inv.reads lines told rests in
    let next = (c.in_ok-count.ensures.reads lines come.0 (subst IsTrue (sym inv.goes.told) told) come.2).on in
    (come.0 ++ next.0, come.1 ∙ ap (λ (l : List ℕ). come.0 ++ l) next.1 ∙ sym (append_assoc come.0 next.0 (g.W.Devices.standing c.take_some.new.world).outside.input), next.2)

pub loop-left-preserved : goal.loop-left-preserved
loop-left-preserved g c =
    let inv = c.loop-left.invariant in
    let at = (goal.at.loop-left-preserved g c).After-take_some in
    let within : c.in_ok-count.count ≤ c.loop-left.left = grind (arith, common_steps) in
    record {
      goes = GoesOn-trans inv.goes c.take_some.ensures.goes;
      no_fault = NoFault-trans inv.no_fault c.in_ok-count.ensures.cause.ok;
      sizes = c.take_some.ensures.sizes ∙ inv.sizes;
      ready = c.in_ok-count.ensures.ready;
      one = c.in_ok-count.ensures.one;
      talked = talks_then inv.talked inv.goes.told (ok_of _ c.in_ok-count.ensures.talks);
      within = omega arith;
      reaches = omega (arith, inv.reaches, c.in_ok-count.ensures.reaches);
      counted = λ told. omega (arith, inv.counted told, c.in_ok-count.ensures.taken (subst IsTrue (sym inv.goes.told) told));
      comes = λ aim s told owes. comes_well tt c.in_ok-count.was (took g at aim s told owes);
      reads = λ lines told rests. next_piece g (goal.at.loop-left-preserved g c).In_ok-count lines told rests;
    }

pub returns-in_err-count-clause-safe : goal.returns-in_err-count-clause-safe
returns-in_err-count-clause-safe g c = λ aim s told owes. (took g (goal.at.returns-in_err-count-clause-safe g c).After-take_some aim s told owes).proceeds.safe

pub returns-in_err-count-clause-sound : goal.returns-in_err-count-clause-sound
returns-in_err-count-clause-sound g c = λ aim s told owes.
    (comes_stopped {after = c.take_some.new.engine} {ys = []} c.from_residual.result _ c.from_residual.ensures c.in_err-count.was (took g (goal.at.returns-in_err-count-clause-sound g c).After-take_some aim s told owes)).proceeds.sound

pub returns-in_err-count-clause-cause : goal.returns-in_err-count-clause-cause
returns-in_err-count-clause-cause g c = cause_then _ c.loop-left.invariant.goes.clock c.loop-left.invariant.no_fault (cause_err c.from_residual.result _ c.from_residual.ensures c.in_err-count.ensures.cause)

-- the last line, where the end came within the limit
last : (g : given.Over) (c : After-end_run g) (aim : Aim) (s : State) → IsTrue (g.W.Devices.standing c.args.world.now).told
    → Comes aim c.take_some.new.engine [] (commands (c.take_some.new.kept.items ++ (g.W.Devices.standing c.take_some.new.world).outside.input)) (g.W.Devices.standing c.args.world.now) (g.W.Devices.standing c.take_some.new.world) c.take_some.result
    → Comes {T = Unit {0}} aim c.take_some.new.engine [] (commands c.as_slice.result.now) (g.W.Devices.standing c.args.world.now) (g.W.Devices.standing c.take_some.new.world) (Ok tt)
last g c aim s told came =
    let told_mid : IsTrue (g.W.Devices.standing c.loop-left.world).told = subst IsTrue (sym c.loop-left.invariant.goes.told) told in
    comes_same (line_last c.take_some.new.kept.items _ (c.in_ok-count.ensures.end told_mid c.if-count-eq0.true) ∙ ap commands (sym c.as_slice.ensures.value)) (comes_well tt c.in_ok-count.was came)

told_last : (g : given.Over) (c : After-end_run g) → IsTrue (g.W.Devices.standing c.args.world.now).told → IsTrue (g.W.Devices.standing c.take_some.new.world).told
told_last g c told = subst IsTrue (sym (c.take_some.ensures.goes.told ∙ c.loop-left.invariant.goes.told)) told

pub returns-then-count-eq0-clause-cause : goal.returns-then-count-eq0-clause-cause
returns-then-count-eq0-clause-cause g c = cause_then _ (omega (arith, c.loop-left.invariant.goes.clock, c.take_some.ensures.goes.clock)) (NoFault-trans c.loop-left.invariant.no_fault c.in_ok-count.ensures.cause.ok) c.end_run.ensures.cause

pub returns-then-count-eq0-clause-safe : goal.returns-then-count-eq0-clause-safe
returns-then-count-eq0-clause-safe g c = λ aim s told owes.
    let at = goal.at.returns-then-count-eq0-clause-safe g c in
    let came = last g at.After-end_run aim s told (took g at.After-take_some aim s told owes) in
    safe_then came.proceeds.safe c.end_run.ensures.goes (c.end_run.ensures.safe aim came.s (told_last g at.After-end_run told) came.proceeds.ok)

pub returns-then-count-eq0-clause-sound : goal.returns-then-count-eq0-clause-sound
returns-then-count-eq0-clause-sound g c = λ aim s told owes.
    let at = goal.at.returns-then-count-eq0-clause-sound g c in
    let came = last g at.After-end_run aim s told (took g at.After-take_some aim s told owes) in
    c.end_run.ensures.sound aim came.s (told_last g at.After-end_run told) came.proceeds.ok

pub returns-then-count-eq0-clause-ends : goal.returns-then-count-eq0-clause-ends
returns-then-count-eq0-clause-ends g c = λ aim s told owes.
    let at = goal.at.returns-then-count-eq0-clause-ends g c in
    let came = last g at.After-end_run aim s told (took g at.After-take_some aim s told owes) in
    c.end_run.ensures.ends aim came.s (told_last g at.After-end_run told) came.proceeds.ok

-- the read behind the limit
read : (g : given.Over) (c : After-read_script g) (aim : Aim) (s : State) → IsTrue (g.W.Devices.standing c.args.world.now).told
    → Owes aim c.args.engine.now s [] (commands (g.W.Devices.standing c.args.world.now).outside.input) (g.W.Devices.standing c.args.world.now)
    → Comes {T = Unit {0}} aim c.loop-left.engine [] (commands (c.loop-left.kept.items ++ (g.W.Devices.standing c.loop-left.world).outside.input)) (g.W.Devices.standing c.args.world.now) (g.W.Devices.standing c.read_script.new.world) (Ok tt)
read g c aim s told owes =
    let inv = c.loop-left.invariant in
    comes_on (inv.comes aim s told owes) c.read_script.ensures.call.goes
    (λ t owed. read_comes aim c.loop-left.engine t _ _ _ inv.ready (subst IsTrue (sym inv.goes.told) told) (g.met.W.World.timed c.loop-left.world) c.read_script.ensures.call (c.read_script.ensures.rest.output refl).0 owed)

pub returns-in_err-read_script-clause-cause : goal.returns-in_err-read_script-clause-cause
returns-in_err-read_script-clause-cause g c = cause_then _ c.loop-left.invariant.goes.clock c.loop-left.invariant.no_fault (cause_err c.from_residual-in_err-read_script.result _ c.from_residual-in_err-read_script.ensures (c.in_err-read_script.ensures.cause c.loop-left.engine))

pub returns-in_err-read_script-clause-safe : goal.returns-in_err-read_script-clause-safe
returns-in_err-read_script-clause-safe g c = λ aim s told owes. (read g (goal.at.returns-in_err-read_script-clause-safe g c).After-read_script aim s told owes).proceeds.safe

pub returns-in_err-read_script-clause-sound : goal.returns-in_err-read_script-clause-sound
returns-in_err-read_script-clause-sound g c = λ aim s told owes. fault_err c.from_residual-in_err-read_script.result _ c.from_residual-in_err-read_script.ensures c.in_err-read_script.ensures.fault

pub returns-then-branch-gt0-clause-cause : goal.returns-then-branch-gt0-clause-cause
returns-then-branch-gt0-clause-cause g c = record { failed = tt; ok = NoFault-trans c.loop-left.invariant.no_fault (c.in_ok-read_script.ensures.cause c.loop-left.engine).ok }

pub returns-then-branch-gt0-clause-safe : goal.returns-then-branch-gt0-clause-safe
returns-then-branch-gt0-clause-safe g c = λ aim s told owes. (read g (goal.at.returns-then-branch-gt0-clause-safe g c).After-read_script aim s told owes).proceeds.safe

pub end_run-requires-2-clause-ready : goal.end_run-requires-2-clause-ready
end_run-requires-2-clause-ready g c = stands_still c.loop-left.engine _ _ c.read_script.ensures.call.goes (Stays-now c.read_script.ensures.call.goes c.read_script.ensures.call.stays) c.loop-left.invariant.ready

-- and the last line behind it
last_read : (g : given.Over) (c : After-end_run-2 g) (aim : Aim) (s : State) → IsTrue (g.W.Devices.standing c.args.world.now).told
    → Comes {T = Unit {0}} aim c.loop-left.engine [] (commands (c.loop-left.kept.items ++ (g.W.Devices.standing c.loop-left.world).outside.input)) (g.W.Devices.standing c.args.world.now) (g.W.Devices.standing c.read_script.new.world) (Ok tt)
    → Comes {T = Unit {0}} aim c.loop-left.engine [] (commands c.as_slice-2.result.now) (g.W.Devices.standing c.args.world.now) (g.W.Devices.standing c.read_script.new.world) (Ok tt)
last_read g c aim s told came =
    let told_mid : IsTrue (g.W.Devices.standing c.loop-left.world).told = subst IsTrue (sym c.loop-left.invariant.goes.told) told in
    let zero_read : c.in_ok-read_script.field-0 ≡ 0 = omega arith in
    comes_same (line_last c.loop-left.kept.items _ ((c.in_ok-read_script.ensures.reads told_mid).end zero_read) ∙ ap commands (sym c.as_slice-2.ensures.value)) came

told_read : (g : given.Over) (c : After-end_run-2 g) → IsTrue (g.W.Devices.standing c.args.world.now).told → IsTrue (g.W.Devices.standing c.read_script.new.world).told
told_read g c told = subst IsTrue (sym (c.read_script.ensures.call.goes.told ∙ c.loop-left.invariant.goes.told)) told

pub returns-clause-cause : goal.returns-clause-cause
returns-clause-cause g c = cause_then _ (omega (arith, c.loop-left.invariant.goes.clock, c.read_script.ensures.call.goes.clock)) (NoFault-trans c.loop-left.invariant.no_fault (c.in_ok-read_script.ensures.cause c.loop-left.engine).ok) c.end_run-2.ensures.cause

pub returns-clause-safe : goal.returns-clause-safe
returns-clause-safe g c = λ aim s told owes.
    let at = goal.at.returns-clause-safe g c in
    let came = last_read g at.After-end_run-2 aim s told (read g at.After-read_script aim s told owes) in
    safe_then came.proceeds.safe c.end_run-2.ensures.goes (c.end_run-2.ensures.safe aim came.s (told_read g at.After-end_run-2 told) came.proceeds.ok)

pub returns-clause-sound : goal.returns-clause-sound
returns-clause-sound g c = λ aim s told owes.
    let at = goal.at.returns-clause-sound g c in
    let came = last_read g at.After-end_run-2 aim s told (read g at.After-read_script aim s told owes) in
    c.end_run-2.ensures.sound aim came.s (told_read g at.After-end_run-2 told) came.proceeds.ok

pub returns-clause-ends : goal.returns-clause-ends
returns-clause-ends g c = λ aim s told owes.
    let at = goal.at.returns-clause-ends g c in
    let came = last_read g at.After-end_run-2 aim s told (read g at.After-read_script aim s told owes) in
    c.end_run-2.ensures.ends aim came.s (told_read g at.After-end_run-2 told) came.proceeds.ok

-- ---- where nothing was written so far

pub returns-in_err-count-clause-reads : goal.returns-in_err-count-clause-reads
returns-in_err-count-clause-reads g c = λ lines taken told rests same are.
    let come = c.loop-left.invariant.reads lines told rests in
    let told_mid = subst IsTrue (sym c.loop-left.invariant.goes.told) told in
    shows_on lines (evidence_bytes c.take_some.new.engine) c.from_residual.result _ c.from_residual.ensures
    ((c.in_err-count.ensures.reads lines come.0 told_mid come.2).shows taken (sym come.1 ∙ same) are)

pub returns-then-count-eq0-clause-reads : goal.returns-then-count-eq0-clause-reads
returns-then-count-eq0-clause-reads g c = λ lines taken told rests same are.
    let at = goal.at.returns-then-count-eq0-clause-reads g c in
    let come = next_piece g at.In_ok-count lines told rests in
    let is = taken_all come.0 taken _ _ _ come.1 same c.end_run.ensures.input in
    c.end_run.ensures.reads lines come.0 (told_last g at.After-end_run told)
    (subst (λ (l : List ℕ). Follows lines come.0 l c.take_some.new.engine (g.W.Devices.standing c.take_some.new.world)) (sym c.as_slice.ensures.value) come.2)
    (subst (λ (l : List ℕ). AreReads (commands l)) is are)

pub returns-in_err-read_script-clause-reads : goal.returns-in_err-read_script-clause-reads
returns-in_err-read_script-clause-reads g c = λ lines taken told rests same are.
    shows_on lines (evidence_bytes c.loop-left.engine) c.from_residual-in_err-read_script.result _ c.from_residual-in_err-read_script.ensures (read_halt lines (evidence_bytes c.loop-left.engine) _ c.in_err-read_script.ensures.source)

pub returns-clause-reads : goal.returns-clause-reads
returns-clause-reads g c = λ lines taken told rests same are.
    let at = goal.at.returns-clause-reads g c in
    let come = c.loop-left.invariant.reads lines told rests in
    let told_mid : IsTrue (g.W.Devices.standing c.loop-left.world).told = subst IsTrue (sym c.loop-left.invariant.goes.told) told in
    let zero_read : c.in_ok-read_script.field-0 ≡ 0 = omega arith in
    let input : (g.W.Devices.standing c.loop-left.world).outside.input ≡ (g.W.Devices.standing c.read_script.new.world).outside.input =
    (c.in_ok-read_script.ensures.reads told_mid).bytes ∙ ap (λ (n : ℕ). take n c.read_script.new.into ++ (g.W.Devices.standing c.read_script.new.world).outside.input) zero_read in
    let is = taken_all come.0 taken _ _ _ come.1 same (c.end_run-2.ensures.input ∙ sym input) in
    c.end_run-2.ensures.reads lines come.0 (told_read g at.After-end_run-2 told)
    (λ later all.
    let on = come.2 later (subst (λ (l : List ℕ). AreReads (commands (come.0 ++ l))) refl all) in
    (rests_still lines c.loop-left.engine _ _ (Stays-now c.read_script.ensures.call.goes c.read_script.ensures.call.stays told_mid) on.0, subst (λ (l : List ℕ). AreReads (commands (l ++ later))) (sym c.as_slice-2.ensures.value) on.1))
    (subst (λ (l : List ℕ). AreReads (commands l)) is are)

-- ---- what is sent

pub returns-in_err-count-clause-talks : goal.returns-in_err-count-clause-talks
returns-in_err-count-clause-talks g c = on_err c.from_residual.result _ c.from_residual.ensures (on_then c.loop-left.invariant.talked c.loop-left.invariant.goes.told c.in_err-count.ensures.talks)

pub returns-then-count-eq0-clause-talks : goal.returns-then-count-eq0-clause-talks
returns-then-count-eq0-clause-talks g c =
    on_then (talks_then c.loop-left.invariant.talked c.loop-left.invariant.goes.told (ok_of _ c.in_ok-count.ensures.talks)) (c.take_some.ensures.goes.told ∙ c.loop-left.invariant.goes.told) c.end_run.ensures.talks

pub returns-in_err-read_script-clause-talks : goal.returns-in_err-read_script-clause-talks
returns-in_err-read_script-clause-talks g c =
    on_source c.from_residual-in_err-read_script.result _ c.from_residual-in_err-read_script.ensures c.in_err-read_script.ensures.source (talks_then c.loop-left.invariant.talked c.loop-left.invariant.goes.told (talks_read (g.met.W.World.timed c.loop-left.world) c.read_script.ensures.call.goes c.read_script.ensures.rest))

pub returns-then-branch-gt0-clause-talks : goal.returns-then-branch-gt0-clause-talks
returns-then-branch-gt0-clause-talks g c = on_ok _ (talks_then c.loop-left.invariant.talked c.loop-left.invariant.goes.told (talks_read (g.met.W.World.timed c.loop-left.world) c.read_script.ensures.call.goes c.read_script.ensures.rest))

pub returns-clause-talks : goal.returns-clause-talks
returns-clause-talks g c = on_then (talks_then c.loop-left.invariant.talked c.loop-left.invariant.goes.told (talks_read (g.met.W.World.timed c.loop-left.world) c.read_script.ensures.call.goes c.read_script.ensures.rest)) (c.read_script.ensures.call.goes.told ∙ c.loop-left.invariant.goes.told) c.end_run-2.ensures.talks
