-- What was read is taken.
use Rattle.std.proofs.Common.{◌≡◌, ◌∙◌, ℕ, List, [], ◌++◌, take, IsTrue, Ok, subst, sym, refl, ap}
use Rattle.script.specs.Grammar.{commands}
use Rattle.script.specs.Machine.{State}
use Rattle.runner.specs.Run.{Aim, Owes, Comes}
use Rattle.devices.proofs.JoinLaws.{Stays-now, NoFault-trans}
use Rattle.runner.proofs.TalkLaws.{talks_read, talks_then, on_ok, on_err, on_then, on_source, ok_of}
use Rattle.runner.proofs.RunLaws.{stands_still}
use Rattle.runner.proofs.CauseLaws.{cause_then, cause_err}
use Rattle.runner.proofs.ByteLaws.{owes_same, comes_on, comes_well, comes_stopped, read_comes, read_fails}
use Rattle.std.proofs.lemmas.List.{append-nil}
use Rattle.line_pages.specs.Lines.{Lines}
use Rattle.engine.specs.Resting.{AreReads, Rests}
use Rattle.engine.specs.Engine.{evidence_bytes}
use Rattle.runner.specs.Resting.{Follows}
use Rattle.runner.proofs.RestLaws.{rests_still, follows_piece, taken_is, on_error, shows_on, read_halt}
use Rattle.runner.proofs.running.take_some.Given as given
use Rattle.runner.proofs.running.take_some.Goals.{After-read_script, After-take_piece}
use Rattle.runner.proofs.running.take_some.Goals as goal

pub take_piece-requires-clause-ready : goal.take_piece-requires-clause-ready
take_piece-requires-clause-ready g c = stands_still c.args.engine.now _ _ c.read_script.ensures.call.goes (Stays-now c.read_script.ensures.call.goes c.read_script.ensures.call.stays) c.requires.ready

-- the read leaves all that is owed
read : (g : given.Over) (c : After-read_script g) (aim : Aim) (s : State) → IsTrue (g.W.Devices.standing c.args.world.now).told
    → Owes aim c.args.engine.now s [] (commands (c.args.kept.now.items ++ (g.W.Devices.standing c.args.world.now).outside.input)) (g.W.Devices.standing c.args.world.now)
    → Comes {T = Unit {0}} aim c.args.engine.now [] (commands (c.args.kept.now.items ++ (g.W.Devices.standing c.args.world.now).outside.input)) (g.W.Devices.standing c.args.world.now) (g.W.Devices.standing c.read_script.new.world) (Ok tt)
read g c aim s told owes = read_comes aim _ s _ _ _ c.requires.ready told (g.met.W.World.timed c.args.world.now) c.read_script.ensures.call (c.read_script.ensures.rest.output refl).0 owes

pub returns-in_err-count-clause-comes : goal.returns-in_err-count-clause-comes
returns-in_err-count-clause-comes g c = λ aim s told owes.
    read_fails c.from_residual.result _ c.from_residual.ensures c.in_err-count.ensures.fault (read g (goal.at.returns-in_err-count-clause-comes g c).After-read_script aim s told owes)

-- and then the piece is taken
took : (g : given.Over) (c : After-take_piece g) (aim : Aim) → IsTrue (g.W.Devices.standing c.args.world.now).told
    → Comes {T = Unit {0}} aim c.args.engine.now [] (commands (c.args.kept.now.items ++ (g.W.Devices.standing c.args.world.now).outside.input)) (g.W.Devices.standing c.args.world.now) (g.W.Devices.standing c.read_script.new.world) (Ok tt)
    → Comes aim c.take_piece.new.engine [] (commands (c.take_piece.new.kept.items ++ (g.W.Devices.standing c.take_piece.new.world).outside.input)) (g.W.Devices.standing c.args.world.now) (g.W.Devices.standing c.take_piece.new.world) c.take_piece.result
took g c aim told first =
    let input = (c.in_ok-count.ensures.reads told).bytes in
    let told_mid : IsTrue (g.W.Devices.standing c.read_script.new.world).told = subst IsTrue (sym c.read_script.ensures.call.goes.told) told in
    subst (λ (l : List ℕ). Comes aim c.take_piece.new.engine [] (commands (c.take_piece.new.kept.items ++ l)) (g.W.Devices.standing c.args.world.now) (g.W.Devices.standing c.take_piece.new.world) c.take_piece.result) (sym c.take_piece.ensures.input)
    (comes_on first c.take_piece.ensures.goes
    (λ t owed. c.take_piece.ensures.comes aim t (g.W.Devices.standing c.read_script.new.world).outside.input told_mid (owes_same (ap (λ (l : List ℕ). commands (c.args.kept.now.items ++ l)) input) owed)))

pub returns-in_err-take_piece-clause-cause : goal.returns-in_err-take_piece-clause-cause
returns-in_err-take_piece-clause-cause g c =
    cause_then _ c.read_script.ensures.call.goes.clock (c.in_ok-count.ensures.cause c.args.engine.now).ok (cause_err c.from_residual-in_err-take_piece.result _ c.from_residual-in_err-take_piece.ensures c.in_err-take_piece.ensures.cause)

pub returns-in_err-take_piece-clause-comes : goal.returns-in_err-take_piece-clause-comes
returns-in_err-take_piece-clause-comes g c = λ aim s told owes.
    let at = goal.at.returns-in_err-take_piece-clause-comes g c in
    comes_stopped {ys = commands (c.take_piece.new.kept.items ++ (g.W.Devices.standing c.take_piece.new.world).outside.input)} c.from_residual-in_err-take_piece.result _ c.from_residual-in_err-take_piece.ensures c.in_err-take_piece.was (took g at.After-take_piece aim told (read g at.After-read_script aim s told owes))

pub returns-clause-cause : goal.returns-clause-cause
returns-clause-cause g c = record { failed = tt; ok = NoFault-trans (c.in_ok-count.ensures.cause c.args.engine.now).ok c.in_ok-take_piece.ensures.cause.ok }

pub returns-clause-comes : goal.returns-clause-comes
returns-clause-comes g c = λ aim s told owes.
    let at = goal.at.returns-clause-comes g c in
    comes_well _ c.in_ok-take_piece.was (took g at.After-take_piece aim told (read g at.After-read_script aim s told owes))

-- ---- where nothing was written so far

-- the piece that was read
module _ (g : given.Over) (c : After-take_piece g) (lines : Lines) (before : List ℕ) (told : IsTrue (g.W.Devices.standing c.args.world.now).told)
    (follows : Follows lines before c.args.kept.now.items c.args.engine.now (g.W.Devices.standing c.args.world.now)) where
  abbrev piece : List ℕ
  piece = take c.in_ok-count.count c.read_script.new.into

  piece_is : (g.W.Devices.standing c.args.world.now).outside.input ≡ piece ++ (g.W.Devices.standing c.take_piece.new.world).outside.input
  piece_is = (c.in_ok-count.ensures.reads told).bytes ∙ ap (λ (l : List ℕ). piece ++ l) (sym c.take_piece.ensures.input)

  rest_of : (later : List ℕ) → AreReads (commands ((before ++ piece) ++ later)) → Rests lines c.args.engine.now (g.W.Devices.standing c.read_script.new.world) × AreReads (commands (c.args.kept.now.items ++ (piece ++ later)))
  rest_of later are =
      let on = follows (piece ++ later) (follows_piece before piece later are) in
      (rests_still lines c.args.engine.now _ _ (Stays-now c.read_script.ensures.call.goes c.read_script.ensures.call.stays told) on.0, on.1)

  told_mid : IsTrue (g.W.Devices.standing c.read_script.new.world).told
  told_mid = subst IsTrue (sym c.read_script.ensures.call.goes.told) told

pub returns-in_err-count-clause-reads : goal.returns-in_err-count-clause-reads
returns-in_err-count-clause-reads g c = λ lines before told follows. record {
  on = on_error _ c.from_residual.result c.from_residual.ensures.0;
  shows = λ taken same are. shows_on lines (evidence_bytes c.args.engine.now) c.from_residual.result _ c.from_residual.ensures (read_halt lines (evidence_bytes c.args.engine.now) _ c.in_err-count.ensures.source);
}

pub returns-in_err-take_piece-clause-reads : goal.returns-in_err-take_piece-clause-reads
returns-in_err-take_piece-clause-reads g c = λ lines before told follows.
    let at = (goal.at.returns-in_err-take_piece-clause-reads g c).After-take_piece in
    record {
      on = on_error _ c.from_residual-in_err-take_piece.result c.from_residual-in_err-take_piece.ensures.0;
      shows = λ taken same are.
          let is = taken_is before (piece g at lines before told follows) taken _ _ (piece_is g at lines before told follows) same in
          let on = rest_of g at lines before told follows [] (subst (λ (l : List ℕ). AreReads (commands l)) (is ∙ sym (append-nil _)) are) in
          shows_on lines (evidence_bytes c.take_piece.new.engine) c.from_residual-in_err-take_piece.result _ c.from_residual-in_err-take_piece.ensures
          (c.in_err-take_piece.ensures.reads lines [] (told_mid g at lines before told follows) on.0 on.1).shows;
    }

pub returns-clause-reads : goal.returns-clause-reads
returns-clause-reads g c = λ lines before told follows.
    let at = (goal.at.returns-clause-reads g c).After-take_piece in
    record {
      on = (
        piece g at lines before told follows,
        piece_is g at lines before told follows,
        λ later are.
            let on = rest_of g at lines before told follows later are in
            let here = c.in_ok-take_piece.ensures.reads lines later (told_mid g at lines before told follows) on.0 on.1 in
            (here.stays, here.next),
      );
      shows = λ taken same are. tt;
    }

-- ---- what is sent

pub returns-in_err-count-clause-talks : goal.returns-in_err-count-clause-talks
returns-in_err-count-clause-talks g c = on_source c.from_residual.result _ c.from_residual.ensures c.in_err-count.ensures.source (talks_read (g.met.W.World.timed c.args.world.now) c.read_script.ensures.call.goes c.read_script.ensures.rest)

pub returns-in_err-take_piece-clause-talks : goal.returns-in_err-take_piece-clause-talks
returns-in_err-take_piece-clause-talks g c =
    on_err c.from_residual-in_err-take_piece.result _ c.from_residual-in_err-take_piece.ensures (on_then (talks_read (g.met.W.World.timed c.args.world.now) c.read_script.ensures.call.goes c.read_script.ensures.rest) c.read_script.ensures.call.goes.told c.in_err-take_piece.ensures.talks)

pub returns-clause-talks : goal.returns-clause-talks
returns-clause-talks g c = on_ok _ (talks_then (talks_read (g.met.W.World.timed c.args.world.now) c.read_script.ensures.call.goes c.read_script.ensures.rest) c.read_script.ensures.call.goes.told (ok_of _ c.in_ok-take_piece.ensures.talks))
