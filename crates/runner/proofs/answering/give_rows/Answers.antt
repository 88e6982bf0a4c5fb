-- A row is asked for, and then it is sent.
use Rattle.std.proofs.Common.{◌≡◌, ◌∙◌, ◌∷◌, ℕ, List, Option, Ok, Err, IsTrue, refl, sym, ap, subst, [], arith}
use Rattle.devices.specs.World.{Outside, NoFault}
use Rattle.devices.proofs.MomentLaws.{Goes-on, GoesOn-trans}
use Rattle.devices.proofs.JoinLaws.{Stays-now, GoesOn-refl, NoFault-refl, NoFault-trans}
use Rattle.rows.specs.Rows.{Row}
use Rattle.texts.specs.Output.{IsWhole}
use Rattle.texts.proofs.OutputLaws.{IsWhole-line}
use Rattle.texts.proofs.TextLaws.{IsWhole-text}
use Rattle.script.specs.declared.command.Command.{Command}
use Rattle.script.specs.Machine.{State, current}
use Rattle.script.specs.Replies.{reply_line, reply_text, text}
use Rattle.script.specs.Tables.{rows_or_none}
use Rattle.engine.specs.Steps.{scan_replies}
use Rattle.engine.specs.Engine.{evidence_bytes}
use Rattle.runner.specs.Run.{Aim, IsFew, Owes, Proceeds}
use Rattle.runner.proofs.TalkLaws.{talks_refl, talks_goes, talks_say, talks_then, on_ok, on_stop, on_sink}
use Rattle.runner.proofs.RunLaws.{idle_safe, proceeds_then, proceeds_err, proceeds_stop}
use Rattle.runner.proofs.CauseLaws.{cause_then, cause_err, cause_stopped, quiet_step}
use Rattle.runner.proofs.RowsLaws.{Gave, asked_safe, asked_owes, sent_row, row_stops, few_count, none_left, same_name}
use Rattle.runner.proofs.RestLaws.{rests_still, well, halted, sink_halt}
use Rattle.runner.proofs.answering.give_rows.Goals as goal
use Rattle.runner.proofs.answering.give_rows.Goals.{After-say}
use Rattle.runner.proofs.answering.give_rows.Given as given

pub loop-scan-init : goal.loop-scan-init
loop-scan-init g c = record {
  goes = GoesOn-refl _;
  quiet = NoFault-refl _;
  input = refl;
  sizes = refl;
  ready = c.requires.ready;
  reaches = refl;
  talked = talks_refl _;
  name = refl;
  rests = λ lines told rests. rests;
  gave = λ aim s commands told few owes. record { few = few; safe = idle_safe aim _ s _ commands _ c.requires.ready told owes; owes = owes };
}

pub returns-in_err-reply-clause-cause : goal.returns-in_err-reply-clause-cause
returns-in_err-reply-clause-cause g c =
    let does = c.next_row.ensures.does in
    cause_then c.from_residual.result c.loop-scan.invariant.goes.clock c.loop-scan.invariant.quiet
    (cause_stopped c.loop-scan.engine (g.W.Devices.standing c.loop-scan.world) c.next_row.new.self (g.W.Devices.standing c.next_row.new.world) c.loop-scan.invariant.ready does.goes does.sizes
    c.from_residual.result c.in_err-reply.field-0.0 c.from_residual.ensures (row_stops c.loop-scan.engine (g.W.Devices.standing c.loop-scan.world) c.next_row.new.self (g.W.Devices.standing c.next_row.new.world) (Err c.in_err-reply.field-0.0) c.in_err-reply.ensures.cause))

pub returns-in_err-reply-clause-proceeds : goal.returns-in_err-reply-clause-proceeds
returns-in_err-reply-clause-proceeds g c = λ aim s commands told few owes.
    let inv = c.loop-scan.invariant in
    let told_mid = subst IsTrue (sym inv.goes.told) told in
    let gave = inv.gave aim s commands told few owes in
    proceeds_stop {engine = c.next_row.new.self} {s = s} {bytes = []} {commands = commands} c.from_residual.result c.in_err-reply.field-0.0 c.from_residual.ensures
    (asked_safe aim c.loop-scan.engine s c.loop-scan.scan _ commands _ _ gave (g.met.W.World.timed c.loop-scan.world) told_mid c.next_row.new.self _ c.next_row.result c.next_row.ensures.does)
    (c.in_err-reply.ensures.does.sound told_mid s gave.owes.shows)

-- the row was found and no fault came
quiet_row : (g : given.Over) (c : After-say g) → NoFault (g.W.Devices.standing c.loop-scan.world) (g.W.Devices.standing c.next_row.new.world)
quiet_row g c =
    let does = c.next_row.ensures.does in
    quiet_step c.loop-scan.engine (g.W.Devices.standing c.loop-scan.world) c.next_row.new.self (g.W.Devices.standing c.next_row.new.world) c.loop-scan.invariant.ready does.goes does.sizes c.in_ok-reply.reply
    (row_stops c.loop-scan.engine (g.W.Devices.standing c.loop-scan.world) c.next_row.new.self (g.W.Devices.standing c.next_row.new.world) (Ok c.in_ok-reply.reply) c.in_ok-reply.ensures.cause)

module _ (g : given.Over) (c : After-say g) (aim : Aim) (s : State) (commands : List (Option Command)) (told : IsTrue (g.W.Devices.standing c.args.world.now).told)
    (few : IsFew c.args.scan.now (rows_or_none c.args.scan.now.name (current s)))
    (owes : Owes aim c.args.engine.now s (text (scan_replies c.args.scan.now (rows_or_none c.args.scan.now.name (current s)))) commands (g.W.Devices.standing c.args.world.now)) where
  abbrev rows : List Row
  rows = rows_or_none c.args.scan.now.name (current s)

  told_mid : IsTrue (g.W.Devices.standing c.loop-scan.world).told
  told_mid = subst IsTrue (sym c.loop-scan.invariant.goes.told) told

  so_far : Gave aim c.loop-scan.engine s c.loop-scan.scan rows commands (g.W.Devices.standing c.args.world.now) (g.W.Devices.standing c.loop-scan.world)
  so_far = c.loop-scan.invariant.gave aim s commands told few owes

  next_is : scan_replies c.loop-scan.scan rows ≡ c.in_ok-reply.reply ∷ scan_replies c.next_row.new.scan rows
  next_is =
      subst (λ (n : List ℕ). scan_replies c.loop-scan.scan (rows_or_none n (current s)) ≡ c.in_ok-reply.reply ∷ scan_replies c.next_row.new.scan (rows_or_none n (current s))) c.loop-scan.invariant.name
      (c.in_ok-reply.ensures.replies told_mid s so_far.owes.shows (few_count c.loop-scan.scan rows so_far.few))

  -- the row is owed and then sent
  says : Proceeds aim c.next_row.new.self s (text (scan_replies c.next_row.new.scan rows)) commands (g.W.Devices.standing c.next_row.new.world) (g.W.Devices.standing c.say.new.world) c.say.result
  says =
      let told_new = subst IsTrue (sym c.next_row.ensures.does.goes.told) told_mid in
      let said : reply_text c.in_ok-reply.reply ≡ c.as_slice.result.now = sym c.reply_text.ensures ∙ sym c.as_slice.ensures.value in
      c.say.ensures.proceeds aim c.next_row.new.self s (text (scan_replies c.next_row.new.scan rows)) commands told_new c.in_ok-reply.ensures.does.ready
      (subst IsWhole said (IsWhole-line (reply_line c.in_ok-reply.reply))) (IsWhole-text reply_line (scan_replies c.next_row.new.scan rows))
      (asked_owes aim c.loop-scan.engine s c.loop-scan.scan rows commands _ _ so_far (g.met.W.World.timed c.loop-scan.world) told_mid c.next_row.new.self _ c.in_ok-reply.reply c.next_row.new.scan c.as_slice.result.now c.in_ok-reply.ensures.does next_is said)

pub loop-scan-preserved : goal.loop-scan-preserved
loop-scan-preserved g c =
    let inv = c.loop-scan.invariant in
    let does = c.in_ok-reply.ensures.does in
    record {
      goes = GoesOn-trans inv.goes (GoesOn-trans (Goes-on does.goes) c.say.ensures.call.goes);
      quiet = NoFault-trans inv.quiet (NoFault-trans (quiet_row g (goal.at.loop-scan-preserved g c).After-say) (c.in_ok-say.ensures.cause c.next_row.new.self).ok);
      input = (c.say.ensures.rest.input refl).0 ∙ ap (λ (o : Outside). o.input) does.goes.outside ∙ inv.input;
      sizes = does.sizes ∙ inv.sizes;
      ready = c.say.ensures.stands c.next_row.new.self does.ready;
      reaches = c.in_ok-reply.ensures.same_reach ∙ inv.reaches;
      rests = λ lines told rests.
          let told_mid = subst IsTrue (sym inv.goes.told) told in
          rests_still lines c.next_row.new.self _ _ (Stays-now c.say.ensures.call.goes c.say.ensures.call.stays (subst IsTrue (sym does.goes.told) told_mid)) (c.in_ok-reply.ensures.reads.stays told_mid lines (inv.rests lines told rests));
      talked = talks_then (talks_then c.loop-scan.invariant.talked c.loop-scan.invariant.goes.told (talks_goes (g.met.W.World.timed c.loop-scan.world) c.next_row.ensures.does.goes)) (c.next_row.ensures.does.goes.told ∙ inv.goes.told)
          (talks_say c.as_slice.result.now c.in_ok-reply.reply (c.as_slice.ensures.value ∙ c.reply_text.ensures) c.say.ensures.rest c.in_ok-say.ensures.sends);
      name = same_name c.loop-scan.scan c.next_row.new.scan c.in_ok-reply.reply c.in_ok-reply.ensures.gives ∙ inv.name;
      gave = λ aim s commands told few owes.
          let at = (goal.at.loop-scan-preserved g c).After-say in
          sent_row aim c.loop-scan.engine s c.loop-scan.scan (rows_or_none c.args.scan.now.name (current s)) commands _ _ (so_far g at aim s commands told few owes) (g.met.W.World.timed c.loop-scan.world)
          (told_mid g at aim s commands told few owes) c.next_row.new.self _ c.in_ok-reply.reply c.next_row.new.scan _ c.in_ok-say.field-0 c.loop-scan-test.true c.in_ok-reply.ensures.gives does (next_is g at aim s commands told few owes)
          c.say.ensures.call.goes (subst (λ r. Proceeds aim c.next_row.new.self s (text (scan_replies c.next_row.new.scan (rows_or_none c.args.scan.now.name (current s)))) commands (g.W.Devices.standing c.next_row.new.world) (g.W.Devices.standing c.say.new.world) r) c.in_ok-say.was (says g at aim s commands told few owes));
    }

pub returns-in_err-say-clause-goes : goal.returns-in_err-say-clause-goes
returns-in_err-say-clause-goes g c = GoesOn-trans c.loop-scan.invariant.goes (GoesOn-trans (Goes-on c.next_row.ensures.does.goes) c.say.ensures.call.goes)

pub returns-in_err-say-clause-cause : goal.returns-in_err-say-clause-cause
returns-in_err-say-clause-cause g c =
    cause_then c.from_residual-in_err-say.result (omega (arith, c.loop-scan.invariant.goes.clock, c.next_row.ensures.does.goes.clock)) (NoFault-trans c.loop-scan.invariant.quiet (quiet_row g (goal.at.returns-in_err-say-clause-cause g c).After-say))
    (cause_err c.from_residual-in_err-say.result c.in_err-say.field-0.0 c.from_residual-in_err-say.ensures (c.in_err-say.ensures.cause c.next_row.new.self))

pub returns-in_err-say-clause-proceeds : goal.returns-in_err-say-clause-proceeds
returns-in_err-say-clause-proceeds g c = λ aim s commands told few owes.
    let at = (goal.at.returns-in_err-say-clause-proceeds g c).After-say in
    let rows = rows_or_none c.args.scan.now.name (current s) in
    proceeds_err {engine = c.next_row.new.self} {after = c.next_row.new.self} {s = s} {t = s} {bytes = text (scan_replies c.next_row.new.scan rows)} {more = []} {xs = commands} {ys = commands} c.from_residual-in_err-say.result c.in_err-say.field-0.0 c.from_residual-in_err-say.ensures
    (proceeds_then (asked_safe aim c.loop-scan.engine s c.loop-scan.scan rows commands _ _ (so_far g at aim s commands told few owes) (g.met.W.World.timed c.loop-scan.world) (told_mid g at aim s commands told few owes) c.next_row.new.self _ c.next_row.result c.next_row.ensures.does)
    c.say.ensures.call.goes (subst (λ r. Proceeds aim c.next_row.new.self s (text (scan_replies c.next_row.new.scan rows)) commands (g.W.Devices.standing c.next_row.new.world) (g.W.Devices.standing c.say.new.world) r) c.in_err-say.was (says g at aim s commands told few owes)))

pub returns-clause-proceeds : goal.returns-clause-proceeds
returns-clause-proceeds g c = λ aim s commands told few owes.
    let gave = c.loop-scan.invariant.gave aim s commands told few owes in
    record {
      safe = gave.safe;
      sound = tt;
      ok = subst (λ (l : List ℕ). Owes aim c.loop-scan.engine s l commands (g.W.Devices.standing c.loop-scan.world)) (none_left c.loop-scan.scan (rows_or_none c.args.scan.now.name (current s)) c.loop-scan-test.false) gave.owes;
    }

-- ---- where nothing was written so far

pub returns-in_err-reply-clause-reads : goal.returns-in_err-reply-clause-reads
returns-in_err-reply-clause-reads g c = λ lines told rests.
    halted c.from_residual.result _ c.from_residual.ensures (c.in_err-reply.ensures.reads.shows (subst IsTrue (sym c.loop-scan.invariant.goes.told) told) lines (c.loop-scan.invariant.rests lines told rests))

pub returns-in_err-say-clause-reads : goal.returns-in_err-say-clause-reads
returns-in_err-say-clause-reads g c = λ lines told rests.
    halted c.from_residual-in_err-say.result _ c.from_residual-in_err-say.ensures (sink_halt lines (evidence_bytes c.next_row.new.self) _ c.in_err-say.ensures.sink)

pub returns-clause-reads : goal.returns-clause-reads
returns-clause-reads g c = λ lines told rests. well _ (c.loop-scan.invariant.rests lines told rests) refl

-- ---- what is sent

pub returns-in_err-reply-clause-talks : goal.returns-in_err-reply-clause-talks
returns-in_err-reply-clause-talks g c = on_stop c.from_residual.result c.in_err-reply.field-0.0 c.from_residual.ensures (talks_then c.loop-scan.invariant.talked c.loop-scan.invariant.goes.told (talks_goes (g.met.W.World.timed c.loop-scan.world) c.next_row.ensures.does.goes))

pub returns-in_err-say-clause-talks : goal.returns-in_err-say-clause-talks
returns-in_err-say-clause-talks g c = on_sink c.from_residual-in_err-say.result c.in_err-say.field-0.0 c.from_residual-in_err-say.ensures c.in_err-say.ensures.sink (talks_then c.loop-scan.invariant.talked c.loop-scan.invariant.goes.told (talks_goes (g.met.W.World.timed c.loop-scan.world) c.next_row.ensures.does.goes)) c.say.ensures.rest

pub returns-clause-talks : goal.returns-clause-talks
returns-clause-talks g c = on_ok _ c.loop-scan.invariant.talked
