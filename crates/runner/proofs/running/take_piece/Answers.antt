-- One byte after the other.
use Rattle.std.proofs.Common.{arith, refl, ◌≡◌, ◌+◌, ℕ, List, [], ◌++◌, drop, IsTrue, subst, sym, ◌∙◌, ap}
use Rattle.std.proofs.lemmas.Grind.{common_steps}
use Rattle.std.proofs.lemmas.List.{drop_more}
use Rattle.devices.proofs.MomentLaws.{GoesOn-trans}
use Rattle.devices.proofs.JoinLaws.{GoesOn-refl, NoFault-refl, NoFault-trans}
use Rattle.script.specs.Grammar.{commands}
use Rattle.script.specs.Machine.{State}
use Rattle.runner.specs.Run.{Aim, Owes, Comes}
use Rattle.runner.proofs.TalkLaws.{talks_refl, talks_then, on_ok, on_err, on_then, ok_of}
use Rattle.runner.proofs.CauseLaws.{cause_then, cause_err}
use Rattle.runner.proofs.ByteLaws.{owes_same, comes_same, comes_on, comes_well, comes_stopped, idle}
use Rattle.engine.specs.Resting.{AreReads}
use Rattle.runner.proofs.RestLaws.{well, halted}
use Rattle.runner.proofs.running.take_piece.Given as given
use Rattle.runner.proofs.running.take_piece.Goals.{After-take_byte}
use Rattle.runner.proofs.running.take_piece.Goals as goal

pub loop-byte-init : goal.loop-byte-init
loop-byte-init g c = record {
  goes = GoesOn-refl _;
  no_fault = NoFault-refl _;
  input = refl;
  sizes = refl;
  ready = c.requires.ready;
  reaches = omega arith;
  one = c.requires.one;
  talked = talks_refl _;
  comes = λ aim s more told owes. idle c.requires.ready told refl owes;
  reads = λ lines more told rests are. (rests, are);
}

-- the next byte
comes : (g : given.Over) (c : After-take_byte g) (aim : Aim) (s : State) (more : List ℕ) → IsTrue (g.W.Devices.standing c.args.world.now).told
    → Owes aim c.args.engine.now s [] (commands (c.args.kept.now.items ++ (c.args.piece.now ++ more))) (g.W.Devices.standing c.args.world.now)
    → Comes aim c.take_byte.new.engine [] (commands (c.take_byte.new.kept.items ++ (drop (c.loop-byte.byte-index + 1) c.args.piece.now ++ more))) (g.W.Devices.standing c.args.world.now) (g.W.Devices.standing c.take_byte.new.world) c.take_byte.result
comes g c aim s more told owes =
    let inv = c.loop-byte.invariant in
    let next = ap (λ (l : List ℕ). commands (c.loop-byte.kept.items ++ (l ++ more))) (drop_more c.args.piece.now c.loop-byte.byte-index 0 c.loop-byte-test.true) in
    comes_on (inv.comes aim s more told owes) c.take_byte.ensures.goes
    (λ t owed. c.take_byte.ensures.comes aim t (drop (c.loop-byte.byte-index + 1) c.args.piece.now ++ more) (subst IsTrue (sym inv.goes.told) told) (owes_same next owed))

pub returns-in_err-take_byte-clause-cause : goal.returns-in_err-take_byte-clause-cause
returns-in_err-take_byte-clause-cause g c = cause_then _ c.loop-byte.invariant.goes.clock c.loop-byte.invariant.no_fault (cause_err c.from_residual.result _ c.from_residual.ensures c.in_err-take_byte.ensures.cause)

pub returns-in_err-take_byte-clause-comes : goal.returns-in_err-take_byte-clause-comes
returns-in_err-take_byte-clause-comes g c = λ aim s more told owes.
    comes_stopped c.from_residual.result _ c.from_residual.ensures c.in_err-take_byte.was (comes g (goal.at.returns-in_err-take_byte-clause-comes g c).After-take_byte aim s more told owes)

pub loop-byte-preserved : goal.loop-byte-preserved
loop-byte-preserved g c =
    let inv = c.loop-byte.invariant in
    let before = (goal.at.loop-byte-preserved g c).After-take_byte in
    record {
      goes = GoesOn-trans inv.goes c.take_byte.ensures.goes;
      no_fault = NoFault-trans inv.no_fault c.in_ok-take_byte.ensures.cause.ok;
      input = c.take_byte.ensures.input ∙ inv.input;
      sizes = c.take_byte.ensures.sizes ∙ inv.sizes;
      ready = c.in_ok-take_byte.ensures.ready;
      reaches = omega (arith, c.in_ok-take_byte.ensures.reaches, inv.reaches);
      one = c.in_ok-take_byte.ensures.one;
      talked = talks_then inv.talked inv.goes.told (ok_of _ c.in_ok-take_byte.ensures.talks);
      comes = λ aim s more told owes. comes_well tt c.in_ok-take_byte.was (comes g before aim s more told owes);
      reads = λ lines more told rests are.
          let so_far = inv.reads lines more told rests are in
          let next = ap (λ (l : List ℕ). commands (c.loop-byte.kept.items ++ (l ++ more))) (drop_more c.args.piece.now c.loop-byte.byte-index 0 c.loop-byte-test.true) in
          let here = c.in_ok-take_byte.ensures.reads lines (drop (c.loop-byte.byte-index + 1) c.args.piece.now ++ more) (subst IsTrue (sym inv.goes.told) told) so_far.0 (subst AreReads next so_far.1) in
          (here.stays, here.next);
    }

pub returns-clause-comes : goal.returns-clause-comes
returns-clause-comes g c = λ aim s more told owes.
    let inv = c.loop-byte.invariant in
    let none : drop c.loop-byte.byte-index c.args.piece.now ≡ [] = grind (arith, common_steps) in
    comes_same (ap (λ (l : List ℕ). commands (c.loop-byte.kept.items ++ (l ++ more))) none) (inv.comes aim s more told owes)

-- ---- where nothing was written so far

pub returns-in_err-take_byte-clause-reads : goal.returns-in_err-take_byte-clause-reads
returns-in_err-take_byte-clause-reads g c = λ lines more told rests are.
    let inv = c.loop-byte.invariant in
    let so_far = inv.reads lines more told rests are in
    let next = ap (λ (l : List ℕ). commands (c.loop-byte.kept.items ++ (l ++ more))) (drop_more c.args.piece.now c.loop-byte.byte-index 0 c.loop-byte-test.true) in
    halted c.from_residual.result _ c.from_residual.ensures
    (c.in_err-take_byte.ensures.reads lines (drop (c.loop-byte.byte-index + 1) c.args.piece.now ++ more) (subst IsTrue (sym inv.goes.told) told) so_far.0 (subst AreReads next so_far.1)).shows

pub returns-clause-reads : goal.returns-clause-reads
returns-clause-reads g c = λ lines more told rests are.
    let so_far = c.loop-byte.invariant.reads lines more told rests are in
    let none : drop c.loop-byte.byte-index c.args.piece.now ≡ [] = grind (arith, common_steps) in
    well _ so_far.0 (subst AreReads (ap (λ (l : List ℕ). commands (c.loop-byte.kept.items ++ (l ++ more))) none) so_far.1)

-- ---- what is sent

pub returns-in_err-take_byte-clause-talks : goal.returns-in_err-take_byte-clause-talks
returns-in_err-take_byte-clause-talks g c = on_err c.from_residual.result _ c.from_residual.ensures (on_then c.loop-byte.invariant.talked c.loop-byte.invariant.goes.told c.in_err-take_byte.ensures.talks)

pub returns-clause-talks : goal.returns-clause-talks
returns-clause-talks g c = on_ok _ c.loop-byte.invariant.talked
