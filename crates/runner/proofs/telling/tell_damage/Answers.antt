-- Each line is sent behind the others.
use Rattle.std.proofs.Common.{◌≡◌, ◌+◌, ◌≤◌, ◌++◌, ◌∙◌, ℕ, List, IsTrue, length, take, drop, sym, ap, subst, arith}
use Rattle.std.specs.List.{concat}
use Rattle.std.proofs.lemmas.List.{take-append-drop, take_all}
use Rattle.std.proofs.lemmas.List.Folds.{concat-append}
use Rattle.devices.proofs.JoinLaws.{WorldCall-trans, OnlyChanges-trans}
use Rattle.damage.specs.DamageText.{damage_text_lines, damage_text}
use Rattle.runner.proofs.WriteLaws.{wrote_all, wrote_then, wrote_fails}
use Rattle.runner.proofs.telling.tell_damage.Goals as goal
use Rattle.runner.proofs.telling.tell_damage.Goals.{After-write_all}
use Rattle.runner.proofs.telling.tell_damage.Given as given

abbrev lines : (g : given.Over) → After-write_all g → List (List ℕ)
lines g c = damage_text_lines c.args.evidence.now c.args.page.now

-- the lines up to this one
joined : (g : given.Over) (c : After-write_all g) → concat (take c.loop-at.at (lines g c)) ++ c.as_slice.result.now ≡ concat (take (c.loop-at.at + 1) (lines g c))
joined g c = ap (λ (l : List ℕ). concat (take c.loop-at.at (lines g c)) ++ l) c.as_slice.ensures.value ∙ sym c.damage_line-line.ensures.joined

told_mid : (g : given.Over) (c : After-write_all g) → IsTrue (g.W.Devices.standing c.args.world.now).told → IsTrue (g.W.Devices.standing c.loop-at.world).told
told_mid g c told = subst IsTrue (sym c.loop-at.invariant.call.goes.told) told

pub loop-at-preserved : goal.loop-at-preserved
loop-at-preserved g c =
    let inv = c.loop-at.invariant in
    let at = (goal.at.loop-at-preserved g c).After-write_all in
    record {
      call = WorldCall-trans inv.call c.write_all.ensures.call;
      only = OnlyChanges-trans inv.only c.write_all.ensures.rest;
      count = c.in_ok-write_all.ensures.cause.ok ∙ inv.count;
      wrote = λ told.
          wrote_then (concat (take c.loop-at.at (lines g at))) c.as_slice.result.now (concat (take (c.loop-at.at + 1) (lines g at))) _ _ _ (inv.wrote told) c.write_all.ensures.call.goes (joined g at)
          (c.in_ok-write_all.ensures.writes (told_mid g at told));
    }

pub returns-in_err-write_all-clause-writes : goal.returns-in_err-write_all-clause-writes
returns-in_err-write_all-clause-writes g c = λ told.
    let at = (goal.at.returns-in_err-write_all-clause-writes g c).After-write_all in
    let all = lines g at in
    wrote_fails (concat (take c.loop-at.at all)) c.as_slice.result.now (concat (take (c.loop-at.at + 1) all)) _ _ _ (c.loop-at.invariant.wrote told) c.write_all.ensures.call.goes (joined g at)
    (concat (drop (c.loop-at.at + 1) all)) (damage_text c.args.evidence.now c.args.page.now) c.from_residual.result c.from_residual.ensures.0
    (sym (concat-append (take (c.loop-at.at + 1) all) (drop (c.loop-at.at + 1) all)) ∙ ap concat (take-append-drop (c.loop-at.at + 1) all)) (c.write_all.ensures.writes (told_mid g at told))

pub returns-clause-writes : goal.returns-clause-writes
returns-clause-writes g c = λ told.
    let all = damage_text_lines c.args.evidence.now c.args.page.now in
    let whole : length all ≤ c.loop-at.at = omega (arith, c.damage_lines-at-end.ensures.count c.args.page.now, c.loop-at-test.false) in
    wrote_all (concat (take c.loop-at.at all)) (damage_text c.args.evidence.now c.args.page.now) _ _ _ (ap concat (take_all c.loop-at.at all whole)) (c.loop-at.invariant.wrote told)
