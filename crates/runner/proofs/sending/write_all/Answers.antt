-- Each write sends the next of them.
use Rattle.std.proofs.Common.{rules, arith, IsTrue, subst, sym}
use Rattle.std.specs.Prelude.{true, false}
use Rattle.std.proofs.lemmas.Grind.{common_steps}
use Rattle.devices.proofs.JoinLaws.{WorldCall-refl, WorldCall-trans, OnlyChanges-refl, OnlyChanges-trans}
use Rattle.runner.proofs.WriteLaws.{far_start, far_ok, far_err, far_end}
use Rattle.runner.proofs.sending.write_all.Goals as goal

pub loop-rest-init : goal.loop-rest-init
loop-rest-init g c = record { call = WorldCall-refl _; only = OnlyChanges-refl false false true _; count = search rules; far = λ told. far_start _ _ }

pub loop-rest-preserved : goal.loop-rest-preserved
loop-rest-preserved g c =
    let inv = c.loop-rest.invariant in
    record {
      call = WorldCall-trans inv.call c.write.ensures.call;
      only = OnlyChanges-trans inv.only c.write.ensures.rest;
      count = search rules;
      far = λ told.
          let told_mid = subst IsTrue (sym inv.call.goes.told) told in
          far_ok _ _ _ _ _ c.write.result (inv.far told) c.write.ensures.call.goes told_mid c.write.ensures.sends c.in_ok-count.count _ (grind (arith, common_steps)) (c.in_ok-count.ensures.sends.ok told_mid);
    }

pub returns-in_err-count-clause-call : goal.returns-in_err-count-clause-call
returns-in_err-count-clause-call g c = WorldCall-trans c.loop-rest.invariant.call c.write.ensures.call

pub returns-in_err-count-clause-rest : goal.returns-in_err-count-clause-rest
returns-in_err-count-clause-rest g c = OnlyChanges-trans c.loop-rest.invariant.only c.write.ensures.rest

pub returns-in_err-count-clause-writes : goal.returns-in_err-count-clause-writes
returns-in_err-count-clause-writes g c = λ told.
    let inv = c.loop-rest.invariant in
    far_err _ _ _ _ _ c.write.result (inv.far told) c.write.ensures.call.goes (subst IsTrue (sym inv.call.goes.told) told) c.write.ensures.sends c.from_residual.result c.from_residual.ensures.0

pub returns-clause-writes : goal.returns-clause-writes
returns-clause-writes g c = λ told. far_end _ _ _ _ (c.loop-rest.invariant.far told) (grind (arith, common_steps)) _
