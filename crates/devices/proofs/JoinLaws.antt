-- How calls of a world join: those that leave both devices, and those that leave the streams.
use Rattle.std.proofs.Common.{◌≡◌, ℕ, ◌≤◌, Bool, false, List, refl, sym, ap, ◌∙◌, subst, inl, inr, arith, IsTrue}
use Rattle.std.proofs.lemmas.Bool.{cases_lt}
use Rattle.devices.specs.State.{State}
use Rattle.devices.specs.World.{Standing, Outside, Goes, GoesOn, Moments, Stays, WorldCall, OnlyChanges, NoFault, now, sent_at, sent_by}
use Rattle.devices.proofs.MomentLaws.{GoesOn-trans, Goes-on, Goes-refl}

pub GoesOn-refl : (a : Standing) → GoesOn a a
GoesOn-refl a = Goes-on (Goes-refl a)

-- no call was made
pub Moments-at : {a : Standing} {P : State → Type 0} → P (now a) → Moments a a P
Moments-at {a} {P} h = record { each = λ m low high. let same : m ≡ a.clock = omega arith in subst (λ (k : ℕ). P (a.at k)) (sym same) h }

pub Stays-refl : (a : Standing) → Stays a a
Stays-refl a told = Moments-at refl

pub Stays-now : {a b : Standing} → GoesOn a b → Stays a b → IsTrue a.told → now b ≡ now a
Stays-now {a} {b} goes stays told = (stays told).each b.clock goes.clock (omega arith)

pub Stays-trans : {a b c : Standing} → GoesOn a b → GoesOn b c → Stays a b → Stays b c → Stays a c
Stays-trans {a} {b} {c} p q first second told =
    let told_b : IsTrue b.told = subst IsTrue (sym p.told) told in
    let same : now b ≡ now a = Stays-now p first told in
    record {
      each = λ m low high. elim (cases_lt b.clock m) [
        | inl later ↦ (second told_b).each m (omega arith) high ∙ same
        | inr earlier ↦ q.earlier m earlier ∙ (first told).each m low earlier
      ];
    }

pub WorldCall-refl : (a : Standing) → WorldCall a a
WorldCall-refl a = record { goes = GoesOn-refl a; stays = Stays-refl a; nvm_faults = refl; ssd_faults = refl; block_reads = refl }

pub WorldCall-trans : {a b c : Standing} → WorldCall a b → WorldCall b c → WorldCall a c
WorldCall-trans {a} {b} {c} first second = record {
  goes = GoesOn-trans first.goes second.goes;
  stays = Stays-trans first.goes second.goes first.stays second.stays;
  nvm_faults = second.nvm_faults ∙ first.nvm_faults;
  ssd_faults = second.ssd_faults ∙ first.ssd_faults;
  block_reads = second.block_reads ∙ first.block_reads;
}

pub OnlyChanges-refl : (x y z : Bool) (a : Standing) → OnlyChanges x y z a a
OnlyChanges-refl x y z a = record { settings = λ e. (refl, refl); input = λ e. (refl, refl); output = λ e. (refl, refl) }

pub OnlyChanges-trans : {x y z : Bool} {a b c : Standing} → OnlyChanges x y z a b → OnlyChanges x y z b c → OnlyChanges x y z a c
OnlyChanges-trans {x} {y} {z} first second = record {
  settings = λ e. ((second.settings e).0 ∙ (first.settings e).0, (second.settings e).1 ∙ (first.settings e).1);
  input = λ e. ((second.input e).0 ∙ (first.input e).0, (second.input e).1 ∙ (first.input e).1);
  output = λ e. ((second.output e).0 ∙ (first.output e).0, (second.output e).1 ∙ (first.output e).1);
}

pub NoFault-refl : (a : Standing) → NoFault a a
NoFault-refl a = record { nvm = refl; ssd = refl; settings = refl; source = refl; sink = refl }

pub NoFault-trans : {a b c : Standing} → NoFault a b → NoFault b c → NoFault a c
NoFault-trans first second = record {
  nvm = second.nvm ∙ first.nvm;
  ssd = second.ssd ∙ first.ssd;
  settings = second.settings ∙ first.settings;
  source = second.source ∙ first.source;
  sink = second.sink ∙ first.sink;
}
