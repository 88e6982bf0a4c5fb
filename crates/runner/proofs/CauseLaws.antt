-- Why a run stops, by why its calls do.
use Rattle.std.proofs.Common.{◌≡◌, ◌≤◌, ℕ, List, false, true, refl, sym, ap, ◌∙◌, subst, arith, Result, Ok, Err}
use Rattle.std.specs.Prelude.{OnOk, IsErr, IsErrAnd}
use Rattle.std.proofs.lemmas.Result.{IfErr-weaker, on_ok_weaker}
use Rattle.devices.specs.World.{Standing, Outside, Goes, GoesOn, WorldCall, OnlyChanges, NoFault, Rose}
use Rattle.devices.proofs.JoinLaws.{NoFault-trans}
use Rattle.damage.specs.declared.evidence.Evidence.{Evidence}
use Rattle.line_pages.specs.declared.stop.Stop.{Stop}
use Rattle.line_pages.specs.declared.stop.Stop.TheVariants.{Nvm, Ssd, Damaged}
use Rattle.line_pages.specs.Standing.{IsCause}
use Rattle.engine.specs.declared.engine.Engine.{Engine}
use Rattle.engine.specs.Commands.{shown}
use Rattle.engine.specs.Causes.{IsDamage, Stops}
use Rattle.engine.specs.Engine.{engine_sizes, StandsFor, evidence_bytes}
use Rattle.runner.specs.declared.stop.Halt.{Halt}
use Rattle.runner.specs.declared.stop.Halt.TheVariants.{Store, Source, Sink}
use Rattle.runner.specs.Cause.{Shown, StoreCaused, Caused, HasCause}

-- what holds whatever is answered holds with ok
pub OnOk-any : {T E P : Type 0} (r : Result T E) → P → OnOk r P
OnOk-any (Ok v) p = p
OnOk-any (Err e) p = tt

-- ---- one call after another

-- a count that rose later rose in all
rose_then : (first middle last : ℕ) → middle ≡ first → Rose middle last → Rose first last
rose_then first middle last same rose = subst (λ (n : ℕ). Rose n last) same rose

-- damage that was shown of a later part
pub shown_since : (page : List ℕ) (kept : Evidence) (engine : Engine) (a b c : Standing) → a.clock ≤ b.clock → Shown page kept engine b c → Shown page kept engine a c
shown_since page kept engine a b c since it =
    let from : b.clock ≤ it.at.clock = it.since in
    record { before = it.before; at = it.at; after = it.after; stop = it.stop; sizes = it.sizes; stands = it.stands; damage = it.damage; told = it.told; since = omega arith; until = it.until; past = it.past; same = it.same; same_at_stop = it.same_at_stop }

caused_then : (a b c : Standing) (engine : Engine) (why : Halt) → a.clock ≤ b.clock → NoFault a b → Caused why b engine c → Caused why a engine c
caused_then a b c engine (Store Nvm) since quiet it = rose_then a.nvm_faults b.nvm_faults c.nvm_faults quiet.nvm it
caused_then a b c engine (Store Ssd) since quiet it = rose_then a.ssd_faults b.ssd_faults c.ssd_faults quiet.ssd it
caused_then a b c engine (Store (Damaged kept)) since quiet it = shown_since (evidence_bytes engine) kept engine a b c since it
caused_then a b c engine Source since quiet it = rose_then a.outside.source_faults b.outside.source_faults c.outside.source_faults quiet.source it
caused_then a b c engine Sink since quiet it = rose_then a.outside.sink_faults b.outside.sink_faults c.outside.sink_faults quiet.sink it

-- calls that answered ok, and one more
pub cause_then : {T : Type 0} {a b c : Standing} {engine : Engine} (r : Result T Halt) → a.clock ≤ b.clock → NoFault a b → HasCause b engine c r → HasCause a engine c r
cause_then {T} {a} {b} {c} {engine} r since quiet it = record {
  failed = IfErr-weaker r (λ why. Caused why b engine c) (λ why. Caused why a engine c) (λ why h. caused_then a b c engine why since quiet h) it.failed;
  ok = on_ok_weaker r (λ (later : NoFault b c). NoFault-trans quiet later) it.ok;
}

-- an error that `?` hands on
pub cause_err : {T U : Type 0} {a b : Standing} {engine : Engine} (q : Result U Halt) (why : Halt) → IsErr q × IsErrAnd q (λ found. found ≡ why) → HasCause {T = T} a engine b (Err why) → HasCause {T = U} a engine b q
cause_err (Ok v) why is it = let none : false ≡ true = is.0 in absurd (cc)
cause_err {a = a} {b = b} {engine = engine} (Err found) why is it = record { failed = subst (λ (x : Halt). Caused x a engine b) (sym is.1) it.failed; ok = tt }

-- ---- calls of an engine

-- damage that was shown is shown later too
pub shown_later : (page : List ℕ) (kept : Evidence) (engine : Engine) (old a b : Standing) → GoesOn a b → Shown page kept engine old a → Shown page kept engine old b
shown_later page kept engine old a b goes it =
    let first : it.at.clock ≤ it.stop.clock = it.until in
    let early : it.stop.clock ≤ a.clock = it.past in
    let on : a.clock ≤ b.clock = goes.clock in
    record {
      before = it.before;
      at = it.at;
      after = it.after;
      stop = it.stop;
      sizes = it.sizes;
      stands = it.stands;
      damage = it.damage;
      told = it.told ∙ sym goes.told;
      since = it.since;
      until = it.until;
      past = omega arith;
      same = it.same ∙ sym (goes.earlier it.at.clock (omega arith));
      same_at_stop = it.same_at_stop ∙ sym (goes.earlier it.stop.clock early);
    }

stop_caused : (old : Engine) (a : Standing) (new : Engine) (b : Standing) (why : Stop) → StandsFor old a → Goes a b → engine_sizes new ≡ engine_sizes old
    → IsCause (IsDamage old a new b (evidence_bytes new)) (shown old a) (shown new b) why → StoreCaused why a new b
stop_caused old a new b Nvm stands goes sizes it = it
stop_caused old a new b Ssd stands goes sizes it = it
stop_caused old a new b (Damaged kept) stands goes sizes it = record {
  before = old;
  at = a;
  after = new;
  stop = b;
  sizes = sym sizes;
  stands = stands;
  damage = it;
  told = sym goes.told;
  since = omega arith;
  until = goes.clock;
  past = omega arith;
  same = sym (goes.earlier a.clock (omega arith));
  same_at_stop = refl;
}

module _ (old : Engine) (a : Standing) (new : Engine) (b : Standing) (stands : StandsFor old a) (goes : Goes a b) (sizes : engine_sizes new ≡ engine_sizes old) where
  -- one that stopped
  pub cause_stopped : {T U : Type 0} (q : Result U Halt) (why : Stop) → IsErr q × IsErrAnd q (λ found. found ≡ Store why) → Stops {T = T} old a new b (Err why) → HasCause {T = U} a new b q
  cause_stopped {T} {U} q why is it =
      cause_err {T = U} q (Store why) is (record { failed = stop_caused old a new b why stands goes sizes it.failed; ok = tt })

  -- one that answered ok
  pub quiet_step : {T : Type 0} (v : T) → Stops {T = T} old a new b (Ok v) → NoFault a b
  quiet_step v it = record {
    nvm = it.kept.0;
    ssd = it.kept.1;
    settings = ap (λ (o : Outside). o.settings_faults) goes.outside;
    source = ap (λ (o : Outside). o.source_faults) goes.outside;
    sink = ap (λ (o : Outside). o.sink_faults) goes.outside;
  }

-- ---- a write

pub quiet_write : (a b : Standing) → WorldCall a b → OnlyChanges false false true a b → b.outside.sink_faults ≡ a.outside.sink_faults → NoFault a b
quiet_write a b call rest same = record { nvm = call.nvm_faults; ssd = call.ssd_faults; settings = (rest.settings refl).1; source = (rest.input refl).1; sink = same }
