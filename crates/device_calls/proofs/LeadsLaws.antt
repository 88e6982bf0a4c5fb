-- How calls that lead from facts to facts join, stop, and what they say of the devices.
use Rattle.std.proofs.Common.{◌≡◌, ◌≤◌, ℕ, ◌+◌, List, [], ◌++◌, refl, sym, ap, ◌∙◌, subst, inl, inr, arith, IsTrue, Result, Ok, Err}
use Rattle.std.specs.Prelude.{OnOk, IfErr, IsErr}
use Rattle.std.proofs.lemmas.Result.{err_from_is_err_and}
use Rattle.std.specs.Result.{IsErrAnd}
use Rattle.devices.specs.State.{State, Amid, Call, after_all, current, fresh}
use Rattle.devices.specs.World.{Standing, Goes, Moments, Rose, now, last_count}
use Rattle.devices.proofs.MomentLaws.{Goes-refl, Goes-trans, Moments-trans, Moments-map}
use Rattle.devices.proofs.GrowthLaws.{after_all_append, Amid_append}
use Rattle.devices.proofs.CallLaws.{makes_then, makes_stop}
use Rattle.line_pages.specs.declared.stop.Stop.{Stop}
use Rattle.line_pages.specs.declared.stop.Stop.TheVariants.{Nvm, Ssd, Damaged}
use Rattle.device_calls.specs.Stops.{IsFault, StopCause}
use Rattle.device_calls.specs.Leads.{ReadsAs, Steps, Made, Looked, Leads, Given, Lifts, ReadsBlocks}
use Rattle.device_calls.proofs.ReadLaws.{ReadsAs-refl, ReadsAs-sym, fresh_as, current_as, after_as, amid_as}

OnOk_map : {T E : Type 0} {P Q : Type 0} (r : Result T E) → (P → Q) → OnOk r P → OnOk r Q
OnOk_map (Ok v) f p = f p
OnOk_map (Err e) f p = tt

OnOk_all : {T E : Type 0} {P : Type 0} (r : Result T E) → P → OnOk r P
OnOk_all (Ok v) p = p
OnOk_all (Err e) p = tt

OnOk_both : {T E : Type 0} (P Q : Type 0) (r : Result T E) → OnOk r P → OnOk r Q → OnOk r (P × Q)
OnOk_both P Q (Ok v) p q = (p, q)
OnOk_both P Q (Err e) p q = tt

OnOk_bind : {T E : Type 0} (W P Q : Type 0) (r : Result T E) → OnOk r W → OnOk r P → (P → W → OnOk r Q) → OnOk r Q
OnOk_bind W P Q (Ok v) w p f = f p w
OnOk_bind W P Q (Err e) w p f = tt

-- ---- causes

pub cause_none : {T : Type 0} {v : T} (a : Standing) → StopCause {T = T} a a (Ok v)
cause_none a = record { failed = tt; nvm = refl; ssd = refl }

fault_later : (a b c : Standing) → b.nvm_faults ≡ a.nvm_faults → b.ssd_faults ≡ a.ssd_faults → (why : Stop) → IsFault b c why → IsFault a c why
fault_later a b c nvm ssd Nvm h = subst (λ n. Rose n c.nvm_faults) nvm h
fault_later a b c nvm ssd Ssd h = subst (λ n. Rose n c.ssd_faults) ssd h
fault_later a b c nvm ssd (Damaged evidence) h = h

failed_later : {T : Type 0} (a b c : Standing) → b.nvm_faults ≡ a.nvm_faults → b.ssd_faults ≡ a.ssd_faults → (r : Result T Stop) → IfErr r (IsFault b c) → IfErr r (IsFault a c)
failed_later a b c nvm ssd (Ok v) h = tt
failed_later a b c nvm ssd (Err why) h = fault_later a b c nvm ssd why h

pub cause_then : {T U : Type 0} {a b c : Standing} {v : U} {r : Result T Stop} → StopCause {T = U} a b (Ok v) → StopCause b c r → StopCause a c r
cause_then {a = a} {b = b} {c = c} {r = r} first second = record {
  failed = failed_later a b c first.nvm first.ssd r second.failed;
  nvm = OnOk_map r (λ (e : c.nvm_faults ≡ b.nvm_faults). e ∙ first.nvm) second.nvm;
  ssd = OnOk_map r (λ (e : c.ssd_faults ≡ b.ssd_faults). e ∙ first.ssd) second.ssd;
}

pub cause_stop : {T U : Type 0} {a b : Standing} {why : Stop} → StopCause {T = U} a b (Err why) → (r : Result T Stop) → r ≡ Err why → StopCause a b r
cause_stop {T = T} {a = a} {b = b} {why = why} first r is = subst (λ (x : Result T Stop). StopCause a b x) (sym is) (record { failed = first.failed; nvm = tt; ssd = tt })

-- ---- reads

pub later_told : {a b : Standing} → Goes a b → IsTrue a.told → IsTrue b.told
later_told goes told = subst (λ t. IsTrue t) (sym goes.told) told

pub earlier_told : {a b : Standing} → Goes a b → IsTrue b.told → IsTrue a.told
earlier_told goes told = subst (λ t. IsTrue t) goes.told told

pub looked_none : {T : Type 0} {v : T} (a : Standing) → Looked {T = T} a a (Ok v)
looked_none a = record { goes = Goes-refl a; cause = cause_none a; stays = λ told. record { each = λ m low high. ap a.at (omega arith) } }

-- the devices are as they were
pub looked_same : {T : Type 0} {a b : Standing} {r : Result T Stop} → Looked a b r → IsTrue a.told → now b ≡ now a
looked_same {a = a} {b = b} looked told = (looked.stays told).each b.clock looked.goes.clock (omega arith)

pub looked_then : {T U : Type 0} {v : U} {a b c : Standing} {r : Result T Stop} → Looked {T = U} a b (Ok v) → Looked b c r → Looked a c r
looked_then {a = a} {b = b} {c = c} first second = record {
  goes = Goes-trans first.goes second.goes;
  cause = cause_then first.cause second.cause;
  stays = λ told. Moments-trans second.goes (first.stays told)
      (Moments-map (λ s at. at ∙ looked_same first told) (second.stays (subst (λ t. IsTrue t) (sym first.goes.told) told)));
}

-- another value
pub looked_ok : {T U : Type 0} {v : U} {w : T} {a b : Standing} → Looked {T = U} a b (Ok v) → Looked {T = T} a b (Ok w)
looked_ok looked = record { goes = looked.goes; cause = record { failed = tt; nvm = looked.cause.nvm; ssd = looked.cause.ssd }; stays = looked.stays }

pub looked_exit : {T U : Type 0} {why : Stop} {a b : Standing} (r : Result T Stop) → IsErrAnd r (λ y. y ≡ why) → Looked {T = U} a b (Err why) → Looked a b r
looked_exit {T = T} r is looked =
    let exit = err_from_is_err_and r is in
    let stop : Stop → Result T Stop = (λ (y : Stop). Err y) in
    record { goes = looked.goes; cause = cause_stop looked.cause r (exit.1 ∙ ap stop exit.2); stays = looked.stays }

-- no block is read, and those of two calls
pub reads_none : (a b : Standing) → b.block_reads ≡ a.block_reads → a.block_reads ≤ last_count → ReadsBlocks 0 a b
reads_none a b same below = omega arith

pub reads_then : (n m : ℕ) (a b c : Standing) → ReadsBlocks n a b → ReadsBlocks m b c → ReadsBlocks (n + m) a c
reads_then n m a b c first second = omega arith

-- ---- named calls

pub made_then : {T U : Type 0} {v : U} {xs ys : List Call} {a b c : Standing} {r : Result T Stop} → Made {T = U} xs a b (Ok v) → Made ys b c r → Made (xs ++ ys) a c r
made_then first second = record { goes = Goes-trans first.goes second.goes; cause = cause_then first.cause second.cause; reads = second.reads ∙ first.reads; makes = makes_then first.goes second.goes first.makes second.makes }

pub made_exit : {T U : Type 0} {why : Stop} {xs : List Call} (ys : List Call) {a b : Standing} (r : Result T Stop) → IsErr r → IsErrAnd r (λ y. y ≡ why) → Made {T = U} xs a b (Err why) → Made (xs ++ ys) a b r
made_exit {T = T} ys r failed is made =
    let exit = err_from_is_err_and r is in
    let stop : Stop → Result T Stop = (λ (y : Stop). Err y) in
    record { goes = made.goes; cause = cause_stop made.cause r (exit.1 ∙ ap stop exit.2); reads = made.reads; makes = makes_stop ys r failed made.makes }

-- ---- calls

module _ {Aim : Type 0} {Held : Aim → State → Type 0} where
  -- nothing is called
  pub leads_none : {T : Type 0} {v : T} {A B : Aim → State → Type 0} {a : Standing} → ((aim : Aim) (s : State) → A aim s → Held aim s) → ((aim : Aim) (s : State) → A aim s → B aim s)
      → Leads {T = T} Held A B a a (Ok v)
  leads_none {a = a} held change = record {
    goes = Goes-refl a;
    cause = cause_none a;
    calls = [];
    makes = record { whole = λ told. refl; part = λ told. record { each = λ m low high. ap a.at (omega arith) } };
    facts = λ told aim s reads before. change aim s before;
    moments = λ told aim s reads before mid at. subst (λ (x : State). Held aim x) (sym at) (held aim s before);
  }

  -- a call that reads
  pub leads_looked : {T : Type 0} {A : Aim → State → Type 0} {a b : Standing} {r : Result T Stop} → ((aim : Aim) (s : State) → A aim s → Held aim s) → Looked a b r → Leads Held A A a b r
  leads_looked {a = a} {b = b} {r = r} held looked = record {
    goes = looked.goes;
    cause = looked.cause;
    calls = [];
    makes = record { whole = λ told. OnOk_all r ((looked.stays told).each b.clock (looked.goes).clock (omega arith)); part = λ told. record { each = λ m low high. (looked.stays told).each m low high } };
    facts = λ told aim s reads before. OnOk_all r before;
    moments = λ told aim s reads before mid at. subst (λ (x : State). Held aim x) (sym at) (held aim s before);
  }

  -- calls that are named, and that lead from facts to facts: of each state that reads as the devices do
  pub leads_made : {T : Type 0} {A B : Aim → State → Type 0} {calls : List Call} {a b : Standing} {r : Result T Stop}
      → Made calls a b r → (IsTrue a.told → (aim : Aim) (s : State) → ReadsAs s (now a) → A aim s → Steps Held B calls aim s) → Leads Held A B a b r
  leads_made {calls = calls} {r = r} made steps = record {
    goes = made.goes;
    cause = made.cause;
    calls = calls;
    makes = made.makes;
    facts = λ told aim s reads before. OnOk_all r ((steps told aim s reads before).facts);
    moments = λ told aim s reads before. (steps told aim s reads before).moments;
  }

  -- the same where nothing of what was read counts
  pub leads_step : {T : Type 0} {A B : Aim → State → Type 0} {calls : List Call} {a b : Standing} {r : Result T Stop}
      → Made calls a b r → ((aim : Aim) (s : State) → A aim s → Steps Held B calls aim s) → Leads Held A B a b r
  leads_step made steps = leads_made made (λ told aim s reads before. steps aim s before)

  -- one call behind another
  pub leads_then : {T U : Type 0} {v : U} {A B C : Aim → State → Type 0} {a b c : Standing} {r : Result T Stop}
      → Leads {T = U} Held A B a b (Ok v) → Leads Held B C b c r → Leads Held A C a c r
  leads_then {B = B} {C = C} {a = a} {b = b} {r = r} first second =
      let later : IsTrue a.told → IsTrue b.told = (λ told. subst (λ t. IsTrue t) (sym (first.goes).told) told) in
      let reads_on : IsTrue a.told → (s : State) → ReadsAs s (now a) → ReadsAs (after_all first.calls s) (now b) =
      (λ told s reads. subst (λ (x : State). ReadsAs (after_all first.calls s) x) (sym ((first.makes).whole told)) (after_as first.calls s (now a) reads)) in
      record {
        goes = Goes-trans first.goes second.goes;
        cause = cause_then first.cause second.cause;
        calls = first.calls ++ second.calls;
        makes = makes_then first.goes second.goes first.makes second.makes;
        facts = λ told aim s reads before. OnOk_map r (subst (λ (x : State). C aim x) (sym (after_all_append first.calls second.calls s)))
            (second.facts (later told) aim (after_all first.calls s) (reads_on told s reads) (first.facts told aim s reads before));
        moments = λ told aim s reads before mid at. elim (Amid_append first.calls second.calls s mid at) [
          | inl front ↦ first.moments told aim s reads before mid front
          | inr back ↦ second.moments (later told) aim (after_all first.calls s) (reads_on told s reads) (first.facts told aim s reads before) mid back
        ];
      }

  -- a call that stops
  pub leads_stop : {T U : Type 0} {why : Stop} {A B C : Aim → State → Type 0} {a b : Standing} → Leads {T = U} Held A B a b (Err why) → (r : Result T Stop) → r ≡ Err why → Leads Held A C a b r
  leads_stop {T = T} {why = why} {A = A} {C = C} {a = a} {b = b} first r is = subst (λ (x : Result T Stop). Leads Held A C a b x) (sym is) (record {
    goes = first.goes;
    cause = record { failed = first.cause.failed; nvm = tt; ssd = tt };
    calls = first.calls;
    makes = record { whole = λ told. tt; part = first.makes.part };
    facts = λ told aim s reads before. tt;
    moments = first.moments;
  })

  -- another value
  pub leads_ok : {T U : Type 0} {v : U} {w : T} {A B : Aim → State → Type 0} {a b : Standing} → Leads {T = U} Held A B a b (Ok v) → Leads {T = T} Held A B a b (Ok w)
  leads_ok call = record {
    goes = call.goes;
    cause = record { failed = tt; nvm = call.cause.nvm; ssd = call.cause.ssd };
    calls = call.calls;
    makes = record { whole = call.makes.whole; part = call.makes.part };
    facts = call.facts;
    moments = call.moments;
  }

  -- the exit of a `?`
  pub leads_exit : {T U : Type 0} {why : Stop} {A B C : Aim → State → Type 0} {a b : Standing} (r : Result T Stop) → IsErrAnd r (λ y. y ≡ why) → Leads {T = U} Held A B a b (Err why) → Leads Held A C a b r
  leads_exit {T = T} {why = why} r is call =
      let exit = err_from_is_err_and r is in
      let stop : Stop → Result T Stop = (λ (y : Stop). Err y) in
      leads_stop call r (exit.1 ∙ ap stop exit.2)

  -- what is promised implies something else
  pub leads_map : {T : Type 0} {A B C : Aim → State → Type 0} {a b : Standing} {r : Result T Stop} → ((aim : Aim) (s : State) → B aim s → C aim s) → Leads Held A B a b r → Leads Held A C a b r
  leads_map {r = r} change call = record {
    goes = call.goes;
    cause = call.cause;
    calls = call.calls;
    makes = call.makes;
    facts = λ told aim s reads before. OnOk_map r (change aim (after_all call.calls s)) (call.facts told aim s reads before);
    moments = call.moments;
  }

  -- what is asked follows from something else
  pub leads_from : {T : Type 0} {A B C : Aim → State → Type 0} {a b : Standing} {r : Result T Stop} → ((aim : Aim) (s : State) → A aim s → B aim s) → Leads Held B C a b r → Leads Held A C a b r
  leads_from change call = record {
    goes = call.goes;
    cause = call.cause;
    calls = call.calls;
    makes = call.makes;
    facts = λ told aim s reads before. call.facts told aim s reads (change aim s before);
    moments = λ told aim s reads before. call.moments told aim s reads (change aim s before);
  }

  -- something more holds of the aim, before and after
  pub leads_given : {T : Type 0} (Of : Aim → Type 0) {A B : Aim → State → Type 0} {a b : Standing} {r : Result T Stop} → Leads Held A B a b r → Leads Held (Given Of A) (Given Of B) a b r
  leads_given Of {r = r} call = record {
    goes = call.goes;
    cause = call.cause;
    calls = call.calls;
    makes = call.makes;
    facts = λ told aim s reads before. OnOk_map r (λ after. record { of_aim = before.of_aim; holds = after }) (call.facts told aim s reads before.holds);
    moments = λ told aim s reads before. call.moments told aim s reads before.holds;
  }

  -- what was read of the devices counts for what is promised
  pub leads_seen : {T : Type 0} {A B C : Aim → State → Type 0} {a b : Standing} {r : Result T Stop} → (IsTrue b.told → (aim : Aim) (s : State) → ReadsAs s (now b) → B aim s → OnOk r (C aim s)) → Leads Held A B a b r → Leads Held A C a b r
  leads_seen {B = B} {C = C} {a = a} {b = b} {r = r} change call = record {
    goes = call.goes;
    cause = call.cause;
    calls = call.calls;
    makes = call.makes;
    facts = λ told aim s reads before. OnOk_bind _ _ _ r (call.makes.whole told) (call.facts told aim s reads before)
        (λ done now_b. change (subst (λ t. IsTrue t) (sym call.goes.told) told) aim (after_all call.calls s) (subst (λ (x : State). ReadsAs (after_all call.calls s) x) (sym now_b) (after_as call.calls s (now a) reads)) done);
    moments = call.moments;
  }

  -- the facts of equal data
  pub leads_data : {X T : Type 0} {A : Aim → State → Type 0} {a b : Standing} {r : Result T Stop} (F : X → Aim → State → Type 0) {x y : X} → y ≡ x → Leads Held A (F x) a b r → Leads Held A (F y) a b r
  leads_data {X = X} {A = A} {a = a} {b = b} {r = r} F e call = subst (λ (z : X). Leads Held A (F z) a b r) (sym e) call

  -- ---- what such a call says

  module _ {T : Type 0} {A B : Aim → State → Type 0} {a b : Standing} {r : Result T Stop} (call : Leads Held A B a b r) (told : IsTrue a.told) (aim : Aim) where
    -- the facts hold again of the devices
    pub leads_now : A aim (now a) → OnOk r (B aim (now b))
    leads_now before = OnOk_map r (λ (p : (now b ≡ after_all call.calls (now a)) × B aim (after_all call.calls (now a))). subst (B aim) (sym p.0) p.1)
        (OnOk_both _ _ r (call.makes.whole told) (call.facts told aim (now a) (ReadsAs-refl (now a)) before))

    -- at each moment of the call something holds
    pub leads_moments : A aim (now a) → Moments a b (Held aim)
    leads_moments before = record { each = λ m low high. call.moments told aim (now a) (ReadsAs-refl (now a)) before (b.at m) ((call.makes.part told).each m low high) }

    -- the same facts of what one reads
    pub leads_read : ((s : State) → B aim s → B aim (fresh (current s))) → A aim (fresh (current (now a))) → OnOk r (B aim (fresh (current (now b))))
    leads_read reads before = OnOk_map r (λ (p : (now b ≡ after_all call.calls (now a)) × B aim (after_all call.calls (fresh (current (now a))))).
        subst (λ i. B aim (fresh i)) (current_as (after_all call.calls (fresh (current (now a)))) (after_all call.calls (now a)) (after_as call.calls (fresh (current (now a))) (now a) (fresh_as (now a))) ∙ ap current (sym p.0)) (reads (after_all call.calls (fresh (current (now a)))) p.1))
        (OnOk_both _ _ r (call.makes.whole told) (call.facts told aim (fresh (current (now a))) (fresh_as (now a)) before))

    -- each moment reads as a state of which something holds
    pub leads_read_moments : A aim (fresh (current (now a))) → Moments a b (λ (mid : State). (like : State) × ReadsAs mid like × Held aim like)
    leads_read_moments before = record {
      each = λ m low high.
          let found : (like : State) × Amid (fresh (current (now a))) call.calls like × ReadsAs (b.at m) like =
          amid_as call.calls (now a) (fresh (current (now a))) (b.at m) (ReadsAs-sym (fresh_as (now a))) ((call.makes.part told).each m low high) in
          (found.0, found.2, call.moments told aim (fresh (current (now a))) (fresh_as (now a)) before found.0 found.1);
    }

-- less is said of the moments on the way
pub leads_held : {Aim T : Type 0} {Held Less A B : Aim → State → Type 0} {a b : Standing} {r : Result T Stop} → ((aim : Aim) (s : State) → Held aim s → Less aim s) → Leads Held A B a b r → Leads Less A B a b r
leads_held less call = record {
  goes = call.goes;
  cause = call.cause;
  calls = call.calls;
  makes = call.makes;
  facts = call.facts;
  moments = λ told aim s reads before mid at. less aim mid (call.moments told aim s reads before mid at);
}

pub leads_lift : {Aim Goal T : Type 0} {Held A B : Aim → State → Type 0} {Above Before After : Goal → State → Type 0} {a b : Standing} {r : Result T Stop}
    → ((goal : Goal) (s : State) → Before goal s → Lifts Held A B Above After goal s) → Leads Held A B a b r → Leads Above Before After a b r
leads_lift {r = r} lift call = record {
  goes = call.goes;
  cause = call.cause;
  calls = call.calls;
  makes = call.makes;
  facts = λ told goal s reads before. let up = lift goal s before in OnOk_map r (up.after (after_all call.calls s)) (call.facts told up.aim s reads up.before);
  moments = λ told goal s reads before mid at. let up = lift goal s before in up.held mid (call.moments told up.aim s reads up.before mid at);
}
