-- How calls that may find damage join and stop.
use Rattle.std.proofs.Common.{◌≡◌, [], ◌++◌, refl, sym, ap, subst, inl, inr, arith, IsTrue, Result, Ok, Err}
use Rattle.std.specs.Prelude.{OnOk, IfErr}
use Rattle.std.specs.Result.{IsErrAnd}
use Rattle.devices.specs.State.{State, after_all}
use Rattle.devices.specs.World.{Standing, Goes, Stays, now}
use Rattle.devices.proofs.MomentLaws.{Goes-refl, Goes-trans}
use Rattle.devices.proofs.GrowthLaws.{after_all_append, Amid_append}
use Rattle.devices.proofs.CallLaws.{makes_then}
use Rattle.line_pages.specs.declared.stop.Stop.{Stop}
use Rattle.line_pages.specs.declared.stop.Stop.TheVariants.{Nvm, Ssd, Damaged}
use Rattle.device_calls.specs.Stops.{IsFault}
use Rattle.device_calls.specs.Leads.{ReadsAs, Leads}
use Rattle.device_calls.proofs.ReadLaws.{after_as}
use Rattle.log_records.specs.Back.{IsUndamaged}
use Rattle.log_book.specs.Undoing.{Undoing}
use Rattle.log_book.proofs.ForLaws.{stopped}

OnOk_map : {T E : Type 0} {P Q : Type 0} (r : Result T E) → (P → Q) → OnOk r P → OnOk r Q
OnOk_map (Ok v) f p = f p
OnOk_map (Err e) f p = tt

undamaged : (a b : Standing) (why : Stop) → IsFault a b why → IsUndamaged why
undamaged a b Nvm h = tt
undamaged a b Ssd h = tt
undamaged a b (Damaged kept) h = h

fault_undamaged : {T : Type 0} (a b : Standing) (r : Result T Stop) → IfErr r (IsFault a b) → IfErr r IsUndamaged
fault_undamaged a b (Ok v) h = tt
fault_undamaged a b (Err why) h = undamaged a b why h

module _ {Aim : Type 0} {Held : Aim → State → Type 0} where
  -- one that finds none
  pub undoing_of : {T : Type 0} {A B : Aim → State → Type 0} {a b : Standing} {r : Result T Stop} → Leads Held A B a b r → Undoing Held A B a b r
  undoing_of {a = a} {b = b} {r = r} call = record {
    goes = call.goes;
    calls = call.calls;
    makes = call.makes;
    sound = λ told aim s reads before. fault_undamaged a b r call.cause.failed;
    facts = call.facts;
    moments = call.moments;
  }

  pub undoing_then : {T U : Type 0} {v : U} {A B C : Aim → State → Type 0} {a b c : Standing} {r : Result T Stop} → Undoing {T = U} Held A B a b (Ok v) → Undoing Held B C b c r → Undoing Held A C a c r
  undoing_then {B = B} {C = C} {a = a} {b = b} {r = r} first second =
      let later : IsTrue a.told → IsTrue b.told = (λ told. subst (λ t. IsTrue t) (sym (first.goes).told) told) in
      let reads_on : IsTrue a.told → (s : State) → ReadsAs s (now a) → ReadsAs (after_all first.calls s) (now b) =
      (λ told s reads. subst (λ (x : State). ReadsAs (after_all first.calls s) x) (sym ((first.makes).whole told)) (after_as first.calls s (now a) reads)) in
      record {
        goes = Goes-trans first.goes second.goes;
        calls = first.calls ++ second.calls;
        makes = makes_then first.goes second.goes first.makes second.makes;
        sound = λ told aim s reads before. second.sound (later told) aim (after_all first.calls s) (reads_on told s reads) (first.facts told aim s reads before);
        facts = λ told aim s reads before. OnOk_map r (subst (λ (x : State). C aim x) (sym (after_all_append first.calls second.calls s)))
            (second.facts (later told) aim (after_all first.calls s) (reads_on told s reads) (first.facts told aim s reads before));
        moments = λ told aim s reads before mid at. elim (Amid_append first.calls second.calls s mid at) [
          | inl front ↦ first.moments told aim s reads before mid front
          | inr back ↦ second.moments (later told) aim (after_all first.calls s) (reads_on told s reads) (first.facts told aim s reads before) mid back
        ];
      }

  pub undoing_exit : {T U : Type 0} {why : Stop} {A B C : Aim → State → Type 0} {a b : Standing} (r : Result T Stop) → IsErrAnd r (λ y. y ≡ why) → Undoing {T = U} Held A B a b (Err why) → Undoing Held A C a b r
  undoing_exit {T = T} {A = A} {C = C} {a = a} {b = b} r is call = subst (λ (x : Result T Stop). Undoing Held A C a b x) (sym (stopped r is)) (record {
    goes = call.goes;
    calls = call.calls;
    makes = record { whole = λ told. tt; part = call.makes.part };
    sound = call.sound;
    facts = λ told aim s reads before. tt;
    moments = call.moments;
  })

  -- another value, of which the same is promised
  pub undoing_ok : {T U : Type 0} {v : U} {w : T} {A B : Aim → State → Type 0} {a b : Standing} → Undoing {T = U} Held A B a b (Ok v) → Undoing {T = T} Held A B a b (Ok w)
  undoing_ok call = record { goes = call.goes; calls = call.calls; makes = record { whole = call.makes.whole; part = call.makes.part }; sound = λ told aim s reads before. tt; facts = call.facts; moments = call.moments }

  -- what is asked follows from something else, and what is promised gives something else
  pub undoing_map : {T : Type 0} {A B C : Aim → State → Type 0} {a b : Standing} {r : Result T Stop} → ((aim : Aim) (s : State) → B aim s → C aim s) → Undoing Held A B a b r → Undoing Held A C a b r
  undoing_map {r = r} change call = record {
    goes = call.goes;
    calls = call.calls;
    makes = call.makes;
    sound = call.sound;
    facts = λ told aim s reads before. OnOk_map r (change aim (after_all call.calls s)) (call.facts told aim s reads before);
    moments = call.moments;
  }

  pub undoing_from : {T : Type 0} {A B C : Aim → State → Type 0} {a b : Standing} {r : Result T Stop} → ((aim : Aim) (s : State) → A aim s → B aim s) → Undoing Held B C a b r → Undoing Held A C a b r
  undoing_from change call = record {
    goes = call.goes;
    calls = call.calls;
    makes = call.makes;
    sound = λ told aim s reads before. call.sound told aim s reads (change aim s before);
    facts = λ told aim s reads before. call.facts told aim s reads (change aim s before);
    moments = λ told aim s reads before. call.moments told aim s reads (change aim s before);
  }

  -- nothing is called
  pub undoing_none : {T : Type 0} {v : T} {A : Aim → State → Type 0} {a : Standing} → ((aim : Aim) (s : State) → A aim s → Held aim s) → Undoing {T = T} Held A A a a (Ok v)
  undoing_none {a = a} held = record {
    goes = Goes-refl a;
    calls = [];
    makes = record { whole = λ told. refl; part = λ told. record { each = λ m low high. ap a.at (omega arith) } };
    sound = λ told aim s reads before. tt;
    facts = λ told aim s reads before. before;
    moments = λ told aim s reads before mid at. subst (λ (x : State). Held aim x) (sym at) (held aim s before);
  }

  -- the devices were read, and what was read counts
  pub undoing_looked : {T : Type 0} {A B : Aim → State → Type 0} {a b : Standing} {r : Result T Stop} → ((aim : Aim) (s : State) → A aim s → Held aim s) → Goes a b → Stays a b
      → (IsTrue a.told → (aim : Aim) (s : State) → ReadsAs s (now a) → A aim s → IfErr r IsUndamaged × OnOk r (B aim s)) → Undoing Held A B a b r
  undoing_looked {a = a} {b = b} {r = r} held goes stays seen = record {
    goes = goes;
    calls = [];
    makes = record { whole = λ told. all_ok r ((stays told).each b.clock goes.clock (omega arith)); part = λ told. record { each = λ m low high. (stays told).each m low high } };
    sound = λ told aim s reads before. (seen told aim s reads before).0;
    facts = λ told aim s reads before. (seen told aim s reads before).1;
    moments = λ told aim s reads before mid at. subst (λ (x : State). Held aim x) (sym at) (held aim s before);
  }
    where
      all_ok : {T E : Type 0} {P : Type 0} (r : Result T E) → P → OnOk r P
      all_ok (Ok v) p = p
      all_ok (Err e) p = tt
