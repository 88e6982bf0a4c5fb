-- Why a run ends whose opening is refused for another cause than damage.
use Rattle.std.proofs.Common.{◌≡◌, ◌≢◌, ◌⊎◌, inl, inr, ℕ, [], ◌∷◌, refl, sym, ◌∙◌, ap, subst, arith, Result, Ok, Err}
use Rattle.std.proofs.lemmas.Result.{IfErr-at_err}
use Rattle.devices.specs.World.{Standing, Outside, Goes, Stays}
use Rattle.flat_recovery.specs.Causes.{OpenStops}
use Rattle.flat_recovery.specs.Opening.{HoldsStore}
use Rattle.flat_recovery.specs.declared.opening.Parts.{Parts}
use Rattle.flat_recovery.specs.declared.errors.OpenError.{OpenError}
use Rattle.flat_recovery.specs.declared.errors.OpenError.TheVariants.{Nvm, Ssd, NotAStore, TooSmall, LogEnded, Damaged, NoMemory}
use Rattle.engine.specs.Opening.{Opens as IsOpening}
use Rattle.runner.specs.Statuses.{IsOneOf}
use Rattle.spitfire_app.specs.Promises.{Untouched, RunCauses, NoFaultCame}
use Rattle.spitfire_app.proofs.StatusLaws.{only_one, one_of, not_one, quiet, codes_of}
use Rattle.spitfire_app.proofs.CauseLaws.{found_err, Ran, causes_of}

abbrev pub IsPlain : OpenError → Type 0
IsPlain (Damaged kept) = ⊥
IsPlain Nvm = Unit {0}
IsPlain Ssd = Unit {0}
IsPlain NotAStore = Unit {0}
IsPlain TooSmall = Unit {0}
IsPlain LogEnded = Unit {0}
IsPlain NoMemory = Unit {0}

-- a fault of the NVM, or else nothing was done
kind_of : (status : ℕ) (old mid : Standing) (why : OpenError) → IsPlain why → OpenStops why old mid → IsOneOf status (codes_of (Err why))
    → ((why ≡ Nvm) × (status ≡ 6)) ⊎ ((why ≢ Nvm) × IsOneOf status (3 ∷ 4 ∷ 11 ∷ 13 ∷ []))
kind_of status old mid (Damaged kept) plain stops one = absurd plain
kind_of status old mid Nvm plain stops one = inl (refl, only_one status 6 one)
kind_of status old mid Ssd plain stops one = absurd stops
kind_of status old mid NotAStore plain stops one = inr ((λ same. absurd (cc)), one_of status (3 ∷ []) (3 ∷ 4 ∷ 11 ∷ 13 ∷ []) refl one)
kind_of status old mid TooSmall plain stops one = inr ((λ same. absurd (cc)), one_of status (4 ∷ []) (3 ∷ 4 ∷ 11 ∷ 13 ∷ []) refl one)
kind_of status old mid LogEnded plain stops one = inr ((λ same. absurd (cc)), one_of status (13 ∷ []) (3 ∷ 4 ∷ 11 ∷ 13 ∷ []) refl one)
kind_of status old mid NoMemory plain stops one = inr ((λ same. absurd (cc)), one_of status (11 ∷ []) (3 ∷ 4 ∷ 11 ∷ 13 ∷ []) refl one)

module _ (old mid : Standing) (goes : Goes old mid) (why : OpenError) (opening : IsOpening old mid (Err why)) where
  found_is : opening.found ≡ Err why
  found_is = found_err opening.found why opening.follows

  stops : OpenStops why old mid
  stops = IfErr-at_err (λ (x : OpenError). OpenStops x old mid) found_is opening.cause.stopped

  clash_ok : {A : Type 0} (parts : Parts) → opening.found ≡ Ok parts → A
  clash_ok parts is = let clash : ◌≡◌ {A = Result Parts OpenError} (Err why) (Ok parts) = sym found_is ∙ is in absurd (cc)

  untouched : why ≢ Nvm → Untouched old mid
  untouched other = record {
    input = ap (λ (o : Outside). o.input) goes.outside;
    sent = ap (λ (o : Outside). o.changes) goes.outside;
    devices = λ told. IfErr-at_err (λ (x : OpenError). x ≢ Nvm → Stays old mid) found_is (opening.nothing told) other told;
  }

  module _ (status : ℕ) (one : IsOneOf status (codes_of (Err why))) where
    found_one : IsOneOf status (codes_of opening.found)
    found_one = subst (λ (r : Result Parts OpenError). IsOneOf status (codes_of r)) (sym found_is) one

    stopped_ran : why ≡ Nvm → status ≡ 6 → Ran old mid opening.found status
    stopped_ran nvm is = record {
      is_one = found_one;
      answers = opening.answers;
      small = opening.small;
      finds = opening.finds;
      done = λ e. absurd (omega arith);
      read = λ told e. absurd (omega arith);
      damage = λ e. absurd (omega arith);
      refused = λ e. not_one status 6 (3 ∷ 4 ∷ 11 ∷ 13 ∷ []) refl e is;
      nvm = λ e. subst (λ (x : OpenError). OpenStops x old mid) nvm stops;
      ssd = λ e. absurd (omega arith);
      source = λ e. absurd (omega arith);
      sink = λ e. absurd (omega arith);
      long = λ parts same told. clash_ok parts same;
      sound = λ told g T holds e. absurd (omega arith);
    }

    refused_ran : why ≢ Nvm → IsOneOf status (3 ∷ 4 ∷ 11 ∷ 13 ∷ []) → Ran old mid opening.found status
    refused_ran other among = record {
      is_one = found_one;
      answers = opening.answers;
      small = opening.small;
      finds = opening.finds;
      done = λ e. not_one status 0 (3 ∷ 4 ∷ 11 ∷ 13 ∷ []) refl among e;
      read = λ told e. not_one status 0 (3 ∷ 4 ∷ 11 ∷ 13 ∷ []) refl among e;
      damage = λ e. not_one status 5 (3 ∷ 4 ∷ 11 ∷ 13 ∷ []) refl among e;
      refused = λ e. untouched other;
      nvm = λ e. not_one status 6 (3 ∷ 4 ∷ 11 ∷ 13 ∷ []) refl among e;
      ssd = λ e. not_one status 7 (3 ∷ 4 ∷ 11 ∷ 13 ∷ []) refl among e;
      source = λ e. not_one status 8 (3 ∷ 4 ∷ 11 ∷ 13 ∷ []) refl among e;
      sink = λ e. not_one status 9 (3 ∷ 4 ∷ 11 ∷ 13 ∷ []) refl among e;
      long = λ parts same told. clash_ok parts same;
      sound = λ told g T holds e. not_one status 5 (3 ∷ 4 ∷ 11 ∷ 13 ∷ []) refl among e;
    }

    pub refused_causes : IsPlain why → RunCauses old mid status
    refused_causes plain = elim (kind_of status old mid why plain stops one) [
      | inl nvm ↦ causes_of old mid opening.found status (stopped_ran nvm.0 nvm.1)
      | inr other ↦ causes_of old mid opening.found status (refused_ran other.0 other.1)
    ]

    -- over a store that is whole it comes by a fault or for want of memory
    pub refused_complete : HoldsStore old → NoFaultCame old mid → (status ≡ 0) ⊎ (status ≡ 11)
    refused_complete holds none = elim (IfErr-at_err (λ (x : OpenError). (x ≡ Nvm) ⊎ (x ≡ NoMemory)) found_is (opening.complete holds)) [
      | inl nvm ↦ quiet old.nvm_faults mid.nvm_faults none.nvm (subst (λ (x : OpenError). OpenStops x old mid) nvm stops)
      | inr memory ↦ inr (only_one status 11 (subst (λ (x : OpenError). IsOneOf status (codes_of (Err x))) memory one))
    ]

-- the same by the answer itself
module _ (old mid : Standing) (goes : Goes old mid) (why is : OpenError) (same : why ≡ is) (opening : IsOpening old mid (Err why)) (status : ℕ) (one : IsOneOf status (codes_of (Err is))) where
  opening_is : IsOpening old mid (Err is)
  opening_is = subst (λ (x : OpenError). IsOpening old mid (Err x)) same opening

  pub refused_as : IsPlain is → RunCauses old mid status
  refused_as plain = refused_causes old mid goes is opening_is status one plain

  pub complete_as : HoldsStore old → NoFaultCame old mid → (status ≡ 0) ⊎ (status ≡ 11)
  complete_as holds none = refused_complete old mid goes is opening_is status one holds none
