-- Why calls of an engine stop, by why those of its store do.
use Rattle.std.proofs.Common.{◌≡◌, ℕ, sym, subst, inr, false, true, IsTrue, Result, Ok, Err}
use Rattle.std.specs.Prelude.{IsErr, IsErrAnd}
use Rattle.devices.specs.World.{Standing as Device}
use Rattle.damage.specs.declared.evidence.Evidence.{Evidence}
use Rattle.line_pages.specs.declared.stop.Stop.{Stop}
use Rattle.line_pages.specs.declared.stop.Stop.TheVariants.{Nvm, Ssd, Damaged}
use Rattle.line_pages.specs.Standing.{Standing, HasCause, IsCause}
use Rattle.flat_transactions.specs.declared.book.Book.{Book}
use Rattle.line_pages.specs.Standing.{IsFault}
use Rattle.flat_transactions.specs.OpenStore.{HasFault, IsCounted, HasAbortCause, IsCountedOrDamage, IsLogDamage}
use Rattle.flat_transactions.specs.StoreStanding.{standing_of}
use Rattle.engine.specs.declared.engine.Engine.{Engine}
use Rattle.engine.specs.Causes.{IsDamage, IsUndoDamage, Stops, StopsUndoing}
use Rattle.engine.specs.Commands.{shown}
use Rattle.engine.specs.Engine.{evidence_bytes}

-- the same cause by weaker words for the damage
cause_weaker : {A : Type 0} (P Q : Evidence → Type 0) (a b : Standing A) (why : Stop) → ((e : Evidence) → P e → Q e) → IsCause P a b why → IsCause Q a b why
cause_weaker P Q a b Nvm weaker h = h
cause_weaker P Q a b Ssd weaker h = h
cause_weaker P Q a b (Damaged e) weaker h = weaker e h

pub causes_weaker : {A T : Type 0} (P Q : Evidence → Type 0) (a b : Standing A) (r : Result T Stop) → ((e : Evidence) → P e → Q e) → HasCause P a b r → HasCause Q a b r
causes_weaker P Q a b (Ok v) weaker it = record { failed = tt; kept = it.kept }
causes_weaker P Q a b (Err why) weaker it = record { failed = cause_weaker P Q a b why weaker it.failed; kept = tt }

-- what a call with no damage passes on
fault_cause : (P : Evidence → Type 0) (old new : Book) (a b : Device) (x y z p q r : ℕ) (why : Stop) → IsCounted a b why → IsCause P (standing_of old a x y z) (standing_of new b p q r) why
fault_cause P old new a b x y z p q r Nvm h = h
fault_cause P old new a b x y z p q r Ssd h = h
fault_cause P old new a b x y z p q r (Damaged e) h = absurd h

abort_cause : (P : Evidence → Type 0) (old new : Book) (a b : Device) (x y z p q r : ℕ) (why : Stop) → ((e : Evidence) → IsLogDamage old a e × (IsTrue a.told → ⊥) → P e)
    → (IsTrue a.told → IsFault why) → IsCountedOrDamage old a b why → IsCause P (standing_of old a x y z) (standing_of new b p q r) why
abort_cause P old new a b x y z p q r Nvm weaker sound h = h
abort_cause P old new a b x y z p q r Ssd weaker sound h = h
abort_cause P old new a b x y z p q r (Damaged e) weaker sound h = weaker e (h, λ told. sound told)

module _ (P : Evidence → Type 0) (old new : Book) (a b : Device) where
  pub stops_fault : {T U : Type 0} (r : Result T Stop) (why : Stop) → IsErr r × IsErrAnd r (λ found. found ≡ why) → HasFault {T = U} a b (Err why) → HasCause P (standing_of old a 0 0 0) (standing_of new b 0 0 0) r
  stops_fault (Ok v) why is cause = let none : false ≡ true = is.0 in absurd (cc)
  stops_fault (Err found) why is cause =
      record { failed = subst (λ (x : Stop). IsCause P (standing_of old a 0 0 0) (standing_of new b 0 0 0) x) (sym is.1) (fault_cause P old new a b 0 0 0 0 0 0 why cause.failed); kept = tt }

  pub stops_abort : {T U : Type 0} (r : Result T Stop) (why : Stop) → IsErr r × IsErrAnd r (λ found. found ≡ why) → ((e : Evidence) → IsLogDamage old a e × (IsTrue a.told → ⊥) → P e) → (IsTrue a.told → IsFault why)
      → HasAbortCause {T = U} old a b (Err why) → HasCause P (standing_of old a 0 0 0) (standing_of new b 0 0 0) r
  stops_abort (Ok v) why is weaker sound cause = let none : false ≡ true = is.0 in absurd (cc)
  stops_abort (Err found) why is weaker sound cause =
      record { failed = subst (λ (x : Stop). IsCause P (standing_of old a 0 0 0) (standing_of new b 0 0 0) x) (sym is.1) (abort_cause P old new a b 0 0 0 0 0 0 why weaker sound cause.failed); kept = tt }

-- ---- a call that reads no page

pub undoing_stops : {T : Type 0} (old : Engine) (a : Device) (new : Engine) (b : Device) (r : Result T Stop) → StopsUndoing old a new b r → Stops old a new b r
undoing_stops old a new b r it = causes_weaker (IsUndoDamage old a) (IsDamage old a new b (evidence_bytes new)) (shown old a) (shown new b) r (λ e h. inr (inr (inr h))) it
