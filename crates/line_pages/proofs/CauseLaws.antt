-- Causes of calls in a row.
use Rattle.std.proofs.Common.{◌≡◌, ◌∙◌, sym, subst, arith, true, false, Result, Ok, Err, IsErr, IsErrAnd}
use Rattle.damage.specs.declared.evidence.Evidence.{Evidence}
use Rattle.line_pages.specs.declared.stop.Stop.{Stop}
use Rattle.line_pages.specs.declared.stop.Stop.TheVariants.{Nvm, Ssd, Damaged}
use Rattle.line_pages.specs.Standing.{Standing, HasCause, IsCause, Never, UnlessStop, UnlessFault}

-- a cause under which more damage is answered
pub wider_cause : {A T : Type 0} {Damage More : Evidence → Type 0} {old new : Standing A} → ((e : Evidence) → Damage e → More e) → (result : Result T Stop)
    → HasCause Damage old new result → HasCause More old new result
wider_cause wider (Ok value) cause = record { failed = tt; kept = cause.kept }
wider_cause wider (Err Nvm) cause = record { failed = cause.failed; kept = tt }
wider_cause wider (Err Ssd) cause = record { failed = cause.failed; kept = tt }
wider_cause wider (Err (Damaged e)) cause = record { failed = wider e cause.failed; kept = tt }

-- the cause of a call that answers no damage
pub never_cause : {A T : Type 0} (Damage : Evidence → Type 0) {old new : Standing A} (result : Result T Stop) → HasCause Never old new result → HasCause Damage old new result
never_cause Damage result cause = wider_cause (λ e none. absurd none) result cause

-- the cause of a call after one that succeeded
pub cause_after : {A T U : Type 0} {Before Damage : Evidence → Type 0} {a b c : Standing A} (found : U) → HasCause Before a b (Ok found) → (result : Result T Stop)
    → HasCause Damage b c result → HasCause Damage a c result
cause_after found first (Ok value) second = record { failed = tt; kept = (second.kept.0 ∙ first.kept.0, second.kept.1 ∙ first.kept.1) }
cause_after found first (Err Nvm) second = record { failed = omega (arith, first.kept.0, second.failed); kept = tt }
cause_after found first (Err Ssd) second = record { failed = omega (arith, first.kept.1, second.failed); kept = tt }
cause_after found first (Err (Damaged e)) second = record { failed = second.failed; kept = tt }

-- a stop that is handed on
pub cause_on : {A T U : Type 0} {Damage : Evidence → Type 0} {old new : Standing A} (stop : Stop) → HasCause {T = T} Damage old new (Err stop) → HasCause {T = U} Damage old new (Err stop)
cause_on stop cause = record { failed = cause.failed; kept = tt }

-- facts unless a fault stopped: a stop that was none for damage, and one that is handed on
pub unless_never : {A T : Type 0} (Fact : Type 0) (old new : Standing A) (r : Result T Stop) (why : Stop) → IsErr r × IsErrAnd r (λ found. found ≡ why) → IsCause Never old new why → UnlessFault r Fact
unless_never Fact old new (Ok value) why is cause = let bad : false ≡ true = is.0 in absurd (cc)
unless_never Fact old new (Err Nvm) why is cause = tt
unless_never Fact old new (Err Ssd) why is cause = tt
unless_never Fact old new (Err (Damaged e)) why is cause = absurd (subst (IsCause Never old new) (sym is.1) cause)

pub unless_on : {T : Type 0} (Fact : Type 0) (r : Result T Stop) (why : Stop) → IsErr r × IsErrAnd r (λ found. found ≡ why) → UnlessStop why Fact → UnlessFault r Fact
unless_on Fact (Ok value) why is fact = let bad : false ≡ true = is.0 in absurd (cc)
unless_on Fact (Err stop) why is fact = subst (λ (s : Stop). UnlessStop s Fact) (sym is.1) fact
