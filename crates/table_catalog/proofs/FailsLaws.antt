-- The bytes that a stop for damage keeps.
use Rattle.std.proofs.Common.{Result, Ok, Err, IfErr}
use Rattle.damage.specs.declared.evidence.Evidence.{Evidence}
use Rattle.line_pages.specs.declared.stop.Stop.{Stop}
use Rattle.line_pages.specs.declared.stop.Stop.TheVariants.{Nvm, Ssd, Damaged}
use Rattle.line_pages.specs.Standing.{Standing, HasCause, Never}
use Rattle.page_format.specs.Search.{Keeps}

-- a call that answers no damage keeps nothing
pub never_keeps : {A T : Type 0} {old new : Standing A} (Fails : Evidence → Type 0) (result : Result T Stop) → HasCause Never old new result → IfErr result (Keeps Fails)
never_keeps Fails (Ok value) cause = tt
never_keeps Fails (Err Nvm) cause = tt
never_keeps Fails (Err Ssd) cause = tt
never_keeps Fails (Err (Damaged e)) cause = absurd cause.failed
