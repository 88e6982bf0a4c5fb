-- Reads of one page, also where damage is answered.
use Rattle.std.proofs.Common.{ℕ}
use Rattle.line_pages.specs.declared.stop.Stop.{Stop}
use Rattle.line_pages.specs.declared.stop.Stop.TheVariants.{Nvm, Ssd, Damaged}
use Rattle.line_pages.specs.Standing.{Standing, ReadsPage, IsCause, Never, UnlessStop}
use Rattle.line_pages.proofs.StandingLaws.{ReadsPage-trans}

-- reads before a call that gives its stop
pub then_stop : {A : Type 0} {page : ℕ} (a b c : Standing A) (stop : Stop) → ReadsPage page a b → UnlessStop stop (ReadsPage page b c) → UnlessStop stop (ReadsPage page a c)
then_stop a b c Nvm first second = tt
then_stop a b c Ssd first second = tt
then_stop a b c (Damaged evidence) first second = ReadsPage-trans first second

-- the stop of a call that answers no damage
pub stop_never : {A : Type 0} (Fact : Type 0) (old new : Standing A) (stop : Stop) → IsCause Never old new stop → UnlessStop stop Fact
stop_never Fact old new Nvm cause = tt
stop_never Fact old new Ssd cause = tt
stop_never Fact old new (Damaged evidence) cause = absurd cause
