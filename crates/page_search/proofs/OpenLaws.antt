-- Reads of a page whose access is open.
use Rattle.std.proofs.Common.{ℕ, Result, Ok, Err, OnOk}
use Rattle.line_pages.specs.declared.stop.Stop.{Stop}
use Rattle.line_pages.specs.declared.stop.Stop.TheVariants.{Nvm, Ssd, Damaged}
use Rattle.line_pages.specs.Standing.{Standing, ReadsPage, UnlessFault}
use Rattle.line_pages.proofs.StandingLaws.{ReadsPage-trans}

-- a call that goes on with such reads
pub then_reads : {A T : Type 0} {page : ℕ} (a b c : Standing A) (r : Result T Stop) → ReadsPage page a b → OnOk r (ReadsPage page b c) → OnOk r (ReadsPage page a c)
then_reads a b c (Ok v) first second = ReadsPage-trans first second
then_reads a b c (Err e) first second = tt

pub then_reads_unless : {A T : Type 0} {page : ℕ} (a b c : Standing A) (r : Result T Stop) → ReadsPage page a b → UnlessFault r (ReadsPage page b c) → UnlessFault r (ReadsPage page a c)
then_reads_unless a b c (Ok v) first second = ReadsPage-trans first second
then_reads_unless a b c (Err Nvm) first second = tt
then_reads_unless a b c (Err Ssd) first second = tt
then_reads_unless a b c (Err (Damaged e)) first second = ReadsPage-trans first second
