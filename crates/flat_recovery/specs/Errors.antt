-- Why an opening fails where the superblock is not read.
use Rattle.flat_nvm_layout.specs.declared.errors.SuperError.{SuperError}
use Rattle.flat_nvm_layout.specs.declared.errors.SuperError.TheVariants as super_error
use Rattle.flat_recovery.specs.declared.errors.OpenError.{OpenError}
use Rattle.flat_recovery.specs.declared.errors.OpenError.TheVariants.{Nvm, NotAStore, TooSmall, LogEnded, Damaged}

abbrev pub open_error : SuperError → OpenError
open_error super_error.Nvm = Nvm
open_error super_error.NotAStore = NotAStore
open_error super_error.TooSmall = TooSmall
open_error super_error.LogEnded = LogEnded
open_error (super_error.Damaged kept) = Damaged kept
