-- What the calls make of the store.
use Rattle.flat_nvm_layout.specs.Sizes.{sizes_of}
use Rattle.flat_recovery.specs.declared.errors.FormatError.TheVariants.{Nvm}
use Rattle.flat_recovery.proofs.FormatLaws.{format_done, format_stopped}
use Rattle.flat_recovery.proofs.formatting.format_at.Goals as goal

pub returns-in-Ok-clause-formats : goal.returns-in-Ok-clause-formats
returns-in-Ok-clause-formats g c = λ told nvm ssd allowed. format_done (sizes_of c.args.geometry.now) c.args.first _ _ told nvm ssd allowed c.in-Ok.ensures.makes

pub returns-in-Err-clause-formats : goal.returns-in-Err-clause-formats
returns-in-Err-clause-formats g c = λ told nvm ssd allowed. format_stopped (sizes_of c.args.geometry.now) c.args.first _ _ told nvm ssd allowed Nvm c.in-Err.ensures.makes
