-- Nothing is done.
use Rattle.std.proofs.Common.{refl}
use Rattle.flat_transactions.proofs.OpenStoreLaws.{still_call}
use Rattle.flat_transactions.proofs.store.Store.clean.Goals as goal

pub returns-clause-lines : goal.returns-clause-lines
returns-clause-lines g c = λ told. record { current = refl; committed = refl }

pub returns-clause-cause : goal.returns-clause-cause
returns-clause-cause g c = record { failed = tt; nvm = refl; ssd = refl }

pub returns-clause-call : goal.returns-clause-call
returns-clause-call g c = still_call c.args.self.now.book.now (g.D.Devices.standing c.args.self.now.dev.now)
