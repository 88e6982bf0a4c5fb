-- The end of an access changes no device.
use Rattle.std.proofs.Common.{rules}
use Rattle.flat_transactions.proofs.store.StorePages.rest.Goals as goal

pub returns-clause-call : goal.returns-clause-call
returns-clause-call g c = record { continues = search rules; ready = search rules; steady = search rules }
