-- The line that was loaded is stored.
use Rattle.std.proofs.Common.{rules}
use Rattle.flat_recovery.proofs.ReplayingLaws.{copy_done, copy_failed}
use Rattle.flat_recovery.proofs.replaying.copy_line.Goals as goal

pub returns-in_err-store_line-clause-copies : goal.returns-in_err-store_line-clause-copies
returns-in_err-store_line-clause-copies g c =
    let load = c.in_ok-value.ensures in
    let store = c.in_err-store_line.ensures in
    record {
      writes = λ told. record {
        makes = copy_failed c.args.place c.from_residual-in_err-store_line.result c.from_residual-in_err-store_line.ensures.0 (load.value told) load.goes store.goes load.stays store.makes;
        only = search rules;
      };
    }

pub returns-clause-copies : goal.returns-clause-copies
returns-clause-copies g c =
    let load = c.in_ok-value.ensures in
    let store = c.in_ok-store_line.ensures in
    record { writes = λ told. record { makes = copy_done c.args.place (load.value told) load.goes store.goes load.stays store.makes; only = tt } }
