-- So far the last records were taken back.
use Rattle.std.proofs.Common.{◌-◌, IsTrue, Ok}
use Rattle.devices.specs.World.{Goes}
use Rattle.flat_nvm_layout.specs.Sizes.{sizes_of}
use Rattle.flat_transactions.specs.TakenBack.{AbortCause, SameLog, TakesBack}
use Rattle.flat_transactions.proofs.undo.take_back.Given as goal

abbrev pub invariant-loop-taken : goal.invariant-loop-taken
invariant-loop-taken g l =
    let old = g.D.Devices.standing l.fn.dev in
    let mid = g.D.Devices.standing l.dev in
    let sizes = sizes_of l.log.geometry in
    record {
      goes : Goes old mid;
      cause : AbortCause {T = Unit {0}} sizes l.log.start l.log.tail old mid (Ok tt);
      same : IsTrue old.told → SameLog sizes l.log.start old mid;
      takes : IsTrue old.told → TakesBack {T = Unit {0}} sizes l.log.start l.log.tail l.first l.records (l.records - l.taken) old mid (Ok tt);
    }
