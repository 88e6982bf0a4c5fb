-- The blocks that were loaded are written, settled and named by the gate.
use Rattle.std.proofs.Common.{ap, refl, length}
use Rattle.devices.specs.World.{now}
use Rattle.nvm_log.specs.Offsets.{Offsets}
use Rattle.log_drain.specs.Drains.{raised}
use Rattle.log_book.specs.LogData.{LogData, data_of, book_sizes}
use Rattle.log_book.specs.Open.{OpenIn}
use Rattle.log_book.proofs.ForLaws.{for_seen, for_exit, for_ok, data_is, offsets_is}
use Rattle.log_book.proofs.DrainOpen.{blocks_drained, drain_open, copied_as}
use Rattle.log_book.proofs.book.LogBook.drain_some.Goals as goal

pub returns-in_err-drain_blocks-clause-open : goal.returns-in_err-drain_blocks-clause-open
returns-in_err-drain_blocks-clause-open g c =
    let old = c.args.self.now in
    let size = book_sizes old in
    let done = c.in_err-drain_blocks.ensures in
    for_exit c.from_residual.result c.from_residual.ensures.1 (for_seen (λ (x : LogData) t. OpenIn t x) {x = blocks_drained (length done.makes.blocks) (data_of old)} {y = data_of old} tt done.goes done.cause done.makes.makes
    (λ told t sizes goal s reads before. drain_open size (data_of old) done.makes.blocks done.makes.lines done.makes.room done.makes.few c.requires.nothing t sizes goal s
    (copied_as size old.log.drained done.makes.blocks s (now (g.D.Devices.standing c.args.dev.now)) reads (done.makes.copied told)) before))

pub returns-clause-open : goal.returns-clause-open
returns-clause-open g c =
    let old = c.args.self.now in
    let size = book_sizes old in
    let done = c.in_ok-drain_blocks.ensures in
    let moved = done.moved.ok in
    for_ok (for_seen (λ (x : LogData) t. OpenIn t x)
    (data_is _ (blocks_drained (length done.makes.blocks) (data_of old))
    (offsets_is _ (raised (length done.makes.blocks) (data_of old).log) (ap (λ (x : Offsets). x.start) moved) done.makes.count (ap (λ (x : Offsets). x.tail) moved) (ap (λ (x : Offsets). x.written) moved)) refl refl)
    done.goes done.cause done.makes.makes
    (λ told t sizes goal s reads before. drain_open size (data_of old) done.makes.blocks done.makes.lines done.makes.room done.makes.few c.requires.nothing t sizes goal s
    (copied_as size old.log.drained done.makes.blocks s (now (g.D.Devices.standing c.args.dev.now)) reads (done.makes.copied told)) before))
