-- The line that the head names.
use Rattle.std.proofs.Common.{ap, ◌+◌}
use Rattle.devices.proofs.MomentLaws.{Goes-trans}
use Rattle.flat_recovery.proofs.ReplayingLaws.{record_stored}
use Rattle.flat_recovery.proofs.replaying.store_record.Goals as goal

pub returns-in-Line-clause-stores : goal.returns-in-Line-clause-stores
returns-in-Line-clause-stores g c =
    record_stored c.args.log.now c.args.at c.args.side _ _ _ c.in-Line.page c.in-Line.line c.frame_line-place.result (c.args.at + c.side_place.result) c.copy_line.result c.in_ok-page.ensures.goes c.copy_line.ensures.goes
    c.in_ok-page.ensures.stays (rw c.in-Line.is at c.in_ok-page.ensures.reads) c.frame_line-place.ensures.place (ap (λ n. c.args.at + n) c.side_place.ensures.place) c.copy_line.ensures.copies

pub returns-in-Line-clause-goes : goal.returns-in-Line-clause-goes
returns-in-Line-clause-goes g c = Goes-trans c.in_ok-page.ensures.goes c.copy_line.ensures.goes
