use Rattle.std.proofs.Common.{rules}
use Rattle.device_files.proofs.PositionLaws.{writes_more}
use Rattle.device_files.proofs.positioned.drain_at.Goals as goal

pub pieces-preserved : goal.pieces-preserved
pieces-preserved g c = record {
  within = search rules;
  written = writes_more c.args.start c.pieces.at c.in_ok-count.count c.args.bytes.now _ _ _ c.pieces.invariant.within c.pieces.invariant.written c.in_ok-count.ensures.sent;
}
