use Rattle.std.proofs.Common.{rules}
use Rattle.device_files.proofs.PositionLaws.{taken_more_at, padded_behind}
use Rattle.device_files.proofs.positioned.fill_at.Goals as goal

pub pieces-preserved : goal.pieces-preserved
pieces-preserved g c = record {
  same_length = search rules;
  within = search rules;
  taken = taken_more_at _ c.args.start _ _ c.pieces.at _ c.in_ok-count.count c.pieces.invariant.within c.in_ok-count.ensures.bound c.pieces.invariant.taken c.in_ok-count.ensures.taken;
}

pub returns-then-count-eq0 : goal.returns-then-count-eq0
returns-then-count-eq0 g c =
    padded_behind _ c.args.start c.pieces.into c.read_piece.new.into _ c.pieces.at _ c.in_ok-count.count _ c.pieces.invariant.within (search rules) (search rules)
    c.if-count-eq0.true c.pieces.invariant.taken c.in_ok-count.ensures.taken (c.in_ok-count.ensures.end c.if-count-eq0.true (search rules)) c.clear_from.ensures
