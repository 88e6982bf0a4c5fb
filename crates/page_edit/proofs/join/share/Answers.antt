use Rattle.std.proofs.Common.{arith}
use Rattle.page_format.specs.Node.{leaf_rows}
use Rattle.page_edit.proofs.PartLemmas.{fits_empty, lands_empty}
use Rattle.page_edit.proofs.CutLemmas.{share_low, share_high}
use Rattle.page_edit.proofs.join.share.Goals as goal

pub push_both-requires-clause-room : goal.push_both-requires-clause-room
push_both-requires-clause-room c =
    fits_empty _ _ _ c.clear_leaf-2.ensures.rows (share_low (leaf_rows c.args.first.now) (leaf_rows c.args.second.now) c.args.first_count c.args.second_count c.args.part c.requires.first_count c.requires.second_count (omega arith)).right_is c.requires.right_room

pub push_both-requires-else-part-first_count-clause-room : goal.push_both-requires-else-part-first_count-clause-room
push_both-requires-else-part-first_count-clause-room c =
    fits_empty _ _ _ c.clear_leaf.ensures.rows (share_high (leaf_rows c.args.first.now) (leaf_rows c.args.second.now) c.args.first_count c.args.second_count c.args.part c.requires.first_count c.requires.second_count (omega arith) c.requires.part).left_is c.requires.left_room

pub push_rows-requires-else-part-first_count-clause-room : goal.push_rows-requires-else-part-first_count-clause-room
push_rows-requires-else-part-first_count-clause-room c =
    fits_empty _ _ _ c.clear_leaf-2.ensures.rows (share_high (leaf_rows c.args.first.now) (leaf_rows c.args.second.now) c.args.first_count c.args.second_count c.args.part c.requires.first_count c.requires.second_count (omega arith) c.requires.part).right_is c.requires.right_room

pub returns-then-part-first_count-clause-right : goal.returns-then-part-first_count-clause-right
returns-then-part-first_count-clause-right c =
    lands_empty _ _ _ _ c.push_both.ensures.rows c.clear_leaf-2.ensures.rows (share_low (leaf_rows c.args.first.now) (leaf_rows c.args.second.now) c.args.first_count c.args.second_count c.args.part c.requires.first_count c.requires.second_count (omega arith)).right_is

pub returns-else-part-first_count-clause-left : goal.returns-else-part-first_count-clause-left
returns-else-part-first_count-clause-left c =
    lands_empty _ _ _ _ c.push_both-else-part-first_count.ensures.rows c.clear_leaf.ensures.rows (share_high (leaf_rows c.args.first.now) (leaf_rows c.args.second.now) c.args.first_count c.args.second_count c.args.part c.requires.first_count c.requires.second_count (omega arith) c.requires.part).left_is

pub returns-else-part-first_count-clause-right : goal.returns-else-part-first_count-clause-right
returns-else-part-first_count-clause-right c =
    lands_empty _ _ _ _ c.push_rows-else-part-first_count.ensures.rows c.clear_leaf-2.ensures.rows (share_high (leaf_rows c.args.first.now) (leaf_rows c.args.second.now) c.args.first_count c.args.second_count c.args.part c.requires.first_count c.requires.second_count (omega arith) c.requires.part).right_is
