use Rattle.std.proofs.Common.{arith}
use Rattle.page_format.specs.Node.{leaf_rows}
use Rattle.page_edit.proofs.PartLemmas.{fits_empty, lands_empty}
use Rattle.page_edit.proofs.CutLemmas.{cut_low, cut_high}
use Rattle.page_edit.proofs.cut.divide.Goals as goal

pub push_with-requires-clause-room : goal.push_with-requires-clause-room
push_with-requires-clause-room c =
    fits_empty _ _ _ c.clear_leaf-2.ensures.rows (cut_low (leaf_rows c.args.from.now) c.args.part c.args.at c.args.count (c.args.key, c.args.value.now) c.requires.count (omega arith) c.requires.at).right_is c.requires.right_room

pub push_with-requires-else-part-at-clause-room : goal.push_with-requires-else-part-at-clause-room
push_with-requires-else-part-at-clause-room c =
    fits_empty _ _ _ c.clear_leaf.ensures.rows (cut_high (leaf_rows c.args.from.now) c.args.part c.args.at c.args.count (c.args.key, c.args.value.now) c.requires.count (omega arith) c.requires.part).left_is c.requires.left_room

pub push_rows-requires-else-part-at-clause-room : goal.push_rows-requires-else-part-at-clause-room
push_rows-requires-else-part-at-clause-room c =
    fits_empty _ _ _ c.clear_leaf-2.ensures.rows (cut_high (leaf_rows c.args.from.now) c.args.part c.args.at c.args.count (c.args.key, c.args.value.now) c.requires.count (omega arith) c.requires.part).right_is c.requires.right_room

pub returns-then-part-at-clause-right : goal.returns-then-part-at-clause-right
returns-then-part-at-clause-right c =
    lands_empty _ _ _ _ c.push_with.ensures.rows c.clear_leaf-2.ensures.rows (cut_low (leaf_rows c.args.from.now) c.args.part c.args.at c.args.count (c.args.key, c.args.value.now) c.requires.count (omega arith) c.requires.at).right_is

pub returns-else-part-at-clause-left : goal.returns-else-part-at-clause-left
returns-else-part-at-clause-left c =
    lands_empty _ _ _ _ c.push_with-else-part-at.ensures.rows c.clear_leaf.ensures.rows (cut_high (leaf_rows c.args.from.now) c.args.part c.args.at c.args.count (c.args.key, c.args.value.now) c.requires.count (omega arith) c.requires.part).left_is

pub returns-else-part-at-clause-right : goal.returns-else-part-at-clause-right
returns-else-part-at-clause-right c =
    lands_empty _ _ _ _ c.push_rows-else-part-at.ensures.rows c.clear_leaf-2.ensures.rows (cut_high (leaf_rows c.args.from.now) c.args.part c.args.at c.args.count (c.args.key, c.args.value.now) c.requires.count (omega arith) c.requires.part).right_is
