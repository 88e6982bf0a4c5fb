use Rattle.std.proofs.Common.{◌+◌, ◌*◌, arith}
use Rattle.page_format.specs.Node.{entry_count}
use Rattle.line_pages.proofs.NumberLaws.{same_part}
use Rattle.page_edit.proofs.RemoveLemmas.{TakesOut, dropped_out, slots_out, rows_out, sound_out}
use Rattle.page_edit.proofs.edit.remove_here.Goals as goal
use Rattle.page_edit.proofs.edit.remove_here.Goals.{After-drop_slot}

out : (c : After-drop_slot) → TakesOut c.args.at c.args.page.now c.drop_slot.new.page
out c = dropped_out c.args.at c.page_word-count.result c.args.page.now c.drop_slot.new.page c.drop_slot.ensures.drops (omega arith) (omega arith) (omega arith) c.drop_slot.ensures.size

pub returns-clause-rows : goal.returns-clause-rows
returns-clause-rows c = rows_out c.args.at c.args.page.now c.drop_slot.new.page (out c) c.requires.at c.requires.sound

pub returns-clause-sound : goal.returns-clause-sound
returns-clause-sound c = sound_out c.args.at c.args.page.now c.drop_slot.new.page (out c) c.requires.at c.requires.sound

pub returns-clause-heap : goal.returns-clause-heap
returns-clause-heap c = (out c).heap

pub returns-clause-slots : goal.returns-clause-slots
returns-clause-slots c = slots_out c.args.at c.args.page.now c.drop_slot.new.page (out c) c.requires.at

pub returns-clause-rest : goal.returns-clause-rest
returns-clause-rest c =
    let n = entry_count c.args.page.now in
    same_part (64 + 4 * n) 4096 (60 + 4 * c.page_word-count.result) 4096 _ _ c.drop_slot.ensures.drops.after (omega arith) (omega arith)
