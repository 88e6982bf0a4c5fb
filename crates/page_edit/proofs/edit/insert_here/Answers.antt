use Rattle.page_format.specs.Node.{entry_count, heap_start, slots}
use Rattle.std.specs.List.{insert}
use Rattle.std.proofs.Common.{◌+◌, ◌-◌, ◌*◌, ◌∙◌, ℕ, ap, sym, refl, arith, length}
use Rattle.line_pages.proofs.NumberLaws.{same_part}
use Rattle.page_edit.proofs.InsertLemmas.{Puts, laid_puts, slots_put, rows_put, sound_put}
use Rattle.page_edit.proofs.edit.insert_here.Goals as goal
use Rattle.page_edit.proofs.edit.insert_here.Goals.{After-lay_row}

puts : (c : After-lay_row) → Puts c.args.at (c.page_word-heap.result - (8 + length c.args.value.now)) (8 + length c.args.value.now) (c.args.key, c.args.value.now) c.args.page.now c.lay_row.new.page
puts c =
    laid_puts c.args.at c.page_word-count.result (c.page_word-heap.result - (8 + length c.args.value.now)) (8 + length c.args.value.now) (c.args.key, c.args.value.now) c.args.page.now c.lay_row.new.page
    c.lay_row.ensures.lays (omega arith) (omega arith) (omega arith) c.lay_row.ensures.size_old c.lay_row.ensures.size

pub returns-clause-rows : goal.returns-clause-rows
returns-clause-rows c = rows_put c.args.at _ _ _ c.args.page.now c.lay_row.new.page (puts c) (omega arith) (omega arith) c.requires.sound

pub returns-clause-sound : goal.returns-clause-sound
returns-clause-sound c = sound_put c.args.at _ _ _ c.args.page.now c.lay_row.new.page (puts c) (omega arith) (omega arith) c.requires.sound (omega arith) (omega arith) (omega arith)

pub returns-clause-slots : goal.returns-clause-slots
returns-clause-slots c =
    let old = c.args.page.now in
    let size = 8 + length c.args.value.now in
    slots_put c.args.at _ size _ old c.lay_row.new.page (puts c) (omega arith)
    ∙ ap (λ (place : ℕ). insert (slots old) c.args.at (record { place = place; size = size })) (sym c.lay_row.ensures.lays.heap_is)

pub returns-clause-heap : goal.returns-clause-heap
returns-clause-heap c = let lays = c.lay_row.ensures.lays in omega (arith, lays.heap_is)

pub returns-clause-count : goal.returns-clause-count
returns-clause-count c = let lays = c.lay_row.ensures.lays in omega (arith, lays.count_is)

pub returns-clause-rest : goal.returns-clause-rest
returns-clause-rest c =
    let new = c.lay_row.new.page in
    let lays = c.lay_row.ensures.lays in
    same_part (64 + 4 * entry_count new) (heap_start new) (68 + 4 * c.page_word-count.result) (c.page_word-heap.result - (8 + length c.args.value.now)) _ _ lays.middle (omega (arith, lays.count_is)) (omega (arith, lays.heap_is))

pub returns-clause-above : goal.returns-clause-above
returns-clause-above c =
    let size = 8 + length c.args.value.now in
    same_part (heap_start c.args.page.now) 4096 (c.page_word-heap.result - size + size) 4096 _ _ c.lay_row.ensures.lays.after (omega arith) (omega arith)
