use Rattle.std.proofs.Common.{◌∙◌, ℕ, List, take, drop, ap, sym, subst, arith}
use Rattle.std.specs.List.{insert}
use Rattle.std.proofs.lemmas.List.Edits.{length-insert}
use Rattle.rows.specs.Rows.{Row}
use Rattle.page_edit.specs.Cut.{rows_left, IsFilled}
use Rattle.page_format.specs.Node.{leaf_rows, has_printable_value}
use Rattle.page_format.specs.Sound.{row_bytes}
use Rattle.page_edit.proofs.InsertLemmas.{all_insert}
use Rattle.page_edit.proofs.CutLemmas.{cut_is}
use Rattle.page_edit.proofs.LeafLemmas.{cut_of, left_leaf, right_leaf}
use Rattle.page_edit.proofs.cut.leaf_cut.Goals as goal

pub divide-requires-clause-part : goal.divide-requires-clause-part
divide-requires-clause-part c =
    let old = c.args.left.now in
    let fit = cut_of old c.args.at c.args.key c.args.value.now c.open_leaf-count.ensures.sound c.open_leaf-count.ensures.rows c.requires.few in
    omega (arith, fit.within, c.left_part-part.ensures, c.open_leaf-count.ensures.count, length-insert (leaf_rows old) c.args.at (c.args.key, c.args.value.now) c.requires.at)

pub divide-requires-clause-left_room : goal.divide-requires-clause-left_room
divide-requires-clause-left_room c =
    let old = c.args.left.now in
    let fit = cut_of old c.args.at c.args.key c.args.value.now c.open_leaf-count.ensures.sound c.open_leaf-count.ensures.rows c.requires.few in
    rw (c.copy-from.ensures.value, c.left_part-part.ensures) fit.left

pub divide-requires-clause-right_room : goal.divide-requires-clause-right_room
divide-requires-clause-right_room c =
    let old = c.args.left.now in
    let fit = cut_of old c.args.at c.args.key c.args.value.now c.open_leaf-count.ensures.sound c.open_leaf-count.ensures.rows c.requires.few in
    rw (c.copy-from.ensures.value, c.left_part-part.ensures) fit.right

pub returns-clause-left_leaf : goal.returns-clause-left_leaf
returns-clause-left_leaf c =
    let old = c.args.left.now in
    let row : Row = (c.args.key, c.args.value.now) in
    let all = insert (leaf_rows old) c.args.at row in
    let fit = cut_of old c.args.at c.args.key c.args.value.now c.open_leaf-count.ensures.sound c.open_leaf-count.ensures.rows c.requires.few in
    let same = ap (λ (bytes : List ℕ). take c.left_part-part.result (insert (leaf_rows bytes) c.args.at row)) c.copy-from.ensures.value ∙ ap (λ (n : ℕ). take n all) c.left_part-part.ensures in
    left_leaf c.divide.new.left all (rows_left all) c.divide.ensures.left_packed.packed.sound (c.divide.ensures.left ∙ same) fit.left c.requires.order
    (all_insert has_printable_value (leaf_rows old) c.args.at row c.open_leaf-count.ensures.rows.printable c.requires.printable)

pub returns-clause-right_leaf : goal.returns-clause-right_leaf
returns-clause-right_leaf c =
    let old = c.args.left.now in
    let row : Row = (c.args.key, c.args.value.now) in
    let all = insert (leaf_rows old) c.args.at row in
    let fit = cut_of old c.args.at c.args.key c.args.value.now c.open_leaf-count.ensures.sound c.open_leaf-count.ensures.rows c.requires.few in
    let same = ap (λ (bytes : List ℕ). drop c.left_part-part.result (insert (leaf_rows bytes) c.args.at row)) c.copy-from.ensures.value ∙ ap (λ (n : ℕ). drop n all) c.left_part-part.ensures in
    right_leaf c.divide.new.right all (rows_left all) c.divide.ensures.right_packed.packed.sound (c.divide.ensures.right ∙ same) fit.right c.requires.order
    (all_insert has_printable_value (leaf_rows old) c.args.at row c.open_leaf-count.ensures.rows.printable c.requires.printable)

pub returns-clause-left_full : goal.returns-clause-left_full
returns-clause-left_full c = λ over.
    let old = c.args.left.now in
    let row : Row = (c.args.key, c.args.value.now) in
    let all = insert (leaf_rows old) c.args.at row in
    let fit = cut_of old c.args.at c.args.key c.args.value.now c.open_leaf-count.ensures.sound c.open_leaf-count.ensures.rows c.requires.few in
    let same = ap (λ (bytes : List ℕ). take c.left_part-part.result (insert (leaf_rows bytes) c.args.at row)) c.copy-from.ensures.value ∙ ap (λ (n : ℕ). take n all) c.left_part-part.ensures in
    omega (arith, ap row_bytes (c.divide.ensures.left ∙ same), fit.left_full over)

pub returns-clause-right_full : goal.returns-clause-right_full
returns-clause-right_full c = λ over.
    let old = c.args.left.now in
    let row : Row = (c.args.key, c.args.value.now) in
    let all = insert (leaf_rows old) c.args.at row in
    let fit = cut_of old c.args.at c.args.key c.args.value.now c.open_leaf-count.ensures.sound c.open_leaf-count.ensures.rows c.requires.few in
    let same = ap (λ (bytes : List ℕ). drop c.left_part-part.result (insert (leaf_rows bytes) c.args.at row)) c.copy-from.ensures.value ∙ ap (λ (n : ℕ). drop n all) c.left_part-part.ensures in
    omega (arith, ap row_bytes (c.divide.ensures.right ∙ same), fit.right_full over)

pub returns-clause-halves : goal.returns-clause-halves
returns-clause-halves c =
    let old = c.args.left.now in
    let row : Row = (c.args.key, c.args.value.now) in
    let all = insert (leaf_rows old) c.args.at row in
    let fit = cut_of old c.args.at c.args.key c.args.value.now c.open_leaf-count.ensures.sound c.open_leaf-count.ensures.rows c.requires.few in
    let from = ap (λ (bytes : List ℕ). insert (leaf_rows bytes) c.args.at row) c.copy-from.ensures.value in
    cut_is all (leaf_rows c.divide.new.left) (leaf_rows c.divide.new.right) (rows_left all) fit
    (c.divide.ensures.left ∙ ap (take c.left_part-part.result) from ∙ ap (λ (n : ℕ). take n all) c.left_part-part.ensures)
    (c.divide.ensures.right ∙ ap (drop c.left_part-part.result) from ∙ ap (λ (n : ℕ). drop n all) c.left_part-part.ensures)

pub returns-clause-left_filled : goal.returns-clause-left_filled
returns-clause-left_filled c = λ over.
    let old = c.args.left.now in
    let row : Row = (c.args.key, c.args.value.now) in
    let all = insert (leaf_rows old) c.args.at row in
    let fit = cut_of old c.args.at c.args.key c.args.value.now c.open_leaf-count.ensures.sound c.open_leaf-count.ensures.rows c.requires.few in
    let from = ap (λ (bytes : List ℕ). insert (leaf_rows bytes) c.args.at row) c.copy-from.ensures.value in
    subst IsFilled (sym (c.divide.ensures.left ∙ ap (take c.left_part-part.result) from ∙ ap (λ (n : ℕ). take n all) c.left_part-part.ensures)) (fit.left_filled over)

pub returns-clause-right_filled : goal.returns-clause-right_filled
returns-clause-right_filled c = λ over.
    let old = c.args.left.now in
    let row : Row = (c.args.key, c.args.value.now) in
    let all = insert (leaf_rows old) c.args.at row in
    let fit = cut_of old c.args.at c.args.key c.args.value.now c.open_leaf-count.ensures.sound c.open_leaf-count.ensures.rows c.requires.few in
    let from = ap (λ (bytes : List ℕ). insert (leaf_rows bytes) c.args.at row) c.copy-from.ensures.value in
    subst IsFilled (sym (c.divide.ensures.right ∙ ap (drop c.left_part-part.result) from ∙ ap (λ (n : ℕ). drop n all) c.left_part-part.ensures)) (fit.right_filled over)
