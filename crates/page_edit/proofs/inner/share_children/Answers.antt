use Rattle.line_pages.proofs.NumberLaws.{same_then, same_part}
use Rattle.std.proofs.Common.{[], ◌≤◌, ◌≡◌, ◌-◌, ◌++◌, ◌∙◌, ℕ, List, length, take, slice_range, ap, sym, arith, ◌+◌, ◌*◌}
use Rattle.std.proofs.lemmas.List.{take-append-le}
use Rattle.page_format.specs.Node.{Child, children, entry_count}
use Rattle.page_edit.proofs.CutLemmas.{share_low, share_high, whole_is}
use Rattle.page_format.proofs.InnerLemmas.{length_children}
use Rattle.page_edit.proofs.inner.share_children.Goals as goal

take_front : (xs ys : List Child) (n : ℕ) → n ≤ length xs → take n (xs ++ ys) ≡ take n xs
take_front xs ys n h = take-append-le n xs ys h

two_parts : (now mid none a b b2 : List Child) → now ≡ mid ++ b → mid ≡ none ++ a → none ≡ [] → b ≡ b2 → now ≡ a ++ b2
two_parts now mid none a b b2 p q e s = p ∙ ap (λ (xs : List Child). xs ++ b) (q ∙ ap (λ (xs : List Child). xs ++ a) e) ∙ ap (λ (xs : List Child). a ++ xs) s

pub returns-then-part-left_count-clause-left : goal.returns-then-part-left_count-clause-left
returns-then-part-left_count-clause-left c =
    let xs = children c.args.left.now in
    let ys = children c.args.right.now in
    c.keep_children.ensures.children ∙ sym ((take_front xs ys c.args.part (omega (arith, length_children c.args.left.now))))

pub returns-then-part-left_count-clause-right : goal.returns-then-part-left_count-clause-right
returns-then-part-left_count-clause-right c =
    let xs = children c.args.left.now in
    let ys = children c.args.right.now in
    let low = share_low xs ys c.args.left_count c.args.right_count c.args.part (omega (arith, length_children c.args.left.now)) (omega (arith, length_children c.args.right.now)) (omega arith) in
    two_parts _ _ _ _ _ _ c.push_children-then-part-left_count.ensures.children c.push_children.ensures.children c.clear_inner.ensures.children
    (ap (λ (bytes : List ℕ). slice_range (children bytes) 0 c.args.right_count) c.copy-copy.ensures.value) ∙ sym low.right_is

pub returns-else-part-left_count-clause-left : goal.returns-else-part-left_count-clause-left
returns-else-part-left_count-clause-left c =
    let xs = children c.args.left.now in
    let ys = children c.args.right.now in
    let high = share_high xs ys c.args.left_count c.args.right_count c.args.part (omega (arith, length_children c.args.left.now)) (omega (arith, length_children c.args.right.now)) (omega arith) c.requires.part in
    c.push_children-else-part-left_count.ensures.children ∙ ap (λ (bytes : List ℕ). xs ++ slice_range (children bytes) 0 (c.args.part - c.args.left_count)) c.copy-copy.ensures.value
    ∙ ap (λ (zs : List Child). zs ++ slice_range ys 0 (c.args.part - c.args.left_count)) (sym (whole_is xs c.args.left_count (omega (arith, length_children c.args.left.now)))) ∙ sym high.left_is

pub returns-else-part-left_count-clause-right : goal.returns-else-part-left_count-clause-right
returns-else-part-left_count-clause-right c =
    let xs = children c.args.left.now in
    let ys = children c.args.right.now in
    let high = share_high xs ys c.args.left_count c.args.right_count c.args.part (omega (arith, length_children c.args.left.now)) (omega (arith, length_children c.args.right.now)) (omega arith) c.requires.part in
    c.push_children-else-part-left_count-2.ensures.children ∙ ap (λ (bytes : List ℕ). children c.clear_inner.new.page ++ slice_range (children bytes) (c.args.part - c.args.left_count) c.args.right_count) c.copy-copy.ensures.value
    ∙ ap (λ (zs : List Child). zs ++ slice_range ys (c.args.part - c.args.left_count) c.args.right_count) c.clear_inner.ensures.children ∙ sym high.right_is

pub returns-then-part-left_count-clause-left_rest : goal.returns-then-part-left_count-clause-left_rest
returns-then-part-left_count-clause-left_rest c = same_part 3904 4096 16 4096 _ _ c.keep_children.ensures.rest (omega arith) (omega arith)

pub returns-then-part-left_count-clause-right_rest : goal.returns-then-part-left_count-clause-right_rest
returns-then-part-left_count-clause-right_rest c =
    let cleared = c.clear_inner.new.page in
    let first = c.push_children.new.page in
    let last = c.push_children-then-part-left_count.new.page in
    same_then 3904 4096 c.args.right.now cleared last (same_part 3904 4096 32 4096 _ _ c.clear_inner.ensures.rest (omega arith) (omega arith))
    (same_then 3904 4096 cleared first last (same_part 3904 4096 (64 + 16 * entry_count first) 4096 _ _ c.push_children.ensures.rest (omega (arith, c.push_children.ensures.count, c.clear_inner.ensures.count)) (omega arith))
    (same_part 3904 4096 (64 + 16 * entry_count last) 4096 _ _ c.push_children-then-part-left_count.ensures.rest (omega (arith, c.push_children.ensures.count, c.push_children-then-part-left_count.ensures.count, c.clear_inner.ensures.count)) (omega arith)))

pub returns-else-part-left_count-clause-left_rest : goal.returns-else-part-left_count-clause-left_rest
returns-else-part-left_count-clause-left_rest c = same_part 3904 4096 (64 + 16 * entry_count c.push_children-else-part-left_count.new.page) 4096 _ _ c.push_children-else-part-left_count.ensures.rest (omega (arith, c.push_children-else-part-left_count.ensures.count)) (omega arith)

pub returns-else-part-left_count-clause-right_rest : goal.returns-else-part-left_count-clause-right_rest
returns-else-part-left_count-clause-right_rest c =
    let cleared = c.clear_inner.new.page in
    let last = c.push_children-else-part-left_count-2.new.page in
    same_then 3904 4096 c.args.right.now cleared last (same_part 3904 4096 32 4096 _ _ c.clear_inner.ensures.rest (omega arith) (omega arith))
    (same_part 3904 4096 (64 + 16 * entry_count last) 4096 _ _ c.push_children-else-part-left_count-2.ensures.rest (omega (arith, c.push_children-else-part-left_count-2.ensures.count, c.clear_inner.ensures.count)) (omega arith))
