use Rattle.std.proofs.Common.{◌≡◌, ◌+◌, ◌<◌, ◌≤◌, ◌⊎◌, ◌++◌, ◌∙◌, inl, inr, ℕ, List, take, drop, length, slice_range, ap, arith, length-append}
use Rattle.rows.specs.Rows.{Row}
use Rattle.page_format.specs.Node.{leaf_rows}
use Rattle.page_format.specs.Sound.{row_bytes}
use Rattle.page_format.proofs.RowLemmas.{row_bytes-append}
use Rattle.page_edit.proofs.CutLemmas.{whole_is}
use Rattle.page_edit.proofs.LeafLemmas.{joined_is, join_fit, divided_is}
use Rattle.page_edit.proofs.join.leaf_join.Goals as goal

two_bytes : (xs ys : List Row) (n m one two : ℕ) → n ≡ length xs → m ≡ length ys → one ≡ row_bytes (slice_range xs 0 n) → two ≡ row_bytes (slice_range ys 0 m) → row_bytes (xs ++ ys) ≡ one + two
two_bytes xs ys n m one two n_is m_is p q = omega (arith, row_bytes-append xs ys, p, q, ap row_bytes (whole_is xs n n_is), ap row_bytes (whole_is ys m m_is))

at_most : (xs ys : List Row) → row_bytes xs ≤ 4032 → row_bytes ys ≤ 4032 → (row_bytes xs < 1344) ⊎ (row_bytes ys < 1344) → row_bytes (xs ++ ys) ≤ 5375
at_most xs ys p q low = elim low [
  | inl l ↦ omega (arith, row_bytes-append xs ys, l)
  | inr r ↦ omega (arith, row_bytes-append xs ys, r)
]

pub push_rows-requires-clause-room : goal.push_rows-requires-clause-room
push_rows-requires-clause-room c =
    let xs = leaf_rows c.args.left.now in
    let ys = leaf_rows c.args.right.now in
    let n = c.open_leaf-left_count.ensures in
    let m = c.open_leaf-right_count.ensures in
    let all = two_bytes xs ys c.open_leaf-left_count.result c.open_leaf-right_count.result c.part_bytes-one.result c.part_bytes-two.result n.count m.count c.part_bytes-one.ensures.bytes c.part_bytes-two.ensures.bytes in
    rw (c.pack.ensures.rows, whole_is ys c.open_leaf-right_count.result m.count) (omega (arith, all))

pub returns-then-one-two-le4032-clause-joined : goal.returns-then-one-two-le4032-clause-joined
returns-then-one-two-le4032-clause-joined c = λ yes_it.
    let xs = leaf_rows c.args.left.now in
    let ys = leaf_rows c.args.right.now in
    let n = c.open_leaf-left_count.ensures in
    let m = c.open_leaf-right_count.ensures in
    let all = two_bytes xs ys c.open_leaf-left_count.result c.open_leaf-right_count.result c.part_bytes-one.result c.part_bytes-two.result n.count m.count c.part_bytes-one.ensures.bytes c.part_bytes-two.ensures.bytes in
    let is : leaf_rows c.push_rows.new.page ≡ xs ++ ys = c.push_rows.ensures.rows ∙ ap (λ zs. zs ++ slice_range ys 0 c.open_leaf-right_count.result) c.pack.ensures.rows ∙ ap (λ zs. xs ++ zs) (whole_is ys c.open_leaf-right_count.result m.count) in
    joined_is c.args.left.now c.args.right.now c.push_rows.new.page n.rows m.rows c.push_rows.ensures.packed is (omega (arith, all)) c.requires.order

pub share-requires-clause-part : goal.share-requires-clause-part
share-requires-clause-part c = omega (arith, (join_fit c.args.left.now c.args.right.now c.open_leaf-left_count.ensures.sound c.open_leaf-right_count.ensures.sound (at_most (leaf_rows c.args.left.now) (leaf_rows c.args.right.now) c.open_leaf-left_count.ensures.rows.used c.open_leaf-right_count.ensures.rows.used c.requires.low)).within, c.joined_part-part.ensures, c.open_leaf-left_count.ensures.count, c.open_leaf-right_count.ensures.count, length-append (leaf_rows c.args.left.now) (leaf_rows c.args.right.now))

pub share-requires-clause-left_room : goal.share-requires-clause-left_room
share-requires-clause-left_room c = rw (c.copy-first.ensures.value, c.copy-second.ensures.value, c.joined_part-part.ensures) (join_fit c.args.left.now c.args.right.now c.open_leaf-left_count.ensures.sound c.open_leaf-right_count.ensures.sound (at_most (leaf_rows c.args.left.now) (leaf_rows c.args.right.now) c.open_leaf-left_count.ensures.rows.used c.open_leaf-right_count.ensures.rows.used c.requires.low)).left

pub share-requires-clause-right_room : goal.share-requires-clause-right_room
share-requires-clause-right_room c = rw (c.copy-first.ensures.value, c.copy-second.ensures.value, c.joined_part-part.ensures) (join_fit c.args.left.now c.args.right.now c.open_leaf-left_count.ensures.sound c.open_leaf-right_count.ensures.sound (at_most (leaf_rows c.args.left.now) (leaf_rows c.args.right.now) c.open_leaf-left_count.ensures.rows.used c.open_leaf-right_count.ensures.rows.used c.requires.low)).right

pub returns-clause-divided : goal.returns-clause-divided
returns-clause-divided c = λ no_it.
    let xs = leaf_rows c.args.left.now in
    let ys = leaf_rows c.args.right.now in
    let n = c.open_leaf-left_count.ensures in
    let m = c.open_leaf-right_count.ensures in
    let all = two_bytes xs ys c.open_leaf-left_count.result c.open_leaf-right_count.result c.part_bytes-one.result c.part_bytes-two.result n.count m.count c.part_bytes-one.ensures.bytes c.part_bytes-two.ensures.bytes in
    let fits = join_fit c.args.left.now c.args.right.now n.sound m.sound (at_most xs ys n.rows.used m.rows.used c.requires.low) in
    let lists = ap (λ (bytes : List ℕ). leaf_rows bytes ++ leaf_rows c.copy-second.result) c.copy-first.ensures.value ∙ ap (λ (bytes : List ℕ). xs ++ leaf_rows bytes) c.copy-second.ensures.value in
    let l = c.share.ensures.left ∙ ap (take c.joined_part-part.result) lists ∙ ap (λ (k : ℕ). take k (xs ++ ys)) c.joined_part-part.ensures in
    let r = c.share.ensures.right ∙ ap (drop c.joined_part-part.result) lists ∙ ap (λ (k : ℕ). drop k (xs ++ ys)) c.joined_part-part.ensures in
    divided_is c.args.left.now c.args.right.now c.share.new.left c.share.new.right n.rows m.rows fits c.share.ensures.left_packed c.share.ensures.right_packed (omega (arith, all, c.if-one-two-le4032.false)) c.requires.order l r
