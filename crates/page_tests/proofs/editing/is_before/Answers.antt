use Rattle.std.proofs.Common.{◌-◌, ℕ, get_or, ap, sym, subst, ◌∙◌, arith}
use Rattle.std.proofs.lemmas.Bool.{ltb-true}
use Rattle.std.proofs.lemmas.List.{map-append, length-map}
use Rattle.rows.specs.Rows.{Ascends, keys, key_of, last_key}
use Rattle.page_format.specs.Node.{leaf_rows}
use Rattle.page_format.proofs.KeyLaws.{key_is}
use Rattle.page_edit.proofs.OrderLaws.{Ascends-join}
use Rattle.page_tests.proofs.editing.is_before.Goals as goal

pub returns : goal.returns
returns c = λ yes_it.
    let xs = leaf_rows c.args.left.now in
    let ys = leaf_rows c.args.right.now in
    let less = ltb-true c.leaf_key.result c.leaf_key-2.result yes_it in
    let last = key_is xs (c.open_leaf-count.result - 1) c.leaf_key.result (omega (arith, c.open_leaf-count.ensures.count)) c.leaf_key.ensures in
    let first = key_is ys 0 c.leaf_key-2.result (omega (arith, c.open_leaf-more.ensures.count)) c.leaf_key-2.ensures in
    let end = ap (λ (n : ℕ). get_or (keys xs) (n - 1) 0) (length-map xs key_of ∙ sym c.open_leaf-count.ensures.count) in
    subst (Ascends 0 last_key) (sym (map-append key_of xs ys))
    (Ascends-join last_key (keys xs) (keys ys) c.leaf_key.result c.open_leaf-count.ensures.rows.order c.open_leaf-more.ensures.rows.order (λ some. omega (arith, end, last)) (λ some. omega (arith, first, less)) (omega arith))
