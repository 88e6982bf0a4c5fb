use Rattle.std.proofs.Common.{◌-◌, ℕ, get_or, ap, sym, subst, ◌∙◌, arith}
use Rattle.std.proofs.lemmas.Bool.{ltb-true}
use Rattle.std.proofs.lemmas.List.{map-append, length-map}
use Rattle.rows.specs.Rows.{Ascends, last_key}
use Rattle.page_format.specs.Node.{Child, children, first_keys}
use Rattle.page_format.proofs.ChildLaws.{first_key_at}
use Rattle.page_edit.proofs.OrderLaws.{Ascends-join}
use Rattle.page_tests.proofs.editing.begins_before.Goals as goal

none : Child
none = (0, 0)

pub returns : goal.returns
returns c = λ yes_it.
    let xs = children c.args.left.now in
    let ys = children c.args.right.now in
    let less = ltb-true c.child_key.result c.child_key-2.result yes_it in
    let last = first_key_at xs (c.children-count.result - 1) none (omega (arith, c.children-count.ensures.children)) ∙ sym (c.child_key.ensures none) in
    let first = first_key_at ys 0 none (omega (arith, c.children-more.ensures.children)) ∙ sym (c.child_key-2.ensures none) in
    let end = ap (λ (n : ℕ). get_or (first_keys xs) (n - 1) 0) (length-map xs (λ (child : Child). child.0) ∙ sym c.children-count.ensures.children) in
    subst (Ascends 0 last_key) (sym (map-append (λ (child : Child). child.0) xs ys))
    (Ascends-join last_key (first_keys xs) (first_keys ys) c.child_key.result c.requires.left.order c.requires.right.order (λ some. omega (arith, end, last)) (λ some. omega (arith, first, less)) (omega arith))
