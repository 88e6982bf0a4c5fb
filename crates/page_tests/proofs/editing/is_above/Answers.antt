use Rattle.std.proofs.Common.{◌-◌, ℕ, get_or, ap, sym, ◌∙◌, arith}
use Rattle.std.proofs.lemmas.Bool.{ltb-true}
use Rattle.rows.specs.Rows.{last_key}
use Rattle.page_format.specs.Node.{Child, children, first_keys}
use Rattle.page_format.proofs.ChildLaws.{first_key_at}
use Rattle.page_edit.proofs.OrderLaws.{push_order}
use Rattle.page_tests.proofs.editing.is_above.Goals as goal

none : Child
none = (0, 0)

pub returns : goal.returns
returns c = λ child yes_it.
    let xs = children c.args.page.now in
    let less = ltb-true c.child_key.result c.args.key yes_it in
    let last = first_key_at xs (c.children-count.result - 1) none (omega (arith, c.children-count.ensures.children)) ∙ sym (c.child_key.ensures none) in
    let end = ap (λ (n : ℕ). get_or (first_keys xs) (n - 1) 0) (sym c.children-count.ensures.children) in
    push_order last_key c.args.key child c.child_key.result xs c.requires.order (omega (arith, end, last)) less (omega arith)
