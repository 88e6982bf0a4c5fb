use Rattle.std.proofs.Common.{◌<◌, ℕ, nat_eq, get_or, length, arith, sym, ap, ◌∙◌}
use Rattle.page_format.specs.Node.{Child, children}
use Rattle.node_edit.specs.Edit.{place_of}
use Rattle.node_edit.proofs.KeyPlaceLaws.{has_key-is}
use Rattle.node_edit.proofs.inner_edit.is_there.Goals as goal

none : Child
none = (0, 0)

pub returns-then-at-children-clause-there : goal.returns-then-at-children-clause-there
returns-then-at-children-clause-there c =
    let rows = children c.args.page.now in
    let within : place_of c.args.key rows < length rows = omega (arith, c.requires.at, c.children.ensures.children) in
    ap (λ (k : ℕ). nat_eq k c.args.key) (c.child_key.ensures none ∙ ap (λ (i : ℕ). (get_or rows i none).0) c.requires.at) ∙ sym (has_key-is c.args.key rows none within)
