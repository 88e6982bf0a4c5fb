use Rattle.std.proofs.Common.{◌<◌, ℕ, nat_eq, get_or, [], length, arith, sym, ap, ◌∙◌}
use Rattle.rows.specs.Rows.{Row}
use Rattle.page_format.specs.Node.{leaf_rows}
use Rattle.node_edit.specs.Edit.{place_of}
use Rattle.node_edit.proofs.KeyPlaceLaws.{has_key-is}
use Rattle.node_edit.proofs.leaf_edit.is_there.Goals as goal

none : Row
none = (0, [])

pub returns-then-at-open_leaf-clause-there : goal.returns-then-at-open_leaf-clause-there
returns-then-at-open_leaf-clause-there c =
    let rows = leaf_rows c.args.page.now in
    let within : place_of c.args.key rows < length rows = omega (arith, c.requires.at, c.open_leaf.ensures.count) in
    ap (λ (k : ℕ). nat_eq k c.args.key) (c.leaf_key.ensures none ∙ ap (λ (i : ℕ). (get_or rows i none).0) c.requires.at) ∙ sym (has_key-is c.args.key rows none within)
