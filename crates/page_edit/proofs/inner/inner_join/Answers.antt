use Rattle.line_pages.proofs.NumberLaws.{same_part, same_same}
use Rattle.std.proofs.Common.{◌≤◌, ◌≡◌, ◌+◌, ◌/◌, ◌++◌, ◌∙◌, ℕ, length, take, drop, ap, sym, arith, length-append, ◌*◌}
use Rattle.page_format.specs.Node.{children, page_level, entry_count}
use Rattle.page_edit.proofs.CutLemmas.{whole_is}
use Rattle.page_edit.proofs.ChildLemmas.{branch_of, branch_front, branch_back, join_at_half}
use Rattle.page_edit.proofs.inner.inner_join.Goals as goal

pub returns-then-left_count-right_count-le240-clause-joined : goal.returns-then-left_count-right_count-le240-clause-joined
returns-then-left_count-right_count-le240-clause-joined c = λ yes_it.
    let xs = children c.args.left.now in
    let ys = children c.args.right.now in
    let is : children c.push_children.new.page ≡ xs ++ ys = c.push_children.ensures.children ∙ ap (λ zs. xs ++ zs) (whole_is ys c.children-right_count.result c.children-right_count.ensures.children) in
    let size = length-append xs ys in
    let fits : length (xs ++ ys) ≤ 240 = omega (arith, size, c.children-left_count.ensures.children, c.children-right_count.ensures.children) in
    record {
      fits = fits;
      children_are = is;
      branch = branch_of c.push_children.new.page (xs ++ ys) (page_level c.args.left.now) c.push_children.ensures.inner is c.push_children.ensures.level c.requires.left.above fits c.requires.order;
      level = c.push_children.ensures.level;
      unused = c.push_children.ensures.unused;
    }

pub returns-clause-divided : goal.returns-clause-divided
returns-clause-divided c = λ no_it.
    let xs = children c.args.left.now in
    let ys = children c.args.right.now in
    let all = xs ++ ys in
    let half = join_at_half xs ys c.children-left_count.result c.children-right_count.result c.children-left_count.ensures.children c.children-right_count.ensures.children in
    let size = length-append xs ys in
    let part = (c.children-left_count.result + c.children-right_count.result + 1) / 2 in
    record {
      over = omega (arith, size, c.children-left_count.ensures.children, c.children-right_count.ensures.children);
      left_children = c.share_children.ensures.left ∙ ap (λ (k : ℕ). take k all) (sym half);
      right_children = c.share_children.ensures.right ∙ ap (λ (k : ℕ). drop k all) (sym half);
      left_branch = branch_front c.share_children.new.left all part (page_level c.args.left.now) c.share_children.ensures.left_inner c.share_children.ensures.left c.share_children.ensures.left_level c.requires.left.above
          (omega (arith, size, c.children-left_count.ensures.children, c.children-right_count.ensures.children)) (omega (arith, c.children-left_count.ensures.children, c.children-right_count.ensures.children, c.requires.left.room, c.requires.right.room)) c.requires.order;
      right_branch = branch_back c.share_children.new.right all part (page_level c.args.right.now) c.share_children.ensures.right_inner c.share_children.ensures.right c.share_children.ensures.right_level c.requires.right.above
          (omega (arith, size, c.children-left_count.ensures.children, c.children-right_count.ensures.children, c.requires.left.room, c.requires.right.room)) c.requires.order;
      left_level = c.share_children.ensures.left_level;
      right_level = c.share_children.ensures.right_level;
      left_unused = c.share_children.ensures.left_unused;
      right_unused = c.share_children.ensures.right_unused;
    }

pub returns-then-left_count-right_count-le240-clause-left_rest : goal.returns-then-left_count-right_count-le240-clause-left_rest
returns-then-left_count-right_count-le240-clause-left_rest c = same_part 3904 4096 (64 + 16 * entry_count c.push_children.new.page) 4096 _ _ c.push_children.ensures.rest (omega (arith, c.push_children.ensures.count, c.children-left_count.ensures.count)) (omega arith)

pub returns-then-left_count-right_count-le240-clause-right_rest : goal.returns-then-left_count-right_count-le240-clause-right_rest
returns-then-left_count-right_count-le240-clause-right_rest c = same_same 3904 4096 c.args.right.now
