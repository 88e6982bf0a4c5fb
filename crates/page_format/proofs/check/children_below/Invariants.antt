use Rattle.std.proofs.Common.{◌≡◌, drop}
use Rattle.std.specs.List.{list_all}
use Rattle.page_format.specs.Node.{children, is_page_below}
use Rattle.page_format.proofs.check.children_below.Given as goal

abbrev pub invariant-loop-i : goal.invariant-loop-i
invariant-loop-i l = record { so_far : list_all (is_page_below l.pages) (children l.page) ≡ list_all (is_page_below l.pages) (drop l.i (children l.page)) }
