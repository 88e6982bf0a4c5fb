use Rattle.std.proofs.Common.{◌≡◌, drop}
use Rattle.std.specs.List.{list_all}
use Rattle.page_format.specs.Node.{has_printable_value, leaf_rows}
use Rattle.page_format.proofs.check.values_printable.Given as goal

abbrev pub invariant-loop-i : goal.invariant-loop-i
invariant-loop-i l = record { so_far : list_all has_printable_value (leaf_rows l.page) ≡ list_all has_printable_value (drop l.i (leaf_rows l.page)) }
