use Rattle.std.proofs.Common.{◌≡◌, drop}
use Rattle.std.specs.List.{list_all}
use Rattle.page_format.specs.Node.{slots, is_in_heap}
use Rattle.page_format.proofs.check.all_placed.Given as goal

abbrev pub invariant-loop-i : goal.invariant-loop-i
invariant-loop-i l = record { so_far : list_all (is_in_heap l.heap) (slots l.page) ≡ list_all (is_in_heap l.heap) (drop l.i (slots l.page)) }
