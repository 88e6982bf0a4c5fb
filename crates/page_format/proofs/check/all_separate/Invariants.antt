use Rattle.std.proofs.Common.{◌≡◌, true, drop}
use Rattle.std.specs.List.{list_all}
use Rattle.page_format.specs.Node.{slots, all_apart, heap_start, is_in_heap}
use Rattle.page_format.specs.Marks.{marked_in}
use Rattle.page_format.proofs.ApartLaws.{left_apart}
use Rattle.page_format.proofs.check.all_separate.Given as goal

abbrev pub invariant-loop-i : goal.invariant-loop-i
invariant-loop-i l = record {
  so_far : all_apart (slots l.page) ≡ left_apart (marked_in l.marks.words) (drop l.i (slots l.page));
  placed : true ≡ list_all (is_in_heap (heap_start l.page)) (drop l.i (slots l.page));
}
