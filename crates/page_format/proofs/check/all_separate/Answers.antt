use Rattle.std.proofs.Common.{◌∙◌, ap, sym, arith}
use Rattle.page_format.specs.Node.{slots, heap_start, is_in_heap}
use Rattle.page_format.specs.Marks.{marked_in}
use Rattle.page_format.specs.Sound.{slot_of, InHeap}
use Rattle.page_format.proofs.SlotLemmas.{slot_in_heap, in_heap_is}
use Rattle.page_format.proofs.CheckLemmas.{slots_step, slots_end, all_step}
use Rattle.page_format.proofs.ApartLaws.{left_apart, left_step, left_stop, left_first}
use Rattle.page_format.proofs.check.all_separate.Goals.{In-loop-i}
use Rattle.page_format.proofs.check.all_separate.Goals as goal

in_heap_at : (c : In-loop-i) → InHeap (heap_start c.args.page.now) (slot_of c.args.page.now c.loop-i.i)
in_heap_at c = slot_in_heap c.args.page.now c.loop-i.i c.requires.placed (omega arith)

pub loop-i-init : goal.loop-i-init
loop-i-init c = record {
  so_far = left_first (slots c.args.page.now) ∙ ap (λ m. left_apart m (slots c.args.page.now)) (sym c.new-marks.ensures);
  placed = sym c.requires.placed;
}

pub take-requires-clause-some : goal.take-requires-clause-some
take-requires-clause-some c = omega (arith, (in_heap_at (goal.at.take-requires-clause-some c).In-loop-i).key, c.page_half-size.ensures.value)

pub take-requires-clause-within : goal.take-requires-clause-within
take-requires-clause-within c = omega (arith, (in_heap_at (goal.at.take-requires-clause-within c).In-loop-i).below, c.page_half-place.ensures.value, c.page_half-size.ensures.value)

pub returns-then-not-take : goal.returns-then-not-take
returns-then-not-take c =
    left_stop _ (marked_in c.loop-i.marks.words) _ _ (slot_of c.args.page.now c.loop-i.i) c.page_half-place.result c.page_half-size.result c.loop-i.invariant.so_far (slots_step c.args.page.now c.loop-i.i (omega arith))
    c.page_half-place.ensures.value c.page_half-size.ensures.value (sym c.take.ensures.free ∙ c.if-not-take.true)

pub loop-i-preserved : goal.loop-i-preserved
loop-i-preserved c =
    let bytes = c.args.page.now in
    let slot = slot_of bytes c.loop-i.i in
    let step = slots_step bytes c.loop-i.i (omega arith) in
    let is = in_heap_at (goal.at.loop-i-preserved c).In-loop-i in
    let placed = all_step (is_in_heap (heap_start bytes)) _ _ _ slot c.loop-i.invariant.placed step (in_heap_is (heap_start bytes) slot is) in
    record {
      so_far = left_step _ (marked_in c.loop-i.marks.words) (marked_in c.take.new.self.words) (heap_start bytes) _ _ slot c.page_half-place.result c.page_half-size.result c.loop-i.invariant.so_far step (omega (arith, is.key)) (sym placed)
          c.page_half-place.ensures.value c.page_half-size.ensures.value (sym c.take.ensures.free ∙ c.if-not-take.false) (c.take.ensures.marks c.if-not-take.false);
      placed = placed;
    }

pub returns : goal.returns
returns c = sym (c.loop-i.invariant.so_far ∙ ap (left_apart (marked_in c.loop-i.marks.words)) (slots_end c.args.page.now c.loop-i.i (omega arith)))
