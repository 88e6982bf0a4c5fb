use Rattle.std.proofs.Common.{◌+◌, ℕ, ap, sym, ◌∙◌, arith, slice_range}
use Rattle.rows.specs.Rows.{Row}
use Rattle.page_format.proofs.SlotLemmas.{length_rows, row_at}
use Rattle.page_format.specs.Sound.{slot_of}
use Rattle.page_format.proofs.leaf.leaf_value.Goals as goal

pub returns-clause-value : goal.returns-clause-value
returns-clause-value c = λ d.
    c.part.ensures.value ∙ ap (λ (p : ℕ). slice_range c.args.page.now (p + 8) (p + c.size_of-size.result)) c.place_of-place.ensures.place
    ∙ ap (λ (n : ℕ). slice_range c.args.page.now ((slot_of c.args.page.now c.args.at).place + 8) ((slot_of c.args.page.now c.args.at).place + n)) c.size_of-size.ensures
    ∙ sym (ap (λ (row : Row). row.1) (row_at c.args.page.now c.args.at d (omega (arith, c.requires.at, length_rows c.args.page.now))))
