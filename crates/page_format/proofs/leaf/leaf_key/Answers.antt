use Rattle.std.proofs.Common.{ap, sym, ◌∙◌, arith}
use Rattle.line_pages.specs.Bytes.{u64_at}
use Rattle.rows.specs.Rows.{Row}
use Rattle.page_format.proofs.SlotLemmas.{length_rows, row_at}
use Rattle.page_format.proofs.leaf.leaf_key.Goals as goal

pub returns : goal.returns
returns c = λ d.
    c.page_word.ensures.value ∙ ap (u64_at c.args.page.now) c.place_of-place.ensures.place
    ∙ sym (ap (λ (row : Row). row.0) (row_at c.args.page.now c.args.at d (omega (arith, c.requires.at, length_rows c.args.page.now))))
