use Rattle.std.proofs.Common.{◌/◌, ◌%◌, refl, sym, ap, ◌∙◌, arith, slice_index}
use Rattle.nvm_model.specs.declared.line.Line.{Line}
use Rattle.line_pages.specs.Bytes.{u16_at}
use Rattle.nvm_model.specs.LineBytes.{bytes_of_word}
use Rattle.line_pages.proofs.ByteLaws.{half_in_page}
use Rattle.line_pages.proofs.CostLaws.{one_line, AddsLines-weaker, in_one_line}
use Rattle.line_pages.proofs.reads.read_half.Goals as goal

pub returns-clause-value : goal.returns-clause-value
returns-clause-value g c = λ told.
    let lines = (g.P.Pages.standing c.args.pages.now).current c.args.page in
    let at = c.args.place in
    c.half_of.ensures ∙ ap (λ (line : Line). u16_at (bytes_of_word (slice_index line.words (at % 64 / 8))) (at % 8)) (c.in_ok-here.ensures.value told)
    ∙ sym (half_in_page lines (at / 64) (at % 64 / 8) (at % 8) at (omega arith) (omega arith) (omega arith) (omega arith))

pub returns-clause-lines : goal.returns-clause-lines
returns-clause-lines g c = AddsLines-weaker (λ x is. is ∙ sym (in_one_line c.args.place 2 (c.args.place / 64) refl (omega arith) (omega arith))) (one_line c.in_ok-here.here c.in_ok-here.ensures.reads)
