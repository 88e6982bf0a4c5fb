-- A key is in one word, or in two words in a row.
use Rattle.std.proofs.Common.{◌≡◌, ◌+◌, ◌/◌, ◌%◌, refl, sym, ap, subst, ◌∙◌, arith, IsTrue, slice_index}
use Rattle.nvm_model.specs.declared.line.Line.{Line}
use Rattle.line_pages.specs.Bytes.{u64_at, word_pair}
use Rattle.line_pages.proofs.ByteLaws.{number_in_word, number_across}
use Rattle.line_pages.proofs.StandingLaws.{ReadsPage-trans, one_read, KeepsPages-then}
use Rattle.line_pages.proofs.CostLaws.{one_line, lines_then, AddsLines-weaker, in_one_line, in_two_lines}
use Rattle.line_pages.proofs.reads.read_word.Goals as goal

pub returns-clause-call : goal.returns-clause-call
returns-clause-call g c = KeepsPages-then c.in_ok-here.ensures.call c.in_ok-next.ensures.call

pub returns-clause-reads : goal.returns-clause-reads
returns-clause-reads g c = ReadsPage-trans (one_read c.in_ok-here.here c.in_ok-here.ensures.call.continues.told c.in_ok-here.ensures.reads) (one_read c.in_ok-next.next c.in_ok-next.ensures.call.continues.told c.in_ok-next.ensures.reads)

pub returns-then-at-eq0-clause-value : goal.returns-then-at-eq0-clause-value
returns-then-at-eq0-clause-value g c = λ told.
    let lines = (g.P.Pages.standing c.args.pages.now).current c.args.page in
    c.across.ensures ∙ ap (λ (line : Line). u64_at (word_pair (slice_index line.words (c.args.place % 64 / 8)) 0) 0) (c.in_ok-here.ensures.value told)
    ∙ sym (number_in_word lines (c.args.place / 64) (c.args.place % 64 / 8) c.args.place 0 (omega arith) (omega arith) (omega arith))

pub returns-then-word-lt7-clause-value : goal.returns-then-word-lt7-clause-value
returns-then-word-lt7-clause-value g c = λ told.
    let lines = (g.P.Pages.standing c.args.pages.now).current c.args.page in
    let l = c.args.place / 64 in
    let w = c.args.place % 64 / 8 in
    let j = c.args.place % 8 in
    c.across-then-word-lt7.ensures ∙ ap (λ (line : Line). u64_at (word_pair (slice_index line.words w) (slice_index line.words (w + 1))) j) (c.in_ok-here.ensures.value told)
    ∙ sym (number_across lines l w l (w + 1) j c.args.place (omega arith) (omega arith) (omega arith) (omega arith) (omega arith) (omega arith) (omega arith))

pub returns-clause-value : goal.returns-clause-value
returns-clause-value g c = λ told.
    let lines = (g.P.Pages.standing c.args.pages.now).current c.args.page in
    let l = c.args.place / 64 in
    let w = c.args.place % 64 / 8 in
    let j = c.args.place % 8 in
    let told_on = subst IsTrue (sym c.in_ok-here.ensures.call.continues.told) told in
    let next : c.in_ok-next.next ≡ lines (l + 1) = c.in_ok-next.ensures.value told_on ∙ ap (λ all. all c.args.page (l + 1)) (c.in_ok-here.ensures.reads.current told) in
    c.across-2.ensures ∙ ap (λ (line : Line). u64_at (word_pair (slice_index line.words w) (slice_index c.in_ok-next.next.words 0)) j) (c.in_ok-here.ensures.value told)
    ∙ ap (λ (line : Line). u64_at (word_pair (slice_index (lines l).words w) (slice_index line.words 0)) j) next
    ∙ sym (number_across lines l w (l + 1) 0 j c.args.place (omega arith) (omega arith) (omega arith) (omega arith) (omega arith) (omega arith) (omega arith))

pub returns-then-at-eq0-clause-lines : goal.returns-then-at-eq0-clause-lines
returns-then-at-eq0-clause-lines g c = AddsLines-weaker (λ x is. is ∙ sym (in_one_line c.args.place 8 (c.args.place / 64) refl (omega arith) (omega arith))) (one_line c.in_ok-here.here c.in_ok-here.ensures.reads)

pub returns-then-word-lt7-clause-lines : goal.returns-then-word-lt7-clause-lines
returns-then-word-lt7-clause-lines g c = AddsLines-weaker (λ x is. is ∙ sym (in_one_line c.args.place 8 (c.args.place / 64) refl (omega arith) (omega arith))) (one_line c.in_ok-here.here c.in_ok-here.ensures.reads)

pub returns-clause-lines : goal.returns-clause-lines
returns-clause-lines g c =
    AddsLines-weaker (λ x is. is ∙ sym (in_two_lines c.args.place 8 (c.args.place / 64) refl (omega arith) (omega arith)))
    (lines_then (one_line c.in_ok-here.here c.in_ok-here.ensures.reads) (one_line c.in_ok-next.next c.in_ok-next.ensures.reads))
