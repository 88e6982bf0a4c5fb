use Rattle.std.proofs.Common.{◌≡◌, ◌+◌, ◌*◌, ℕ, List, [], ◌∷◌, slice_range, ap, sym, ◌∙◌, add-zero, arith}
use Rattle.nvm_model.specs.LineBytes.{word_bytes}
use Rattle.line_pages.proofs.ByteLaws.{each_of_eight, eight_words, words_are_part}
use Rattle.line_pages.proofs.page.page_line.Goals as goal

pub returns-clause-bytes : goal.returns-clause-bytes
returns-clause-bytes c =
    let at = 64 * c.args.line in
    let bytes = c.args.page.now in
    let words : List ℕ = c.page_word.result ∷ c.page_word-2.result ∷ c.page_word-3.result ∷ c.page_word-4.result ∷ c.page_word-5.result ∷ c.page_word-6.result ∷ c.page_word-7.result ∷ c.page_word-8.result ∷ [] in
    words_are_part bytes words at
    (each_of_eight (λ w. word_bytes words w ≡ slice_range bytes (at + 8 * w) (at + 8 * w + 8))
    (c.page_word.ensures.bytes ∙ ap (λ (p : ℕ). slice_range bytes p (p + 8)) (sym (add-zero at))) c.page_word-2.ensures.bytes c.page_word-3.ensures.bytes c.page_word-4.ensures.bytes
    c.page_word-5.ensures.bytes c.page_word-6.ensures.bytes c.page_word-7.ensures.bytes c.page_word-8.ensures.bytes)

pub returns-clause-is_line : goal.returns-clause-is_line
returns-clause-is_line c =
    eight_words c.page_word.result c.page_word-2.result c.page_word-3.result c.page_word-4.result c.page_word-5.result c.page_word-6.result c.page_word-7.result c.page_word-8.result
    (omega arith) (omega arith) (omega arith) (omega arith) (omega arith) (omega arith) (omega arith) (omega arith)
