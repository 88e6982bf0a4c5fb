use Rattle.std.proofs.Common.{◌≡◌, ◌+◌, ◌*◌, refl, take, ap, sym, ◌∙◌, arith}
use Rattle.std.proofs.lemmas.List.{take_all}
use Rattle.nvm_model.specs.LineBytes.{pieces, word_bytes, line_bytes}
use Rattle.line_pages.proofs.ByteLaws.{piece_put, length-word_bytes}
use Rattle.line_pages.proofs.page.bytes_of_line.Goals as goal

pub loop-w-preserved : goal.loop-w-preserved
loop-w-preserved c =
    let before = c.loop-w.invariant in
    let words = c.args.value.now.words in
    record {
      size = omega (arith, before.size);
      written = ap (take (8 * (c.loop-w.w + 1))) c.put_word.ensures.bytes
          ∙ piece_put 8 c.loop-w.bytes (word_bytes words) c.loop-w.w (word_bytes words c.loop-w.w) (length-word_bytes words c.loop-w.w) (omega (arith, before.size)) before.written refl;
    }

pub returns : goal.returns
unfolding line_bytes
returns c =
    let all : c.loop-w.w ≡ 8 = omega arith in
    sym (take_all 64 c.loop-w.bytes (omega (arith, c.loop-w.invariant.size)))
    ∙ ap (λ k. take (8 * k) c.loop-w.bytes) (sym all) ∙ c.loop-w.invariant.written
    ∙ ap (pieces (word_bytes c.args.value.now.words) 0) all
