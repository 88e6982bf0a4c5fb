use Rattle.std.proofs.Common.{◌≡◌, ◌++◌, ap, sym, ◌∙◌, arith, append-nil, append_assoc}
use Rattle.std.specs.Int.{to_le_bytes, w64}
use Rattle.std.specs.Prelude.{slice_index}
use Rattle.hex.specs.Hex.{encode_with, encode_lower}
use Rattle.nvm_model.specs.LineBytes.{pieces, word_bytes, line_bytes}
use Rattle.damage.proofs.DigitsLaws.{encode-word_more}
use Rattle.damage.proofs.writing.put_line.Goals as goal

pub loop-w-init : goal.loop-w-init
unfolding encode_with
loop-w-init c = record { items = sym (append-nil c.args.out.now.items); len = omega arith }

pub loop-w-preserved : goal.loop-w-preserved
loop-w-preserved c =
    let old = c.args.out.now.items in
    let words = c.args.line.now.words in
    let before = encode_lower (pieces (word_bytes words) 0 c.loop-w.w) in
    let word = encode_lower (to_le_bytes w64 (slice_index words c.loop-w.w)) in
    record {
      items = c.put_digits.ensures.items ∙ ap (λ l. c.loop-w.out.items ++ encode_lower l) c.to_le_bytes.ensures
          ∙ ap (λ l. l ++ word) c.loop-w.invariant.items ∙ append_assoc old before word ∙ ap (λ l. old ++ l) (sym (encode-word_more words c.loop-w.w));
      len = omega arith;
    }

pub returns-clause-items : goal.returns-clause-items
unfolding line_bytes
returns-clause-items c =
    let all : c.loop-w.w ≡ 8 = omega arith in
    c.loop-w.invariant.items ∙ ap (λ k. c.args.out.now.items ++ encode_lower (pieces (word_bytes c.args.line.now.words) 0 k)) all
