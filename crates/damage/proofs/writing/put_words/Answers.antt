use Rattle.std.proofs.Common.{[], ◌∷◌, ◌++◌, take, ap, sym, ◌∙◌, arith, append_assoc}
use Rattle.std.specs.Prelude.{map, slice_index}
use Rattle.texts.specs.Lines.{sentence}
use Rattle.damage.specs.DamageText.{word_digits}
use Rattle.damage.proofs.DigitsLaws.{sentence-word_more}
use Rattle.damage.proofs.writing.put_words.Goals as goal

pub loop-w-preserved : goal.loop-w-preserved
loop-w-preserved c =
    let old = c.args.out.now.items in
    let words = c.args.words.now in
    let before = sentence (map word_digits (take c.loop-w.w words)) in
    let word = word_digits (slice_index words c.loop-w.w) in
    record {
      items = c.put_word-in-loop-w.ensures.items ∙ ap (λ l. l ++ word) (c.put.ensures.items ∙ ap (λ l. l ++ 32 ∷ []) c.loop-w.invariant.items)
          ∙ append_assoc (old ++ before) (32 ∷ []) word ∙ append_assoc old before (32 ∷ word)
          ∙ ap (λ l. old ++ l) (sym (sentence-word_more word_digits words c.loop-w.w (omega arith) (omega arith)));
      len = omega arith;
    }
