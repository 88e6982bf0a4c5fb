-- So far the words below w are there.
use Rattle.std.proofs.Common.{◌≡◌, ◌+◌, ◌*◌, ◌++◌, take}
use Rattle.std.specs.Prelude.{map}
use Rattle.arrayvec.specs.ArrayVec.{array_vec_len}
use Rattle.texts.specs.Lines.{sentence}
use Rattle.damage.specs.DamageText.{word_digits}
use Rattle.damage.proofs.writing.put_words.Given as goal

abbrev pub invariant-loop-w : goal.invariant-loop-w
invariant-loop-w l = record {
  items : l.out.items ≡ l.fn.out.items ++ sentence (map word_digits (take l.w l.words));
  len : array_vec_len l.out + 1 ≡ array_vec_len l.fn.out + 17 * l.w;
}
