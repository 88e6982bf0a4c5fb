-- So far the words below w are there.
use Rattle.std.proofs.Common.{◌≡◌, ◌+◌, ◌*◌, ◌++◌}
use Rattle.arrayvec.specs.ArrayVec.{array_vec_len}
use Rattle.hex.specs.Hex.{encode_lower}
use Rattle.nvm_model.specs.LineBytes.{pieces, word_bytes}
use Rattle.damage.proofs.writing.put_line.Given as goal

abbrev pub invariant-loop-w : goal.invariant-loop-w
invariant-loop-w l = record {
  items : l.out.items ≡ l.fn.out.items ++ encode_lower (pieces (word_bytes l.line.words) 0 l.w);
  len : array_vec_len l.out ≡ array_vec_len l.fn.out + 16 * l.w;
}
