-- So far the words below w are in their place.
use Rattle.std.proofs.Common.{◌≡◌, ◌*◌, length, take}
use Rattle.nvm_model.specs.LineBytes.{pieces, word_bytes}
use Rattle.line_pages.proofs.page.bytes_of_line.Given as goal

abbrev pub invariant-loop-w : goal.invariant-loop-w
invariant-loop-w l = record {
  size : length l.bytes ≡ 64;
  written : take (8 * l.w) l.bytes ≡ pieces (word_bytes l.value.words) 0 l.w;
}
