use Rattle.std.proofs.Common.{◌≡◌, ◌≤◌, ◌<◌, ◌+◌, ◌-◌, ◌*◌, true}
use Rattle.page_format.specs.Marks.{marked_in, with_run, all_free}
use Rattle.page_format.proofs.marks.Marks.take.Given as goal

abbrev pub invariant-loop-word : goal.invariant-loop-word
invariant-loop-word l = record {
  from : l.place ≤ l.at;
  until : l.at ≤ l.place + l.size;
  before : l.at < 64 * l.word + 64;
  reached : l.at < l.place + l.size → 64 * l.word ≤ l.at;
  ended : l.place + l.size ≤ l.at → l.place + l.size ≤ 64 * l.word;
  free : all_free (marked_in l.fn.self.words) l.place (l.at - l.place) ≡ true;
  marks : marked_in l.self.words ≡ with_run l.place (l.at - l.place) (marked_in l.fn.self.words);
}
