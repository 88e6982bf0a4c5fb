use Rattle.std.proofs.Common.{◌≡◌, ◌≤◌, ◌<◌, ◌+◌, ◌-◌, ◌*◌, ◌/◌, ℕ, sym, ◌∙◌, arith}
use Rattle.page_format.specs.Marks.{marked_in}
use Rattle.page_format.proofs.MarkLaws.{marks_step, free_step, free_stop}
use Rattle.page_format.proofs.marks.Marks.take.Goals.{In-loop-word}
use Rattle.page_format.proofs.marks.Marks.take.Goals as goal

-- what is left of the record begins in the word, and the part runs on from what is marked
record IsPart (place size at word until : ℕ) : Type 0 where
  low : 64 * word ≤ at
  some : at < 64 * word + until
  begin : 64 * word + (at - 64 * word) ≡ place + (at - place)
  size_is : 64 * word + until - place ≡ at - place + (until - (at - 64 * word))
  within : at - place + (until - (at - 64 * word)) ≤ size

part : (place size at word until : ℕ) → 1 ≤ size → word < (place + size - 1) / 64 + 1 → place ≤ at → at ≤ place + size → at < 64 * word + 64 → (at < place + size → 64 * word ≤ at)
    → (place + size ≤ at → place + size ≤ 64 * word) → 64 * word + until ≤ place + size → (64 * word + until < place + size → until ≡ 64) → IsPart place size at word until
part place size at word until some turn from until_end before reached ended fits whole =
    let unended : at < place + size = grind arith in
    let low : 64 * word ≤ at = reached unended in
    let more : at < 64 * word + until = grind arith in
    record { low = low; some = more; begin = omega arith; size_is = omega arith; within = omega arith }

part_at : (c : In-loop-word) (until : ℕ) → 64 * c.loop-word.word + until ≤ c.args.place + c.args.size → (64 * c.loop-word.word + until < c.args.place + c.args.size → until ≡ 64)
    → IsPart c.args.place c.args.size c.loop-word.at c.loop-word.word until
part_at c until fits whole =
    let loop = c.loop-word.invariant in
    part c.args.place c.args.size c.loop-word.at c.loop-word.word until c.requires.some c.loop-word-test.true loop.from loop.until loop.before loop.reached loop.ended fits whole

pub take_part-requires-clause-some : goal.take_part-requires-clause-some
take_part-requires-clause-some c =
    let is = part_at (goal.at.take_part-requires-clause-some c).In-loop-word _ c.part_of-until.ensures.before c.part_of-until.ensures.whole in
    omega (arith, is.some, is.low)

pub returns-then-not-take_part-clause-free : goal.returns-then-not-take_part-clause-free
returns-then-not-take_part-clause-free c =
    let is = part_at (goal.at.returns-then-not-take_part-clause-free c).In-loop-word _ c.part_of-until.ensures.before c.part_of-until.ensures.whole in
    let loop = c.loop-word.invariant in
    free_stop (marked_in c.args.self.now.words) (marked_in c.loop-word.self.words) c.args.place _ _ _ c.args.size is.begin is.within loop.marks (sym c.take_part.ensures.free ∙ c.if-not-take_part.true)

pub loop-word-preserved : goal.loop-word-preserved
loop-word-preserved c =
    let is = part_at (goal.at.loop-word-preserved c).In-loop-word _ c.part_of-until.ensures.before c.part_of-until.ensures.whole in
    let loop = c.loop-word.invariant in
    record {
      from = omega (arith, loop.from, is.some);
      until = c.part_of-until.ensures.before;
      before = omega (arith, c.part_of-until.ensures.within);
      reached = λ more. omega (arith, c.part_of-until.ensures.whole more);
      ended = λ done. omega (arith, done, c.part_of-until.ensures.within);
      free = free_step (marked_in c.args.self.now.words) (marked_in c.loop-word.self.words) c.args.place _ _ _ _ is.begin is.size_is loop.marks loop.free (sym c.take_part.ensures.free ∙ c.if-not-take_part.false);
      marks = marks_step (marked_in c.args.self.now.words) (marked_in c.loop-word.self.words) (marked_in c.take_part.new.self.words) c.args.place _ _ _ _ is.begin is.size_is loop.marks c.take_part.ensures.marks;
    }
