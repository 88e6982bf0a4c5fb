-- A line feed has the line answered; another byte is kept where there is room.
use Rattle.std.proofs.Common.{rules, arith, ◌≡◌, ◌≤◌, [], ◌++◌, length, Ok, Err, subst, sym, ◌∙◌, ap}
use Rattle.std.proofs.lemmas.Bool.Decides.{nat_tests}
use Rattle.script.specs.Grammar.{command_in, commands}
use Rattle.texts.specs.Lines.{IsOneLine}
use Rattle.texts.proofs.LinesLaws.{IsOneLine-empty, IsOneLine-push}
use Rattle.engine.specs.Steps.{after_line}
use Rattle.runner.proofs.TalkLaws.{talks_refl, on_ok, on_err, ok_of}
use Rattle.runner.proofs.RunLaws.{comes_of, comes_err}
use Rattle.runner.proofs.ByteLaws.{owes_same, comes_same, line_ends, line_grows, line_full, idle}
use Rattle.engine.specs.Resting.{AreReads}
use Rattle.runner.proofs.RestLaws.{reads_first, reads_rest, well, halted}
use Rattle.runner.proofs.running.take_byte.Goals as goal

pub returns-in_ok-answer-clause-one : goal.returns-in_ok-answer-clause-one
returns-in_ok-answer-clause-one g c = let empty : [] ≡ c.clear.new.self.items = search rules in subst IsOneLine empty IsOneLine-empty

pub returns-in_ok-answer-clause-comes : goal.returns-in_ok-answer-clause-comes
returns-in_ok-answer-clause-comes g c = λ aim s more told owes.
    let line : c.args.kept.now.items ≡ c.as_slice.result.now = search rules in
    let empty : [] ≡ c.clear.new.self.items = search rules in
    let first = line_ends c.args.kept.now.items more c.args.byte c.requires.one c.if-byte-eq-LINE_FEED.true ∙ ap (λ l. command_in l ++ commands more) line in
    comes_same {r = Ok tt} (ap (λ l. commands (l ++ more)) empty) (comes_of {s = after_line c.args.engine.now (command_in c.as_slice.result.now) s} {r = Ok tt} (c.in_ok-answer.ensures.proceeds aim s (commands more) told (owes_same first owes)))

pub returns-then-not-is_full-clause-one : goal.returns-then-not-is_full-clause-one
returns-then-not-is_full-clause-one g c = subst IsOneLine (sym c.push.ensures.items) (IsOneLine-push c.requires.one c.if-byte-eq-LINE_FEED.false)

pub returns-then-not-is_full-clause-comes : goal.returns-then-not-is_full-clause-comes
returns-then-not-is_full-clause-comes g c = λ aim s more told owes.
    idle c.requires.ready told (line_grows c.args.kept.now.items more c.args.byte ∙ ap (λ l. commands (l ++ more)) (sym c.push.ensures.items)) owes

pub returns-else-not-is_full-clause-comes : goal.returns-else-not-is_full-clause-comes
returns-else-not-is_full-clause-comes g c = λ aim s more told owes.
    let full : 1025 ≤ length c.args.kept.now.items = grind (arith, nat_tests, c.is_full.ensures.value, c.is_full.ensures.fits, c.if-not-is_full.false) in
    idle c.requires.ready told (line_full c.args.kept.now.items more c.args.byte full c.requires.one c.if-byte-eq-LINE_FEED.false) owes

pub returns-in_err-answer-clause-comes : goal.returns-in_err-answer-clause-comes
returns-in_err-answer-clause-comes g c = λ aim s more told owes.
    let line : c.args.kept.now.items ≡ c.as_slice.result.now = sym c.as_slice.ensures.value in
    let first = line_ends c.args.kept.now.items more c.args.byte c.requires.one c.if-byte-eq-LINE_FEED.true ∙ ap (λ l. command_in l ++ commands more) line in
    comes_err c.from_residual.result _ c.from_residual.ensures (comes_of {s = after_line c.args.engine.now (command_in c.as_slice.result.now) s} {r = Err c.in_err-answer.field-0.0} (c.in_err-answer.ensures.proceeds aim s (commands more) told (owes_same first owes)))

-- ---- where nothing was written so far

pub returns-in_ok-answer-clause-reads : goal.returns-in_ok-answer-clause-reads
returns-in_ok-answer-clause-reads g c = λ lines more told rests are.
    let line : c.args.kept.now.items ≡ c.as_slice.result.now = search rules in
    let empty : [] ≡ c.clear.new.self.items = search rules in
    let first = line_ends c.args.kept.now.items more c.args.byte c.requires.one c.if-byte-eq-LINE_FEED.true ∙ ap (λ l. command_in l ++ commands more) line in
    well _ (c.in_ok-answer.ensures.reads lines told rests (reads_first (command_in c.as_slice.result.now) (commands more) first are)).stays
    (subst (λ l. AreReads (commands (l ++ more))) empty (reads_rest (command_in c.as_slice.result.now) (commands more) first are))

pub returns-in_err-answer-clause-reads : goal.returns-in_err-answer-clause-reads
returns-in_err-answer-clause-reads g c = λ lines more told rests are.
    let line : c.args.kept.now.items ≡ c.as_slice.result.now = sym c.as_slice.ensures.value in
    let first = line_ends c.args.kept.now.items more c.args.byte c.requires.one c.if-byte-eq-LINE_FEED.true ∙ ap (λ l. command_in l ++ commands more) line in
    halted c.from_residual.result _ c.from_residual.ensures (c.in_err-answer.ensures.reads lines told rests (reads_first (command_in c.as_slice.result.now) (commands more) first are)).shows

pub returns-then-not-is_full-clause-reads : goal.returns-then-not-is_full-clause-reads
returns-then-not-is_full-clause-reads g c = λ lines more told rests are.
    well _ rests (subst AreReads (line_grows c.args.kept.now.items more c.args.byte ∙ ap (λ l. commands (l ++ more)) (sym c.push.ensures.items)) are)

pub returns-else-not-is_full-clause-reads : goal.returns-else-not-is_full-clause-reads
returns-else-not-is_full-clause-reads g c = λ lines more told rests are.
    let full : 1025 ≤ length c.args.kept.now.items = grind (arith, nat_tests, c.is_full.ensures.value, c.is_full.ensures.fits, c.if-not-is_full.false) in
    well _ rests (subst AreReads (line_full c.args.kept.now.items more c.args.byte full c.requires.one c.if-byte-eq-LINE_FEED.false) are)

-- ---- what is sent

pub returns-in_ok-answer-clause-talks : goal.returns-in_ok-answer-clause-talks
returns-in_ok-answer-clause-talks g c = on_ok _ (ok_of _ c.in_ok-answer.ensures.talks)

pub returns-in_err-answer-clause-talks : goal.returns-in_err-answer-clause-talks
returns-in_err-answer-clause-talks g c = on_err c.from_residual.result _ c.from_residual.ensures c.in_err-answer.ensures.talks

pub returns-then-not-is_full-clause-talks : goal.returns-then-not-is_full-clause-talks
returns-then-not-is_full-clause-talks g c = on_ok _ (talks_refl _)

pub returns-else-not-is_full-clause-talks : goal.returns-else-not-is_full-clause-talks
returns-else-not-is_full-clause-talks g c = on_ok _ (talks_refl _)
