use Rattle.std.proofs.Common.{◌∙◌, sym, refl}
use Rattle.std.proofs.lemmas.Bool.{eq-eqb}
use Rattle.page_format.specs.Node.{first_failing}
use Rattle.page_format.proofs.SlotLemmas.{length_rows}
use Rattle.page_format.proofs.CheckLemmas.{sound_from}
use Rattle.page_format.proofs.check.check_leaf.Goals as goal

pub returns-then-not-word_is-clause-err : goal.returns-then-not-word_is-clause-err
unfolding first_failing
returns-then-not-word_is-clause-err c = rw (eq-eqb c.args.expect.now.level 0 c.requires, sym c.word_is.ensures.is ∙ c.if-not-word_is.true) refl

pub returns-then-not-word_is-2-clause-err : goal.returns-then-not-word_is-2-clause-err
unfolding first_failing
returns-then-not-word_is-2-clause-err c = rw (eq-eqb c.args.expect.now.level 0 c.requires, sym c.word_is.ensures.is ∙ c.if-not-word_is.false, sym c.word_is-2.ensures.is ∙ c.if-not-word_is-2.true) refl

pub returns-then-not-heap_fits-clause-err : goal.returns-then-not-heap_fits-clause-err
unfolding first_failing
returns-then-not-heap_fits-clause-err c = rw (eq-eqb c.args.expect.now.level 0 c.requires, sym c.word_is.ensures.is ∙ c.if-not-word_is.false, sym c.word_is-2.ensures.is ∙ c.if-not-word_is-2.false, sym c.heap_fits.ensures.fits ∙ c.if-not-heap_fits.true) refl

pub returns-then-not-records_fit-clause-err : goal.returns-then-not-records_fit-clause-err
unfolding first_failing
returns-then-not-records_fit-clause-err c = rw (eq-eqb c.args.expect.now.level 0 c.requires, sym c.word_is.ensures.is ∙ c.if-not-word_is.false, sym c.word_is-2.ensures.is ∙ c.if-not-word_is-2.false, sym c.heap_fits.ensures.fits ∙ c.if-not-heap_fits.false, sym c.records_fit.ensures ∙ c.if-not-records_fit.true) refl

pub returns-then-not-is_within-clause-err : goal.returns-then-not-is_within-clause-err
unfolding first_failing
returns-then-not-is_within-clause-err c = rw (eq-eqb c.args.expect.now.level 0 c.requires, sym c.word_is.ensures.is ∙ c.if-not-word_is.false, sym c.word_is-2.ensures.is ∙ c.if-not-word_is-2.false, sym c.heap_fits.ensures.fits ∙ c.if-not-heap_fits.false, sym c.records_fit.ensures ∙ c.if-not-records_fit.false, sym c.is_within.ensures ∙ c.if-not-is_within.true) refl

pub returns-then-not-keys_ascend-clause-err : goal.returns-then-not-keys_ascend-clause-err
unfolding first_failing
returns-then-not-keys_ascend-clause-err c = rw (eq-eqb c.args.expect.now.level 0 c.requires, sym c.word_is.ensures.is ∙ c.if-not-word_is.false, sym c.word_is-2.ensures.is ∙ c.if-not-word_is-2.false, sym c.heap_fits.ensures.fits ∙ c.if-not-heap_fits.false, sym c.records_fit.ensures ∙ c.if-not-records_fit.false, sym c.is_within.ensures ∙ c.if-not-is_within.false, sym c.keys_ascend.ensures ∙ c.if-not-keys_ascend.true) refl

pub returns-then-not-values_printable-clause-err : goal.returns-then-not-values_printable-clause-err
unfolding first_failing
returns-then-not-values_printable-clause-err c = rw (eq-eqb c.args.expect.now.level 0 c.requires, sym c.word_is.ensures.is ∙ c.if-not-word_is.false, sym c.word_is-2.ensures.is ∙ c.if-not-word_is-2.false, sym c.heap_fits.ensures.fits ∙ c.if-not-heap_fits.false, sym c.records_fit.ensures ∙ c.if-not-records_fit.false, sym c.is_within.ensures ∙ c.if-not-is_within.false, sym c.keys_ascend.ensures ∙ c.if-not-keys_ascend.false, sym c.values_printable.ensures ∙ c.if-not-values_printable.true) refl

pub returns-then-not-is_full-clause-err : goal.returns-then-not-is_full-clause-err
unfolding first_failing
returns-then-not-is_full-clause-err c = rw (eq-eqb c.args.expect.now.level 0 c.requires, sym c.word_is.ensures.is ∙ c.if-not-word_is.false, sym c.word_is-2.ensures.is ∙ c.if-not-word_is-2.false, sym c.heap_fits.ensures.fits ∙ c.if-not-heap_fits.false, sym c.records_fit.ensures ∙ c.if-not-records_fit.false, sym c.is_within.ensures ∙ c.if-not-is_within.false, sym c.keys_ascend.ensures ∙ c.if-not-keys_ascend.false, sym c.values_printable.ensures ∙ c.if-not-values_printable.false, sym c.is_full.ensures ∙ c.if-not-is_full.true) refl

pub returns-clause-ok : goal.returns-clause-ok
unfolding first_failing
returns-clause-ok c = rw (eq-eqb c.args.expect.now.level 0 c.requires, sym c.word_is.ensures.is ∙ c.if-not-word_is.false, sym c.word_is-2.ensures.is ∙ c.if-not-word_is-2.false, sym c.heap_fits.ensures.fits ∙ c.if-not-heap_fits.false, sym c.records_fit.ensures ∙ c.if-not-records_fit.false, sym c.is_within.ensures ∙ c.if-not-is_within.false, sym c.keys_ascend.ensures ∙ c.if-not-keys_ascend.false, sym c.values_printable.ensures ∙ c.if-not-values_printable.false, sym c.is_full.ensures ∙ c.if-not-is_full.false) refl

pub keys_ascend-requires-clause-count : goal.keys_ascend-requires-clause-count
keys_ascend-requires-clause-count c = c.page_word-count.ensures.value ∙ sym (length_rows c.args.page.now)

pub keys_ascend-requires-clause-sound : goal.keys_ascend-requires-clause-sound
keys_ascend-requires-clause-sound c = sound_from c.args.page.now c.word_is.ensures.size (sym c.word_is.ensures.is ∙ c.if-not-word_is.false) (sym c.word_is-2.ensures.is ∙ c.if-not-word_is-2.false) c.requires
    (sym c.heap_fits.ensures.fits ∙ c.if-not-heap_fits.false) (sym c.records_fit.ensures ∙ c.if-not-records_fit.false)

pub values_printable-requires-clause-count : goal.values_printable-requires-clause-count
values_printable-requires-clause-count c = c.page_word-count.ensures.value ∙ sym (length_rows c.args.page.now)

pub values_printable-requires-clause-sound : goal.values_printable-requires-clause-sound
values_printable-requires-clause-sound c = sound_from c.args.page.now c.word_is.ensures.size (sym c.word_is.ensures.is ∙ c.if-not-word_is.false) (sym c.word_is-2.ensures.is ∙ c.if-not-word_is-2.false) c.requires
    (sym c.heap_fits.ensures.fits ∙ c.if-not-heap_fits.false) (sym c.records_fit.ensures ∙ c.if-not-records_fit.false)
