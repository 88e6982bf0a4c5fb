use Rattle.std.proofs.Common.{◌∙◌, sym, refl, arith}
use Rattle.std.proofs.lemmas.Bool.{ne_eqb}
use Rattle.page_format.specs.Node.{first_failing}
use Rattle.page_format.proofs.CheckLemmas.{inner_from}
use Rattle.page_format.proofs.check.check_inner.Goals as goal

pub returns-then-not-word_is-clause-err : goal.returns-then-not-word_is-clause-err
unfolding first_failing
returns-then-not-word_is-clause-err c = rw (ne_eqb c.args.expect.now.level 0 (λ e. omega (arith, e, c.requires)), sym c.word_is.ensures.is ∙ c.if-not-word_is.true) refl

pub returns-then-not-word_is-2-clause-err : goal.returns-then-not-word_is-2-clause-err
unfolding first_failing
returns-then-not-word_is-2-clause-err c = rw (ne_eqb c.args.expect.now.level 0 (λ e. omega (arith, e, c.requires)), sym c.word_is.ensures.is ∙ c.if-not-word_is.false, sym c.word_is-2.ensures.is ∙ c.if-not-word_is-2.true) refl

pub returns-then-not-number_fits-clause-err : goal.returns-then-not-number_fits-clause-err
unfolding first_failing
returns-then-not-number_fits-clause-err c = rw (ne_eqb c.args.expect.now.level 0 (λ e. omega (arith, e, c.requires)), sym c.word_is.ensures.is ∙ c.if-not-word_is.false, sym c.word_is-2.ensures.is ∙ c.if-not-word_is-2.false, sym c.number_fits.ensures ∙ c.if-not-number_fits.true) refl

pub returns-then-not-order_fits-clause-err : goal.returns-then-not-order_fits-clause-err
unfolding first_failing
returns-then-not-order_fits-clause-err c = rw (ne_eqb c.args.expect.now.level 0 (λ e. omega (arith, e, c.requires)), sym c.word_is.ensures.is ∙ c.if-not-word_is.false, sym c.word_is-2.ensures.is ∙ c.if-not-word_is-2.false, sym c.number_fits.ensures ∙ c.if-not-number_fits.false, sym c.order_fits.ensures ∙ c.if-not-order_fits.true) refl

pub returns-then-not-children_below-clause-err : goal.returns-then-not-children_below-clause-err
unfolding first_failing
returns-then-not-children_below-clause-err c = rw (ne_eqb c.args.expect.now.level 0 (λ e. omega (arith, e, c.requires)), sym c.word_is.ensures.is ∙ c.if-not-word_is.false, sym c.word_is-2.ensures.is ∙ c.if-not-word_is-2.false, sym c.number_fits.ensures ∙ c.if-not-number_fits.false, sym c.order_fits.ensures ∙ c.if-not-order_fits.false, sym c.children_below.ensures ∙ c.if-not-children_below.true) refl

pub returns-then-not-is_broad-clause-err : goal.returns-then-not-is_broad-clause-err
unfolding first_failing
returns-then-not-is_broad-clause-err c = rw (ne_eqb c.args.expect.now.level 0 (λ e. omega (arith, e, c.requires)), sym c.word_is.ensures.is ∙ c.if-not-word_is.false, sym c.word_is-2.ensures.is ∙ c.if-not-word_is-2.false, sym c.number_fits.ensures ∙ c.if-not-number_fits.false, sym c.order_fits.ensures ∙ c.if-not-order_fits.false, sym c.children_below.ensures ∙ c.if-not-children_below.false, sym c.is_broad.ensures ∙ c.if-not-is_broad.true) refl

pub returns-clause-ok : goal.returns-clause-ok
unfolding first_failing
returns-clause-ok c = rw (ne_eqb c.args.expect.now.level 0 (λ e. omega (arith, e, c.requires)), sym c.word_is.ensures.is ∙ c.if-not-word_is.false, sym c.word_is-2.ensures.is ∙ c.if-not-word_is-2.false, sym c.number_fits.ensures ∙ c.if-not-number_fits.false, sym c.order_fits.ensures ∙ c.if-not-order_fits.false, sym c.children_below.ensures ∙ c.if-not-children_below.false, sym c.is_broad.ensures ∙ c.if-not-is_broad.false) refl

pub order_fits-requires-clause-inner : goal.order_fits-requires-clause-inner
order_fits-requires-clause-inner c = inner_from c.args.page.now c.word_is.ensures.size (sym c.word_is.ensures.is ∙ c.if-not-word_is.false) (sym c.number_fits.ensures ∙ c.if-not-number_fits.false)

pub children_below-requires-clause-inner : goal.children_below-requires-clause-inner
children_below-requires-clause-inner c = inner_from c.args.page.now c.word_is.ensures.size (sym c.word_is.ensures.is ∙ c.if-not-word_is.false) (sym c.number_fits.ensures ∙ c.if-not-number_fits.false)
