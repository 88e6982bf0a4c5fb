use Rattle.std.proofs.Common.{arith, sym, ◌∙◌}
use Rattle.page_format.proofs.InnerLemmas.{length_children}
use Rattle.page_format.proofs.PageFacts.{inner_facts, inner_of_well}
use Rattle.page_format.proofs.scan.open_inner.Goals as goal

pub returns-clause-inner : goal.returns-clause-inner
returns-clause-inner c = inner_of_well c.args.page.now c.args.expect.now c.page_word.ensures.size (λ e. omega (arith, e, c.requires.inner)) c.requires.well

pub returns-clause-count : goal.returns-clause-count
returns-clause-count c = c.page_word.ensures.value ∙ sym (length_children c.args.page.now)

pub returns-clause-some : goal.returns-clause-some
returns-clause-some c = omega (arith, c.page_word.ensures.value, (inner_facts c.args.page.now c.args.expect.now (λ e. omega (arith, e, c.requires.inner)) c.requires.well).some)

pub returns-clause-few : goal.returns-clause-few
returns-clause-few c = omega (arith, c.page_word.ensures.value, (inner_facts c.args.page.now c.args.expect.now (λ e. omega (arith, e, c.requires.inner)) c.requires.well).room)
