use Rattle.std.proofs.Common.{ℕ, [], ◌<◌, ◌++◌, List, length, ap, sym, ◌∙◌, arith}
use Rattle.std.specs.Prelude.{slice_index_or}
use Rattle.damage.specs.DamageText.{page_digits, dump}
use Rattle.damage.proofs.DamageLaws.{length-page_digits, page_digits-at}
use Rattle.damage.proofs.content.put_dump.Goals as goal

below : (page : List ℕ) (at : ℕ) → at < length (page_digits page) → at < 64
below page at h = omega (arith, length-page_digits page)

pub put_page_line-requires-clause-line : goal.put_page_line-requires-clause-line
put_page_line-requires-clause-line c = below c.args.page.now c.args.at (rw c.in-Page.is at c.requires.line)

pub returns-in-Page-clause-items : goal.returns-in-Page-clause-items
returns-in-Page-clause-items c =
    let within = below c.args.page.now c.args.at (rw c.in-Page.is at c.requires.line) in
    c.put_page_line.ensures.items
    ∙ ap (λ l. c.args.out.now.items ++ l) (sym (page_digits-at c.args.page.now c.args.at within))
    ∙ ap (λ e. c.args.out.now.items ++ slice_index_or (dump e c.args.page.now) c.args.at []) (sym c.in-Page.is)
