use Rattle.std.proofs.Common.{◌≡◌, ◌||◌, nat_lt, Bool, true, false, IsTrue, refl, sym, ap, subst, ◌∙◌}
use Rattle.std.specs.Prelude.{is_some, Result, IfOk}
use Rattle.line_pages.specs.declared.stop.Stop.{Stop}
use Rattle.rows.specs.Rows.{row_get}
use Rattle.std.proofs.lemmas.Bool.{lt-ltb, le-ltb}
use Rattle.std.proofs.Math.Bool.{or-true, or-false}
use Rattle.table_store.proofs.storing.has_room.Goals as goal

pub returns-then-place-limits-clause-room : goal.returns-then-place-limits-clause-room
returns-then-place-limits-clause-room g c = λ told rows used rooted.
    sym (ap (λ b. is_some (row_get c.args.key rows) || b) (lt-ltb c.args.place.now.entry.rows c.args.limits.now.rows c.if-place-limits.true) ∙ or-true (is_some (row_get c.args.key rows)))

pub returns-clause-room : goal.returns-clause-room
returns-clause-room g c = λ told rows used rooted.
    let b = is_some (row_get c.args.key rows) in
    let is : b ≡ (b || nat_lt c.args.place.now.entry.rows c.args.limits.now.rows) = sym (ap (λ x. b || x) (le-ltb c.args.place.now.entry.rows c.args.limits.now.rows c.if-place-limits.false) ∙ or-false b) in
    subst (λ x. IfOk c.has_row.result (λ room. room ≡ x)) is (c.has_row.ensures.found told rows used rooted)
