use Rattle.std.proofs.Common.{◌≡◌, sym, ◌∙◌, ap, arith, length, drop}
use Rattle.std.proofs.lemmas.List.{length-drop}
use Rattle.std.proofs.lemmas.List.Quantifiers.{position-Some}
use Rattle.clock_sweep.specs.declared.clock.Slot.TheVariants.{Empty}
use Rattle.clock_sweep.specs.Circles.{circle_of}
use Rattle.clock_sweep.specs.Clock.{lowest_empty, is_empty}
use Rattle.clock_sweep.proofs.CircleLaws.{lowest-circle, length-circle_of}
use Rattle.clock_sweep.proofs.KeptLaws.{full-lowest, found-lowest, missed-lowest, searched}
use Rattle.clock_sweep.proofs.clock.Clock.empty.Goals as goal

pub returns-then-self-eq0-clause-lowest : goal.returns-then-self-eq0-clause-lowest
returns-then-self-eq0-clause-lowest c =
    let full = full-lowest c.self.inside.slots.items c.self.inside.hand c.self.inside.vacant c.self.inside.low c.self.invariant c.if-self-eq0.true in
    sym (ap lowest_empty (sym c.self.view_is) ∙ lowest-circle c.self.inside.slots.items c.self.inside.hand c.self.invariant.hand_in ∙ full)

pub returns-in-Some-clause-lowest : goal.returns-in-Some-clause-lowest
returns-in-Some-clause-lowest c =
    let first = searched _ c.self.inside.slots.items c.self.inside.low c.first_empty.result c.first_empty.ensures c.deref.ensures.value ∙ c.in-Some.is in
    let found = found-lowest c.self.inside.slots.items c.self.inside.hand c.self.inside.vacant c.self.inside.low c.in-Some.at c.self.invariant first in
    sym (ap lowest_empty (sym c.self.view_is) ∙ lowest-circle c.self.inside.slots.items c.self.inside.hand c.self.invariant.hand_in ∙ found)

pub returns-in-None-clause-lowest : goal.returns-in-None-clause-lowest
returns-in-None-clause-lowest c =
    let first = searched _ c.self.inside.slots.items c.self.inside.low c.first_empty.result c.first_empty.ensures c.deref.ensures.value ∙ c.in-None.is in
    let missed = missed-lowest c.self.inside.slots.items c.self.inside.hand c.self.inside.vacant c.self.inside.low c.self.invariant first in
    sym (ap lowest_empty (sym c.self.view_is) ∙ lowest-circle c.self.inside.slots.items c.self.inside.hand c.self.invariant.hand_in ∙ missed)

pub returns-in-Some-clause-within : goal.returns-in-Some-clause-within
returns-in-Some-clause-within c =
    let first = searched _ c.self.inside.slots.items c.self.inside.low c.first_empty.result c.first_empty.ensures c.deref.ensures.value ∙ c.in-Some.is in
    let inside = position-Some is_empty (drop c.self.inside.low c.self.inside.slots.items) c.in-Some.at Empty first in
    let rest = length-drop c.self.inside.low c.self.inside.slots.items in
    let size = length-circle_of c.self.inside.slots.items c.self.inside.hand in
    let shown : length (circle_of c.self.inside.slots.items c.self.inside.hand) ≡ length c.args.self.now = ap length c.self.view_is in
    omega (arith, inside.0)
