use Rattle.std.proofs.Common.{◌≡◌, length, arith, ◌∙◌, ap}
use Rattle.std.specs.Prelude.{slice_index_or}
use Rattle.std.proofs.lemmas.List.Sums.{get_or-le-sum_by}
use Rattle.clock_sweep.specs.declared.clock.Slot.TheVariants.{Empty}
use Rattle.clock_sweep.specs.Circles.{circle_of, vacancy}
use Rattle.clock_sweep.proofs.CircleLaws.{circle-set, length-circle_of}
use Rattle.clock_sweep.proofs.KeptLaws.{kept-put, vacancies, written}
use Rattle.clock_sweep.proofs.clock.Clock.put.Goals as goal

pub replace_slot-before-requires : goal.replace_slot-before-requires
replace_slot-before-requires c =
    let size = length-circle_of c.self.inside.slots.items c.self.inside.hand in
    let shown : length (circle_of c.self.inside.slots.items c.self.inside.hand) ≡ length c.args.self.now = ap length c.self.view_is in
    rw c.deref_mut.ensures.value (omega (arith, c.requires))

pub vacant_after-self-inside-requires-clause-counted : goal.vacant_after-self-inside-requires-clause-counted
vacant_after-self-inside-requires-clause-counted c =
    let size = length-circle_of c.self.inside.slots.items c.self.inside.hand in
    let shown : length (circle_of c.self.inside.slots.items c.self.inside.hand) ≡ length c.args.self.now = ap length c.self.view_is in
    let one = get_or-le-sum_by vacancy c.self.inside.slots.items c.args.place Empty (omega (arith, c.requires)) in
    let counted = c.self.invariant.counted in
    rw (c.replace_slot-before.ensures.before, c.deref_mut.ensures.value) (omega arith)

pub vacant_after-self-inside-requires-clause-few : goal.vacant_after-self-inside-requires-clause-few
vacant_after-self-inside-requires-clause-few c =
    let most = vacancies c.self.inside.slots.items in
    let counted = c.self.invariant.counted in
    let few = c.self.invariant.few in
    omega arith

pub invariant_of-self : goal.invariant_of-self
invariant_of-self c =
    let size = length-circle_of c.self.inside.slots.items c.self.inside.hand in
    let shown : length (circle_of c.self.inside.slots.items c.self.inside.hand) ≡ length c.args.self.now = ap length c.self.view_is in
    let before = c.replace_slot-before.ensures.before ∙ ap (λ slots. slice_index_or slots c.args.place Empty) c.deref_mut.ensures.value in
    let count = rw before at c.vacant_after-self-inside.ensures in
    rw (written c.self.inside.slots _ _ c.args.place c.args.slot c.deref_mut.ensures.value c.replace_slot-before.ensures.slots, c.low_after-self-inside.ensures)
    (kept-put c.self.inside.slots.items c.self.inside.hand c.self.inside.vacant c.self.inside.low c.args.place c.args.slot c.vacant_after-self-inside.result c.self.invariant (omega (arith, c.requires)) count)

pub returns : goal.returns
returns c =
    rw (written c.self.inside.slots _ _ c.args.place c.args.slot c.deref_mut.ensures.value c.replace_slot-before.ensures.slots, ← c.self.view_is)
    (circle-set c.self.inside.slots.items c.self.inside.hand c.args.place c.args.slot)
