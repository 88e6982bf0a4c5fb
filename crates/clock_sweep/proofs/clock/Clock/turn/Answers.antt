use Rattle.std.proofs.Common.{◌≡◌, ◌<◌, ◌⊎◌, inl, inr, length, arith, ◌∙◌, ap, get_or, set}
use Rattle.clock_sweep.specs.declared.clock.Slot.TheVariants.{Empty}
use Rattle.clock_sweep.specs.Circles.{circle_of, left_behind, found_at}
use Rattle.clock_sweep.proofs.CircleLaws.{turn, found_in, length-circle_of}
use Rattle.clock_sweep.proofs.KeptLaws.{after_look, vacancies, written}
use Rattle.clock_sweep.proofs.clock.Clock.turn.Goals as goal

pub under_hand-place-requires-clause-some : goal.under_hand-place-requires-clause-some
under_hand-place-requires-clause-some c =
    let size = length-circle_of c.self.inside.slots.items c.self.inside.hand in
    let shown : length (circle_of c.self.inside.slots.items c.self.inside.hand) ≡ length c.args.self.now = ap length c.self.view_is in
    let same = c.self.inside.slots.ok.0 in
    omega (arith, c.requires.some)

pub vacant_found-self-inside-requires : goal.vacant_found-self-inside-requires
vacant_found-self-inside-requires c =
    let most = vacancies c.self.inside.slots.items in
    let counted = c.self.invariant.counted in
    let few = c.self.invariant.few in
    omega arith

pub invariant_of-self : goal.invariant_of-self
invariant_of-self c =
    let same = c.self.inside.slots.ok.0 in
    let within : c.under_hand-place.result < length c.self.inside.slots.items = omega (arith, c.under_hand-place.ensures.within) in
    after_look c.self.inside.slots c.self.inside.hand c.self.inside.vacant c.self.inside.low c.under_hand-place.result _ _ c.pass-found.result _ _ c.self.invariant within
    c.deref_mut.ensures.value c.pass-found.ensures.found c.pass-found.ensures.slots c.vacant_found-self-inside.ensures c.low_found-self-inside.ensures

pub returns-clause-turned : goal.returns-clause-turned
returns-clause-turned c =
    let same = c.self.inside.slots.ok.0 in
    let within : c.under_hand-place.result < length c.self.inside.slots.items = omega (arith, c.under_hand-place.ensures.within) in
    let under : (c.under_hand-place.result ≡ c.self.inside.hand) ⊎ ((c.under_hand-place.result ≡ 0) × (c.self.inside.hand ≡ length c.self.inside.slots.items)) =
    elim c.under_hand-place.ensures.value [ inl e ↦ inl e | inr e ↦ inr (e.0, omega arith) ] in
    let value = c.deref_mut.ensures.value in
    let slots = written c.self.inside.slots _ _ c.under_hand-place.result (left_behind (get_or c.self.inside.slots.items c.under_hand-place.result Empty)) value
    (c.pass-found.ensures.slots ∙ ap (λ xs. set c.deref_mut.result.now c.under_hand-place.result (left_behind (get_or xs c.under_hand-place.result Empty))) value) in
    let found = c.pass-found.ensures.found ∙ ap (λ xs. found_at (get_or xs c.under_hand-place.result Empty) c.under_hand-place.result) value in
    rw (slots, found, ← c.self.view_is) (turn c.self.inside.slots.items c.self.inside.hand c.under_hand-place.result under within)

pub returns-clause-within : goal.returns-clause-within
returns-clause-within c =
    let same = c.self.inside.slots.ok.0 in
    let size = length-circle_of c.self.inside.slots.items c.self.inside.hand in
    let shown : length (circle_of c.self.inside.slots.items c.self.inside.hand) ≡ length c.args.self.now = ap length c.self.view_is in
    rw c.pass-found.ensures.found (found_in (get_or c.deref_mut.result.now c.under_hand-place.result Empty) c.under_hand-place.result (length c.args.self.now) (omega (arith, c.under_hand-place.ensures.within)))
