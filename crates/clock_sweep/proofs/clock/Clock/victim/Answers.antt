use Rattle.std.proofs.Common.{◌≡◌, ◌+◌, ◌-◌, ◌*◌, ◌≤◌, ◌<◌, ◌^◌, ℕ, length, List, arith, refl, ◌∙◌, ap}
use Rattle.std.specs.Prelude.{Some}
use Rattle.clock_sweep.specs.declared.clock.Slot.{Slot}
use Rattle.clock_sweep.specs.Clock.{Circle, Swept, victim}
use Rattle.clock_sweep.specs.Circles.{circle_of}
use Rattle.clock_sweep.proofs.CircleLaws.{length-circle_of}
use Rattle.clock_sweep.proofs.ClockLaws.{later, later_none, later_later, victim-some, victim-steps, sweep_on, sweep_ends, length-turned}
use Rattle.clock_sweep.proofs.clock.Clock.victim.Goals as goal

few : (slots : List Slot) (hand : ℕ) (circle : Circle) → circle_of slots hand ≡ circle → length slots < 2 ^ 32 → length circle < 2 ^ 32
few slots hand circle e h = rw (← e) (omega (arith, length-circle_of slots hand))

-- what is left of the sweep is no longer than the whole
so_far : (circle : Circle) (v : Swept) (n : ℕ) → victim circle ≡ Some (later n v) → v.steps + n ≤ 2 * length circle
so_far circle v n h = victim-steps circle (later n v) h

pub sweep-init : goal.sweep-init
sweep-init c =
    let found = victim-some c.args.self.now c.requires.stands in
    let none : c.args.steps.now - c.args.steps.now ≡ 0 = omega arith in
    record {
      counted = omega arith;
      rest = (found.0, found.1, rw (none, later_none found.0) found.1);
      size = refl;
    }

pub turn-requires-clause-room : goal.turn-requires-clause-room
turn-requires-clause-room c =
    let short = few c.self.inside.slots.items c.self.inside.hand c.args.self.now c.self.view_is c.self.invariant.few in
    let bound = so_far c.args.self.now c.sweep.invariant.rest.0 (c.sweep.steps - c.args.steps.now) c.sweep.invariant.rest.2 in
    let counted = c.sweep.invariant.counted in
    omega arith

pub returns-in-Some-clause-victim : goal.returns-in-Some-clause-victim
returns-in-Some-clause-victim c =
    let ends = sweep_ends c.sweep.self c.turn.new.self c.in-Some.place c.sweep.invariant.rest.0 c.sweep.invariant.rest.1 c.in-Some.ensures.turned in
    let counted = c.sweep.invariant.counted in
    let step = c.turn.ensures.step in
    let steps : 1 + (c.sweep.steps - c.args.steps.now) ≡ c.turn.new.steps - c.args.steps.now = omega arith in
    c.sweep.invariant.rest.2
    ∙ ap (λ v. Some (later (c.sweep.steps - c.args.steps.now) v)) ends
    ∙ ap (λ n. Some (record { place = c.in-Some.place; steps = n; clock = c.turn.new.self })) steps

pub returns-in-Some-clause-bound : goal.returns-in-Some-clause-bound
returns-in-Some-clause-bound c =
    let ends = sweep_ends c.sweep.self c.turn.new.self c.in-Some.place c.sweep.invariant.rest.0 c.sweep.invariant.rest.1 c.in-Some.ensures.turned in
    let one : c.sweep.invariant.rest.0.steps ≡ 1 = ap (λ v. v.steps) ends in
    let bound = so_far c.args.self.now c.sweep.invariant.rest.0 (c.sweep.steps - c.args.steps.now) c.sweep.invariant.rest.2 in
    let counted = c.sweep.invariant.counted in
    let step = c.turn.ensures.step in
    omega arith

pub sweep-preserved : goal.sweep-preserved
sweep-preserved c =
    let on = sweep_on c.sweep.self c.turn.new.self c.sweep.invariant.rest.0 c.sweep.invariant.rest.1 c.in_default.ensures.turned in
    let counted = c.sweep.invariant.counted in
    let step = c.turn.ensures.step in
    let steps : 1 + (c.sweep.steps - c.args.steps.now) ≡ c.turn.new.steps - c.args.steps.now = omega arith in
    let places : length c.turn.new.self ≡ length c.sweep.self = ap (λ t. length t.1) c.in_default.ensures.turned ∙ length-turned c.sweep.self in
    record {
      counted = omega arith;
      rest = (
        on.0,
        on.1,
        c.sweep.invariant.rest.2
            ∙ ap (λ v. Some (later (c.sweep.steps - c.args.steps.now) v)) on.2
            ∙ ap Some (later_later 1 (c.sweep.steps - c.args.steps.now) on.0)
            ∙ ap (λ n. Some (later n on.0)) steps,
      );
      size = places ∙ c.sweep.invariant.size;
    }

pub sweep-smaller : goal.sweep-smaller
sweep-smaller c =
    let on = sweep_on c.sweep.self c.turn.new.self c.sweep.invariant.rest.0 c.sweep.invariant.rest.1 c.in_default.ensures.turned in
    let longer : c.sweep.invariant.rest.0.steps ≡ on.0.steps + 1 = ap (λ v. v.steps) on.2 in
    rw (on.1, c.sweep.invariant.rest.1) (omega arith)

pub returns-in-Some-clause-within : goal.returns-in-Some-clause-within
returns-in-Some-clause-within c =
    let places : length c.turn.new.self ≡ length c.sweep.self = ap (λ t. length t.1) c.in-Some.ensures.turned ∙ length-turned c.sweep.self in
    omega (arith, c.in-Some.ensures.within)
