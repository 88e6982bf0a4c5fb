use Rattle.std.proofs.Common.{ℕ, refl, sym, ◌∙◌, arith}
use Rattle.std.specs.Prelude.{Option, Some, None, IsSome, OnSome}
use Rattle.migration_policy.specs.Admission.{asked}
use Rattle.migration_policy.proofs.QueueLaws.{found_queued, not_queued}
use Rattle.migration_policy.proofs.queue.AdmissionQueue.ask.Goals as goal

pub returns-in-Some-clause-answer : goal.returns-in-Some-clause-answer
returns-in-Some-clause-answer c =
    let found = found_queued c.args.page c.self.inside.pages.items c.in-Some.at (sym c.place_of.ensures ∙ c.in-Some.is) in
    rw (← c.self.view_is) (sym found.1)

on_some : (o : Option ℕ) (P : Type 0) → IsSome o → OnSome o P → P
on_some None P some on = absurd (cc)
on_some (Some x) P some on = on

pub returns-in-Some-clause-queue : goal.returns-in-Some-clause-queue
unfolding asked
returns-in-Some-clause-queue c =
    let found = found_queued c.args.page c.self.inside.pages.items c.in-Some.at (sym c.place_of.ensures ∙ c.in-Some.is) in
    let same = c.self.inside.pages.ok.0 in
    let items = on_some c.remove.result _ (c.remove.ensures.variant.1 (omega (arith, found.0))) c.remove.ensures.items in
    rw (← c.self.view_is, found.1, found.2, items) refl

pub returns-clause-answer : goal.returns-clause-answer
returns-clause-answer c =
    let none = not_queued c.args.page c.self.inside.pages.items (λ i some. c.in_default.not-Some i (c.place_of.ensures ∙ some)) in
    rw (← c.self.view_is) (sym none)

pub returns-clause-queue : goal.returns-clause-queue
unfolding asked
returns-clause-queue c =
    let none = not_queued c.args.page c.self.inside.pages.items (λ i some. c.in_default.not-Some i (c.place_of.ensures ∙ some)) in
    rw (← c.self.view_is, none, c.put_last.ensures.items) refl
