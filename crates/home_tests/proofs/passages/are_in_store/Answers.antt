-- One line more has a place.
use Rattle.std.proofs.Common.{inl, inr, arith, sym, subst}
use Rattle.std.proofs.lemmas.Bool.{cases_eq}
use Rattle.nvm_layout.specs.Sizes.{sizes_of}
use Rattle.home_tests.specs.Replay.{IsInStore, nth}
use Rattle.home_tests.proofs.passages.are_in_store.Goals as goal

pub loop-at-init : goal.loop-at-init
loop-at-init c = record { each = λ k less. absurd (omega arith) }

pub loop-at-preserved : goal.loop-at-preserved
loop-at-preserved c = record {
  each = λ k less. elim (cases_eq k c.loop-at.at) [
    | inl here ↦ subst (λ n. IsInStore (sizes_of c.args.geometry.now) (nth c.args.lines.now n)) (sym here) (c.is_in_store.ensures c.if-not-is_in_store.false)
    | inr other ↦ c.loop-at.invariant.each k (omega arith)
  ];
}

pub returns : goal.returns
returns c found = record { each = λ k less. c.loop-at.invariant.each k (omega arith) }
