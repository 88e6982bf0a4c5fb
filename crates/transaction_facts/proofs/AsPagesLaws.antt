-- From what the layers above see of a call to what it does to pages.
use Rattle.std.proofs.Common.{◌≡◌, ℕ, sym, ap, ◌∙◌, subst, inl, inr, arith, Result, Ok, Err}
use Rattle.std.specs.Prelude.{OnOk}
use Rattle.nvm_model.specs.declared.line.Line.{Line}
use Rattle.devices.specs.State.{State, Image, current, fresh}
use Rattle.devices.specs.World.{Standing, now}
use Rattle.line_pages.specs.declared.stop.Stop.{Stop}
use Rattle.store_model.specs.Layout.{Sizes, pages}
use Rattle.store_model.specs.Log.{Words}
use Rattle.store_model.specs.Format.{Format}
use Rattle.store_model.specs.Recovered.{lines_of, recovered_pages}
use Rattle.home_laws.proofs.FactsLaws.{current_leaves}
use Rattle.home_laws.proofs.RecoveredLaws.{lines_of-same}
use Rattle.tier_facts.specs.Shown.{IsStoreOf}
use Rattle.transaction_facts.specs.Books.{BookData, Goal, Holds, goal_committed}
use Rattle.transaction_facts.specs.Showing.{Showing, LinesAre, Committed, Either, lines_now}
use Rattle.transaction_facts.specs.AsPages.{KeepsCommitted, CommitsCurrent, IsSized, page_lines, committed_in}
use Rattle.transaction_facts.proofs.BookLaws.{holds_read}
use Rattle.transaction_facts.proofs.ShowingLaws.{OnOk_map, holds_seen, lines_goal}

OnOk_two : {T E : Type 0} {P Q R : Type 0} (r : Result T E) → (P → Q → R) → OnOk r P → OnOk r Q → OnOk r R
OnOk_two (Ok v) f p q = f p q
OnOk_two (Err e) f p q = tt

-- what one reads of a store recovers to the committed lines
committed_is : (b : BookData) (goal : Goal) (s : State) → Holds b goal s → committed_in b.format s ≡ lines_of (pages goal.sizes) goal.kept
committed_is b goal s it = ap (λ (f : Format). committed_in f s) it.format_same ∙ (holds_seen b goal s it (current s) (current_leaves s)).pages_are

-- and an image of these lines
left_is : {format : Format} {g : Sizes} {kept : Words} {i : Image} {lines : ℕ → ℕ → Line} → IsStoreOf format g kept i → (IsSized format g i → recovered_pages format i ≡ lines) → lines ≡ lines_of (pages g) kept
left_is is gives = sym (gives (record { store = is.store; sizes = is.sizes })) ∙ is.pages_are

-- a store of the goal as one of the book
of_book : (b : BookData) (goal : Goal) (s : State) → Holds b goal s → {kept : Words} {i : Image} → IsStoreOf goal.format goal.sizes kept i → IsStoreOf b.format b.tiers.sizes kept i
of_book b goal s it {kept} {i} is = subst (λ (f : Format). IsStoreOf f b.tiers.sizes kept i) (sym it.format_same) (subst (λ (g : Sizes). IsStoreOf goal.format g kept i) (sym it.facts.sizes_same) is)

-- the current lines are those of the goal
current_is : (b : BookData) (d : Standing) (goal : Goal) → Holds b goal (fresh (current (now d))) → page_lines b d ≡ lines_of (pages goal.sizes) goal.words
current_is b d goal it = lines_of-same (pages b.tiers.sizes) (lines_now b d) goal.words (λ p l w hp hl hw. lines_goal b d goal it p l w (record { page = hp; line = hl; word = hw }))
    ∙ ap (λ (g : Sizes). lines_of (pages g) goal.words) it.facts.sizes_same

-- of the devices themselves, too
current_of : (b : BookData) (d : Standing) (goal : Goal) → Holds b goal (now d) → page_lines b d ≡ lines_of (pages goal.sizes) goal.words
current_of b d goal it = current_is b d goal (holds_read b goal (now d) it)

pub keeps_committed : {T : Type 0} {old new : BookData} {a b : Standing} {r : Result T Stop} (changed : Words → Words) (later : Goal → Goal) → ((goal : Goal) → (later goal).sizes ≡ goal.sizes)
    → Showing Committed changed later old a new b r → KeepsCommitted changed old a new b r
keeps_committed {old = old} {new = new} {a = a} {b = b} {r = r} changed later sizes call = record {
  read = λ told it. OnOk_map r (λ (then : Holds new (later it.goal) (fresh (current (now b)))). record { goal = later it.goal; holds = then }) (call.read told it.goal it.holds);
  steady = λ told it. OnOk_map r (λ (then : Holds new (later it.goal) (now b)). record { goal = later it.goal; holds = then }) (call.steady told it.goal it.holds);
  shows = λ told it. OnOk_two r (λ (then : Holds new (later it.goal) (fresh (current (now b)))) (lines : LinesAre new b (changed (lines_now old a))).
      let same : new.tiers.sizes ≡ old.tiers.sizes = then.facts.sizes_same ∙ sizes it.goal ∙ sym it.holds.facts.sizes_same in
      lines_of-same (pages new.tiers.sizes) (lines_now new b) (changed (lines_now old a)) (λ p l w hp hl hw. lines.each p l w (record { page = hp; line = hl; word = hw }))
      ∙ ap (λ (g : Sizes). lines_of (pages g) (changed (lines_now old a))) same) (call.read told it.goal it.holds) (call.lines told it.goal it.holds);
  committed = λ told it. ap (λ (f : Format). committed_in f (now b)) it.holds.format_same
      ∙ ((call.read_seen told it.goal it.holds).each b.clock call.goes.clock (omega arith)).pages_are ∙ sym (committed_is old it.goal (fresh (current (now a))) it.holds);
  during = λ told it m low high lines left.
      left_is (of_book old it.goal (now a) it.holds ((call.seen told it.goal it.holds).each m low high left.0 (left.1))) left.2
      ∙ ap (λ (g : Sizes). lines_of (pages g) it.goal.kept) it.holds.facts.sizes_same
      ∙ sym (committed_is old it.goal (now a) it.holds);
}

pub commits_current : {T : Type 0} {old new : BookData} {a b : Standing} {r : Result T Stop} → Showing Either (λ words. words) goal_committed old a new b r → CommitsCurrent old a new b r
commits_current {old = old} {new = new} {a = a} {b = b} {r = r} call = record {
  read = λ told it. OnOk_map r (λ (then : Holds new (goal_committed it.goal) (fresh (current (now b)))). record { goal = goal_committed it.goal; holds = then }) (call.read told it.goal it.holds);
  steady = λ told it. OnOk_map r (λ (then : Holds new (goal_committed it.goal) (now b)). record { goal = goal_committed it.goal; holds = then }) (call.steady told it.goal it.holds);
  shows = λ told it. OnOk_map r (λ (then : Holds new (goal_committed it.goal) (fresh (current (now b)))). current_is new b (goal_committed it.goal) then ∙ sym (current_is old a it.goal it.holds)) (call.read told it.goal it.holds);
  committed = λ told it. OnOk_map r (λ (then : Holds new (goal_committed it.goal) (fresh (current (now b)))).
      ap (λ (f : Format). committed_in f (now b)) (it.holds.format_same ∙ sym then.format_same)
      ∙ committed_is new (goal_committed it.goal) (fresh (current (now b))) then ∙ sym (current_is old a it.goal it.holds)) (call.read told it.goal it.holds);
  during = λ told it m low high lines left.
      elim ((call.seen told it.goal it.holds).each m low high left.0 (left.1)) [
        | inl before ↦ inl (left_is (of_book old it.goal (now a) it.holds before) left.2
            ∙ ap (λ (g : Sizes). lines_of (pages g) it.goal.kept) it.holds.facts.sizes_same ∙ sym (committed_is old it.goal (now a) it.holds))
        | inr now_on ↦ inr (left_is (of_book old it.goal (now a) it.holds now_on) left.2
            ∙ ap (λ (g : Sizes). lines_of (pages g) it.goal.words) it.holds.facts.sizes_same ∙ sym (current_of old a it.goal it.holds))
      ];
}
