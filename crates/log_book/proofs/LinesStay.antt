-- The lines of the log, and those behind its tail, over a call that keeps an aim: and so the open group stays.
use Rattle.std.proofs.Common.{◌≡◌, ℕ, zero, suc, ◌+◌, ◌-◌, ◌<◌, ◌≤◌, List, length, get_or, drop, refl, sym, ap, ◌∙◌, subst, inl, inr, arith}
use Rattle.std.proofs.lemmas.Bool.{cases_lt}
use Rattle.nvm_model.specs.declared.line.Line.{Line}
use Rattle.devices.specs.State.{State, current}
use Rattle.store_model.specs.Layout.{Sizes, ring_line}
use Rattle.store_model.specs.Log.{Words}
use Rattle.store_model.specs.Format.{Format, word_in, zero_line}
use Rattle.store_model.specs.Recovered.{Super, from}
use Rattle.store_model.specs.Put.{CanPut, IsLine}
use Rattle.home_laws.proofs.PutLaws.{log_line-in_nvm}
use Rattle.home_laws.proofs.RecoveredLaws.{line_of-same}
use Rattle.nvm_log.specs.Offsets.{Offsets}
use Rattle.log_records.specs.Heads.{Headed, HeadsOf}
use Rattle.log_records.specs.OpenGroup.{OpenGroup, lines_in}
use Rattle.log_records.proofs.HeadLaws.{heads_same}
use Rattle.log_records.proofs.OpenGroupLaws.{group_same, lines_of_log}
use Rattle.tier_facts.specs.Data.{Data}
use Rattle.tier_facts.specs.Facts.{Aim, Facts, Waits, aim_sizes}
use Rattle.tier_facts.proofs.PlaceLaws.{can}
use Rattle.log_book.proofs.DrainOpen.{log_is}

-- places of equal lists
from_each : (f g : ℕ → Line) (at n : ℕ) → from f at n ≡ from g at n → (o : ℕ) → at ≤ o → o < at + n → f o ≡ g o
from_each f g at zero same o above below = absurd (omega arith)
from_each f g at (suc n) same o above below = elim (cases_lt at o) [
  | inl later ↦ from_each f g (at + 1) n (ap (λ (xs : List Line). drop 1 xs) same) o (omega arith) (omega arith)
  | inr here ↦ (let is : at ≡ o = omega arith in subst (λ n. f n ≡ g n) is (ap (λ (xs : List Line). get_or xs 0 zero_line) same))
]

-- the offsets of an aim's log, and of what stands behind it
pub record StandsAs (aim : Aim) (at : Offsets) : Type 0 where
  pub start : at.start ≡ aim.super.start
  pub drained : at.drained ≡ aim.super.drained
  pub tail : at.tail ≡ aim.super.tail
  pub written : at.tail + length aim.behind ≡ at.written

-- one of those behind the tail
behind_line : (aim : Aim) (s : State) (g : Sizes) (at : Offsets) → Waits aim s → ((k : ℕ) → k < length aim.behind → IsLine (get_or aim.behind k zero_line)) → aim_sizes aim ≡ g → StandsAs aim at → at.drained ≤ at.tail
    → (k : ℕ) → k < length aim.behind → lines_in g at s (at.tail + k) ≡ get_or aim.behind k zero_line
behind_line aim s g at waits are_lines sizes stands order k less =
    log_line-in_nvm g at.drained (current s) (at.tail + k) (omega arith)
    ∙ line_of-same _ (word_in (get_or aim.behind k zero_line)) (λ w hw.
    subst (λ (x : Sizes). (s.nvm (ring_line x (at.tail + k)) w).newest ≡ word_in (get_or aim.behind k zero_line) w) sizes
    (subst (λ n. (s.nvm (ring_line (aim_sizes aim) (n + k)) w).newest ≡ word_in (get_or aim.behind k zero_line) w) (sym stands.tail) (waits k w less hw).newest))
    ∙ are_lines k less

module _ {t u : Data} {aim : Aim} {words : Words} {s n : State} (before : Facts t aim s) (after : Facts u (record aim { words = words }) n)
    (are_lines : (k : ℕ) → k < length aim.behind → IsLine (get_or aim.behind k zero_line)) (at : Offsets) (stands : StandsAs aim at) where
  gates : CanPut s 0
  gates = can t aim s before

  order : at.drained ≤ at.tail
  order =
      let low : aim.super.drained ≤ aim.super.tail = subst (λ (x : Super). x.drained ≤ x.tail) before.super_words gates.drained in
      let drained = stands.drained in
      let tail = stands.tail in
      omega (arith, low, drained, tail)

  same_lines : from (lines_in u.sizes at n) at.start (at.tail - at.start) ≡ from (lines_in t.sizes at s) at.start (at.tail - at.start)
  same_lines = sym (lines_of_log u.sizes at n (log_is after at stands.start stands.drained stands.tail)) ∙ after.log_same ∙ sym before.log_same
      ∙ lines_of_log t.sizes at s (log_is before at stands.start stands.drained stands.tail)

  pub lines_stay : (o : ℕ) → at.start ≤ o → o < at.written → lines_in u.sizes at n o ≡ lines_in t.sizes at s o
  lines_stay o above below = elim (cases_lt o at.tail) [
    | inl in_log ↦ from_each (lines_in u.sizes at n) (lines_in t.sizes at s) at.start (at.tail - at.start) same_lines o above (omega arith)
    | inr behind ↦
        (let written = stands.written in
        let place : at.tail + (o - at.tail) ≡ o = omega arith in
        let less : o - at.tail < length aim.behind = omega (arith, written) in
        subst (λ k. lines_in u.sizes at n k ≡ lines_in t.sizes at s k) place
        (behind_line (record aim { words = words }) n u.sizes at after.waits are_lines (sym after.sizes_same) (record { start = stands.start; drained = stands.drained; tail = stands.tail; written = stands.written }) order (o - at.tail) less
        ∙ sym (behind_line aim s t.sizes at before.waits are_lines (sym before.sizes_same) stands order (o - at.tail) less)))
  ]

  pub group_stays : (format : Format) (first : ℕ) (them : List Headed) → OpenGroup format t.sizes at first them s → OpenGroup format u.sizes at first them n
  group_stays format first them it =
      let same : u.sizes ≡ t.sizes = after.sizes_same ∙ sym before.sizes_same in
      subst (λ (x : Sizes). OpenGroup format x at first them n) (sym same)
      (group_same format t.sizes at at first them s n refl refl (λ o above below. subst (λ (x : Sizes). lines_in x at n o ≡ lines_in t.sizes at s o) same (lines_stay o above below)) it)

  pub heads_stay : (format : Format) (first : ℕ) (them : List Headed) (end : ℕ) → at.start ≤ first → end ≤ at.written → HeadsOf format (lines_in t.sizes at s) first them end → HeadsOf format (lines_in u.sizes at n) first them end
  heads_stay format first them end begins within it = heads_same format (lines_in t.sizes at s) (lines_in u.sizes at n) first them end (λ o above below. lines_stay o (omega arith) (omega arith)) it
