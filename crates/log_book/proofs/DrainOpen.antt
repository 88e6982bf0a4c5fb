-- What a drain makes of a store and its open group, where nothing waits.
use Rattle.std.proofs.Common.{◌≡◌, ℕ, ◌+◌, ◌*◌, ◌≤◌, List, [], ◌∷◌, length, refl, sym, ap, ◌∙◌, subst, arith}
use Rattle.devices.specs.State.{State, Image, after_all}
use Rattle.nvm_model.specs.Memory.{line_of}
use Rattle.store_model.specs.Layout.{Sizes, ring_line, ring_blocks, floor64}
use Rattle.store_model.specs.Recovered.{Super}
use Rattle.store_model.specs.Blocks.{drain_all_calls, AreCopied}
use Rattle.device_calls.specs.Leads.{ReadsAs, Steps}
use Rattle.device_calls.proofs.ReadLaws.{current_as}
use Rattle.nvm_log.specs.Offsets.{Offsets}
use Rattle.nvm_log.specs.Standing.{IsLogOf}
use Rattle.log_drain.specs.Drains.{raised, drain_makes}
use Rattle.log_records.proofs.OpenGroupLaws.{group_drained}
use Rattle.tier_facts.specs.Data.{Data}
use Rattle.tier_facts.specs.Facts.{Aim, Facts}
use Rattle.transaction_facts.specs.Records.{drained_to}
use Rattle.transaction_facts.specs.Books.{Goal, HeldGoal, aim_of}
use Rattle.transaction_facts.proofs.DrainSteps.{drain_steps}
use Rattle.transaction_facts.proofs.BookLaws.{holds_held, drain_holds}
use Rattle.log_book.specs.LogData.{LogData, store_of}
use Rattle.log_book.specs.Open.{OpenIn}

-- so many blocks more stand on the SSD
abbrev pub blocks_drained : ℕ → LogData → LogData
blocks_drained n book = record book { log = raised n book.log }

-- the log in memory is that of the devices
pub log_is : {t : Data} {aim : Aim} {s : State} → Facts t aim s → (at : Offsets) → at.start ≡ aim.super.start → at.drained ≡ aim.super.drained → at.tail ≡ aim.super.tail → IsLogOf t.sizes at s
log_is it at start drained tail = record {
  sizes = ap (λ (x : Super). x.sizes) it.super_words ∙ sym it.sizes_same;
  start = ap (λ (x : Super). x.start) it.super_words ∙ sym start;
  drained = ap (λ (x : Super). x.drained) it.super_words ∙ sym drained;
  tail = ap (λ (x : Super). x.tail) it.super_words ∙ sym tail;
}

module _ (t : Data) (book : LogData) (blocks : List (List ℕ)) (lines : book.log.drained + 64 * length blocks ≤ book.log.tail)
    (room : book.log.drained + 64 * length blocks ≤ floor64 book.log.start + 64 * ring_blocks t.sizes) (few : length blocks ≤ ring_blocks t.sizes) (nothing : book.log.written ≡ book.log.tail)
    (goal : Goal) (s : State) (copied : AreCopied t.sizes book.log.drained blocks s) (it : OpenIn t book goal s) where
  abbrev aim : Aim
  aim = aim_of (store_of t book) goal it.holds.lines it.holds.behind it.holds.pending

  abbrev next : State
  next = after_all (drain_all_calls t.sizes book.log.drained blocks) s

  facts_next : Facts t (drained_to (book.log.drained + 64 * length blocks) aim) next
  facts_next = subst (λ (x : Sizes). Facts t (drained_to (book.log.drained + 64 * length blocks) aim) (after_all (drain_all_calls x book.log.drained blocks) s)) (sym it.holds.facts.sizes_same)
      (drain_steps t aim s it.holds.facts blocks lines
      (subst (λ (x : Sizes). book.log.drained + 64 * length blocks ≤ floor64 book.log.start + 64 * ring_blocks x) it.holds.facts.sizes_same room)
      (subst (λ (x : Sizes). length blocks ≤ ring_blocks x) it.holds.facts.sizes_same few)
      (subst (λ (x : Sizes). AreCopied x book.log.drained blocks s) it.holds.facts.sizes_same copied)).facts

  drain_steps_open : Steps HeldGoal (OpenIn t (blocks_drained (length blocks) book)) (drain_all_calls t.sizes book.log.drained blocks) goal s
  drain_steps_open =
      let steps = drain_holds (store_of t book) blocks (record { lines = lines; room = room; few = few }) goal s copied it.holds in
      record {
        facts = record {
          holds = steps.facts;
          them = it.them;
          group = group_drained _ t.sizes book.log (raised (length blocks) book.log) book.first it.them s next it.group
              (log_is it.holds.facts book.log refl refl refl) (log_is facts_next (raised (length blocks) book.log) refl refl refl) refl refl nothing nothing
              (facts_next.log_same ∙ sym it.holds.facts.log_same);
        };
        moments = steps.moments;
      }

-- No block, or some.
drain_in : (t : Data) (book : LogData) (blocks : List (List ℕ)) → book.log.drained + 64 * length blocks ≤ book.log.tail → book.log.drained + 64 * length blocks ≤ floor64 book.log.start + 64 * ring_blocks t.sizes
    → length blocks ≤ ring_blocks t.sizes → book.log.written ≡ book.log.tail → (goal : Goal) (s : State) → AreCopied t.sizes book.log.drained blocks s → OpenIn t book goal s
    → Steps HeldGoal (OpenIn t (blocks_drained (length blocks) book)) (drain_makes t.sizes book.log.drained blocks) goal s
drain_in t book [] lines room few nothing goal s copied it =
    let none : book.log.drained ≡ book.log.drained + 64 * 0 = omega arith in
    record {
      facts = subst (λ n. OpenIn t (record book { log = record book.log { drained = n } }) goal s) none it;
      moments = λ mid at. subst (λ (x : State). HeldGoal goal x) (sym at) (holds_held (store_of t book) goal s it.holds);
    }
drain_in t book (bytes ∷ blocks) lines room few nothing goal s copied it = drain_steps_open t book (bytes ∷ blocks) lines room few nothing goal s copied it

pub drain_open : (g : Sizes) (book : LogData) (blocks : List (List ℕ)) → book.log.drained + 64 * length blocks ≤ book.log.tail → book.log.drained + 64 * length blocks ≤ floor64 book.log.start + 64 * ring_blocks g
    → length blocks ≤ ring_blocks g → book.log.written ≡ book.log.tail → (t : Data) → t.sizes ≡ g → (goal : Goal) (s : State) → AreCopied g book.log.drained blocks s → OpenIn t book goal s
    → Steps HeldGoal (OpenIn t (blocks_drained (length blocks) book)) (drain_makes g book.log.drained blocks) goal s
drain_open g book blocks lines room few nothing t sizes goal s copied it =
    subst (λ (x : Sizes). Steps HeldGoal (OpenIn t (blocks_drained (length blocks) book)) (drain_makes x book.log.drained blocks) goal s) sizes
    (drain_in t book blocks lines (subst (λ (x : Sizes). book.log.drained + 64 * length blocks ≤ floor64 book.log.start + 64 * ring_blocks x) (sym sizes) room)
    (subst (λ (x : Sizes). length blocks ≤ ring_blocks x) (sym sizes) few) nothing goal s (subst (λ (x : Sizes). AreCopied x book.log.drained blocks s) (sym sizes) copied) it)

-- what was loaded of the devices, was loaded of each state that reads as they do
pub copied_as : (g : Sizes) (offset : ℕ) (blocks : List (List ℕ)) (s n : State) → ReadsAs s n → AreCopied g offset blocks n → AreCopied g offset blocks s
copied_as g offset blocks s n reads copied = record {
  each = λ k o less above below. copied.each k o less above below ∙ ap (λ (i : Image). line_of (i.nvm (ring_line g o))) (sym (current_as s n reads));
}
