-- Lines that stand flushed behind the tail become part of the log, by a fence and a new tail: the facts hold at each
-- moment, and when it is done.
use Rattle.std.proofs.Common.{◌≡◌, ℕ, ◌+◌, ◌-◌, ◌<◌, ◌≤◌, true, false, List, [], ◌∷◌, length, get_or, refl, sym, ap, ◌∙◌, subst, inl, inr, arith, Option, None}
use Rattle.std.proofs.lemmas.Bool.{cases_lt, or_parts}
use Rattle.nvm_model.specs.declared.line.Line.{Line}
use Rattle.nvm_model.specs.Word.{Word, IsSingle, single}
use Rattle.devices.specs.State.{State, Image, Leaves, current, fenced, after_all, Amid}
use Rattle.devices.specs.State.Call.{fence}
use Rattle.devices.specs.Growth.{Grows, no_store, no_write}
use Rattle.store_model.specs.Layout.{Sizes, pages, ring_line, ring_lines}
use Rattle.store_model.specs.Log.{Words, Change, Entry, Log, grouped, extended, named_in, is_logged}
use Rattle.store_model.specs.Format.{entries, log_check, word_in, zero_line}
use Rattle.store_model.specs.Recovered.{Super, super_of, entry_at, home, log_of, replay}
use Rattle.store_model.specs.InOrder.{LineStands, HomeStands}
use Rattle.store_model.specs.StoreFacts.{Gate, Changing, Bookkeeping, IsWord, is_written, StoreFacts}
use Rattle.store_model.specs.View.{Extends}
use Rattle.store_model.specs.Pending.{harden_calls, IsBehind, StandsFlushed}
use Rattle.log_laws.proofs.HardenLaws.{fence_leaves, moved_extends}
use Rattle.log_laws.proofs.BehindLaws.{behind_flushed}
use Rattle.store_model.specs.Checked.{SuperPasses}
use Rattle.store_model.specs.Seen.{ImageFacts, Moved, changing_to}
use Rattle.devices.proofs.GrowthLaws.{Part-grows}
use Rattle.home_laws.proofs.LogLaws.{not_logged_before}
use Rattle.home_laws.proofs.RecoveredLaws.{frame_of-same}
use Rattle.home_laws.proofs.PutLaws.{fenced_flushed}
use Rattle.log_laws.proofs.AppendLaws.{extended_log}
use Rattle.home_laws.proofs.CheckLaws.{extends_store, store_passes, store_whole}
use Rattle.home_laws.proofs.FactsLaws.{current_leaves}
use Rattle.home_laws.proofs.SeenLaws.{image_facts, image_changing, facts_changing, facts_super}
use Rattle.home_laws.proofs.QuietLaws.{quiet_facts, quiet_super, no_stores_quiet, fence_facts}
use Rattle.home_laws.proofs.GateLaws.{gate_facts, gate_after}

-- what was logged stays so
pub not_logged_grouped : (log : Log) (es : List Entry) (p l w : ℕ) → is_logged (grouped log es) p l w ≡ false → is_logged log p l w ≡ false
not_logged_grouped log [] p l w h = h
not_logged_grouped log (e ∷ es) p l w h = not_logged_before log e p l w (not_logged_grouped (extended log e) es p l w h)

module _ (b : Bookkeeping) (s : State) (facts : StoreFacts b s) (still : b.changing ≡ None) (xs : List Line) (behind : IsBehind b s xs) where
  abbrev pub sup : Super
  sup = super_of (current s)

  abbrev pub new_tail : ℕ
  new_tail = sup.tail + length xs

  -- the log of an image with the lines' entries last
  abbrev pub grown : Image → Log
  grown j = grouped (log_of b.format j) (entries b.format 0 xs)

  passes : SuperPasses sup
  passes = store_passes b.format (current s) (facts.stores (current s) (current_leaves s))

  same_sizes : sup.sizes ≡ b.sizes
  same_sizes = facts.sizes (current s) (current_leaves s)

  pub durable_facts : StoreFacts b (fenced s)
  durable_facts = fence_facts b s facts still

  super_is : (j : Image) → Leaves (fenced s) j → super_of j ≡ sup
  super_is j left = facts_super b s facts still j (fence_leaves s j left)

  stands : StandsFlushed s xs
  stands = behind_flushed b s facts still xs behind

  line_single : (k w : ℕ) → k < length xs → w < 8 → (fenced s).nvm (ring_line sup.sizes (sup.tail + k)) w ≡ single (word_in (get_or xs k zero_line) w)
  line_single k w less hw = fenced_flushed s (ring_line sup.sizes (sup.tail + k)) w (word_in (get_or xs k zero_line) w) (stands.flushed k w less hw)

  -- An image with the new tail has the lines at the end of its log.
  pub tail_extends : (i j : Image) → Leaves (fenced s) j → Moved Gate.tail new_tail i j → Extends i j xs
  tail_extends i j left moved = moved_extends s xs stands i j left moved

  -- What such an image has of the facts, with these committed words and these pending records.
  module _ (committed : ℕ → Words)
      (out : (j : Image) → Leaves s j → (p l w : ℕ) → IsWord b.sizes p l w → is_logged (grown j) p l w ≡ false → b.committed sup.tail p l w ≡ committed new_tail p l w)
      (gives : (j : Image) → Leaves s j → (p l w : ℕ) → IsWord b.sizes p l w → is_logged (grown j) p l w ≡ true → (homes : Words) → replay b.format (grown j) homes p l w ≡ committed new_tail p l w)
      (pending : List Change)
      (covers : (j : Image) → Leaves s j → (p l w : ℕ) → is_logged (grown j) p l w ≡ false → named_in pending p l w ≡ false → named_in b.pending p l w ≡ false)
      (fewer : (p l w : ℕ) → named_in pending p l w ≡ true → named_in b.pending p l w ≡ true) where
    grown_image : (changing : Option Changing) (i j : Image) → Leaves (fenced s) j → Moved Gate.tail new_tail i j
        → ImageFacts (record b { changing = changing; committed = committed; pending = pending }) (fenced s) i
    grown_image changing i j left moved =
        let c : Bookkeeping = record b { changing = changing; committed = committed; pending = pending } in
        let old : ImageFacts b (fenced s) j = image_facts b (fenced s) durable_facts j left in
        let left_s : Leaves s j = fence_leaves s j left in
        let extends : Extends i j xs = tail_extends i j left moved in
        let e_j : super_of j ≡ sup = super_is j left in
        let e_i : super_of i ≡ record sup { tail = new_tail } = extends.super_words ∙ ap (λ (x : Super). record x { tail = x.tail + length xs }) e_j in
        let log : log_of b.format i ≡ grown j = extended_log b.format i j xs extends (store_whole b.format j (old.store)) in
        let logged : (p l w : ℕ) → is_logged (log_of b.format i) p l w ≡ is_logged (grown j) p l w = (λ p l w. ap (λ (x : Log). is_logged x p l w) log) in
        let before : (p l w : ℕ) → is_logged (grown j) p l w ≡ false → is_logged (log_of b.format j) p l w ≡ false = not_logged_grouped (log_of b.format j) (entries b.format 0 xs) in
        let same_home : (p l w : ℕ) → IsWord b.sizes p l w → home i p l w ≡ home j p l w =
        (λ p l w word. extends.homes p l w (subst (λ (g : Sizes). p < pages g) (sym old.sizes) word.page) word.line word.word) in
        let at_old : (p l w : ℕ) → b.committed (super_of j).tail p l w ≡ b.committed sup.tail p l w = (λ p l w. ap (λ (x : Super). b.committed x.tail p l w) e_j) in
        let at_new : (p l w : ℕ) → committed new_tail p l w ≡ committed (super_of i).tail p l w = (λ p l w. sym (ap (λ (x : Super). committed x.tail p l w) e_i)) in
        let parts : (p l w : ℕ) → is_written c i p l w ≡ false → (is_logged (grown j) p l w ≡ false) × (is_written b j p l w ≡ false) =
        (λ p l w h. let both : (is_logged (log_of b.format i) p l w ≡ false) × (named_in pending p l w ≡ false) = or_parts (is_logged (log_of b.format i) p l w) (named_in pending p l w) h in
        let unlogged : is_logged (grown j) p l w ≡ false = sym (logged p l w) ∙ both.0 in
        (unlogged, rw (before p l w unlogged, covers j left_s p l w unlogged both.1) refl)) in
        record {
          sizes = ap (λ (x : Super). x.sizes) e_i ∙ same_sizes;
          durable = record {
            log = subst (λ (x : Super). (o : ℕ) → x.start ≤ o → o < x.tail → LineStands x (fenced s) o) (sym e_i) (λ o above below. elim (cases_lt o sup.tail) [
              | inl under ↦ (let one : LineStands sup (fenced s) o = subst (λ (x : Super). (o : ℕ) → x.start ≤ o → o < x.tail → LineStands x (fenced s) o) e_j (old.durable).log o above under in
                  record { in_nvm = one.in_nvm; in_ssd = one.in_ssd })
              | inr over ↦ record {
                in_nvm = λ drained w hw. let at : sup.tail + (o - sup.tail) ≡ o = omega arith in
                    subst (λ n. IsSingle ((fenced s).nvm (ring_line sup.sizes n) w)) at (ap (λ (x : Word). x.older) (line_single (o - sup.tail) w (omega arith) hw));
                in_ssd = λ under. absurd (let below_tail : sup.drained ≤ sup.tail = passes.drained in omega arith);
              }
            ]);
            homes = λ p l w word h. subst (λ (f : Option ℕ). HomeStands b.sizes f (fenced s) p l w)
                (sym (frame_of-same (entry_at i) (entry_at j) (b.sizes.frames + 1) p (λ k less. extends.entries k (subst (λ (g : Sizes). k ≤ g.frames) (sym old.sizes) (omega arith)))))
                ((old.durable).homes p l w word (before p l w (sym (logged p l w) ∙ h)));
          };
          homes = record {
            current = λ p l w word h. same_home p l w word ∙ (old.homes).current p l w word (parts p l w h).1;
            committed = λ p l w word h. same_home p l w word ∙ (old.homes).committed p l w word (parts p l w h).1 ∙ at_old p l w ∙ out j left_s p l w word (parts p l w h).0 ∙ at_new p l w;
          };
          log = record {
            logged = λ p l w word h homes. ap (λ (x : Log). replay b.format x homes p l w) log ∙ gives j left_s p l w word (sym (logged p l w) ∙ h) homes ∙ at_new p l w;
            pending = λ p l w word h named. let unlogged : is_logged (grown j) p l w ≡ false = sym (logged p l w) ∙ h in
                same_home p l w word ∙ (old.log).pending p l w word (before p l w unlogged) (fewer p l w named) ∙ at_old p l w ∙ out j left_s p l w word unlogged ∙ at_new p l w;
          };
          copies = λ p l w line word copy h. old.copies p l w line word copy (parts p l w h).1 ∙ sym (same_home p l w word);
          store = extends_store b.format i j xs extends old.store
              (subst (λ (x : Super). x.tail + length xs ≤ x.drained + ring_lines x.sizes) (sym e_j) (subst (λ (g : Sizes). new_tail ≤ sup.drained + ring_lines g) (sym same_sizes) behind.room))
              (λ at. subst (λ (g : Sizes). log_check b.format g at 0 xs ≡ None) (sym old.sizes) (behind.passes at));
        }

    -- When it is done the facts hold with them.
    pub tail_done : StoreFacts (record b { committed = committed; pending = pending }) (after_all (harden_calls new_tail) s)
    tail_done = gate_after b (fenced s) durable_facts still Gate.tail tt sup.tail refl new_tail committed pending (grown_image b.changing)

  -- At each moment the facts hold, with the tail being changed, and the pending records as they are.
  pub tail_facts : (committed : ℕ → Words) → ((p l w : ℕ) → b.committed sup.tail p l w ≡ committed sup.tail p l w)
      → ((j : Image) → Leaves s j → (p l w : ℕ) → IsWord b.sizes p l w → is_logged (grown j) p l w ≡ false → b.committed sup.tail p l w ≡ committed new_tail p l w)
      → ((j : Image) → Leaves s j → (p l w : ℕ) → IsWord b.sizes p l w → is_logged (grown j) p l w ≡ true → (homes : Words) → replay b.format (grown j) homes p l w ≡ committed new_tail p l w)
      → (mid : State) → Amid s (harden_calls new_tail) mid → StoreFacts (changing_to b Gate.tail sup.tail new_tail committed) mid
  tail_facts committed at_old out gives mid (inl part) =
      let grows : Grows no_store no_write s mid = Part-grows no_store no_write fence s mid tt part in
      let same : super_of (current mid) ≡ sup = quiet_super b s facts still no_store no_write (no_stores_quiet s) mid grows in
      facts_changing b mid (quiet_facts b s facts still no_store no_write (no_stores_quiet s) mid grows) still Gate.tail tt sup.tail new_tail (ap (λ (x : Super). x.tail) same)
      committed (λ p l w. subst (λ (x : Super). b.committed x.tail p l w ≡ committed x.tail p l w) (sym same) (at_old p l w))
  tail_facts committed at_old out gives mid (inr later) = gate_facts b (fenced s) durable_facts still Gate.tail tt sup.tail refl new_tail committed
      (λ i left. image_changing b _ committed (fenced s) i (image_facts b (fenced s) durable_facts i left)
      (λ p l w. subst (λ (x : Super). b.committed x.tail p l w ≡ committed x.tail p l w) (sym (super_is i left)) (at_old p l w)))
      (grown_image committed out gives b.pending (λ j left p l w h named. named) (λ p l w named. named) _) mid later
