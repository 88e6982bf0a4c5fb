-- Lines are stored behind those that stand behind the tail, and then all of them become part of the log: the facts hold
-- at each moment, and when it is done.
use Rattle.std.proofs.Common.{◌≡◌, ℕ, ◌+◌, ◌<◌, ◌≤◌, true, false, List, ◌++◌, length, length-append, get_or, sym, ap, ◌∙◌, subst, inl, inr, arith, None}
use Rattle.nvm_model.specs.declared.line.Line.{Line}
use Rattle.devices.specs.State.{State, Image, Leaves, current, after_all, Amid}
use Rattle.devices.specs.Growth.{no_write}
use Rattle.store_model.specs.Layout.{ring_lines}
use Rattle.store_model.specs.Log.{Words, Change, Log, grouped, named_in, is_logged}
use Rattle.store_model.specs.Format.{entries, log_check, zero_line}
use Rattle.store_model.specs.Recovered.{Super, super_of, log_of, replay}
use Rattle.store_model.specs.StoreFacts.{Gate, Bookkeeping, IsWord, StoreFacts}
use Rattle.store_model.specs.Put.{put_calls, IsLine}
use Rattle.store_model.specs.Pending.{harden_calls, end_calls, IsBehind}
use Rattle.store_model.specs.Seen.{Mirrors, changing_to}
use Rattle.devices.proofs.GrowthLaws.{Amid_append, after_all_append}
use Rattle.home_laws.proofs.PutLaws.{put_stores}
use Rattle.home_laws.proofs.SeenLaws.{facts_changing, mirror_log}
use Rattle.home_laws.proofs.QuietLaws.{quiet_image, quiet_super}
use Rattle.log_laws.proofs.BehindLaws.{behind_facts, behind_done, behind_stands, behind_grows, put_state, put_grows, put_quiet, put_super}
use Rattle.log_laws.proofs.TailLaws.{tail_facts, tail_done}

module _ (b : Bookkeeping) (s : State) (facts : StoreFacts b s) (still : b.changing ≡ None) (xs : List Line) (behind : IsBehind b s xs) (ys : List Line)
    (room : (super_of (current s)).tail + length xs + length ys ≤ (super_of (current s)).drained + ring_lines b.sizes)
    (are_lines : (k : ℕ) → k < length ys → IsLine (get_or ys k zero_line)) (passes : (at : ℕ) → log_check b.format b.sizes at 0 ys ≡ None) where
  abbrev pub sup : Super
  sup = super_of (current s)

  abbrev pub new_tail : ℕ
  new_tail = sup.tail + length xs + length ys

  -- the log of an image with the lines' entries last
  abbrev pub grown : Image → Log
  grown j = grouped (log_of b.format j) (entries b.format 0 (xs ++ ys))

  abbrev full : State
  full = put_state b s facts still xs behind ys room are_lines passes

  full_facts : StoreFacts b full
  full_facts = behind_done b s facts still xs behind ys room are_lines passes

  full_stands : IsBehind b full (xs ++ ys)
  full_stands = behind_stands b s facts still xs behind ys room are_lines passes

  full_super : super_of (current full) ≡ sup
  full_super = put_super b s facts still xs behind ys room are_lines passes

  -- an image of that state has the log of one from before
  full_log : (j : Image) → Leaves full j → (i : Image) × Leaves s i × (log_of b.format j ≡ log_of b.format i)
  full_log j left =
      let seen : (i : Image) × Leaves s i × Mirrors b.format b.sizes full j i =
      quiet_image b s facts still (put_stores b.sizes (sup.tail + length xs) (length ys)) no_write (put_quiet b s facts still xs behind ys room are_lines passes) full
      (put_grows b s facts still xs behind ys room are_lines passes) j left in
      (seen.0, seen.1, mirror_log seen.2)

  full_tail : (super_of (current full)).tail ≡ sup.tail
  full_tail = ap (λ (x : Super). x.tail) full_super

  full_new_tail : (super_of (current full)).tail + length (xs ++ ys) ≡ new_tail
  full_new_tail = let long : length (xs ++ ys) ≡ length xs + length ys = length-append xs ys in let same : (super_of (current full)).tail ≡ sup.tail = full_tail in omega arith

  module _ (committed : ℕ → Words)
      (out : (j : Image) → Leaves s j → (p l w : ℕ) → IsWord b.sizes p l w → is_logged (grown j) p l w ≡ false → b.committed sup.tail p l w ≡ committed new_tail p l w)
      (gives : (j : Image) → Leaves s j → (p l w : ℕ) → IsWord b.sizes p l w → is_logged (grown j) p l w ≡ true → (homes : Words) → replay b.format (grown j) homes p l w ≡ committed new_tail p l w) where
    full_out : (j : Image) → Leaves full j → (p l w : ℕ) → IsWord b.sizes p l w → is_logged (grown j) p l w ≡ false
        → b.committed (super_of (current full)).tail p l w ≡ committed ((super_of (current full)).tail + length (xs ++ ys)) p l w
    full_out j left p l w word h =
        let old : (i : Image) × Leaves s i × (log_of b.format j ≡ log_of b.format i) = full_log j left in
        ap (λ n. b.committed n p l w) full_tail
        ∙ out old.0 old.1 p l w word (sym (ap (λ (x : Log). is_logged (grouped x (entries b.format 0 (xs ++ ys))) p l w) old.2) ∙ h)
        ∙ sym (ap (λ n. committed n p l w) full_new_tail)

    full_gives : (j : Image) → Leaves full j → (p l w : ℕ) → IsWord b.sizes p l w → is_logged (grown j) p l w ≡ true → (homes : Words)
        → replay b.format (grown j) homes p l w ≡ committed ((super_of (current full)).tail + length (xs ++ ys)) p l w
    full_gives j left p l w word h homes =
        let old : (i : Image) × Leaves s i × (log_of b.format j ≡ log_of b.format i) = full_log j left in
        ap (λ (x : Log). replay b.format (grouped x (entries b.format 0 (xs ++ ys))) homes p l w) old.2
        ∙ gives old.0 old.1 p l w word (sym (ap (λ (x : Log). is_logged (grouped x (entries b.format 0 (xs ++ ys))) p l w) old.2) ∙ h) homes
        ∙ sym (ap (λ n. committed n p l w) full_new_tail)

    -- At each moment the facts hold, with the tail being changed.
    pub end_facts : ((p l w : ℕ) → b.committed sup.tail p l w ≡ committed sup.tail p l w)
        → (mid : State) → Amid s (end_calls b.sizes (sup.tail + length xs) ys) mid → StoreFacts (changing_to b Gate.tail sup.tail new_tail committed) mid
    end_facts at_old mid amid = elim (Amid_append (put_calls b.sizes (sup.tail + length xs) ys) (harden_calls new_tail) s mid amid) [
      | inl first ↦
          (let same : super_of (current mid) ≡ sup = quiet_super b s facts still (put_stores b.sizes (sup.tail + length xs) (length ys)) no_write (put_quiet b s facts still xs behind ys room are_lines passes) mid
          (behind_grows b s facts still xs behind ys room are_lines passes mid first) in
          facts_changing b mid (behind_facts b s facts still xs behind ys room are_lines passes mid first) still Gate.tail tt sup.tail new_tail (ap (λ (x : Super). x.tail) same)
          committed (λ p l w. subst (λ (x : Super). b.committed x.tail p l w ≡ committed x.tail p l w) (sym same) (at_old p l w)))
      | inr second ↦ subst (λ n. StoreFacts (changing_to b Gate.tail n new_tail committed) mid) full_tail
          (subst (λ n. StoreFacts (changing_to b Gate.tail (super_of (current full)).tail n committed) mid) full_new_tail
          (tail_facts b full full_facts still (xs ++ ys) full_stands committed
          (λ p l w. subst (λ n. b.committed n p l w ≡ committed n p l w) (sym full_tail) (at_old p l w)) full_out full_gives mid
          (subst (λ n. Amid full (harden_calls n) mid) (sym full_new_tail) second)))
    ]

    -- When it is done they hold with these committed words, and with no other pending records than before.
    pub end_done : (pending : List Change)
        → ((j : Image) → Leaves s j → (p l w : ℕ) → is_logged (grown j) p l w ≡ false → named_in pending p l w ≡ false → named_in b.pending p l w ≡ false)
        → ((p l w : ℕ) → named_in pending p l w ≡ true → named_in b.pending p l w ≡ true)
        → StoreFacts (record b { committed = committed; pending = pending }) (after_all (end_calls b.sizes (sup.tail + length xs) ys) s)
    end_done pending covers fewer = subst (λ (x : State). StoreFacts (record b { committed = committed; pending = pending }) x)
        (ap (λ n. after_all (harden_calls n) full) full_new_tail ∙ sym (after_all_append (put_calls b.sizes (sup.tail + length xs) ys) (harden_calls new_tail) s))
        (tail_done b full full_facts still (xs ++ ys) full_stands committed full_out full_gives pending
        (λ j left p l w h named. let old : (i : Image) × Leaves s i × (log_of b.format j ≡ log_of b.format i) = full_log j left in
        covers old.0 old.1 p l w (sym (ap (λ (x : Log). is_logged (grouped x (entries b.format 0 (xs ++ ys))) p l w) old.2) ∙ h) named)
        fewer)
