-- The superblock is flushed and fenced: what one reads stays, nothing is stored, and each of its words has one version.
use Rattle.std.proofs.Common.{◌≡◌, ℕ, zero, suc, ◌+◌, ◌<◌, [], ◌∷◌, refl, sym, ap, ◌∙◌, subst, arith}
use Rattle.nvm_model.specs.Word.{IsSingle}
use Rattle.devices.specs.State.{State, Amid, after_all, current, flushed}
use Rattle.devices.specs.State.Call.{fence}
use Rattle.devices.specs.Growth.{Grows, no_store, no_write}
use Rattle.devices.proofs.GrowthLaws.{Amid-grows, after_all_append}
use Rattle.flat_store_laws.proofs.AsReadLaws.{ReadsAs, current_as}
use Rattle.flat_recovery.specs.Calls.{flush_calls, super_calls}
use Rattle.flat_recovery.proofs.FlushLaws.{within_append, flushes_within, flushes_newest, flushes_made, fenced_single}

super_after : (s : State) → after_all super_calls s ≡ after_all (fence ∷ []) (after_all (flush_calls 0 4) s)
super_after s = after_all_append (flush_calls 0 4) (fence ∷ []) s

flushes_blocks : (first n : ℕ) (s : State) (b : ℕ) → (after_all (flush_calls first n) s).ssd b ≡ s.ssd b
flushes_blocks first zero s b = refl
flushes_blocks first (suc n) s b = flushes_blocks (first + 1) n (flushed first s) b

super_reads : (s : State) → ReadsAs (after_all super_calls s) s
super_reads s = record {
  words = λ l w. ap (λ (t : State). (t.nvm l w).newest) (super_after s) ∙ flushes_newest 0 4 s l w;
  blocks = λ b. ap (λ (t : State). (t.ssd b).bytes) (super_after s) ∙ ap (λ x. x.bytes) (flushes_blocks 0 4 s b);
}

-- one reads what one read before
pub super_current : (s : State) → current (after_all super_calls s) ≡ current s
super_current s = current_as (after_all super_calls s) s (super_reads s)

-- nothing is stored at any moment
pub super_grows : (s mid : State) → Amid s super_calls mid → Grows no_store no_write s mid
super_grows s mid amid = Amid-grows no_store no_write super_calls s mid (within_append no_store no_write (flush_calls 0 4) (fence ∷ []) (flushes_within no_store no_write 0 4) (tt, tt)) amid

-- when it is done each word of the superblock has one version
pub super_single : (s : State) (l w : ℕ) → l < 4 → IsSingle ((after_all super_calls s).nvm l w)
super_single s l w low = subst (λ (t : State). IsSingle (t.nvm l w)) (sym (super_after s)) (fenced_single ((after_all (flush_calls 0 4) s).nvm l w) (flushes_made 0 4 s l w (omega arith) (omega arith)))
