-- A drain: the log up to a further offset stands on the SSD, and what waits behind its tail stays.
use Rattle.std.proofs.Common.{◌≡◌, ℕ, ◌+◌, ◌*◌, ◌/◌, ◌≤◌, List, [], ◌∷◌, ◌++◌, length, refl, sym, ap, ◌∙◌, subst, arith}
use Rattle.std.proofs.Math.Nat.{mod-lt}
use Rattle.devices.specs.State.{State, Call, Amid, current, after_all}
use Rattle.devices.specs.State.Call.{sync}
use Rattle.devices.specs.Growth.{AreWithin}
use Rattle.devices.proofs.GrowthLaws.{Amid_end}
use Rattle.store_model.specs.Layout.{Sizes, entry_line, entry_word, ring_line, ring_blocks, floor64}
use Rattle.store_model.specs.Recovered.{Super, super_of, log_lines}
use Rattle.store_model.specs.Checked.{SuperPasses}
use Rattle.store_model.specs.Blocks.{block_calls, drain_all_calls, AreCopied, CanDrainAll}
use Rattle.store_model.specs.StoreFacts.{StoreFacts}
use Rattle.store_model.specs.Untouched.{Untouched}
use Rattle.home_laws.proofs.CheckLaws.{store_passes}
use Rattle.home_laws.proofs.FactsLaws.{current_leaves}
use Rattle.home_laws.proofs.UntouchedLaws.{calls_untouched}
use Rattle.log_laws.proofs.BlocksLaws.{drain_all_lines, drain_all_super}
use Rattle.log_laws.proofs.BlocksFacts.{drain_all_facts, drain_all_done}
use Rattle.device_calls.specs.Leads.{Steps}
use Rattle.tier_facts.specs.Data.{Data}
use Rattle.tier_facts.specs.Facts.{Aim, Held, Facts, aim_sizes, keeping}
use Rattle.tier_facts.proofs.PlaceLaws.{can}
use Rattle.transaction_facts.specs.Records.{Records, Waiting, drained_to}
use Rattle.transaction_facts.proofs.RecordLaws.{low_stores, low_writes, within_both, log_after}

-- nothing but the gate is stored
abbrev gate_only : ℕ → ℕ → ℕ → Type 0
gate_only l w v = l ≡ 2

blocks_low : (stores : ℕ → ℕ → ℕ → Type 0) (g : Sizes) (offset : ℕ) (blocks : List (List ℕ)) → AreWithin stores (low_writes g) (block_calls g offset blocks)
blocks_low stores g offset [] = tt
blocks_low stores g offset (bytes ∷ blocks) = (mod-lt (offset / 64) (omega arith), blocks_low stores g (offset + 64) blocks)

drain_within : (stores : ℕ → ℕ → ℕ → Type 0) (g : Sizes) (offset : ℕ) (blocks : List (List ℕ)) → stores 2 0 (offset + 64 * length blocks)
    → AreWithin stores (low_writes g) (drain_all_calls g offset blocks)
drain_within stores g offset blocks at = within_both stores (low_writes g) (block_calls g offset blocks ++ sync ∷ []) _
    (within_both stores (low_writes g) (block_calls g offset blocks) (sync ∷ []) (blocks_low stores g offset blocks) (tt, tt)) (at, (tt, (tt, tt)))

module _ (t : Data) (aim : Aim) (s : State) (it : Facts t aim s) (blocks : List (List ℕ))
    (lines : aim.super.drained + 64 * length blocks ≤ aim.super.tail) (room : aim.super.drained + 64 * length blocks ≤ floor64 aim.super.start + 64 * ring_blocks (aim_sizes aim))
    (few : length blocks ≤ ring_blocks (aim_sizes aim)) (copied : AreCopied (aim_sizes aim) aim.super.drained blocks s) where
  abbrev drain_list : List Call
  drain_list = drain_all_calls (aim_sizes aim) aim.super.drained blocks

  abbrev next : State
  next = after_all drain_list s

  abbrev raised : ℕ
  raised = aim.super.drained + 64 * length blocks

  passes : SuperPasses (super_of (current s))
  passes = store_passes aim.format (current s) (it.facts.stores (current s) (current_leaves s))

  may_drain : CanDrainAll s blocks
  may_drain = record {
    can = can t aim s it;
    aligned = passes.aligned;
    lines = subst (λ (x : Super). x.drained + 64 * length blocks ≤ x.tail) (sym it.super_words) lines;
    room = subst (λ (x : Super). x.drained + 64 * length blocks ≤ floor64 x.start + 64 * ring_blocks x.sizes) (sym it.super_words) room;
    few = subst (λ (x : Super). length blocks ≤ ring_blocks x.sizes) (sym it.super_words) few;
    copied = subst (λ (x : Super). AreCopied x.sizes x.drained blocks s) (sym it.super_words) copied;
  }

  -- the calls by the superblock of the device
  by_super : (P : State → Type 0) → P (after_all (drain_all_calls (super_of (current s)).sizes (super_of (current s)).drained blocks) s) → P next
  by_super P = subst (λ (x : Super). P (after_all (drain_all_calls x.sizes x.drained blocks) s)) it.super_words

  gate_untouched : Untouched (gate_only) (low_writes (aim_sizes aim)) s next
  gate_untouched = calls_untouched gate_only (low_writes (aim_sizes aim)) drain_list s (drain_within gate_only (aim_sizes aim) aim.super.drained blocks refl)

  super_is : super_of (current next) ≡ record aim.super { drained = raised }
  super_is = by_super (λ n. super_of (current n) ≡ record (super_of (current s)) { drained = (super_of (current s)).drained + 64 * length blocks }) (drain_all_super s blocks may_drain)
      ∙ ap (λ (x : Super). record x { drained = x.drained + 64 * length blocks }) it.super_words

  log_is : log_lines (current next) ≡ aim.log
  log_is = by_super (λ n. log_lines (current n) ≡ log_lines (current s))
      (drain_all_lines s blocks may_drain _ (Amid_end (drain_all_calls (super_of (current s)).sizes (super_of (current s)).drained blocks) s) _
      (current_leaves (after_all (drain_all_calls (super_of (current s)).sizes (super_of (current s)).drained blocks) s))) ∙ it.log_same

  -- A drain keeps the facts, and at each moment `drained` is the old or the new one.
  pub drain_steps : Steps Held (λ (a : Aim). Facts t (drained_to (a.super.drained + 64 * length blocks) a)) (drain_all_calls (aim_sizes aim) aim.super.drained blocks) aim s
  drain_steps = record {
    facts = log_after t aim s it drain_list (drain_within (low_stores (aim_sizes aim)) (aim_sizes aim) aim.super.drained blocks (omega arith))
        aim.super.start raised aim.super.tail aim.log aim.behind aim.pending aim.kept super_is log_is
        (λ k h. gate_untouched.newest (entry_line k) (entry_word k) (λ v st. omega arith))
        (subst (λ (x : Super). StoreFacts (keeping t aim) (after_all (drain_all_calls (aim_sizes aim) x.drained blocks) s)) it.super_words (drain_all_done (keeping t aim) s it.facts refl blocks may_drain))
        it.recorded
        (λ k w less hw. record {
          newest = gate_untouched.newest (ring_line (aim_sizes aim) (aim.super.tail + k)) w (λ v st. omega arith) ∙ (it.waits k w less hw).newest;
          kept = gate_untouched.flushed (ring_line (aim_sizes aim) (aim.super.tail + k)) w (λ v st. omega arith) (it.waits k w less hw).kept;
        });
    moments = λ mid amid. record {
      keeps = _;
      format_is = refl;
      sizes = refl;
      committed = refl;
      facts = drain_all_facts (keeping t aim) s it.facts refl blocks may_drain mid
          (subst (λ (x : Super). Amid s (drain_all_calls (aim_sizes aim) x.drained blocks) mid) (sym it.super_words) amid);
    };
  }

-- The records stay, with more room for others.
pub drain_waiting : (aim : Aim) (n : ℕ) → Waiting aim → Waiting (drained_to (aim.super.drained + n) aim)
drain_waiting aim n it = record { room = (let room = it.room in omega (arith, room)); are_lines = it.are_lines; passes = it.passes; holds = it.holds; right = it.right }

pub drain_records : (aim : Aim) (n : ℕ) → Records aim → Records (drained_to (aim.super.drained + n) aim)
drain_records aim n it = record { waiting = drain_waiting aim n it.waiting; ends = it.ends }
