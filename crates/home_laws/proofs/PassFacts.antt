-- A page passes through an empty frame to its home block: the facts hold at each moment, and when it is done. The frame
-- behind the last one that has pages of its own is for this; any empty frame would serve.
use Rattle.std.proofs.Common.{◌≡◌, ◌⊎◌, ℕ, ◌+◌, ◌<◌, ◌≤◌, List, get_or, sym, ◌∙◌, subst, inl, inr, None}
use Rattle.nvm_model.specs.declared.line.Line.{Line}
use Rattle.devices.specs.State.{State, current, after_all, Amid}
use Rattle.store_model.specs.Layout.{Sizes}
use Rattle.store_model.specs.Format.{word_in, zero_line}
use Rattle.store_model.specs.Recovered.{block_word}
use Rattle.store_model.specs.StoreFacts.{Gate, Bookkeeping, StoreFacts}
use Rattle.store_model.specs.Install.{install_calls, release_calls, CanInstall}
use Rattle.store_model.specs.Seen.{CanGiveUp, pass_calls, changing_to}
use Rattle.devices.proofs.GrowthLaws.{Amid_append, after_all_append}
use Rattle.home_laws.proofs.FactsLaws.{current_leaves}
use Rattle.home_laws.proofs.InstallFacts.{install_facts, install_done, installed, installed_entry, installed_others, installed_home}
use Rattle.home_laws.proofs.ReleaseFacts.{give_up_facts, give_up_done}

module _ (b : Bookkeeping) (s : State) (facts : StoreFacts b s) (still : b.changing ≡ None) (k page : ℕ) (lines : List Line) (can : CanInstall b.format s k page lines)
    (bytes : List ℕ) (same : (l w : ℕ) → l < 64 → w < 8 → block_word bytes l w ≡ word_in (get_or lines l zero_line) w) where
  pub can_give_up : CanGiveUp b (installed b s facts still k page lines can) k page bytes
  can_give_up = record {
    frame = subst (λ (g : Sizes). k ≤ g.frames) (facts.sizes (current s) (current_leaves s)) can.frame;
    named = installed_entry b s facts still k page lines can;
    alone = λ n h apart named. can.unnamed n (subst (λ (g : Sizes). n ≤ g.frames) (sym (facts.sizes (current s) (current_leaves s))) h)
        (sym (installed_others b s facts still k page lines can n h apart) ∙ named);
    homes = λ i left l w word unlogged. same l w word.line word.word ∙ sym (installed_home b s facts still k page lines can i left l w word unlogged);
  }

  -- At each moment the facts hold, with the entry being set or being cleared.
  pub pass_facts : (mid : State) → Amid s (pass_calls b.sizes k page lines bytes) mid
      → StoreFacts (changing_to b (Gate.frame k) 0 (page + 1) b.committed) mid ⊎ StoreFacts (changing_to b (Gate.frame k) (page + 1) 0 b.committed) mid
  pass_facts mid amid = elim (Amid_append (install_calls b.sizes k page lines) (release_calls b.sizes k page bytes) s mid amid) [
    | inl first ↦ inl (install_facts b s facts still k page lines can mid first)
    | inr second ↦ inr (give_up_facts b (installed b s facts still k page lines can) (install_done b s facts still k page lines can) still k page bytes can_give_up mid second)
  ]

  pub pass_done : StoreFacts b (after_all (pass_calls b.sizes k page lines bytes) s)
  pass_done = subst (λ (x : State). StoreFacts b x) (sym (after_all_append (install_calls b.sizes k page lines) (release_calls b.sizes k page bytes) s))
      (give_up_done b (installed b s facts still k page lines can) (install_done b s facts still k page lines can) still k page bytes can_give_up)
