-- Devices that were made of an image: the facts hold of them, and where its log is empty all that a store keeps between its
-- calls.
use Rattle.std.proofs.Common.{◌≡◌, ◌⊎◌, ℕ, true, false, [], refl, sym, ap, ◌∙◌, subst, inl, inr, Some, None}
use Rattle.nvm_model.specs.declared.line.Line.{Line}
use Rattle.devices.specs.State.{Image, Leaves, fresh}
use Rattle.store_model.specs.Log.{no_log, is_logged, Log}
use Rattle.store_model.specs.Format.{Format}
use Rattle.store_model.specs.Recovered.{super_of, home, log_of, replay, recovered, IsStore}
use Rattle.store_model.specs.StoreFacts.{Bookkeeping, StoreFacts}
use Rattle.store_model.specs.Shown.{HomesFlushed}
use Rattle.store_model.specs.Kept.{KeptAlone}
use Rattle.std.proofs.lemmas.Bool.{or_parts}
use Rattle.home_laws.proofs.InstallLaws.{replay_named}
use Rattle.home_laws.proofs.FactsLaws.{replay_other}
use Rattle.devices.proofs.FreshLaws.{fresh_only}
use Rattle.log_laws.proofs.EndsLaws.{commit_logged}

-- What a store keeps of devices that were made of an image: what recovery gives is the current and the committed words.
abbrev pub recovering : Format → Image → Bookkeeping
recovering format i = record { format = format; sizes = (super_of i).sizes; changing = None; current = recovered format i; committed = λ n. recovered format i; pending = []; copy = λ p l. None }

-- The facts hold of the devices made of any image that is a store: recovery begins with them.
module _ (format : Format) (i : Image) (store : IsStore format i) where
  pub fresh_facts : StoreFacts (recovering format i) (fresh i)
  fresh_facts = record {
    gates = record { sizes = λ w low high. refl; others = λ gate in_store other. refl; changing = λ change at. absurd (never change at) };
    sizes = λ j left. ap (λ (x : Image). (super_of x).sizes) (fresh_only i j left);
    durable = λ j left. record {
      log = λ o above below. record { in_nvm = λ over w hw. refl; in_ssd = λ under. refl };
      homes = λ p l w word h. record { in_frame = λ k found v version. one v version; in_block = λ none. refl };
    };
    homes = λ j left. record {
      current = λ p l w word h. unlogged j left p l w (or_parts (is_logged (log_of format j) p l w) false h).0;
      committed = λ p l w word h. unlogged j left p l w (or_parts (is_logged (log_of format j) p l w) false h).0;
    };
    log = λ j left. record {
      logged = λ p l w word h homes. ap (λ (x : Image). replay format (log_of format x) homes p l w) (fresh_only i j left)
          ∙ replay_named format (log_of format i) homes (home i) p l w (sym (ap (λ (x : Image). is_logged (log_of format x) p l w) (fresh_only i j left)) ∙ h);
      pending = λ p l w word h named. unlogged j left p l w h;
    };
    copies = λ j left p l w line word copy. absurd (no_copy line copy);
    stores = λ j left. subst (λ (x : Image). IsStore format x) (sym (fresh_only i j left)) store;
  }
    where
      never : {A : Type 0} (x : A) → None ≡ Some x → ⊥
      never x e = cc

      no_copy : (line : Line) → None ≡ Some line → ⊥
      no_copy line e = cc

      one : {x : ℕ} (v : ℕ) → (v ≡ x) ⊎ ⊥ → v ≡ x
      one v (inl e) = e
      one v (inr none) = absurd none

      unlogged : (j : Image) → Leaves (fresh i) j → (p l w : ℕ) → is_logged (log_of format j) p l w ≡ false → home j p l w ≡ recovered format i p l w
      unlogged j left p l w h = ap (λ (x : Image). home x p l w) (fresh_only i j left)
          ∙ sym (replay_other format (log_of format i) (home i) p l w (sym (ap (λ (x : Image). is_logged (log_of format x) p l w) (fresh_only i j left)) ∙ h))

  pub fresh_flushed : HomesFlushed (recovering format i) (fresh i)
  fresh_flushed = record { frames = λ k l w h named hl hw. refl; blocks = λ p hp none. refl }

  -- Where the log is empty, all holds that a store keeps between its calls.
  pub open_kept : log_of format i ≡ no_log → KeptAlone (recovering format i) (fresh i)
  open_kept empty = record {
    shown = record {
      facts = fresh_facts;
      still = refl;
      alone = refl;
      shows = record {
        copies = λ p l w line word copy. absurd (no_copy line copy);
        homes = λ p l w word none. sym (replay_other format (log_of format i) (home i) p l w (ap (λ (x : Log). is_logged x p l w) empty ∙ refl));
      };
      flushed = fresh_flushed;
    };
    ends = λ j left p l w word h homes. absurd (not_logged p l w
        (sym (ap (λ (x : Log). is_logged x p l w) empty) ∙ sym (ap (λ (x : Image). is_logged (log_of format x) p l w) (fresh_only i j left)) ∙ sym (commit_logged (log_of format j) p l w) ∙ h));
  }
    where
      no_copy : (line : Line) → None ≡ Some line → ⊥
      no_copy line e = cc

      not_logged : (p l w : ℕ) → is_logged no_log p l w ≡ true → ⊥
      not_logged p l w e = cc
