-- Devices that stand for a store have the facts of an open store, whose current and committed words are what recovery gives.
use Rattle.std.proofs.Common.{◌≡◌, ℕ, zero, suc, ◌-◌, ◌<◌, ◌≤◌, Bool, false, true, ◌||◌, List, sym, ap, ◌∙◌, subst, arith}
use Rattle.nvm_model.specs.declared.line.Line.{Line}
use Rattle.nvm_model.specs.Word.{IsSingle}
use Rattle.nvm_model.proofs.WordLaws.{single_version}
use Rattle.devices.specs.State.{State, Image, Leaves, current}
use Rattle.flat_store_meaning.specs.Layout.{frame_line}
use Rattle.flat_store_meaning.specs.Log.{Words, Log, no_log, grouped, is_logged}
use Rattle.flat_store_meaning.specs.Format.{entries}
use Rattle.flat_store_meaning.specs.Format.Format.{whole_lines}
use Rattle.flat_store_meaning.specs.Recovered.{Super, super_of, from, log_line, log_lines, log_of, home, replay, recovered, IsStore}
use Rattle.flat_store_meaning.specs.InOrder.{IsNamed, LineStands, Stands}
use Rattle.flat_store_meaning.specs.InOrder.IsNamed.{magic_word, tables, rows, writes, frames, log_blocks, start, drained, tail}
use Rattle.flat_store_meaning.specs.StoreFacts.{Gate, gate_line, gate_word, IsWord, StoreFacts}
use Rattle.flat_store_meaning.proofs.CheckLaws.{checks_from, same_store}
use Rattle.flat_store_meaning.proofs.FactsLaws.{replay_other}
use Rattle.flat_store_meaning.proofs.FreshLaws.{log_line-durable}
use Rattle.flat_store_meaning.proofs.PutLaws.{super_same}
use Rattle.flat_store_meaning.proofs.RecoveredLaws.{from-same, replay_named}
use Rattle.flat_store_laws.specs.OpenFacts.{keeping}

plain : (x : Bool) → (x || false) ≡ false → x ≡ false
plain true h = h
plain false h = h

module _ (lines blocks : ℕ) (s : State) (stands : Stands whole_lines lines blocks s) where
  abbrev sup : Super
  sup = super_of (current s)

  abbrev given : Words
  given = recovered whole_lines (current s)

  -- every image has the superblock that one reads
  pub same_super : (i : Image) → Leaves s i → super_of i ≡ super_of (current s)
  same_super i left = super_same i (current s) (λ l w named. single_version (s.nvm l w) (i.nvm l w) (stands.gates.superblock l w named) (left.words l w))

  same_lines : (i : Image) → Leaves s i → log_lines i ≡ log_lines (current s)
  same_lines i left =
      ap (λ (x : Super). from (log_line x.sizes x.drained i) x.start (x.tail - x.start)) (same_super i left)
      ∙ from-same _ _ _ _ (λ o above below. log_line-durable (super_of (current s)) s i o left (stands.log.lines o above (omega arith)))

  -- every image has the log that one reads
  pub stands_log : (i : Image) → Leaves s i → log_of whole_lines i ≡ log_of whole_lines (current s)
  stands_log i left = ap (λ (xs : List Line). grouped no_log (entries whole_lines 0 xs)) (same_lines i left)

  is_store : IsStore whole_lines (current s)
  is_store = record { magic_word = stands.gates.magic; checks = checks_from whole_lines (current s) stands.gates.super_checks stands.log.checks }

  sized : (w : ℕ) → 0 < w → w < 6 → IsNamed 0 w
  sized zero low high = absurd (omega arith)
  sized (suc zero) low high = tables
  sized (suc (suc zero)) low high = rows
  sized (suc (suc (suc zero))) low high = writes
  sized (suc (suc (suc (suc zero)))) low high = frames
  sized (suc (suc (suc (suc (suc zero))))) low high = log_blocks
  sized (suc (suc (suc (suc (suc (suc w)))))) low high = absurd (omega arith)

  one_gate : (gate : Gate) → IsSingle (s.nvm (gate_line gate) (gate_word gate))
  one_gate Gate.magic = stands.gates.superblock 0 0 magic_word
  one_gate Gate.start = stands.gates.superblock 1 0 start
  one_gate Gate.drained = stands.gates.superblock 2 0 drained
  one_gate Gate.tail = stands.gates.superblock 3 0 tail

  unlogged : (i : Image) → Leaves s i → (p l w : ℕ) → is_logged (log_of whole_lines i) p l w ≡ false → is_logged (log_of whole_lines (current s)) p l w ≡ false
  unlogged i left p l w h = ap (λ (x : Log). is_logged x p l w) (sym (stands_log i left)) ∙ h

  -- what the log doesn't name is its home in every image
  home_is : (i : Image) → Leaves s i → (p l w : ℕ) → IsWord sup.sizes p l w → is_logged (log_of whole_lines i) p l w ≡ false → home i p l w ≡ given p l w
  home_is i left p l w word h =
      ap (λ (x : Super). i.nvm (frame_line x.sizes p l) w) (same_super i left)
      ∙ stands.homes p l w word.page word.line word.word (unlogged i left p l w h) (i.nvm (frame_line sup.sizes p l) w) (left.words (frame_line sup.sizes p l) w)
      ∙ sym (replay_other whole_lines (log_of whole_lines (current s)) (home (current s)) p l w (unlogged i left p l w h))

  pub stands_facts : StoreFacts (keeping sup.sizes given given) s
  stands_facts = record {
    gates = record {
      sizes = λ w low high. stands.gates.superblock 0 w (sized w low high);
      others = λ gate none. one_gate gate;
      changing = λ change at v h. absurd (cc);
    };
    sizes = λ i left. ap (λ (x : Super). x.sizes) (same_super i left);
    durable = λ i left. record {
      log = subst (λ (x : Super). (o : ℕ) → x.start ≤ o → o < x.tail → LineStands x s o) (sym (same_super i left)) stands.log.lines;
      homes = λ p l w word h. stands.homes p l w word.page word.line word.word (unlogged i left p l w h);
    };
    homes = λ i left. record {
      current = λ p l w word h. home_is i left p l w word (plain (is_logged (log_of whole_lines i) p l w) h);
      committed = λ p l w word h. home_is i left p l w word (plain (is_logged (log_of whole_lines i) p l w) h);
    };
    log = λ i left. record {
      logged = λ p l w word h homes.
          ap (λ (x : Log). replay whole_lines x homes p l w) (stands_log i left)
          ∙ replay_named whole_lines (log_of whole_lines (current s)) homes (home (current s)) p l w (ap (λ (x : Log). is_logged x p l w) (sym (stands_log i left)) ∙ h);
      pending = λ p l w word h named. absurd (cc);
    };
    copies = λ i left p l w line word none h. absurd (cc);
    stores = λ i left. same_store whole_lines i (current s) (same_super i left) (same_lines i left) is_store;
  }
