-- How a run of writes to homes begins: with devices that hold a store, and that a crash can choose nothing of which recovery sees; with
-- devices that were made of an image of a store; with what loads give of the devices.
use Rattle.std.proofs.Common.{◌≡◌, ℕ, zero, suc, ◌+◌, ◌-◌, ◌<◌, ◌≤◌, true, false, List, refl, sym, ap, ◌∙◌, subst, arith, Option, Some, None}
use Rattle.std.proofs.lemmas.Bool.{or_parts}
use Rattle.nvm_model.specs.declared.line.Line.{Line}
use Rattle.nvm_model.specs.Word.{IsSingle}
use Rattle.nvm_model.proofs.WordLaws.{single_version}
use Rattle.devices.specs.State.{State, Image, Leaves, Call, Amid, after_all, current, fresh}
use Rattle.devices.specs.Growth.{AreWithin, no_store, no_write}
use Rattle.devices.proofs.GrowthLaws.{Amid-grows, Amid_end}
use Rattle.device_calls.specs.Leads.{Steps}
use Rattle.store_model.specs.Untouched.{Untouched}
use Rattle.home_laws.proofs.UntouchedLaws.{calls_untouched}
use Rattle.home_laws.proofs.QuietLaws.{quiet_facts, no_stores_quiet}
use Rattle.line_pages.specs.Pairs.{Pairs, no_pairs}
use Rattle.store_model.specs.Layout.{Sizes, frame_line, page_block, entry_line, entry_word}
use Rattle.store_model.specs.Log.{no_log, grouped, is_logged, Log}
use Rattle.store_model.specs.Format.{Format, entries}
use Rattle.store_model.specs.Recovered.{Super, super_of, entry_at, frame_of, home_in, home, log_line, log_lines, log_of, from, block_word, replay, recovered, IsStore}
use Rattle.store_model.specs.InOrder.{IsNamed, LineStands, HomeStands, Stands}
use Rattle.store_model.specs.InOrder.IsNamed.{magic_word, tables, rows, writes, frames, log_blocks, start, drained, tail}
use Rattle.store_model.specs.StoreFacts.{Gate, IsGate, gate_line, gate_word, IsWord, StoreFacts}
use Rattle.home_laws.proofs.RecoveredLaws.{frame_of-same, from-same}
use Rattle.home_laws.proofs.PutLaws.{super_same}
use Rattle.home_laws.proofs.FreshLaws.{log_line-durable}
use Rattle.home_laws.proofs.CheckLaws.{same_store, same_table, checks_from}
use Rattle.home_laws.proofs.InstallLaws.{replay_named}
use Rattle.home_laws.proofs.FactsLaws.{current_leaves, facts_recover, replay_other}
use Rattle.kept_laws.proofs.OpenFacts.{recovering, fresh_facts}
use Rattle.home_move.specs.Homes.{Aim, keeping, Homes, KeepsBut, entry_of}
use Rattle.home_move.specs.Moves.{ShowsSame}
use Rattle.home_move.proofs.ShowLaws.{quiet_shows}

-- ---- a store that stands

module _ (format : Format) (lines blocks : ℕ) (s : State) (stands : Stands format lines blocks s) where
  abbrev sup : Super
  sup = super_of (current s)

  -- each image has the superblock, the entries and the log that loads give
  same_super : (i : Image) → Leaves s i → super_of i ≡ sup
  same_super i left = super_same i (current s) (λ l w named. single_version (s.nvm l w) (i.nvm l w) (stands.gates.superblock l w named) (left.words l w))

  same_entry : (i : Image) → Leaves s i → (k : ℕ) → k ≤ sup.sizes.frames → entry_at i k ≡ entry_at (current s) k
  same_entry i left k h = single_version (s.nvm (entry_line k) (entry_word k)) (entry_at i k) (stands.gates.entries k h) (left.words (entry_line k) (entry_word k))

  same_lines : (i : Image) → Leaves s i → log_lines i ≡ log_lines (current s)
  same_lines i left = ap (λ (x : Super). from (log_line x.sizes x.drained i) x.start (x.tail - x.start)) (same_super i left)
      ∙ from-same _ _ _ _ (λ o above below. log_line-durable sup s i o left (stands.log.lines o above (omega arith)))

  same_log : (i : Image) → Leaves s i → log_of format i ≡ log_of format (current s)
  same_log i left = ap (λ (xs : List Line). grouped no_log (entries format 0 xs)) (same_lines i left)

  same_frame : (i : Image) → Leaves s i → (p : ℕ) → frame_of (entry_at i) (sup.sizes.frames + 1) p ≡ frame_of (entry_at (current s)) (sup.sizes.frames + 1) p
  same_frame i left p = frame_of-same (entry_at i) (entry_at (current s)) (sup.sizes.frames + 1) p (λ k less. same_entry i left k (omega arith))

  unlogged_now : (i : Image) → Leaves s i → (p l w : ℕ) → is_logged (log_of format i) p l w ≡ false → is_logged (log_of format (current s)) p l w ≡ false
  unlogged_now i left p l w h = sym (ap (λ (x : Log). is_logged x p l w) (same_log i left)) ∙ h

  -- what the log doesn't name has the home that loads give
  home_now : (i : Image) → Leaves s i → (p l w : ℕ) → IsWord sup.sizes p l w → is_logged (log_of format (current s)) p l w ≡ false → home i p l w ≡ home (current s) p l w
  home_now i left p l w word h =
      ap (λ (x : Super). home_in x.sizes i (frame_of (entry_at i) (x.sizes.frames + 1) p) p l w) (same_super i left)
      ∙ ap (λ (f : Option ℕ). home_in sup.sizes i f p l w) (same_frame i left p)
      ∙ by_frame (frame_of (entry_at (current s)) (sup.sizes.frames + 1) p) refl
    where
      stood : HomeStands sup.sizes (frame_of (entry_at (current s)) (sup.sizes.frames + 1) p) s p l w
      stood = stands.homes p l w word.page word.line word.word h

      by_frame : (f : Option ℕ) → frame_of (entry_at (current s)) (sup.sizes.frames + 1) p ≡ f → home_in sup.sizes i f p l w ≡ home_in sup.sizes (current s) f p l w
      by_frame None none = ap (λ xs. block_word xs l w) (left.blocks (page_block sup.sizes p) (stood.in_block none))
      by_frame (Some k) found = stood.in_frame k found _ (left.words (frame_line sup.sizes k l) w)

  size_named : (w : ℕ) → 0 < w → w < 6 → IsNamed 0 w
  size_named zero low high = absurd (omega arith)
  size_named (suc zero) low high = tables
  size_named (suc (suc zero)) low high = rows
  size_named (suc (suc (suc zero))) low high = writes
  size_named (suc (suc (suc (suc zero)))) low high = frames
  size_named (suc (suc (suc (suc (suc zero))))) low high = log_blocks
  size_named (suc (suc (suc (suc (suc (suc n)))))) low high = absurd (omega arith)

  gate_single : (gate : Gate) → IsGate sup.sizes gate → IsSingle (s.nvm (gate_line gate) (gate_word gate))
  gate_single Gate.magic in_store = stands.gates.superblock 0 0 magic_word
  gate_single Gate.start in_store = stands.gates.superblock 1 0 start
  gate_single Gate.drained in_store = stands.gates.superblock 2 0 drained
  gate_single Gate.tail in_store = stands.gates.superblock 3 0 tail
  gate_single (Gate.frame k) in_store = stands.gates.entries k in_store

  store_now : IsStore format (current s)
  store_now = record { magic_word = stands.gates.magic; checks = checks_from format (current s) stands.gates.super_checks stands.gates.table_checks stands.log.checks }

  -- So the facts hold of it, with what recovery gives as the current and the committed words.
  pub stands_facts : StoreFacts (recovering format (current s)) s
  stands_facts = record {
    gates = record {
      sizes = λ w low high. stands.gates.superblock 0 w (size_named w low high);
      others = λ gate in_store other. gate_single gate in_store;
      changing = λ change at. absurd (never change at);
    };
    sizes = λ i left. ap (λ (x : Super). x.sizes) (same_super i left);
    durable = λ i left. record {
      log = subst (λ (x : Super). (o : ℕ) → x.start ≤ o → o < x.tail → LineStands x s o) (sym (same_super i left)) stands.log.lines;
      homes = λ p l w word h. subst (λ (f : Option ℕ). HomeStands sup.sizes f s p l w) (sym (same_frame i left p)) (stands.homes p l w word.page word.line word.word (unlogged_now i left p l w h));
    };
    homes = λ i left. record {
      current = λ p l w word h. right i left p l w word (or_parts (is_logged (log_of format i) p l w) false h).0;
      committed = λ p l w word h. right i left p l w word (or_parts (is_logged (log_of format i) p l w) false h).0;
    };
    log = λ i left. record {
      logged = λ p l w word h homes. ap (λ (x : Log). replay format x homes p l w) (same_log i left)
          ∙ replay_named format (log_of format (current s)) homes (home (current s)) p l w (sym (ap (λ (x : Log). is_logged x p l w) (same_log i left)) ∙ h);
      pending = λ p l w word h named. right i left p l w word h;
    };
    copies = λ i left p l w line word copy. absurd (never line copy);
    stores = λ i left. same_store format i (current s) (same_super i left) (same_lines i left)
        (same_table i (current s) (ap (λ (x : Super). x.sizes) (same_super i left)) (same_entry i left) ∙ stands.gates.table_checks) store_now;
  }
    where
      never : {A : Type 0} (x : A) → None ≡ Some x → ⊥
      never x e = cc

      right : (i : Image) → Leaves s i → (p l w : ℕ) → IsWord sup.sizes p l w → is_logged (log_of format i) p l w ≡ false → home i p l w ≡ recovered format (current s) p l w
      right i left p l w word h = home_now i left p l w word (unlogged_now i left p l w h) ∙ sym (replay_other format (log_of format (current s)) (home (current s)) p l w (unlogged_now i left p l w h))

-- what an image says of its homes, these lines being known
abbrev pub aim_of : Format → Pairs → Image → Aim
aim_of format known i = record { format = format; sizes = (super_of i).sizes; gates = super_of i; log = log_lines i; entry = entry_at i; words = home i; known = known; kept = recovered format i }

-- So begins a recovery, with no line known to be flushed.
pub homes_stand : (format : Format) (lines blocks : ℕ) (s : State) → Stands format lines blocks s → (g : Sizes) (passing : Option ℕ) → (super_of (current s)).sizes ≡ g
    → entry_at (current s) g.frames ≡ entry_of passing → Homes g passing (aim_of format no_pairs (current s)) s
homes_stand format lines blocks s stands g passing sized there = record {
  sizes = sized;
  facts = stands_facts format lines blocks s stands;
  super_words = refl;
  log = refl;
  entries = λ k less. refl;
  passes = there;
  words = λ p l w word. refl;
  flushed = record { frames = λ k p l w h named known hl hw. absurd (none known); blocks = λ p l hp known hl unnamed. absurd (none known) };
}
  where
    none : false ≡ true → ⊥
    none e = cc

-- ---- calls that store and write nothing

-- Flushes, fences and syncs leave such a run as it is, at each moment: so a recovery makes durable what it stands on.
pub homes_rest : (g : Sizes) (passing : Option ℕ) (calls : List Call) → AreWithin no_store no_write calls → (aim : Aim) (s : State) → Homes g passing aim s → Steps (KeepsBut no_pairs) (Homes g passing) calls aim s
homes_rest g passing calls within aim s homes = subst (λ (x : Sizes). Homes x passing aim s → Steps (KeepsBut no_pairs) (Homes x passing) calls aim s) homes.sizes own homes
  where
    shows : (mid : State) → Amid s calls mid → ShowsSame aim.sizes s mid
    shows = quiet_shows (keeping aim) s homes.facts refl no_store no_write (no_stores_quiet s) calls within

    facts_at : (mid : State) → Amid s calls mid → StoreFacts (keeping aim) mid
    facts_at mid amid = quiet_facts (keeping aim) s homes.facts refl no_store no_write (no_stores_quiet s) mid (Amid-grows no_store no_write calls s mid within amid)

    own : Homes aim.sizes passing aim s → Steps (KeepsBut no_pairs) (Homes aim.sizes passing) calls aim s
    own was = record {
      facts = (let end : ShowsSame aim.sizes s (after_all calls s) = shows (after_all calls s) (Amid_end calls s) in
          let kept : Untouched no_store no_write s (after_all calls s) = calls_untouched no_store no_write calls s within in record {
            sizes = refl;
            facts = facts_at (after_all calls s) (Amid_end calls s);
            super_words = end.super_words ∙ was.super_words;
            log = end.log ∙ was.log;
            entries = λ k less. end.entries k (omega arith) ∙ was.entries k less;
            passes = end.entries aim.sizes.frames (omega arith) ∙ was.passes;
            words = λ p l w word. end.homes p l w word ∙ was.words p l w word;
            flushed = record {
              frames = λ k p l w h named known hl hw. kept.flushed (frame_line aim.sizes k l) w (λ v st. st) (was.flushed.frames k p l w h (sym (end.entries k h) ∙ named) known hl hw);
              blocks = λ p l hp known hl none. kept.settled (page_block aim.sizes p) (λ written. written) (was.flushed.blocks p l hp known hl (λ k h named. none k h (end.entries k h ∙ named)));
            };
          });
      moments = λ mid amid. let at : ShowsSame aim.sizes s mid = shows mid amid in record {
        keeps = record {
          changing = None;
          facts = facts_at mid amid;
          super_words = at.super_words ∙ was.super_words;
          log = at.log ∙ was.log;
          entries = λ k less. at.entries k (omega arith) ∙ was.entries k less;
        };
        words = λ p l w word h. at.homes p l w word ∙ was.words p l w word;
      };
    }

-- ---- devices that were made of an image

-- Of devices that were made of a store's image any line is known.
pub homes_open : (format : Format) (i : Image) → IsStore format i → (g : Sizes) (passing : Option ℕ) (known : Pairs) → (super_of i).sizes ≡ g → entry_at i g.frames ≡ entry_of passing
    → Homes g passing (aim_of format known i) (fresh i)
homes_open format i store g passing known sized there = record {
  sizes = sized;
  facts = fresh_facts format i store;
  super_words = refl;
  log = refl;
  entries = λ k less. refl;
  passes = there;
  words = λ p l w word. refl;
  flushed = record { frames = λ k p l w h named line_known hl hw. refl; blocks = λ p l hp line_known hl unnamed. refl };
}

-- So does a recovery that begins with what the devices have now: the words of such a run stay over a crash that keeps them.
pub homes_fresh : (g : Sizes) (passing : Option ℕ) (aim : Aim) (s : State) → Homes g passing aim s → Homes g passing aim (fresh (current s))
homes_fresh g passing aim s homes = record {
  sizes = homes.sizes;
  facts = fresh_again;
  super_words = homes.super_words;
  log = homes.log;
  entries = homes.entries;
  passes = homes.passes;
  words = homes.words;
  flushed = record { frames = λ k p l w h named line_known hl hw. refl; blocks = λ p l hp line_known hl unnamed. refl };
}
  where
    i : Image
    i = current s

    opened : StoreFacts (recovering aim.format i) (fresh i)
    opened = fresh_facts aim.format i (homes.facts.stores i (current_leaves s))

    sized : (super_of i).sizes ≡ aim.sizes
    sized = homes.facts.sizes i (current_leaves s)

    given : (p l w : ℕ) → IsWord (super_of i).sizes p l w → recovered aim.format i p l w ≡ aim.kept p l w
    given p l w word = facts_recover (keeping aim) s homes.facts i (current_leaves s) p l w (subst (λ (x : Sizes). IsWord x p l w) sized word)

    with_sizes : StoreFacts (record (keeping aim) { sizes = (super_of i).sizes }) (fresh i)
    with_sizes = record {
      gates = record { sizes = opened.gates.sizes; others = opened.gates.others; changing = opened.gates.changing };
      sizes = opened.sizes;
      durable = λ j left. record { log = (opened.durable j left).log; homes = (opened.durable j left).homes };
      homes = λ j left. record {
        current = λ p l w word h. (opened.homes j left).current p l w word h ∙ given p l w word;
        committed = λ p l w word h. (opened.homes j left).committed p l w word h ∙ given p l w word;
      };
      log = λ j left. record {
        logged = λ p l w word h words. (opened.log j left).logged p l w word h words ∙ given p l w word;
        pending = λ p l w word h named. (opened.log j left).pending p l w word h named ∙ given p l w word;
      };
      copies = λ j left. opened.copies j left;
      stores = opened.stores;
    }

    fresh_again : StoreFacts (keeping aim) (fresh i)
    fresh_again = subst (λ (x : Sizes). StoreFacts (record (keeping aim) { sizes = x }) (fresh i)) sized with_sizes
