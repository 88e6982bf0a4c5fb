-- Records that wait as the laws of the log want them, and what calls on the log make of the facts of the tiers.
use Rattle.std.proofs.Common.{◌≡◌, ℕ, ◌+◌, ◌<◌, ◌≤◌, true, List, [], ◌∷◌, ◌++◌, length, get_or, sym, ap, ◌∙◌, subst, arith, Option, Some, None}
use Rattle.nvm_model.specs.declared.line.Line.{Line}
use Rattle.devices.specs.State.{State, Call, current, after_all}
use Rattle.devices.specs.Growth.{AreWithin}
use Rattle.store_model.specs.Layout.{Sizes, frames_start, ring_lines, ring_blocks, ring_line, frame_line, page_block}
use Rattle.store_model.specs.Log.{Words, Change, Log, no_log, grouped, extended, is_logged}
use Rattle.store_model.specs.Log.Entry.{commit}
use Rattle.store_model.specs.Format.{entries, IsWhole, word_in, zero_line}
use Rattle.store_model.specs.Recovered.{Super, super_of, log_lines, entry_at, home_in, block_word, log_of, replay}
use Rattle.store_model.specs.Put.{put_calls, IsFlushed}
use Rattle.store_model.specs.Pending.{with_records, harden_calls, IsBehind, PendingStands, EndsRight}
use Rattle.store_model.specs.StoreFacts.{IsWord, StoreFacts}
use Rattle.store_model.specs.Untouched.{Untouched}
use Rattle.home_laws.proofs.UntouchedLaws.{calls_untouched}
use Rattle.home_laws.proofs.CheckLaws.{store_whole}
use Rattle.home_laws.proofs.FactsLaws.{current_leaves}
use Rattle.tier_facts.specs.Data.{Data, home_of, or_home}
use Rattle.tier_facts.specs.Facts.{Aim, Facts, aim_sizes, keeping, log_in, is_recorded}
use Rattle.tier_facts.proofs.PlaceLaws.{log_now}
use Rattle.transaction_facts.specs.Records.{Records, Waiting}

-- ---- the records as the laws of the log want them

module _ (t : Data) (aim : Aim) (s : State) (it : Facts t aim s) (records : Waiting aim) where
  pub stands_behind : IsBehind (keeping t aim) s aim.behind
  stands_behind = record {
    room = subst (λ (x : Super). x.tail + length aim.behind ≤ x.drained + ring_lines (aim_sizes aim)) (sym it.super_words) records.room;
    flushed = λ k w less hw. subst (λ (x : Super). IsFlushed (s.nvm (ring_line (aim_sizes aim) (x.tail + k)) w) (word_in (get_or aim.behind k zero_line) w)) (sym it.super_words) (it.waits k w less hw);
    are_lines = records.are_lines;
    passes = records.passes;
  }

  pub stands_pending : PendingStands (keeping t aim) s aim.behind
  stands_pending = record {
    behind = stands_behind;
    holds = records.holds;
    right = λ j left p l w word h homes.
        let log : log_of aim.format j ≡ log_in aim = log_now t aim s it j left in
        ap (λ (x : Log). replay aim.format (with_records x aim.pending) homes p l w) log
        ∙ records.right p l w word (sym (ap (λ (x : Log). is_logged (with_records x aim.pending) p l w) log) ∙ h) homes;
  }

pub ends_right : (t : Data) (aim : Aim) (s : State) → Facts t aim s → Records aim → EndsRight (keeping t aim) s
ends_right t aim s it records j left p l w word h homes =
    let log : log_of aim.format j ≡ log_in aim = log_now t aim s it j left in
    ap (λ (x : Log). replay aim.format (extended (with_records x aim.pending) commit) homes p l w) log
    ∙ records.ends p l w word (sym (ap (λ (x : Log). is_logged (extended (with_records x aim.pending) commit) p l w) log) ∙ h) homes

-- and back
pub records_from : (t : Data) (aim : Aim) (n : State) → super_of (current n) ≡ aim.super → log_lines (current n) ≡ aim.log
    → PendingStands (keeping t aim) n aim.behind → EndsRight (keeping t aim) n → Records aim
records_from t aim n super_is log_is stands ends =
    let log : log_of aim.format (current n) ≡ log_in aim = ap (λ (xs : List Line). grouped no_log (entries aim.format 0 xs)) log_is in
    record {
      waiting = record {
        room = subst (λ (x : Super). x.tail + length aim.behind ≤ x.drained + ring_lines (aim_sizes aim)) super_is stands.behind.room;
        are_lines = stands.behind.are_lines;
        passes = stands.behind.passes;
        holds = stands.holds;
        right = λ p l w word h homes. sym (ap (λ (x : Log). replay aim.format (with_records x aim.pending) homes p l w) log)
            ∙ stands.right (current n) (current_leaves n) p l w word (ap (λ (x : Log). is_logged (with_records x aim.pending) p l w) log ∙ h) homes;
      };
      ends = λ p l w word h homes. sym (ap (λ (x : Log). replay aim.format (extended (with_records x aim.pending) commit) homes p l w) log)
          ∙ ends (current n) (current_leaves n) p l w word (ap (λ (x : Log). is_logged (extended (with_records x aim.pending) commit) p l w) log ∙ h) homes;
    }

-- no entry of the log is cut short
pub whole_log : (t : Data) (aim : Aim) (s : State) → Facts t aim s → IsWhole aim.format 0 aim.log
whole_log t aim s it = subst (IsWhole aim.format 0) it.log_same (store_whole aim.format (current s) (it.facts.stores (current s) (current_leaves s)))

-- ---- calls that store below the frames, and write below the blocks of pages

abbrev pub low_stores : Sizes → ℕ → ℕ → ℕ → Type 0
low_stores g l w v = l < frames_start g

abbrev pub low_writes : Sizes → ℕ → Type 0
low_writes g n = n < ring_blocks g

pub puts_low : (g : Sizes) → 0 < g.log_blocks → (offset : ℕ) (lines : List Line) → AreWithin (low_stores g) (low_writes g) (put_calls g offset lines)
puts_low g some offset [] = tt
puts_low g some offset (line ∷ lines) = ((λ w less. omega arith), (tt, puts_low g some (offset + 1) lines))

pub harden_low : (g : Sizes) (tail : ℕ) → AreWithin (low_stores g) (low_writes g) (harden_calls tail)
harden_low g tail = (tt, (omega arith, (tt, (tt, tt))))

pub within_both : (stores : ℕ → ℕ → ℕ → Type 0) (writes : ℕ → Type 0) (xs ys : List Call) → AreWithin stores writes xs → AreWithin stores writes ys → AreWithin stores writes (xs ++ ys)
within_both stores writes [] ys first second = second
within_both stores writes (x ∷ xs) ys first second = (first.0, within_both stores writes xs ys first.1 second)

module _ (t : Data) (aim : Aim) (s : State) (it : Facts t aim s) (calls : List Call) (low : AreWithin (low_stores (aim_sizes aim)) (low_writes (aim_sizes aim)) calls)
    (start drained tail : ℕ) (log behind : List Line) (pending : List Change) (kept : Words) where
  abbrev next : State
  next = after_all calls s

  abbrev later : Aim
  later = record aim { super = record aim.super { start = start; drained = drained; tail = tail }; log = log; behind = behind; pending = pending; kept = kept }

  untouched : Untouched (low_stores (aim_sizes aim)) (low_writes (aim_sizes aim)) s next
  untouched = calls_untouched (low_stores (aim_sizes aim)) (low_writes (aim_sizes aim)) calls s low

  frame_newest : (k l w : ℕ) → (next.nvm (frame_line (aim_sizes aim) k l) w).newest ≡ (s.nvm (frame_line (aim_sizes aim) k l) w).newest
  frame_newest k l w = untouched.newest (frame_line (aim_sizes aim) k l) w (λ v st. omega arith)

  above : (p : ℕ) → low_writes (aim_sizes aim) (page_block (aim_sizes aim) p) → ⊥
  above p less = omega arith

  home_stays : (p l w : ℕ) → home_of (aim_sizes aim) t (current next) p l w ≡ home_of (aim_sizes aim) t (current s) p l w
  home_stays p l w = by (t.frame p)
    where
      by : (f : Option ℕ) → home_in (aim_sizes aim) (current next) f p l w ≡ home_in (aim_sizes aim) (current s) f p l w
      by None = ap (λ bytes. block_word bytes l w) (untouched.bytes (page_block (aim_sizes aim) p) (above p))
      by (Some k) = frame_newest k l w

  -- what holds of the new superblock and the new log, and what was not touched, are the facts of the new aim
  pub log_after : super_of (current next) ≡ later.super → log_lines (current next) ≡ log
      → ((k : ℕ) → k ≤ (aim_sizes aim).frames → entry_at (current next) k ≡ entry_at (current s) k)
      → StoreFacts (keeping t later) next
      → ((p l w : ℕ) → IsWord (aim_sizes aim) p l w → aim.loose p l ≡ true → is_recorded later p l w ≡ true)
      → ((k w : ℕ) → k < length behind → w < 8 → IsFlushed (next.nvm (ring_line (aim_sizes aim) (tail + k)) w) (word_in (get_or behind k zero_line) w))
      → Facts t later next
  log_after super_is log_is entries_are facts recorded_still waits = record {
    super_words = super_is;
    log_same = log_is;
    sizes_same = it.sizes_same;
    facts = facts;
    entries_same = λ k h. entries_are k h ∙ it.entries_same k h;
    owned = it.owned;
    framed = it.framed;
    owner = it.owner;
    frame = it.frame;
    words = λ p l w word. ap (or_home (t.copy p l) w) (home_stays p l w) ∙ it.words p l w word;
    loose = it.loose;
    recorded = recorded_still;
    clean = λ p l w x word at not. it.clean p l w x word at not ∙ sym (home_stays p l w);
    flushed = λ k p l w at hl hw. untouched.flushed (frame_line (aim_sizes aim) k l) w (λ v st. omega arith) (it.flushed k p l w at hl hw);
    settled = λ p hp none. untouched.settled (page_block (aim_sizes aim) p) (above p) (it.settled p hp none);
    unworn = λ k p at not. record {
      settled = untouched.settled (page_block (aim_sizes aim) p) (above p) (it.unworn k p at not).settled;
      words = λ l w hl hw. ap (λ bytes. block_word bytes l w) (untouched.bytes (page_block (aim_sizes aim) p) (above p)) ∙ (it.unworn k p at not).words l w hl hw ∙ sym (frame_newest k l w);
    };
    waits = waits;
  }
