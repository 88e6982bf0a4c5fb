-- The facts of an open store: what recovery gives by them, and that an entry at the end of the log keeps them.
use Rattle.std.proofs.Common.{◌≡◌, ℕ, ◌+◌, ◌-◌, ◌≤◌, Bool, true, false, ◌||◌, refl, sym, ◌∙◌, subst, inl, inr, arith, slice_index, Some, None}
use Rattle.std.proofs.lemmas.Bool.{cases_Bool, or_parts}
use Rattle.devices.specs.State.{State, Image, Leaves, current}
use Rattle.nvm_model.specs.Word.{IsSingle}
use Rattle.store_model.specs.Layout.{Sizes, ring_lines}
use Rattle.store_model.specs.Log.{Words, Change, Log, extended, names, named_in, changes, is_logged, named_in_groups, applied, applied_with_cuts}
use Rattle.store_model.specs.Log.Item.{write}
use Rattle.store_model.specs.Log.Entry.{item, abort}
use Rattle.store_model.specs.Format.{Format}
use Rattle.store_model.specs.Format.Format.{whole_lines, named_words, with_cuts}
use Rattle.store_model.specs.Recovered.{super_of, log_of, home, replay, recovered}
use Rattle.store_model.specs.InOrder.{IsNamed}
use Rattle.store_model.specs.InOrder.IsNamed.{magic_word, tables, rows, writes, frames, log_blocks, start, drained, tail}
use Rattle.store_model.specs.Put.{CanPut}
use Rattle.store_model.specs.StoreFacts.{Gate, IsGate, gate_line, gate_word, Changing, Bookkeeping, IsWord, StoreFacts}
use Rattle.home_laws.proofs.LogLaws.{plain_replay, replay_with_cuts, replayed-record_named, replayed-abort, replayed_other, is_logged-extended, or_second, items_of}
use Rattle.store_model.specs.Checked.{SuperPasses}
use Rattle.home_laws.proofs.CheckLaws.{store_passes, allowed_ring}

-- what the log doesn't name is its home, in each format
pub replay_other : (format : Format) (log : Log) (a : Words) (p l w : ℕ) → is_logged log p l w ≡ false → replay format log a p l w ≡ a p l w
replay_other whole_lines log a p l w h = replayed_other applied plain_replay log a p l w h
replay_other named_words log a p l w h = replayed_other applied plain_replay log a p l w h
replay_other with_cuts log a p l w h = replayed_other applied_with_cuts replay_with_cuts log a p l w h

-- By the facts every image recovers to the committed words.
pub facts_recover : (b : Bookkeeping) (s : State) → StoreFacts b s → (i : Image) → Leaves s i → (p l w : ℕ) → IsWord b.sizes p l w
    → recovered b.format i p l w ≡ b.committed (super_of i).tail p l w
facts_recover b s facts i leaves p l w word = elim (cases_Bool (is_logged (log_of b.format i) p l w)) [
  | inl logged ↦ (facts.log i leaves).logged p l w word logged (home i)
  | inr unlogged ↦ replay_other b.format (log_of b.format i) (home i) p l w unlogged ∙ elim (cases_Bool (named_in b.pending p l w)) [
    | inl pending ↦ (facts.log i leaves).pending p l w word unlogged pending
    | inr neither ↦ (facts.homes i leaves).committed p l w word (rw (unlogged, neither))
  ]
]

-- a word that only the last record names, in each format
pub replay-record_named : (format : Format) (log : Log) (c : Change) (a : Words) (p l w : ℕ) → names c p l w ≡ true → named_in (changes log.open_items) p l w ≡ false
    → replay format (extended log (item (write c))) a p l w ≡ slice_index c.before.words w
replay-record_named whole_lines log c a p l w here unnamed = replayed-record_named applied plain_replay log c a p l w here unnamed
replay-record_named named_words log c a p l w here unnamed = replayed-record_named applied plain_replay log c a p l w here unnamed
replay-record_named with_cuts log c a p l w here unnamed = replayed-record_named applied_with_cuts replay_with_cuts log c a p l w here unnamed

-- what is logged with the record and not without it, the record names and no other
pub only_here : (log : Log) (c : Change) (p l w : ℕ) → is_logged log p l w ≡ false → is_logged (extended log (item (write c))) p l w ≡ true
    → (names c p l w ≡ true) × (named_in (changes log.open_items) p l w ≡ false)
unfolding items_of
only_here log c p l w unlogged logged =
    let both : (is_logged log p l w || (names c p l w || false)) ≡ true = sym (is_logged-extended log (item (write c)) p l w) ∙ logged in (
      or_last (names c p l w) (or_second (is_logged log p l w) (names c p l w || false) unlogged both),
      (or_parts (named_in_groups log.closed p l w) (named_in (changes log.open_items) p l w) unlogged).1,
    )
  where
    or_last : (x : Bool) → (x || false) ≡ true → x ≡ true
    or_last true h = refl
    or_last false h = h

pub some_same : (x y : Changing) → Some x ≡ Some y → x ≡ y
some_same x y e = cc

-- loads and reads give an image that a crash may leave
pub current_leaves : (s : State) → Leaves s (current s)
current_leaves s = record { words = λ l w. inl refl; blocks = λ b h. refl }

-- an abort at the end, in each format
pub replay-abort : (format : Format) (log : Log) (a : Words) (p l w : ℕ) → replay format (extended log abort) a p l w ≡ replay format log a p l w
replay-abort whole_lines log a p l w = replayed-abort applied plain_replay log a p l w
replay-abort named_words log a p l w = replayed-abort applied plain_replay log a p l w
replay-abort with_cuts log a p l w = replayed-abort applied_with_cuts replay_with_cuts log a p l w

-- Where no gate is being changed and there is room, lines can be put at the end of the log.
pub facts_can_put : (b : Bookkeeping) (s : State) (n : ℕ) → StoreFacts b s → b.changing ≡ None
    → (super_of (current s)).tail + n ≤ (super_of (current s)).drained + ring_lines (super_of (current s)).sizes → CanPut s n
facts_can_put b s n facts still room =
    let same : (super_of (current s)).sizes ≡ b.sizes = facts.sizes (current s) (current_leaves s) in
    let passes : SuperPasses (super_of (current s)) = store_passes b.format (current s) (facts.stores (current s) (current_leaves s)) in
    let gate : (gate : Gate) → IsGate b.sizes gate → IsSingle (s.nvm (gate_line gate) (gate_word gate)) =
    (λ gate in_store. facts.gates.others gate in_store (λ change at e. never change (sym still ∙ at))) in
    record {
      superblock = λ l w named. by_name l w named (gate Gate.magic tt) (gate Gate.start tt) (gate Gate.drained tt) (gate Gate.tail tt);
      entries = λ k h. gate (Gate.frame k) (subst (λ (g : Sizes). k ≤ g.frames) same h);
      log = (facts.durable (current s) (current_leaves s)).log;
      ring = allowed_ring (super_of (current s)).sizes passes.sizes;
      started = passes.started;
      drained = passes.drained;
      room = room;
    }
  where
    never : (change : Changing) → None ≡ Some change → ⊥
    never change at = cc

    by_name : (l w : ℕ) → IsNamed l w → IsSingle (s.nvm 0 0) → IsSingle (s.nvm 1 0) → IsSingle (s.nvm 2 0) → IsSingle (s.nvm 3 0) → IsSingle (s.nvm l w)
    by_name l w magic_word a b c d = a
    by_name l w tables a b c d = facts.gates.sizes 1 (omega arith) (omega arith)
    by_name l w rows a b c d = facts.gates.sizes 2 (omega arith) (omega arith)
    by_name l w writes a b c d = facts.gates.sizes 3 (omega arith) (omega arith)
    by_name l w frames a b c d = facts.gates.sizes 4 (omega arith) (omega arith)
    by_name l w log_blocks a b c d = facts.gates.sizes 5 (omega arith) (omega arith)
    by_name l w start a b c d = b
    by_name l w drained a b c d = c
    by_name l w tail a b c d = d

-- no room is needed for no lines
pub facts_can_put_none : (b : Bookkeeping) (s : State) → StoreFacts b s → b.changing ≡ None → CanPut s 0
facts_can_put_none b s facts still = facts_can_put b s 0 facts still
    (let passes : SuperPasses (super_of (current s)) = store_passes b.format (current s) (facts.stores (current s) (current_leaves s)) in
    let in_ring : (super_of (current s)).tail - (super_of (current s)).drained ≤ ring_lines (super_of (current s)).sizes = passes.in_ring in omega arith)
