-- An entry at the end of the log, made durable at once: a record, a commit or an abort.
use Rattle.std.proofs.Common.{◌≡◌, ℕ, ◌+◌, ◌<◌, ◌≤◌, Bool, true, false, ◌||◌, List, [], ◌∷◌, length, get_or, append_assoc, refl, sym, ap, ◌∙◌, subst, inl, inr, arith, slice_index, eqb, None}
use Rattle.std.proofs.lemmas.Bool.{cases_Bool, cond-true, cond-false, eq-eqb, ne_eqb}
use Rattle.nvm_model.specs.declared.line.Line.{Line}
use Rattle.devices.specs.State.{State, Image, Leaves, current, after_all, Amid, Call}
use Rattle.devices.specs.State.Call.{fence}
use Rattle.store_model.specs.Layout.{Sizes, ring_lines}
use Rattle.store_model.specs.Log.{Words, Change, Entry, Log, grouped, extended, names, named_in, changes, is_logged}
use Rattle.store_model.specs.Log.Item.{write}
use Rattle.store_model.specs.Log.Entry.{item, commit, abort}
use Rattle.store_model.specs.Format.{entries, log_check, zero_line}
use Rattle.store_model.specs.Recovered.{Super, super_of, log_of, replay}
use Rattle.store_model.specs.StoreFacts.{Bookkeeping, IsWord, is_written, StoreFacts, moving, committed_from}
use Rattle.store_model.specs.Put.{put_calls, tail_calls, append_calls, IsLine, CanPut}
use Rattle.store_model.specs.Pending.{end_calls, IsConstant}
use Rattle.home_laws.proofs.LogLaws.{not_logged_before, is_logged-extended, items_of}
use Rattle.log_laws.proofs.AppendLaws.{replay-record}
use Rattle.home_laws.proofs.FactsLaws.{current_leaves, replay-record_named, replay-abort, only_here}
use Rattle.home_laws.proofs.SeenLaws.{facts_super}
use Rattle.log_laws.proofs.BehindLaws.{none_behind}
use Rattle.log_laws.proofs.EndFacts.{end_facts, end_done}

-- the calls of an append are those of lines that are put behind none
pub append_is : (g : Sizes) (tail : ℕ) (xs : List Line) → append_calls g tail xs ≡ end_calls g (tail + 0) xs
append_is g tail xs = append_assoc (put_calls g tail xs) (fence ∷ []) (tail_calls (tail + length xs)) ∙ ap (λ n. end_calls g n xs) (omega arith)

module _ (b : Bookkeeping) (s : State) (facts : StoreFacts b s) (still : b.changing ≡ None) (xs : List Line) (can : CanPut s (length xs))
    (are_lines : (k : ℕ) → k < length xs → IsLine (get_or xs k zero_line)) (passes : (at : ℕ) → log_check b.format b.sizes at 0 xs ≡ None)
    (e : Entry) (is : entries b.format 0 xs ≡ e ∷ []) where
  abbrev sup : Super
  sup = super_of (current s)

  same_sizes : sup.sizes ≡ b.sizes
  same_sizes = facts.sizes (current s) (current_leaves s)

  room : sup.tail + 0 + length xs ≤ sup.drained + ring_lines b.sizes
  room = subst (λ (g : Sizes). sup.tail + 0 + length xs ≤ sup.drained + ring_lines g) same_sizes (let fits : sup.tail + length xs ≤ sup.drained + ring_lines sup.sizes = can.room in omega arith)

  same_tail : sup.tail + 0 + length xs ≡ sup.tail + length xs
  same_tail = omega arith

  is_log : (log : Log) → grouped log (entries b.format 0 xs) ≡ extended log e
  is_log log = ap (grouped log) is

  module _ (committed : ℕ → Words)
      (out : (j : Image) → Leaves s j → (p l w : ℕ) → IsWord b.sizes p l w → is_logged (extended (log_of b.format j) e) p l w ≡ false → b.committed sup.tail p l w ≡ committed (sup.tail + length xs) p l w)
      (gives : (j : Image) → Leaves s j → (p l w : ℕ) → IsWord b.sizes p l w → is_logged (extended (log_of b.format j) e) p l w ≡ true → (homes : Words)
      → replay b.format (extended (log_of b.format j) e) homes p l w ≡ committed (sup.tail + length xs) p l w) where
    out' : (j : Image) → Leaves s j → (p l w : ℕ) → IsWord b.sizes p l w → is_logged (grouped (log_of b.format j) (entries b.format 0 xs)) p l w ≡ false
        → b.committed sup.tail p l w ≡ committed (sup.tail + 0 + length xs) p l w
    out' j left p l w word h = out j left p l w word (sym (ap (λ (x : Log). is_logged x p l w) (is_log (log_of b.format j))) ∙ h) ∙ sym (ap (λ n. committed n p l w) same_tail)

    gives' : (j : Image) → Leaves s j → (p l w : ℕ) → IsWord b.sizes p l w → is_logged (grouped (log_of b.format j) (entries b.format 0 xs)) p l w ≡ true → (homes : Words)
        → replay b.format (grouped (log_of b.format j) (entries b.format 0 xs)) homes p l w ≡ committed (sup.tail + 0 + length xs) p l w
    gives' j left p l w word h homes = ap (λ (x : Log). replay b.format x homes p l w) (is_log (log_of b.format j))
        ∙ gives j left p l w word (sym (ap (λ (x : Log). is_logged x p l w) (is_log (log_of b.format j))) ∙ h) homes ∙ sym (ap (λ n. committed n p l w) same_tail)

    calls_are : append_calls sup.sizes sup.tail xs ≡ end_calls b.sizes (sup.tail + 0) xs
    calls_are = append_is sup.sizes sup.tail xs ∙ ap (λ (g : Sizes). end_calls g (sup.tail + 0) xs) same_sizes

    -- An entry at the end of the log keeps the facts at each moment,
    pub entry_facts : ((p l w : ℕ) → b.committed sup.tail p l w ≡ committed sup.tail p l w)
        → (mid : State) → Amid s (append_calls sup.sizes sup.tail xs) mid → StoreFacts (moving b sup.tail (sup.tail + length xs) committed) mid
    entry_facts at_old mid amid = subst (λ n. StoreFacts (moving b sup.tail n committed) mid) same_tail
        (end_facts b s facts still [] (none_behind b s facts) xs room are_lines passes committed out' gives' at_old mid (subst (λ (calls : List Call). Amid s calls mid) calls_are amid))

    -- and when it is done.
    pub entry_done : StoreFacts (record b { committed = committed }) (after_all (append_calls sup.sizes sup.tail xs) s)
    entry_done = subst (λ (calls : List Call). StoreFacts (record b { committed = committed }) (after_all calls s)) (sym calls_are)
        (end_done b s facts still [] (none_behind b s facts) xs room are_lines passes committed out' gives' b.pending (λ j left p l w h named. named) (λ p l w named. named))

-- A record at the end of the log: each word that it names, and that no record of the open group names yet, has its committed
-- word as before value.
module _ (b : Bookkeeping) (s : State) (facts : StoreFacts b s) (still : b.changing ≡ None) (xs : List Line) (can : CanPut s (length xs))
    (are_lines : (k : ℕ) → k < length xs → IsLine (get_or xs k zero_line)) (passes : (at : ℕ) → log_check b.format b.sizes at 0 xs ≡ None)
    (r : Change) (is : entries b.format 0 xs ≡ item (write r) ∷ [])
    (constant : IsConstant b (super_of (current s)).tail ((super_of (current s)).tail + length xs))
    (before : (j : Image) → Leaves s j → (p l w : ℕ) → IsWord b.sizes p l w → names r p l w ≡ true → named_in (changes (log_of b.format j).open_items) p l w ≡ false
    → b.committed (super_of (current s)).tail p l w ≡ slice_index r.before.words w) where
  record_gives : (j : Image) → Leaves s j → (p l w : ℕ) → IsWord b.sizes p l w → is_logged (extended (log_of b.format j) (item (write r))) p l w ≡ true
      → (homes : Words) → replay b.format (extended (log_of b.format j) (item (write r))) homes p l w ≡ b.committed ((super_of (current s)).tail + length xs) p l w
  record_gives j left p l w word h homes =
      let log : Log = log_of b.format j in
      let at_j : b.committed (super_of j).tail p l w ≡ b.committed (super_of (current s)).tail p l w = ap (λ (x : Super). b.committed x.tail p l w) (facts_super b s facts still j left) in
      elim (cases_Bool (is_logged log p l w)) [
        | inl logged ↦
            (let old : replay b.format log homes p l w ≡ b.committed (super_of (current s)).tail p l w = (facts.log j left).logged p l w word logged homes ∙ at_j in
            replay-record b.format log r homes p l w (λ named unnamed. old ∙ before j left p l w word named unnamed) ∙ old ∙ sym (constant p l w))
        | inr unlogged ↦
            (let parts : (names r p l w ≡ true) × (named_in (changes log.open_items) p l w ≡ false) = only_here log r p l w unlogged h in
            replay-record_named b.format log r homes p l w parts.0 parts.1 ∙ sym (before j left p l w word parts.0 parts.1) ∙ sym (constant p l w))
      ]

  pub record_facts : (mid : State) → Amid s (append_calls (super_of (current s)).sizes (super_of (current s)).tail xs) mid
      → StoreFacts (moving b (super_of (current s)).tail ((super_of (current s)).tail + length xs) b.committed) mid
  record_facts = entry_facts b s facts still xs can are_lines passes (item (write r)) is b.committed (λ j left p l w word h. sym (constant p l w)) record_gives (λ p l w. refl)

  pub record_done : StoreFacts b (after_all (append_calls (super_of (current s)).sizes (super_of (current s)).tail xs) s)
  record_done = entry_done b s facts still xs can are_lines passes (item (write r)) is b.committed (λ j left p l w word h. sym (constant p l w)) record_gives

-- The end of an abort, with no further condition.
module _ (b : Bookkeeping) (s : State) (facts : StoreFacts b s) (still : b.changing ≡ None) (xs : List Line) (can : CanPut s (length xs))
    (are_lines : (k : ℕ) → k < length xs → IsLine (get_or xs k zero_line)) (passes : (at : ℕ) → log_check b.format b.sizes at 0 xs ≡ None)
    (is : entries b.format 0 xs ≡ abort ∷ []) (constant : IsConstant b (super_of (current s)).tail ((super_of (current s)).tail + length xs)) where
  abort_gives : (j : Image) → Leaves s j → (p l w : ℕ) → IsWord b.sizes p l w → is_logged (extended (log_of b.format j) abort) p l w ≡ true
      → (homes : Words) → replay b.format (extended (log_of b.format j) abort) homes p l w ≡ b.committed ((super_of (current s)).tail + length xs) p l w
  unfolding items_of
  abort_gives j left p l w word h homes =
      replay-abort b.format (log_of b.format j) homes p l w
      ∙ (facts.log j left).logged p l w word (or_none (is_logged (log_of b.format j) p l w) (sym (is_logged-extended (log_of b.format j) abort p l w) ∙ h)) homes
      ∙ ap (λ (x : Super). b.committed x.tail p l w) (facts_super b s facts still j left) ∙ sym (constant p l w)
    where
      or_none : (x : Bool) → (x || false) ≡ true → x ≡ true
      or_none true h = refl
      or_none false h = h

  pub abort_facts : (mid : State) → Amid s (append_calls (super_of (current s)).sizes (super_of (current s)).tail xs) mid
      → StoreFacts (moving b (super_of (current s)).tail ((super_of (current s)).tail + length xs) b.committed) mid
  abort_facts = entry_facts b s facts still xs can are_lines passes abort is b.committed (λ j left p l w word h. sym (constant p l w)) abort_gives (λ p l w. refl)

  pub abort_done : StoreFacts b (after_all (append_calls (super_of (current s)).sizes (super_of (current s)).tail xs) s)
  abort_done = entry_done b s facts still xs can are_lines passes abort is b.committed (λ j left p l w word h. sym (constant p l w)) abort_gives

-- The end of a commit, where nothing is pending and the groups with it last replay to the current words, which become the
-- committed ones. An image with the new tail has those, one with the old tail the old ones.
module _ (b : Bookkeeping) (s : State) (facts : StoreFacts b s) (still : b.changing ≡ None) (xs : List Line) (can : CanPut s (length xs))
    (are_lines : (k : ℕ) → k < length xs → IsLine (get_or xs k zero_line)) (passes : (at : ℕ) → log_check b.format b.sizes at 0 xs ≡ None)
    (is : entries b.format 0 xs ≡ commit ∷ []) (none : b.pending ≡ [])
    (gives : (j : Image) → Leaves s j → (p l w : ℕ) → IsWord b.sizes p l w → is_logged (extended (log_of b.format j) commit) p l w ≡ true
    → (homes : Words) → replay b.format (extended (log_of b.format j) commit) homes p l w ≡ b.current p l w) where
  abbrev old_tail : ℕ
  old_tail = (super_of (current s)).tail

  abbrev new_tail : ℕ
  new_tail = old_tail + length xs

  at_new : (p l w : ℕ) → committed_from new_tail b.current b.committed new_tail p l w ≡ b.current p l w
  at_new p l w = ap (λ (x : Words). x p l w) (cond-true (eqb new_tail new_tail) b.current (b.committed new_tail) (eq-eqb new_tail new_tail refl))

  out_current : (j : Image) → Leaves s j → (p l w : ℕ) → IsWord b.sizes p l w → is_logged (extended (log_of b.format j) commit) p l w ≡ false → b.committed old_tail p l w ≡ b.current p l w
  out_current j left p l w word h =
      let unlogged : is_logged (log_of b.format j) p l w ≡ false = not_logged_before (log_of b.format j) commit p l w h in
      let unwritten : is_written b j p l w ≡ false = rw (unlogged, none) refl in
      sym (ap (λ (x : Super). b.committed x.tail p l w) (facts_super b s facts still j left)) ∙ sym ((facts.homes j left).committed p l w word unwritten) ∙ (facts.homes j left).current p l w word unwritten

  long : 0 < length xs
  long = some xs is
    where
      some : (zs : List Line) → entries b.format 0 zs ≡ commit ∷ [] → 0 < length zs
      some [] h = cc
      some (z ∷ zs) h = omega arith

  pub commit_facts : (mid : State) → Amid s (append_calls (super_of (current s)).sizes (super_of (current s)).tail xs) mid
      → StoreFacts (moving b (super_of (current s)).tail ((super_of (current s)).tail + length xs) (committed_from ((super_of (current s)).tail + length xs) b.current b.committed)) mid
  commit_facts = entry_facts b s facts still xs can are_lines passes commit is (committed_from new_tail b.current b.committed)
      (λ j left p l w word h. out_current j left p l w word h ∙ sym (at_new p l w))
      (λ j left p l w word h homes. gives j left p l w word h homes ∙ sym (at_new p l w))
      (λ p l w. sym (ap (λ (x : Words). x p l w) (cond-false (eqb old_tail new_tail) b.current (b.committed old_tail) (ne_eqb old_tail new_tail (λ clash. let some : 0 < length xs = long in omega arith)))))

  pub commit_done : StoreFacts (record b { committed = λ n. b.current }) (after_all (append_calls (super_of (current s)).sizes (super_of (current s)).tail xs) s)
  commit_done = entry_done b s facts still xs can are_lines passes commit is (λ n. b.current) out_current gives
