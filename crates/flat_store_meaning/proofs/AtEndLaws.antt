-- An entry at the end of the log, and a log that is emptied, at the device: the groups, and the facts.
use Rattle.std.proofs.Common.{◌≡◌, ◌⊎◌, ℕ, ◌+◌, ◌-◌, ◌<◌, ◌≤◌, true, false, List, [], ◌∷◌, length, refl, sym, ap, ◌∙◌, subst, inl, inr, arith, get_or, slice_index, IsTrue, Result, Ok, Err, None, eqb}
use Rattle.std.specs.Prelude.{OnOk}
use Rattle.std.proofs.lemmas.Bool.{cond-true, eq-eqb}
use Rattle.nvm_model.specs.declared.line.Line.{Line}
use Rattle.nvm_model.specs.Word.{Word}
use Rattle.devices.specs.State.{State, Image, Amid, Leaves, current, after_all}
use Rattle.devices.specs.World.{Standing, MakesAll, now}
use Rattle.devices.proofs.MomentLaws.{Moments-map}
use Rattle.devices.proofs.GrowthLaws.{Amid_end}
use Rattle.flat_store_meaning.specs.Layout.{Sizes, ring_lines}
use Rattle.flat_store_meaning.specs.Log.{Words, Change, Entry, Log, no_log, grouped, extended, names, named_in, changes}
use Rattle.flat_store_meaning.specs.Log.Item.{write}
use Rattle.flat_store_meaning.specs.Log.Entry.{item, commit, abort}
use Rattle.flat_store_meaning.specs.Format.{Format, entries, IsWhole, zero_line, log_check}
use Rattle.flat_store_meaning.specs.Recovered.{Super, super_of, log_line, log_lines, log_of, from}
use Rattle.flat_store_meaning.specs.View.{Alike, Extends}
use Rattle.flat_store_meaning.specs.Put.{append_calls, start_calls, IsLine, CanPut}
use Rattle.flat_store_meaning.specs.StoreFacts.{Bookkeeping, IsWord, StoreFacts, EndsRight, moving, committed_from}
use Rattle.flat_store_meaning.specs.Checked.{SuperPasses}
use Rattle.flat_store_meaning.proofs.StartLaws.{start_logs, start_empty, start_single, start_done, start_facts}
use Rattle.flat_store_meaning.proofs.CheckLaws.{store_passes}
use Rattle.flat_store_meaning.specs.AtEnd.{Empties, starting, HomesHoldAll, HasLog, HasEither, CanExtend, PutsLast, KeepsFacts, putting, committing, committed_now, IsConstant}
use Rattle.flat_store_meaning.proofs.RecoveredLaws.{from-same}
use Rattle.flat_store_meaning.proofs.PutLaws.{durable_super, put_at_end, put_done, put_gate, single_at}
use Rattle.flat_store_meaning.proofs.AppendLaws.{extended_log}
use Rattle.flat_store_meaning.proofs.FreshLaws.{log_line-durable}
use Rattle.flat_store_meaning.proofs.FactsLaws.{current_leaves, record_facts, abort_facts, commit_facts, facts_done, facts_can_put}

pub OnOk_map : {T E : Type 0} {P Q : Type 0} (r : Result T E) → (P → Q) → OnOk r P → OnOk r Q
OnOk_map (Ok v) f h = f h
OnOk_map (Err e) f h = tt

-- the facts depend on the committed words at the tails of the images alone
pub facts_committed : (b : Bookkeeping) (c d : ℕ → Words) (s : State) → StoreFacts (record b { committed = c }) s
    → ((i : Image) → Leaves s i → (p l w : ℕ) → c (super_of i).tail p l w ≡ d (super_of i).tail p l w) → StoreFacts (record b { committed = d }) s
facts_committed b c d s facts same = record {
  gates = record { sizes = facts.gates.sizes; others = facts.gates.others; changing = facts.gates.changing };
  sizes = facts.sizes;
  durable = λ i leaves. record { log = (facts.durable i leaves).log; homes = (facts.durable i leaves).homes };
  homes = λ i leaves. record { current = (facts.homes i leaves).current; committed = λ p l w word h. (facts.homes i leaves).committed p l w word h ∙ same i leaves p l w };
  log = λ i leaves. record {
    logged = λ p l w word h homes. (facts.log i leaves).logged p l w word h homes ∙ same i leaves p l w;
    pending = λ p l w word h named. (facts.log i leaves).pending p l w word h named ∙ same i leaves p l w;
  };
  copies = facts.copies;
  stores = facts.stores;
}

-- every image of a durable log has it
pub log_durable : (s : State) (n : ℕ) → CanPut s n → (j : Image) → Leaves s j → log_lines j ≡ log_lines (current s)
log_durable s n can j left =
    ap (λ (x : Super). from (log_line x.sizes x.drained j) x.start (x.tail - x.start)) (durable_super s n can j left)
    ∙ from-same _ _ _ _ (λ o above below. log_line-durable (super_of (current s)) s j o left (can.log o above (omega arith)))

module _ (format : Format) (s : State) (xs : List Line) (can : CanExtend format s (length xs))
    (are_lines : (k : ℕ) → k < length xs → IsLine (get_or xs k zero_line)) (e : Entry) (is : entries format 0 xs ≡ e ∷ []) where
  same_log : (i j : Image) → Leaves s j → log_lines i ≡ log_lines j → log_of format i ≡ log_of format (current s)
  same_log i j left same = ap (λ (lines : List Line). grouped no_log (entries format 0 lines)) (same ∙ log_durable s (length xs) can.can j left)

  whole_at : (j : Image) → Leaves s j → IsWhole format 0 (log_lines j)
  whole_at j left = subst (λ (lines : List Line). IsWhole format 0 lines) (sym (log_durable s (length xs) can.can j left)) can.whole

  longer_log : (i j : Image) → Leaves s j → Extends i j xs → log_of format i ≡ extended (log_of format (current s)) e
  longer_log i j left extends =
      extended_log format i j xs extends (whole_at j left) ∙ ap (grouped (log_of format j)) is
      ∙ ap (λ (log : Log). extended log e) (same_log j j left refl)

  pub put_groups : (mid : State) → Amid s (append_calls (super_of (current s)).sizes (super_of (current s)).tail xs) mid → HasEither format (log_of format (current s)) e mid
  put_groups mid amid i leaves =
      let found : (j : Image) × Leaves s j × (Alike i j ⊎ Extends i j xs) = put_at_end s xs can.can are_lines mid amid i leaves in
      elim found.2 [
        | inl alike ↦ inl (same_log i found.0 found.1 alike.log)
        | inr extends ↦ inr (longer_log i found.0 found.1 extends)
      ]

  pub put_groups_done : HasLog format (extended (log_of format (current s)) e) (after_all (append_calls (super_of (current s)).sizes (super_of (current s)).tail xs) s)
  put_groups_done i leaves =
      let found : (j : Image) × Leaves s j × Extends i j xs = put_done s xs can.can are_lines i leaves in longer_log i found.0 found.1 found.2

-- what the superblock says when lines were put at the end
pub put_super : (s : State) (xs : List Line) → CanPut s (length xs) → ((k : ℕ) → k < length xs → IsLine (get_or xs k zero_line))
    → super_of (current (after_all (append_calls (super_of (current s)).sizes (super_of (current s)).tail xs) s)) ≡ record (super_of (current s)) { tail = (super_of (current s)).tail + length xs }
put_super s xs can are_lines =
    let done : State = after_all (append_calls (super_of (current s)).sizes (super_of (current s)).tail xs) s in
    let found : (j : Image) × Leaves s j × Extends (current done) j xs = put_done s xs can are_lines (current done) (current_leaves done) in
    (found.2).super_words ∙ ap (λ (x : Super). record x { tail = x.tail + length xs }) (durable_super s (length xs) can found.0 found.1)

-- The same of the calls of a device.
pub puts_last : {T E : Type 0} {old new : Standing} {r : Result T E} (format : Format) (xs : List Line) → IsTrue old.told → CanExtend format (now old) (length xs)
    → ((k : ℕ) → k < length xs → IsLine (get_or xs k zero_line)) → (e : Entry) → entries format 0 xs ≡ e ∷ []
    → MakesAll (append_calls (super_of (current (now old))).sizes (super_of (current (now old))).tail xs) old new r → PutsLast format e old new r
puts_last {old = old} {new = new} {r = r} format xs told can are_lines e is makes = record {
  part = Moments-map (put_groups format (now old) xs can are_lines e is) (makes.part told);
  whole = OnOk_map r (λ (at : now new ≡ after_all (append_calls (super_of (current (now old))).sizes (super_of (current (now old))).tail xs) (now old)).
      subst (λ (s : State). HasLog format (extended (log_of format (current (now old))) e) s) (sym at) (put_groups_done format (now old) xs can are_lines e is)) (makes.whole told);
}

-- Facts that hold at each moment while lines are put at the end, and those when it is done.
module _ {T E : Type 0} {old new : Standing} {r : Result T E} (b : Bookkeeping) (xs : List Line) (told : IsTrue old.told) (facts : StoreFacts b (now old))
    (still : b.changing ≡ None) (room : (super_of (current (now old))).tail + length xs ≤ (super_of (current (now old))).start + ring_lines b.sizes)
    (makes : MakesAll (append_calls (super_of (current (now old))).sizes (super_of (current (now old))).tail xs) old new r) where
  abbrev pub can_put : CanPut (now old) (length xs)
  can_put = facts_can_put b (now old) (length xs) facts still room

  same_book : (committed : ℕ → Words) → record b { changing = None; committed = committed } ≡ record b { committed = committed }
  same_book committed = ap (λ c. record b { changing = c; committed = committed }) (sym still)

  pub kept_facts : (committed : ℕ → Words)
      → ((mid : State) → Amid (now old) (append_calls (super_of (current (now old))).sizes (super_of (current (now old))).tail xs) mid
      → StoreFacts (moving b (super_of (current (now old))).tail ((super_of (current (now old))).tail + length xs) committed) mid)
      → KeepsFacts (moving b (super_of (current (now old))).tail ((super_of (current (now old))).tail + length xs) committed) (record b { committed = committed }) old new r
  kept_facts committed each = record {
    part = Moments-map each (makes.part told);
    whole = OnOk_map r (λ (at : now new ≡ after_all (append_calls (super_of (current (now old))).sizes (super_of (current (now old))).tail xs) (now old)).
        subst (λ (s : State). StoreFacts (record b { committed = committed }) s) (sym at)
        (subst (λ (x : Bookkeeping). StoreFacts x (after_all (append_calls (super_of (current (now old))).sizes (super_of (current (now old))).tail xs) (now old))) (same_book committed)
        (facts_done b (super_of (current (now old))).tail ((super_of (current (now old))).tail + length xs) committed _
        (each _ (Amid_end (append_calls (super_of (current (now old))).sizes (super_of (current (now old))).tail xs) (now old)))
        (ap (λ (x : Word). x.older) (put_gate (now old) xs can_put))))) (makes.whole told);
  }

  -- A record: each word that it names, and that no record of the open group names yet, has its committed word as before value.
  pub record_kept : ((k : ℕ) → k < length xs → IsLine (get_or xs k zero_line)) → ((at : ℕ) → log_check b.format b.sizes at 0 xs ≡ None)
      → (c : Change) → entries b.format 0 xs ≡ item (write c) ∷ [] → IsConstant b (now old) (length xs)
      → ((j : Image) → Leaves (now old) j → (p l w : ℕ) → IsWord b.sizes p l w → names c p l w ≡ true → named_in (changes (log_of b.format j).open_items) p l w ≡ false
      → b.committed (super_of (current (now old))).tail p l w ≡ slice_index c.before.words w)
      → KeepsFacts (putting b (now old) (length xs)) b old new r
  record_kept are_lines passes c is constant before =
      kept_facts b.committed (record_facts b (now old) facts xs can_put are_lines passes c is constant before)

  -- the end of an abort
  pub abort_kept : ((k : ℕ) → k < length xs → IsLine (get_or xs k zero_line)) → ((at : ℕ) → log_check b.format b.sizes at 0 xs ≡ None)
      → entries b.format 0 xs ≡ abort ∷ [] → IsConstant b (now old) (length xs) → KeepsFacts (putting b (now old) (length xs)) b old new r
  abort_kept are_lines passes is constant = kept_facts b.committed (abort_facts b (now old) facts xs can_put are_lines passes is constant)

  -- The end of a commit, where the log would end right: at each moment an image with the new tail has the current words
  -- committed, and when it is done every image has.
  pub commit_kept : length xs ≡ 1 → ((k : ℕ) → k < length xs → IsLine (get_or xs k zero_line)) → ((at : ℕ) → log_check b.format b.sizes at 0 xs ≡ None)
      → entries b.format 0 xs ≡ commit ∷ [] → b.pending ≡ [] → EndsRight b (now old)
      → KeepsFacts (committing b (now old)) (committed_now b) old new r
  commit_kept one are_lines passes is none ends =
      let longer : tail₀ + length xs ≡ tail₀ + 1 = ap (λ n. tail₀ + n) one in
      let kept : KeepsFacts (moving b tail₀ (tail₀ + length xs) (committed_from (tail₀ + length xs) b.current b.committed))
      (record b { committed = committed_from (tail₀ + length xs) b.current b.committed }) old new r =
      kept_facts (committed_from (tail₀ + length xs) b.current b.committed) (commit_facts b (now old) facts xs can_put (omega arith) are_lines passes is none ends) in
      record {
        part = Moments-map (λ (s : State). subst (λ n. StoreFacts (moving b tail₀ n (committed_from n b.current b.committed)) s) longer) kept.part;
        whole = OnOk_both r (makes.whole told) kept.whole (λ at facts₁. facts_committed b (committed_from (tail₀ + length xs) b.current b.committed) (λ n. b.current) (now new) facts₁
            (λ i leaves p l w. let at_tail : (super_of i).tail ≡ tail₀ + length xs =
            single_at ((now new).nvm 3 0) (tail₀ + length xs) (i.nvm 3 0) (ap (λ (s : State). s.nvm 3 0) at ∙ put_gate (now old) xs can_put) (leaves.words 3 0) in
            ap (λ (x : Words). x p l w) (cond-true (eqb (super_of i).tail (tail₀ + length xs)) b.current (b.committed (super_of i).tail) (eq-eqb _ _ at_tail))));
      }
    where
      tail₀ : ℕ
      tail₀ = (super_of (current (now old))).tail

      OnOk_both : {P Q R : Type 0} (r : Result T E) → OnOk r P → OnOk r Q → (P → Q → R) → OnOk r R
      OnOk_both (Ok v) p q f = f p q
      OnOk_both (Err e) p q f = tt

-- The log that is emptied, at the device.
pub empties : {T E : Type 0} {old new : Standing} {r : Result T E} (format : Format) → IsTrue old.told → CanPut (now old) 0
    → MakesAll (start_calls (super_of (current (now old))).tail) old new r → Empties format old new r
empties {old = old} {new = new} {r = r} format told can makes = record {
  part = Moments-map (λ mid amid i leaves. elim (start_logs (now old) can mid amid i leaves) [
    | inl left ↦ inl (ap (λ (lines : List Line). grouped no_log (entries format 0 lines)) (log_durable (now old) 0 can i left))
    | inr none ↦ inr (ap (λ (lines : List Line). grouped no_log (entries format 0 lines)) none)
  ]) (makes.part told);
  whole = OnOk_map r (λ (at : now new ≡ after_all (start_calls (super_of (current (now old))).tail) (now old)).
      subst (λ (s : State). HasLog format no_log s) (sym at)
      (λ i leaves. ap (λ (lines : List Line). grouped no_log (entries format 0 lines)) (start_empty (now old) can i leaves))) (makes.whole told);
}

pub start_kept : {T E : Type 0} {old new : Standing} {r : Result T E} (b : Bookkeeping) → IsTrue old.told → StoreFacts b (now old) → b.changing ≡ None → b.pending ≡ []
    → HomesHoldAll b (now old) → MakesAll (start_calls (super_of (current (now old))).tail) old new r → KeepsFacts (starting b (now old)) b old new r
start_kept {old = old} {new = new} {r = r} b told facts still none all makes = record {
  part = Moments-map each (makes.part told);
  whole = OnOk_map r (λ (at : now new ≡ after_all (start_calls tail₀) (now old)).
      subst (λ (s : State). StoreFacts b s) (sym at)
      (subst (λ (x : Bookkeeping). StoreFacts x (after_all (start_calls tail₀) (now old))) (ap (λ c. record b { changing = c }) (sym still))
      (start_done b (super_of (current (now old))).start tail₀ _ (each _ (Amid_end (start_calls tail₀) (now old))) (ap (λ (x : Word). x.older) (start_single tail₀ (now old)))))) (makes.whole told);
}
  where
    tail₀ : ℕ
    tail₀ = (super_of (current (now old))).tail

    can : CanPut (now old) 0
    can = facts_can_put b (now old) 0 facts still
        (let passes : SuperPasses (super_of (current (now old))) = store_passes b.format (current (now old)) (facts.stores (current (now old)) (current_leaves (now old))) in
        subst (λ (g : Sizes). tail₀ + 0 ≤ (super_of (current (now old))).start + ring_lines g) (facts.sizes (current (now old)) (current_leaves (now old))) (room passes))
      where
        room : SuperPasses (super_of (current (now old))) → tail₀ + 0 ≤ (super_of (current (now old))).start + ring_lines (super_of (current (now old))).sizes
        room passes = let started : (super_of (current (now old))).start ≤ tail₀ = passes.started in let in_ring : tail₀ - (super_of (current (now old))).start ≤ ring_lines (super_of (current (now old))).sizes = passes.in_ring in omega arith

    each : (mid : State) → Amid (now old) (start_calls tail₀) mid → StoreFacts (starting b (now old)) mid
    each = start_facts b (now old) facts can none all.homes all.copies
