-- Batched records: an append stores its lines behind the tail, a harden makes all of them part of the log, and so does an
-- end, with its line last. The facts hold at each moment.
use Rattle.std.proofs.Common.{◌≡◌, ℕ, ◌+◌, ◌<◌, Bool, true, false, ◌||◌, List, [], ◌∷◌, ◌++◌, length, refl, sym, ap, ◌∙◌, inl, inr, arith, eqb, None}
use Rattle.std.proofs.lemmas.Bool.{cases_Bool, or_parts, cond-true, cond-false, eq-eqb, ne_eqb}
use Rattle.nvm_model.specs.declared.line.Line.{Line}
use Rattle.devices.specs.State.{State, Image, Leaves, current, after_all, Amid}
use Rattle.devices.specs.Growth.{no_write}
use Rattle.store_model.specs.Log.{Words, Change, Entry, Log, grouped, extended, names, named_in, changes, is_logged}
use Rattle.store_model.specs.Log.Item.{write}
use Rattle.store_model.specs.Log.Entry.{item, commit, abort}
use Rattle.store_model.specs.Format.{entries, IsWhole}
use Rattle.store_model.specs.Recovered.{Super, super_of, log_of, replay}
use Rattle.store_model.specs.StoreFacts.{Gate, Bookkeeping, IsWord, is_written, StoreFacts, committed_from}
use Rattle.store_model.specs.Put.{put_calls}
use Rattle.store_model.specs.Pending.{record_entries, with_records, harden_calls, end_calls, IsBehind, PendingStands, EndsRight, pending_with, none_pending, CanPutEntry, HasBefore, IsConstant}
use Rattle.store_model.specs.Seen.{ImageFacts, Mirrors, changing_to}
use Rattle.home_laws.proofs.LogLaws.{grouped-append, not_logged_before, is_logged-extended, items_of}
use Rattle.home_laws.proofs.RecoveredLaws.{entries-append}
use Rattle.log_laws.proofs.AppendLaws.{replay-record}
use Rattle.home_laws.proofs.PutLaws.{put_stores}
use Rattle.home_laws.proofs.CheckLaws.{checked_whole}
use Rattle.home_laws.proofs.FactsLaws.{replay-record_named, replay-abort, only_here}
use Rattle.home_laws.proofs.SeenLaws.{image_facts, facts_by_images, facts_super, mirror_log}
use Rattle.home_laws.proofs.QuietLaws.{quiet_image}
use Rattle.log_laws.proofs.BehindLaws.{none_behind, behind_facts, behind_done, behind_stands, put_grows, put_quiet, put_super}
use Rattle.log_laws.proofs.TailLaws.{tail_facts, tail_done, not_logged_grouped}
use Rattle.log_laws.proofs.EndFacts.{end_facts, end_done}

pub record_entries-append : (cs : List Change) (c : Change) → record_entries (cs ++ c ∷ []) ≡ record_entries cs ++ item (write c) ∷ []
record_entries-append [] c = refl
record_entries-append (x ∷ cs) c = ap (λ es. item (write x) ∷ es) (record_entries-append cs c)

-- a log with one record more
pub with_records-append : (log : Log) (cs : List Change) (c : Change) → with_records log (cs ++ c ∷ []) ≡ extended (with_records log cs) (item (write c))
with_records-append log cs c = ap (grouped log) (record_entries-append cs c) ∙ grouped-append log (record_entries cs) (item (write c) ∷ [])

named_before : (cs : List Change) (c : Change) (p l w : ℕ) → named_in (cs ++ c ∷ []) p l w ≡ false → named_in cs p l w ≡ false
named_before [] c p l w h = refl
named_before (x ∷ cs) c p l w h =
    let parts : (names x p l w ≡ false) × (named_in (cs ++ c ∷ []) p l w ≡ false) = or_parts (names x p l w) (named_in (cs ++ c ∷ []) p l w) h in
    rw (parts.0, named_before cs c p l w parts.1)

or_none : (x : Bool) → (x || false) ≡ true → x ≡ true
or_none true h = refl
or_none false h = h

-- a log with records last names what they name
pub records_named : (log : Log) (cs : List Change) (p l w : ℕ) → is_logged (with_records log cs) p l w ≡ false → named_in cs p l w ≡ false
unfolding items_of
records_named log [] p l w h = refl
records_named log (c ∷ cs) p l w h =
    let one : is_logged (extended log (item (write c))) p l w ≡ false = not_logged_grouped (extended log (item (write c))) (record_entries cs) p l w h in
    let parts : (is_logged log p l w ≡ false) × ((names c p l w || false) ≡ false) = or_parts (is_logged log p l w) (names c p l w || false) (sym (is_logged-extended log (item (write c)) p l w) ∙ one) in
    rw ((or_parts (names c p l w) false parts.1).0, records_named (extended log (item (write c))) cs p l w h)

-- One record more may be pending at any time: no device call is needed for that.
pub pending_more : (b : Bookkeeping) (s : State) (c : Change) → StoreFacts b s → StoreFacts (pending_with b c) s
pending_more b s c facts = facts_by_images (pending_with b c) s (record { sizes = facts.gates.sizes; others = facts.gates.others; changing = facts.gates.changing }) (λ i left. image i (image_facts b s facts i left))
  where
    unwritten : (i : Image) (p l w : ℕ) → is_written (pending_with b c) i p l w ≡ false → is_written b i p l w ≡ false
    unwritten i p l w h =
        let parts : (is_logged (log_of b.format i) p l w ≡ false) × (named_in (b.pending ++ c ∷ []) p l w ≡ false) = or_parts (is_logged (log_of b.format i) p l w) (named_in (b.pending ++ c ∷ []) p l w) h in
        rw (parts.0, named_before b.pending c p l w parts.1) refl

    image : (i : Image) → ImageFacts b s i → ImageFacts (pending_with b c) s i
    image i old = record {
      sizes = old.sizes;
      durable = record { log = (old.durable).log; homes = (old.durable).homes };
      homes = record {
        current = λ p l w word h. (old.homes).current p l w word (unwritten i p l w h);
        committed = λ p l w word h. (old.homes).committed p l w word (unwritten i p l w h);
      };
      log = record {
        logged = (old.log).logged;
        pending = λ p l w word h named. elim (cases_Bool (named_in b.pending p l w)) [
          | inl before ↦ (old.log).pending p l w word h before
          | inr not_before ↦ (old.homes).committed p l w word (rw (h, not_before) refl)
        ];
      };
      copies = λ p l w line word copy h. old.copies p l w line word copy (unwritten i p l w h);
      store = old.store;
    }

-- Where nothing is pending, nothing stands behind the tail.
pub nothing_stands : (b : Bookkeeping) (s : State) → StoreFacts b s → b.changing ≡ None → b.pending ≡ [] → PendingStands b s []
nothing_stands b s facts still none = record {
  behind = none_behind b s facts;
  holds = sym (ap record_entries none);
  right = λ j left p l w word h homes.
      ap (λ (cs : List Change). replay b.format (with_records (log_of b.format j) cs) homes p l w) none
      ∙ (facts.log j left).logged p l w word (sym (ap (λ (cs : List Change). is_logged (with_records (log_of b.format j) cs) p l w) none) ∙ h) homes
      ∙ ap (λ (x : Super). b.committed x.tail p l w) (facts_super b s facts still j left);
}

-- and where no line stands there, nothing is pending
pub nothing_pending : (b : Bookkeeping) (s : State) → PendingStands b s [] → b.pending ≡ []
nothing_pending b s stands = none b.pending stands.holds
  where
    none : (cs : List Change) → [] ≡ record_entries cs → cs ≡ []
    none [] e = refl
    none (c ∷ cs) e = cc

module _ (b : Bookkeeping) (s : State) (facts : StoreFacts b s) (still : b.changing ≡ None) (lines : List Line) (stands : PendingStands b s lines) where
  abbrev pub sup : Super
  sup = super_of (current s)

  -- the log with the entries of the lines, and with those of more lines
  holds_log : (log : Log) → grouped log (entries b.format 0 lines) ≡ with_records log b.pending
  holds_log log = ap (grouped log) stands.holds

  whole : IsWhole b.format 0 lines
  whole = checked_whole b.format b.sizes 0 0 lines ((stands.behind).passes 0) (omega arith)

  pub more_log : (ys : List Line) (e : Entry) → entries b.format 0 ys ≡ e ∷ [] → (log : Log) → grouped log (entries b.format 0 (lines ++ ys)) ≡ extended (with_records log b.pending) e
  more_log ys e is log = ap (grouped log) (entries-append b.format 0 lines ys whole) ∙ grouped-append log (entries b.format 0 lines) (entries b.format 0 ys)
      ∙ ap (λ (x : Log). grouped x (entries b.format 0 ys)) (holds_log log) ∙ ap (grouped (with_records log b.pending)) is

  -- An append: while its lines are stored the facts stay as they are.
  module _ (c : Change) (ys : List Line) (can : CanPutEntry b s (length lines) ys (item (write c))) where
    pub append_pending_facts : (mid : State) → Amid s (put_calls b.sizes (sup.tail + length lines) ys) mid → StoreFacts b mid
    append_pending_facts = behind_facts b s facts still lines stands.behind ys can.room can.are_lines can.passes

    abbrev pub appended : State
    appended = after_all (put_calls b.sizes (sup.tail + length lines) ys) s

    -- When that is done the record is pending,
    pub append_pending_done : StoreFacts (pending_with b c) appended
    append_pending_done = pending_more b appended c (behind_done b s facts still lines stands.behind ys can.room can.are_lines can.passes)

    -- and its lines stand behind the others, where it has the before values that it must have.
    pub append_pending_stands : HasBefore b s c → PendingStands (pending_with b c) appended (lines ++ ys)
    append_pending_stands before = record {
      behind = (let all : IsBehind b appended (lines ++ ys) = behind_stands b s facts still lines stands.behind ys can.room can.are_lines can.passes in
          record { room = all.room; flushed = all.flushed; are_lines = all.are_lines; passes = all.passes });
      holds = entries-append b.format 0 lines ys whole ∙ ap (λ (es : List Entry). es ++ entries b.format 0 ys) stands.holds
          ∙ ap (λ (es : List Entry). record_entries b.pending ++ es) can.holds ∙ sym (record_entries-append b.pending c);
      right = λ j left p l w word h homes.
          let seen : (i : Image) × Leaves s i × Mirrors b.format b.sizes appended j i =
          quiet_image b s facts still (put_stores b.sizes (sup.tail + length lines) (length ys)) no_write (put_quiet b s facts still lines stands.behind ys can.room can.are_lines can.passes) appended
          (put_grows b s facts still lines stands.behind ys can.room can.are_lines can.passes) j left in
          let log : log_of b.format j ≡ log_of b.format seen.0 = mirror_log seen.2 in
          let same : with_records (log_of b.format j) (b.pending ++ c ∷ []) ≡ extended (with_records (log_of b.format seen.0) b.pending) (item (write c)) =
          ap (λ (x : Log). with_records x (b.pending ++ c ∷ [])) log ∙ with_records-append (log_of b.format seen.0) b.pending c in
          ap (λ (x : Log). replay b.format x homes p l w) same
          ∙ gives seen.0 seen.1 p l w word (sym (ap (λ (x : Log). is_logged x p l w) same) ∙ h) homes
          ∙ sym (ap (λ (x : Super). b.committed x.tail p l w) (put_super b s facts still lines stands.behind ys can.room can.are_lines can.passes));
    }
      where
        gives : (i : Image) → Leaves s i → (p l w : ℕ) → IsWord b.sizes p l w → is_logged (extended (with_records (log_of b.format i) b.pending) (item (write c))) p l w ≡ true
            → (homes : Words) → replay b.format (extended (with_records (log_of b.format i) b.pending) (item (write c))) homes p l w ≡ b.committed sup.tail p l w
        gives i left p l w word h homes =
            let log : Log = with_records (log_of b.format i) b.pending in
            elim (cases_Bool (is_logged log p l w)) [
              | inl logged ↦
                  (let old : replay b.format log homes p l w ≡ b.committed sup.tail p l w = stands.right i left p l w word logged homes in
                  replay-record b.format log c homes p l w (λ named unnamed. old ∙ before i left p l w word named unnamed) ∙ old)
              | inr unlogged ↦
                  (let parts : (names c p l w ≡ true) × (named_in (changes log.open_items) p l w ≡ false) = only_here log c p l w unlogged h in
                  replay-record_named b.format log c homes p l w parts.0 parts.1 ∙ sym (before i left p l w word parts.0 parts.1))
            ]

  -- A harden: the facts hold at each moment, with the tail being changed.
  module _ (constant : IsConstant b sup.tail (sup.tail + length lines)) where
    harden_out : (j : Image) → Leaves s j → (p l w : ℕ) → IsWord b.sizes p l w → is_logged (grouped (log_of b.format j) (entries b.format 0 lines)) p l w ≡ false
        → b.committed sup.tail p l w ≡ b.committed (sup.tail + length lines) p l w
    harden_out j left p l w word h = sym (constant p l w)

    harden_gives : (j : Image) → Leaves s j → (p l w : ℕ) → IsWord b.sizes p l w → is_logged (grouped (log_of b.format j) (entries b.format 0 lines)) p l w ≡ true
        → (homes : Words) → replay b.format (grouped (log_of b.format j) (entries b.format 0 lines)) homes p l w ≡ b.committed (sup.tail + length lines) p l w
    harden_gives j left p l w word h homes = ap (λ (x : Log). replay b.format x homes p l w) (holds_log (log_of b.format j))
        ∙ stands.right j left p l w word (sym (ap (λ (x : Log). is_logged x p l w) (holds_log (log_of b.format j))) ∙ h) homes ∙ sym (constant p l w)

    pub harden_facts : (mid : State) → Amid s (harden_calls (sup.tail + length lines)) mid → StoreFacts (changing_to b Gate.tail sup.tail (sup.tail + length lines) b.committed) mid
    harden_facts = tail_facts b s facts still lines stands.behind b.committed (λ p l w. refl) harden_out harden_gives

    -- When it is done nothing is pending.
    pub harden_done : StoreFacts (none_pending b) (after_all (harden_calls (sup.tail + length lines)) s)
    harden_done = tail_done b s facts still lines stands.behind b.committed harden_out harden_gives []
        (λ j left p l w h named. records_named (log_of b.format j) b.pending p l w (sym (ap (λ (x : Log). is_logged x p l w) (holds_log (log_of b.format j))) ∙ h))
        (λ p l w named. absurd (no_name named))
      where
        no_name : false ≡ true → ⊥
        no_name e = cc

  -- An end: its lines are stored behind the pending records, and then all of them become part of the log.
  module _ (e : Entry) (ys : List Line) (can : CanPutEntry b s (length lines) ys e) where
    abbrev new_tail : ℕ
    new_tail = sup.tail + length lines + length ys

    is_log : (log : Log) → grouped log (entries b.format 0 (lines ++ ys)) ≡ extended (with_records log b.pending) e
    is_log = more_log ys e can.holds

    is_named : (log : Log) (p l w : ℕ) → is_logged (grouped log (entries b.format 0 (lines ++ ys))) p l w ≡ is_logged (extended (with_records log b.pending) e) p l w
    is_named log p l w = ap (λ (x : Log). is_logged x p l w) (is_log log)

    covered : (log : Log) (p l w : ℕ) → is_logged (grouped log (entries b.format 0 (lines ++ ys))) p l w ≡ false → named_in b.pending p l w ≡ false
    covered log p l w h = records_named log b.pending p l w (not_logged_before (with_records log b.pending) e p l w (sym (is_named log p l w) ∙ h))

    uncovered : (log : Log) (p l w : ℕ) → is_logged (grouped log (entries b.format 0 (lines ++ ys))) p l w ≡ false → is_logged log p l w ≡ false
    uncovered log p l w h = not_logged_grouped log (entries b.format 0 (lines ++ ys)) p l w h

    long : 0 < length ys
    long = some ys can.holds
      where
        some : (zs : List Line) → entries b.format 0 zs ≡ e ∷ [] → 0 < length zs
        some [] h = cc
        some (z ∷ zs) h = omega arith

    -- The end of a commit: an image with the new tail has the current words as committed ones.
    at_new : (p l w : ℕ) → committed_from new_tail b.current b.committed new_tail p l w ≡ b.current p l w
    at_new p l w = ap (λ (x : Words). x p l w) (cond-true (eqb new_tail new_tail) b.current (b.committed new_tail) (eq-eqb new_tail new_tail refl))

    -- where the log with the pending records and the end names nothing, the committed word is the current one
    out_current : (j : Image) → Leaves s j → (p l w : ℕ) → IsWord b.sizes p l w → is_logged (grouped (log_of b.format j) (entries b.format 0 (lines ++ ys))) p l w ≡ false
        → b.committed sup.tail p l w ≡ b.current p l w
    out_current j left p l w word h =
        let unwritten : is_written b j p l w ≡ false = rw (uncovered (log_of b.format j) p l w h, covered (log_of b.format j) p l w h) refl in
        sym (ap (λ (x : Super). b.committed x.tail p l w) (facts_super b s facts still j left)) ∙ sym ((facts.homes j left).committed p l w word unwritten) ∙ (facts.homes j left).current p l w word unwritten

    -- The end of an abort: at each moment the facts hold, with the tail being changed.
    module _ (is_abort : e ≡ abort) (constant : IsConstant b sup.tail (sup.tail + length lines + length ys)) where
      abort_gives : (j : Image) → Leaves s j → (p l w : ℕ) → IsWord b.sizes p l w → is_logged (grouped (log_of b.format j) (entries b.format 0 (lines ++ ys))) p l w ≡ true
          → (homes : Words) → replay b.format (grouped (log_of b.format j) (entries b.format 0 (lines ++ ys))) homes p l w ≡ b.committed (sup.tail + length lines + length ys) p l w
      unfolding items_of
      abort_gives j left p l w word h homes =
          let log : Log = with_records (log_of b.format j) b.pending in
          let same : grouped (log_of b.format j) (entries b.format 0 (lines ++ ys)) ≡ extended log abort = is_log (log_of b.format j) ∙ ap (extended log) is_abort in
          ap (λ (x : Log). replay b.format x homes p l w) same ∙ replay-abort b.format log homes p l w
          ∙ stands.right j left p l w word (or_none (is_logged log p l w) (sym (is_logged-extended log abort p l w) ∙ sym (ap (λ (x : Log). is_logged x p l w) same) ∙ h)) homes ∙ sym (constant p l w)

      pub abort_pending_facts : (mid : State) → Amid s (end_calls b.sizes (sup.tail + length lines) ys) mid
          → StoreFacts (changing_to b Gate.tail sup.tail (sup.tail + length lines + length ys) b.committed) mid
      abort_pending_facts = end_facts b s facts still lines stands.behind ys can.room can.are_lines can.passes b.committed (λ j left p l w word h. sym (constant p l w)) abort_gives (λ p l w. refl)

      -- When it is done nothing is pending.
      pub abort_pending_done : StoreFacts (none_pending b) (after_all (end_calls b.sizes (sup.tail + length lines) ys) s)
      abort_pending_done = end_done b s facts still lines stands.behind ys can.room can.are_lines can.passes b.committed (λ j left p l w word h. sym (constant p l w)) abort_gives []
          (λ j left p l w h named. covered (log_of b.format j) p l w h) (λ p l w named. absurd (no_name named))
        where
          no_name : false ≡ true → ⊥
          no_name e = cc

    -- The end of a commit, where the log with the pending records and it last gives the current words.
    module _ (is_commit : e ≡ commit) (ends : EndsRight b s) where
      commit_gives : (j : Image) → Leaves s j → (p l w : ℕ) → IsWord b.sizes p l w → is_logged (grouped (log_of b.format j) (entries b.format 0 (lines ++ ys))) p l w ≡ true
          → (homes : Words) → replay b.format (grouped (log_of b.format j) (entries b.format 0 (lines ++ ys))) homes p l w ≡ b.current p l w
      commit_gives j left p l w word h homes =
          let log : Log = with_records (log_of b.format j) b.pending in
          let same : grouped (log_of b.format j) (entries b.format 0 (lines ++ ys)) ≡ extended log commit = is_log (log_of b.format j) ∙ ap (extended log) is_commit in
          ap (λ (x : Log). replay b.format x homes p l w) same ∙ ends j left p l w word (sym (ap (λ (x : Log). is_logged x p l w) same) ∙ h) homes

      pub commit_pending_facts : (mid : State) → Amid s (end_calls b.sizes (sup.tail + length lines) ys) mid
          → StoreFacts (changing_to b Gate.tail sup.tail (sup.tail + length lines + length ys) (committed_from (sup.tail + length lines + length ys) b.current b.committed)) mid
      commit_pending_facts = end_facts b s facts still lines stands.behind ys can.room can.are_lines can.passes (committed_from (sup.tail + length lines + length ys) b.current b.committed)
          (λ j left p l w word h. out_current j left p l w word h ∙ sym (at_new p l w))
          (λ j left p l w word h homes. commit_gives j left p l w word h homes ∙ sym (at_new p l w))
          (λ p l w. sym (ap (λ (x : Words). x p l w) (cond-false (eqb sup.tail new_tail) b.current (b.committed sup.tail) (ne_eqb sup.tail new_tail (λ clash. let some : 0 < length ys = long in omega arith)))))

      -- When it is done nothing is pending, and the current words are the committed ones.
      pub commit_pending_done : StoreFacts (record b { committed = λ n. b.current; pending = [] }) (after_all (end_calls b.sizes (sup.tail + length lines) ys) s)
      commit_pending_done = end_done b s facts still lines stands.behind ys can.room can.are_lines can.passes (λ n. b.current) out_current commit_gives []
          (λ j left p l w h named. covered (log_of b.format j) p l w h) (λ p l w named. absurd (no_name named))
        where
          no_name : false ≡ true → ⊥
          no_name e = cc
