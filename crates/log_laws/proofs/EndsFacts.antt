-- With the pending records and a commit last the log gives the current words: so it stays over a write, a harden and both
-- ends, and by it a record has the before values that it must have.
use Rattle.std.proofs.Common.{◌≡◌, ℕ, ◌+◌, Bool, true, false, ◌||◌, List, [], ◌∷◌, ◌++◌, length, refl, sym, ap, ◌∙◌, inl, inr, slice_index, Option, None}
use Rattle.std.proofs.lemmas.Bool.{cases_Bool}
use Rattle.nvm_model.specs.declared.line.Line.{Line}
use Rattle.devices.specs.State.{State, Image, Leaves, current, after_all}
use Rattle.store_model.specs.Log.{Words, Change, Log, no_log, grouped, extended, names, named_in, changes, is_logged}
use Rattle.store_model.specs.Log.Item.{write}
use Rattle.store_model.specs.Log.Entry.{item, commit, abort}
use Rattle.store_model.specs.Format.{entries}
use Rattle.store_model.specs.Recovered.{Super, super_of, log_lines, log_of, replay}
use Rattle.store_model.specs.StoreFacts.{Bookkeeping, IsWord, is_written, StoreFacts}
use Rattle.store_model.specs.Put.{put_calls}
use Rattle.store_model.specs.Pending.{record_entries, with_records, harden_calls, end_calls, PendingStands, EndsRight, pending_with, none_pending, CanPutEntry, HasBefore, IsConstant}
use Rattle.store_model.specs.Shown.{Lengthened}
use Rattle.home_laws.proofs.LogLaws.{grouped-append}
use Rattle.home_laws.proofs.RecoveredLaws.{entries-append}
use Rattle.home_laws.proofs.CheckLaws.{store_whole}
use Rattle.home_laws.proofs.FactsLaws.{current_leaves, replay-abort}
use Rattle.home_laws.proofs.SeenLaws.{facts_log, facts_super}
use Rattle.log_laws.proofs.EndsLaws.{commit_untouched, commit_record_named, commit_record_other, commit_logged, abort_logged, record_logged}
use Rattle.log_laws.proofs.TailLaws.{not_logged_grouped}
use Rattle.log_laws.proofs.PendingFacts.{with_records-append, records_named, more_log, harden_done, append_pending_done, commit_pending_done, abort_pending_done}
use Rattle.log_laws.proofs.LengthenedFacts.{append_lengthened, harden_lengthened, end_lengthened}

-- the log of each image, where loads give it by the lines that came behind
pub log_after : (b : Bookkeeping) (s t : State) (sup : Super) (lines : List Line) → StoreFacts b s → (c : Bookkeeping) → c.format ≡ b.format → StoreFacts c t → c.changing ≡ None → Lengthened b.sizes s t sup lines
    → (j : Image) → Leaves t j → log_of b.format j ≡ grouped (log_of b.format (current s)) (entries b.format 0 lines)
log_after b s t sup lines facts c format facts_t still longer j left =
    ap (λ (xs : List Line). grouped no_log (entries b.format 0 xs)) (facts_log c t facts_t still j left ∙ longer.log)
    ∙ ap (grouped no_log) (entries-append b.format 0 (log_lines (current s)) lines (store_whole b.format (current s) (facts.stores (current s) (current_leaves s))))
    ∙ grouped-append no_log (entries b.format 0 (log_lines (current s))) (entries b.format 0 lines)

module _ (b : Bookkeeping) (s : State) (facts : StoreFacts b s) (still : b.changing ≡ None) (lines : List Line) (stands : PendingStands b s lines) (ends : EndsRight b s) where
  abbrev now : Log
  now = with_records (log_of b.format (current s)) b.pending

  -- a word that the open group and the pending records don't name has its committed word as current one
  pub untouched : (j : Image) → Leaves s j → (p l w : ℕ) → IsWord b.sizes p l w → named_in (changes (with_records (log_of b.format j) b.pending).open_items) p l w ≡ false
      → b.committed (super_of (current s)).tail p l w ≡ b.current p l w
  untouched j left p l w word h =
      let log : Log = with_records (log_of b.format j) b.pending in
      let any : Words = (λ p l w. 0) in
      elim (cases_Bool (is_logged log p l w)) [
        | inl logged ↦ sym (stands.right j left p l w word logged any) ∙ sym (commit_untouched b.format log any p l w h) ∙ ends j left p l w word (commit_logged log p l w ∙ logged) any
        | inr unlogged ↦
            (let unwritten : is_written b j p l w ≡ false = rw (not_logged_grouped (log_of b.format j) (record_entries b.pending) p l w unlogged, records_named (log_of b.format j) b.pending p l w unlogged) refl in
            sym (ap (λ (x : Super). b.committed x.tail p l w) (facts_super b s facts still j left)) ∙ sym ((facts.homes j left).committed p l w word unwritten) ∙ (facts.homes j left).current p l w word unwritten)
      ]

  -- So a record whose before values are the current words has those that it must have.
  pub has_before : (c : Change) → ((p l w : ℕ) → IsWord b.sizes p l w → names c p l w ≡ true → slice_index c.before.words w ≡ b.current p l w) → HasBefore b s c
  has_before c right j left p l w word named unnamed = untouched j left p l w word unnamed ∙ sym (right p l w word named)

  -- After an append the log ends right with the after values of the record.
  pub append_ends : (c : Change) (ys : List Line) (can : CanPutEntry b s (length lines) ys (item (write c))) (words : Words) (copy : ℕ → ℕ → Option Line)
      → ((p l w : ℕ) → IsWord b.sizes p l w → names c p l w ≡ true → slice_index c.after.words w ≡ words p l w)
      → ((p l w : ℕ) → IsWord b.sizes p l w → names c p l w ≡ false → b.current p l w ≡ words p l w)
      → EndsRight (record b { pending = b.pending ++ c ∷ []; current = words; copy = copy }) (after_all (put_calls b.sizes ((super_of (current s)).tail + length lines) ys) s)
  append_ends c ys can words copy named other j left p l w word h homes =
      let t : State = after_all (put_calls b.sizes ((super_of (current s)).tail + length lines) ys) s in
      let log : log_of b.format j ≡ log_of b.format (current s) =
      log_after b s t (super_of (current s)) [] facts (pending_with b c) refl (append_pending_done b s facts still lines stands c ys can) still
      (append_lengthened b s facts still lines stands.behind ys can.room can.are_lines can.passes) j left in
      let same : with_records (log_of b.format j) (b.pending ++ c ∷ []) ≡ extended now (item (write c)) =
      ap (λ (x : Log). with_records x (b.pending ++ c ∷ [])) log ∙ with_records-append (log_of b.format (current s)) b.pending c in
      let logged : is_logged (extended (extended now (item (write c))) commit) p l w ≡ true = sym (ap (λ (x : Log). is_logged (extended x commit) p l w) same) ∙ h in
      ap (λ (x : Log). replay b.format (extended x commit) homes p l w) same
      ∙ elim (cases_Bool (names c p l w)) [
        | inl here ↦ commit_record_named b.format now c homes p l w here ∙ named p l w word here
        | inr not_here ↦ commit_record_other b.format now c homes p l w not_here
            ∙ ends (current s) (current_leaves s) p l w word (commit_logged now p l w ∙ first (is_logged now p l w) (names c p l w) not_here (sym (record_logged now c p l w) ∙ sym (commit_logged (extended now (item (write c))) p l w) ∙ logged)) homes
            ∙ other p l w word not_here
      ]
    where
      first : (x y : Bool) → y ≡ false → (x || y) ≡ true → x ≡ true
      first true y e h = refl
      first false y e h = sym e ∙ h

  -- After a harden it ends right as before,
  pub harden_ends : IsConstant b (super_of (current s)).tail ((super_of (current s)).tail + length lines) → EndsRight (none_pending b) (after_all (harden_calls ((super_of (current s)).tail + length lines)) s)
  harden_ends constant j left p l w word h homes =
      let t : State = after_all (harden_calls ((super_of (current s)).tail + length lines)) s in
      let log : log_of b.format j ≡ now =
      log_after b s t _ lines facts (none_pending b) refl (harden_done b s facts still lines stands constant) still (harden_lengthened b s facts still lines stands.behind) j left
      ∙ ap (grouped (log_of b.format (current s))) stands.holds in
      ap (λ (x : Log). replay b.format (extended x commit) homes p l w) log
      ∙ ends (current s) (current_leaves s) p l w word (sym (ap (λ (x : Log). is_logged (extended x commit) p l w) log) ∙ h) homes

  -- after a commit too,
  pub commit_ends : (ys : List Line) (can : CanPutEntry b s (length lines) ys commit)
      → EndsRight (record b { committed = λ n. b.current; pending = [] }) (after_all (end_calls b.sizes ((super_of (current s)).tail + length lines) ys) s)
  commit_ends ys can j left p l w word h homes =
      let t : State = after_all (end_calls b.sizes ((super_of (current s)).tail + length lines) ys) s in
      let log : log_of b.format j ≡ extended now commit =
      log_after b s t _ (lines ++ ys) facts (record b { committed = λ n. b.current; pending = [] }) refl (commit_pending_done b s facts still lines stands commit ys can refl ends) still
      (end_lengthened b s facts still lines stands.behind ys can.room can.are_lines can.passes) j left
      ∙ more_log b s facts still lines stands ys commit can.holds (log_of b.format (current s)) in
      ap (λ (x : Log). replay b.format (extended x commit) homes p l w) log
      ∙ commit_untouched b.format (extended now commit) homes p l w refl
      ∙ ends (current s) (current_leaves s) p l w word (sym (commit_logged (extended now commit) p l w) ∙ sym (ap (λ (x : Log). is_logged (extended x commit) p l w) log) ∙ h) homes

-- and after an abort, where the current words are the committed ones again.
pub abort_ends : (b : Bookkeeping) (s : State) (facts : StoreFacts b s) (still : b.changing ≡ None) (lines : List Line) (stands : PendingStands b s lines) (ys : List Line) (can : CanPutEntry b s (length lines) ys abort)
    → IsConstant b (super_of (current s)).tail ((super_of (current s)).tail + length lines + length ys)
    → ((p l w : ℕ) → IsWord b.sizes p l w → b.committed (super_of (current s)).tail p l w ≡ b.current p l w)
    → EndsRight (none_pending b) (after_all (end_calls b.sizes ((super_of (current s)).tail + length lines) ys) s)
abort_ends b s facts still lines stands ys can constant back j left p l w word h homes =
    let t : State = after_all (end_calls b.sizes ((super_of (current s)).tail + length lines) ys) s in
    let now : Log = with_records (log_of b.format (current s)) b.pending in
    let log : log_of b.format j ≡ extended now abort =
    log_after b s t _ (lines ++ ys) facts (none_pending b) refl (abort_pending_done b s facts still lines stands abort ys can refl constant) still
    (end_lengthened b s facts still lines stands.behind ys can.room can.are_lines can.passes) j left
    ∙ more_log b s facts still lines stands ys abort can.holds (log_of b.format (current s)) in
    ap (λ (x : Log). replay b.format (extended x commit) homes p l w) log
    ∙ commit_untouched b.format (extended now abort) homes p l w refl ∙ replay-abort b.format now homes p l w
    ∙ stands.right (current s) (current_leaves s) p l w word (sym (abort_logged now p l w) ∙ sym (commit_logged (extended now abort) p l w) ∙ sym (ap (λ (x : Log). is_logged (extended x commit) p l w) log) ∙ h) homes
    ∙ back p l w word
