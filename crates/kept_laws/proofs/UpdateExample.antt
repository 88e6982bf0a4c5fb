-- A whole update, as an example of how the laws join: a record that is durable at once, its line stored in the frame of its
-- page, and a commit.
use Rattle.std.proofs.Common.{◌≡◌, ℕ, ◌+◌, ◌<◌, ◌≤◌, Bool, true, false, List, [], length, sym, ◌∙◌, inl, inr, arith, None}
use Rattle.std.proofs.lemmas.Bool.{cases_Bool}
use Rattle.nvm_model.specs.declared.line.Line.{Line}
use Rattle.devices.specs.State.{State, current, after_all}
use Rattle.store_model.specs.Log.{Change, names}
use Rattle.store_model.specs.Log.Item.{write}
use Rattle.store_model.specs.Log.Entry.{item, commit}
use Rattle.store_model.specs.Recovered.{super_of, entry_at}
use Rattle.store_model.specs.StoreFacts.{Bookkeeping, IsWord}
use Rattle.store_model.specs.Install.{store_calls, CanStore}
use Rattle.store_model.specs.Pending.{end_calls, none_pending, CanPutEntry, IsConstant}
use Rattle.store_model.specs.Kept.{KeptShown, KeptAlone, RecordsLine, after_record}
use Rattle.home_laws.proofs.FactsLaws.{current_leaves}
use Rattle.home_laws.proofs.ReadyLaws.{store_ready}
use Rattle.kept_laws.proofs.KeptRecordFacts.{record_shown, record_ends, record_names}
use Rattle.kept_laws.proofs.ChangeFacts.{line_changed_alone}
use Rattle.kept_laws.proofs.KeptLogFacts.{alone_kept, commit_kept}

module _ (b : Bookkeeping) (s : State) (old : KeptAlone b s) (k page line : ℕ) (new : Line) (c : Change) (records : RecordsLine b page line new c)
    (ys : List Line) (can : CanPutEntry b s 0 ys (item (write c))) (constant : IsConstant b (super_of (current s)).tail ((super_of (current s)).tail + 0 + length ys)) where
  -- the state when the record is durable
  abbrev recorded : State
  recorded = after_all (end_calls b.sizes ((super_of (current s)).tail + 0) ys) s

  shown : KeptShown (none_pending b) recorded
  shown = record_shown b s old page line new c records ys can constant

  module _ (word : (w : ℕ) → w < 8 → IsWord b.sizes page line w) (framed : k ≤ b.sizes.frames) (named : entry_at (current recorded) k ≡ page + 1) (uncopied : b.copy page line ≡ None) where
    -- the line can be stored: what the record names is in the log, and the rest is current, so it is the home
    can_store : CanStore b.format recorded k page line new
    can_store = store_ready (none_pending b) recorded shown.facts shown.still k page line new (word 0 (omega arith)).page framed (word 0 (omega arith)).line named
        (λ w at unlogged. elim (cases_Bool (names c page line w)) [
          | inl here ↦ absurd (clash (record_names b s old page line new c records ys can constant (current recorded) (current_leaves recorded) page line w here) unlogged)
          | inr other ↦ records.rest w at other ∙ sym (shown.shows.homes page line w at uncopied)
        ])
      where
        clash : {x : Bool} → x ≡ true → x ≡ false → ⊥
        clash e f = cc

    -- when it is stored all holds that a store keeps, with the line as the current one
    pub updated : KeptAlone (after_record (none_pending b) page line new) (after_all (store_calls b.sizes k line new) recorded)
    updated = line_changed_alone (none_pending b) recorded shown k page line new can_store uncopied (record_ends b s old page line new c records ys can constant)

    -- and a commit makes it committed.
    pub update_committed : (zs : List Line) → CanPutEntry (after_record (none_pending b) page line new) (after_all (store_calls b.sizes k line new) recorded) 0 zs commit
        → KeptAlone (record (after_record (none_pending b) page line new) { committed = λ n. (after_record b page line new).current })
        (after_all (end_calls b.sizes ((super_of (current (after_all (store_calls b.sizes k line new) recorded))).tail + 0) zs) (after_all (store_calls b.sizes k line new) recorded))
    update_committed zs fits = commit_kept (after_record (none_pending b) page line new) (after_all (store_calls b.sizes k line new) recorded) []
        (alone_kept (after_record (none_pending b) page line new) (after_all (store_calls b.sizes k line new) recorded) updated) zs fits
