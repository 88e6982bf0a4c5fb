-- What follows of the calls of an entry: the groups, and the facts of an open store.
use Rattle.std.proofs.Common.{◌≡◌, ℕ, zero, suc, ◌+◌, ◌*◌, ◌<◌, ◌≤◌, ◌||◌, false, List, [], ◌∷◌, length, refl, sym, ap, ◌∙◌, subst, arith, get_or, Result, Ok, Err, Some, None, leb}
use Rattle.std.specs.Prelude.{OnOk, OnErr, IsErr}
use Rattle.std.proofs.lemmas.Bool.{lt-leb, cond-false}
use Rattle.nvm_model.specs.declared.line.Line.{Line}
use Rattle.devices.specs.State.{State, current, after_all}
use Rattle.devices.specs.World.{Standing, MakesAll, now}
use Rattle.flat_nvm_layout.specs.Sizes.{sizes_of}
use Rattle.flat_store_meaning.specs.Layout.{Sizes, pages, ring_lines}
use Rattle.flat_store_meaning.specs.Log.{Entry}
use Rattle.flat_store_meaning.specs.Format.{Format, IsWhole, entries, zero_line, head_check, entry_check, log_check}
use Rattle.flat_store_meaning.specs.Format.Format.{whole_lines}
use Rattle.flat_store_meaning.specs.Recovered.{Super, super_of, log_lines}
use Rattle.flat_store_meaning.specs.Put.{append_calls, start_calls, IsLine, CanPut}
use Rattle.flat_store_meaning.specs.StoreFacts.{Bookkeeping, StoreFacts}
use Rattle.flat_store_meaning.specs.AtEnd.{CanExtend, KeepsFacts}
use Rattle.flat_store_meaning.specs.Append.{head_line}
use Rattle.flat_store_meaning.proofs.CheckLaws.{entry_from, fault_from, store_whole}
use Rattle.flat_store_meaning.proofs.FactsLaws.{current_leaves, facts_can_put}
use Rattle.flat_store_meaning.proofs.StartLaws.{start_super}
use Rattle.flat_store_meaning.proofs.AtEndLaws.{puts_last, put_super, record_kept, abort_kept, commit_kept, empties, start_kept}
use Rattle.flat_nvm_log.specs.Entries.{change_of, record_lines, record_entry, end_lines, end_entry}
use Rattle.flat_nvm_log.specs.Moved.{IsMoved, IsEmptied}
use Rattle.flat_nvm_log.specs.Standing.{IsLogOf, PutsEntry, EmptiesLog, HasFacts, RecordKeeps, EndKeeps, StartKeeps}
use Rattle.flat_nvm_log.specs.declared.log.Log.{Log}
use Rattle.flat_nvm_log.specs.declared.record.LineRecord.{LineRecord}
use Rattle.flat_nvm_log.specs.declared.record.EndKind.{EndKind}
use Rattle.flat_nvm_log.specs.declared.record.EndKind.TheVariants.{Commit, Abort}

-- the lines of a record and of an end are lines
pub record_are_lines : (r : LineRecord) → IsLine r.before → IsLine r.after → (k : ℕ) → k < length (record_lines r) → IsLine (get_or (record_lines r) k zero_line)
record_are_lines r before after zero less = refl
record_are_lines r before after (suc zero) less = before
record_are_lines r before after (suc (suc zero)) less = after
record_are_lines r before after (suc (suc (suc k))) less = absurd (omega arith)

pub end_are_lines : (kind : EndKind) (k : ℕ) → k < length (end_lines kind) → IsLine (get_or (end_lines kind) k zero_line)
end_are_lines Commit zero less = refl
end_are_lines Abort zero less = refl
end_are_lines kind (suc k) less = absurd (omega arith)

-- and pass the checks
record_passes : (g : Sizes) (r : LineRecord) → r.page < pages g → r.line < 64 → (at : ℕ) → log_check whole_lines g at 0 (record_lines r) ≡ None
record_passes g r page line at =
    let in_store : leb (pages g) r.page ≡ false = lt-leb (pages g) r.page page in
    let in_page : leb 64 r.line ≡ false = lt-leb 64 r.line line in
    let head : head_check whole_lines g (head_line 1 r.page r.line 0) ≡ None =
    cond-false (leb (pages g) r.page || (leb 64 r.line || false)) (Some 8) None (rw (in_store, in_page) refl) in
    fault_from (entry_check whole_lines g (head_line 1 r.page r.line 0) 2) at None (entry_from (head_check whole_lines g (head_line 1 r.page r.line 0)) false head refl) refl

end_passes : (g : Sizes) (kind : EndKind) (at : ℕ) → log_check whole_lines g at 0 (end_lines kind) ≡ None
end_passes g Commit at = refl
end_passes g Abort at = refl

pub end_entries : (kind : EndKind) → entries whole_lines 0 (end_lines kind) ≡ end_entry kind ∷ []
end_entries Commit = refl
end_entries Abort = refl

-- the calls by the log in memory are those by the superblock
makes_at : {T E : Type 0} {old new : Standing} {r : Result T E} (log : Log) (xs : List Line) → IsLogOf log (now old) → MakesAll (append_calls (sizes_of log.geometry) log.tail xs) old new r
    → MakesAll (append_calls (super_of (current (now old))).sizes (super_of (current (now old))).tail xs) old new r
makes_at {old = old} {new = new} {r = r} log xs at makes =
    subst (λ (g : Sizes). MakesAll (append_calls g (super_of (current (now old))).tail xs) old new r) (sym at.sizes)
    (subst (λ (n : ℕ). MakesAll (append_calls (sizes_of log.geometry) n xs) old new r) (sym at.tail) makes)

starts_at : {T E : Type 0} {old new : Standing} {r : Result T E} (log : Log) → IsLogOf log (now old) → MakesAll (start_calls log.tail) old new r
    → MakesAll (start_calls (super_of (current (now old))).tail) old new r
starts_at {old = old} {new = new} {r = r} log at makes = subst (λ (n : ℕ). MakesAll (start_calls n) old new r) (sym at.tail) makes

not_ok : {T E : Type 0} (P : Type 0) (r : Result T E) → IsErr r → OnOk r P
not_ok P (Ok v) failed = cc
not_ok P (Err e) failed = tt

always_err : {T E : Type 0} (P : Type 0) (r : Result T E) → P → OnErr r P
always_err P (Ok v) p = tt
always_err P (Err e) p = p

-- An entry is put last, and the log in memory moves with it.
pub puts_entry : {T E : Type 0} {old new : Standing} {r : Result T E} (log new_log : Log) (entry : Entry) (xs : List Line) → entries whole_lines 0 xs ≡ entry ∷ []
    → ((k : ℕ) → k < length xs → IsLine (get_or xs k zero_line)) → MakesAll (append_calls (sizes_of log.geometry) log.tail xs) old new r → IsMoved log new_log (length xs) r
    → PutsEntry log new_log (length xs) entry old new r
puts_entry {T = T} {E = E} {old = old} {new = new} {r = r} log new_log entry xs is are_lines makes moved = record {
  puts = λ told at can. puts_last whole_lines xs told can are_lines entry is (makes_at log xs at makes);
  stands = λ told at can. by_answer r at ((makes_at log xs at makes).whole told) moved.ok (put_super (now old) xs can are_lines);
}
  where
    by_answer : (r : Result T E) → IsLogOf log (now old)
        → OnOk r (now new ≡ after_all (append_calls (super_of (current (now old))).sizes (super_of (current (now old))).tail xs) (now old))
        → OnOk r (new_log.tail ≡ log.tail + length xs)
        → super_of (current (after_all (append_calls (super_of (current (now old))).sizes (super_of (current (now old))).tail xs) (now old)))
        ≡ record (super_of (current (now old))) { tail = (super_of (current (now old))).tail + length xs }
        → OnOk r (IsLogOf new_log (now new))
    by_answer (Err e) at done tail says = tt
    by_answer (Ok v) at done tail says =
        let super_new : super_of (current (now new)) ≡ record (super_of (current (now old))) { tail = (super_of (current (now old))).tail + length xs } =
        ap (λ (s : State). super_of (current s)) done ∙ says in
        record {
          sizes = ap (λ (x : Super). x.sizes) super_new ∙ at.sizes ∙ ap sizes_of (sym moved.geometry);
          start = ap (λ (x : Super). x.start) super_new ∙ at.start ∙ sym moved.start;
          tail = ap (λ (x : Super). x.tail) super_new ∙ ap (λ n. n + length xs) at.tail ∙ sym tail;
        }

-- where the call fails the log in memory stays
pub puts_failed : {T E : Type 0} {old new : Standing} {r : Result T E} (log : Log) (entry : Entry) (xs : List Line) → entries whole_lines 0 xs ≡ entry ∷ []
    → ((k : ℕ) → k < length xs → IsLine (get_or xs k zero_line)) → MakesAll (append_calls (sizes_of log.geometry) log.tail xs) old new r → IsErr r
    → PutsEntry log log (length xs) entry old new r
puts_failed {r = r} log entry xs is are_lines makes failed =
    puts_entry log log entry xs is are_lines makes (record { geometry = refl; start = refl; ok = not_ok _ r failed; err = always_err _ r refl })

-- The log is emptied, and so is the one in memory.
pub empties_log : {T E : Type 0} {old new : Standing} {r : Result T E} (log new_log : Log) → MakesAll (start_calls log.tail) old new r → IsEmptied log new_log r
    → EmptiesLog log new_log old new r
empties_log {T = T} {E = E} {old = old} {new = new} {r = r} log new_log makes emptied = record {
  empties = λ told at can. empties whole_lines told can (starts_at log at makes);
  stands = λ told at can. by_answer r at ((starts_at log at makes).whole told) emptied.ok (start_super (now old) can);
}
  where
    by_answer : (r : Result T E) → IsLogOf log (now old) → OnOk r (now new ≡ after_all (start_calls (super_of (current (now old))).tail) (now old))
        → OnOk r (new_log.start ≡ log.tail)
        → super_of (current (after_all (start_calls (super_of (current (now old))).tail) (now old)))
        ≡ record (super_of (current (now old))) { start = (super_of (current (now old))).tail; drained = (super_of (current (now old))).tail }
        → OnOk r (IsLogOf new_log (now new))
    by_answer (Err e) at done start says = tt
    by_answer (Ok v) at done start says =
        let super_new : super_of (current (now new)) ≡ record (super_of (current (now old))) { start = (super_of (current (now old))).tail; drained = (super_of (current (now old))).tail } =
        ap (λ (s : State). super_of (current s)) done ∙ says in
        record {
          sizes = ap (λ (x : Super). x.sizes) super_new ∙ at.sizes ∙ ap sizes_of (sym emptied.geometry);
          start = ap (λ (x : Super). x.start) super_new ∙ at.tail ∙ sym start;
          tail = ap (λ (x : Super). x.tail) super_new ∙ at.tail ∙ sym emptied.tail;
        }

pub empties_failed : {T E : Type 0} {old new : Standing} {r : Result T E} (log : Log) → MakesAll (start_calls log.tail) old new r → IsErr r → EmptiesLog log log old new r
empties_failed {r = r} log makes failed = empties_log log log makes (record { geometry = refl; tail = refl; ok = not_ok _ r failed; err = always_err _ r refl })

-- the room in the ring, by the superblock
room_at : (log : Log) (b : Bookkeeping) (s : State) (n : ℕ) → HasFacts log b s → log.tail + n ≤ log.start + 64 * log.geometry.log_blocks
    → (super_of (current s)).tail + n ≤ (super_of (current s)).start + ring_lines b.sizes
room_at log b s n has room =
    let same : b.sizes.log_blocks ≡ log.geometry.log_blocks = ap (λ (g : Sizes). g.log_blocks) (sym ((has.facts).sizes (current s) (current_leaves s)) ∙ (has.log_of_it).sizes) in
    let tail : (super_of (current s)).tail ≡ log.tail = (has.log_of_it).tail in
    let start : (super_of (current s)).start ≡ log.start = (has.log_of_it).start in
    omega arith

-- where the facts hold and the log in memory has room, lines can be put
pub has_can_put : (log : Log) (b : Bookkeeping) (s : State) (n : ℕ) → HasFacts log b s → log.tail + n ≤ log.start + 64 * log.geometry.log_blocks → CanPut s n
has_can_put log b s n has room = facts_can_put b s n (has.facts) (has.still) (room_at log b s n has room)

pub has_can_extend : (log : Log) (b : Bookkeeping) (s : State) (n : ℕ) → HasFacts log b s → log.tail + n ≤ log.start + 64 * log.geometry.log_blocks → CanExtend whole_lines s n
has_can_extend log b s n has room = record {
  can = has_can_put log b s n has room;
  whole = subst (λ (f : Format). IsWhole f 0 (log_lines (current s))) has.format (store_whole b.format (current s) ((has.facts).stores (current s) (current_leaves s)));
}

-- after a call that keeps the facts, with the log in memory that of the devices again, the next one may be made
pub has_after : {T E : Type 0} {old new : Standing} {r : Result T E} (during after : Bookkeeping) (new_log : Log) → after.changing ≡ None → after.format ≡ whole_lines
    → KeepsFacts during after old new r → OnOk r (IsLogOf new_log (now new)) → OnOk r (HasFacts new_log after (now new))
has_after {T = T} {E = E} {new = new} {r = r} during after new_log still format keeps stands = by_answer r keeps.whole stands
  where
    by_answer : (r : Result T E) → OnOk r (StoreFacts after (now new)) → OnOk r (IsLogOf new_log (now new)) → OnOk r (HasFacts new_log after (now new))
    by_answer (Ok v) facts at = record { log_of_it = at; facts = facts; still = still; format = format }
    by_answer (Err e) facts at = tt

-- The facts while a record is put, an end, or a new start.
pub record_keeps : {T E : Type 0} {old new : Standing} {r : Result T E} (log : Log) (change : LineRecord) → IsLine change.before → IsLine change.after
    → log.tail + 3 ≤ log.start + 64 * log.geometry.log_blocks → MakesAll (append_calls (sizes_of log.geometry) log.tail (record_lines change)) old new r → RecordKeeps log change old new r
record_keeps {old = old} log change before after room makes b told can =
    record_kept b (record_lines change) told (can.has).facts (can.has).still (room_at log b (now old) 3 can.has room) (makes_at log (record_lines change) (can.has).log_of_it makes)
    (record_are_lines change before after)
    (λ at. subst (λ (f : Format). log_check f b.sizes at 0 (record_lines change) ≡ None) (sym (can.has).format) (record_passes b.sizes change can.page can.line at))
    (change_of change) (subst (λ (f : Format). entries f 0 (record_lines change) ≡ record_entry change ∷ []) (sym (can.has).format) refl) can.constant can.before

pub end_keeps : {T E : Type 0} {old new : Standing} {r : Result T E} (log : Log) (kind : EndKind) → log.tail + 1 ≤ log.start + 64 * log.geometry.log_blocks
    → MakesAll (append_calls (sizes_of log.geometry) log.tail (end_lines kind)) old new r → EndKeeps kind log old new r
end_keeps {old = old} log Commit room makes = λ b told can.
    commit_kept b (end_lines Commit) told (can.has).facts (can.has).still (room_at log b (now old) 1 can.has room) (makes_at log (end_lines Commit) (can.has).log_of_it makes)
    refl (end_are_lines Commit) (λ at. subst (λ (f : Format). log_check f b.sizes at 0 (end_lines Commit) ≡ None) (sym (can.has).format) refl)
    (subst (λ (f : Format). entries f 0 (end_lines Commit) ≡ end_entry Commit ∷ []) (sym (can.has).format) refl) can.nothing can.ends
end_keeps {old = old} log Abort room makes = λ b told can.
    abort_kept b (end_lines Abort) told (can.has).facts (can.has).still (room_at log b (now old) 1 can.has room) (makes_at log (end_lines Abort) (can.has).log_of_it makes)
    (end_are_lines Abort) (λ at. subst (λ (f : Format). log_check f b.sizes at 0 (end_lines Abort) ≡ None) (sym (can.has).format) refl)
    (subst (λ (f : Format). entries f 0 (end_lines Abort) ≡ end_entry Abort ∷ []) (sym (can.has).format) refl) can.constant

pub start_keeps : {T E : Type 0} {old new : Standing} {r : Result T E} (log : Log) → MakesAll (start_calls log.tail) old new r → StartKeeps log old new r
start_keeps log makes b told can = start_kept b told (can.has).facts (can.has).still can.nothing can.homes (starts_at log (can.has).log_of_it makes)
