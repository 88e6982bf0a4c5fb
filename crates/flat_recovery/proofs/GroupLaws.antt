-- A replay over a device, entry by entry.
use Rattle.std.proofs.Common.{◌≡◌, ◌⊎◌, ℕ, ◌+◌, ◌-◌, ◌*◌, ◌<◌, ◌≤◌, List, [], ◌∷◌, ◌++◌, refl, sym, ap, ◌∙◌, subst, inl, inr, arith, IsTrue, Option, Some, None, Result, Ok, Err}
use Rattle.std.proofs.lemmas.Bool.{cases_lt}
use Rattle.nvm_model.specs.declared.line.Line.{Line}
use Rattle.devices.specs.World.{Standing, Goes, Stays, MakesAll}
use Rattle.devices.proofs.CallLaws.{makes_then, makes_stop}
use Rattle.flat_nvm_layout.specs.Opening.{NoFault}
use Rattle.flat_nvm_layout.specs.Sizes.{sizes_of}
use Rattle.flat_nvm_log.specs.Heads.{Says}
use Rattle.flat_nvm_log.specs.Entries.{end_entry}
use Rattle.flat_nvm_log.specs.declared.head.Head.TheVariants as head
use Rattle.flat_nvm_log.specs.declared.record.EndKind.{EndKind}
use Rattle.flat_nvm_log.specs.declared.record.EndKind.TheVariants.{Commit, Abort}
use Rattle.flat_nvm_log.specs.declared.log.Log.{Log}
use Rattle.flat_store_meaning.specs.Layout.{Sizes}
use Rattle.flat_store_meaning.specs.Log.{Change, Item, Entry, Log as Groups, grouped, no_log, extended, changes}
use Rattle.flat_store_meaning.specs.Log.Item.{write, cut}
use Rattle.flat_store_meaning.specs.Log.Entry.{item, commit, abort}
use Rattle.flat_store_meaning.specs.Format.{word_in, entries, entry_check}
use Rattle.flat_store_meaning.specs.Format.Format.{whole_lines}
use Rattle.flat_store_meaning.proofs.LogLaws.{changes-append}
use Rattle.flat_recovery.specs.Calls.{undo_calls, ending_calls, groups_calls, replay_calls}
use Rattle.flat_recovery.specs.Reading.{entries_from, entry_at, change_at, PassFrom, IsRecordAt, AreRecords}
use Rattle.flat_recovery.specs.Heads.{ReadsHead}
use Rattle.flat_recovery.specs.Replaying.{group_end, held_lines, group_changes, open_changes, MakesCalls, UndoesGroup, EndsGroup, IsNext, TakesEntry}
use Rattle.flat_recovery.specs.declared.replaying.Group.{Group}
use Rattle.flat_recovery.specs.declared.errors.OpenError.{OpenError}
use Rattle.flat_recovery.specs.declared.errors.OpenError.TheVariants.{Nvm, Ssd, NotAStore, TooSmall, LogEnded, Damaged, NoMemory}
use Rattle.flat_recovery.proofs.CallsLaws.{makes_as}
use Rattle.flat_recovery.proofs.ReadingLaws.{Advances, advance_record, advance_end, advance_some, passes_here, entry_record, entry_commit, entry_abort, changes_at-more, none_left}
use Rattle.flat_recovery.proofs.ReplayCallsLaws.{extended_calls, BeginsWith, ending_begins, groups_frames}
use Rattle.flat_recovery.proofs.ReplayingLaws.{held_same, told_then, lines_kept, makes_behind, stays_makes, err_is}

-- the entry of a record, and of an end
entry_of_record : (f : ℕ → Line) (at : ℕ) → word_in (f at) 0 ≡ 1 → entry_at f at ≡ item (write (change_at f at))
entry_of_record f at kind = entry_record (f at) (f (at + 1) ∷ f (at + 2) ∷ []) kind

entry_of_end : (f : ℕ → Line) (at : ℕ) (kind : EndKind) → Says (head.End kind) (f at) → entry_at f at ≡ end_entry kind
entry_of_end f at Commit says = entry_commit (f at) (f (at + 1) ∷ f (at + 2) ∷ []) says
entry_of_end f at Abort says = entry_abort (f at) (f (at + 1) ∷ f (at + 2) ∷ []) says

-- a record is one more of its group
module _ (log : Log) (group : Group) (a b : Standing) (goes : Goes a b) (stays : Stays a b) where
  abbrev g : Sizes
  g = sizes_of log.geometry

  abbrev f : ℕ → Line
  f = held_lines log a

  abbrev at : ℕ
  at = group_end group

  abbrev Records : Type 0
  Records = AreRecords (sizes_of log.geometry) (held_lines log a) log.tail group.first group.count

  record_here : (page l : ℕ) → at < log.tail → ReadsHead log at a (Ok (head.Line page l)) → IsTrue a.told → IsRecordAt g f log.tail at
  record_here page l less head told =
      let line : head.line ≡ f at = head.held told in
      record {
        kind = sym (ap (λ (x : Line). word_in x 0) line) ∙ ((head.judged).1).kind;
        passes = subst (λ (x : Line). entry_check whole_lines g x (log.tail - at - 1) ≡ None) line (head.judged).0;
      }

  pub record_taken : (page l : ℕ) → at < log.tail → ReadsHead log at a (Ok (head.Line page l)) → TakesEntry log group a b (Ok (record { first = group.first; count = group.count + 1 }))
  record_taken page l less head = record {
    writes = λ told records passes.
        let none = stays_makes {E = OpenError} goes stays in
        record {
          makes = makes_as (sym (ap (ending_calls g (group_changes f group)) (entry_of_record f at (record_here page l less head told).kind))) (record { whole = none.whole; part = none.part });
          only = tt;
        };
    next = λ told records passes.
        let is : IsRecordAt g f log.tail at = record_here page l less head told in
        let step : Advances g f log.tail at 3 = advance_record g f log.tail at less is in
        let end : at + 3 ≡ group.first + 3 * (group.count + 1) = omega arith in
        record {
          first = step.first ∙ ap (λ n. entry_at f at ∷ entries_from f log.tail n) end;
          passes = subst (λ n. PassFrom g f log.tail n) end (sym step.checks ∙ passes);
          records = record { ring = records.ring; each = λ k fewer. each_of is records k fewer };
          left_open = changes_at-more f group.first group.count 1 ∙ sym (ap (open_changes (group_changes f group)) (entry_of_record f at is.kind));
        };
  }
    where
      each_of : IsRecordAt g f log.tail at → Records → (k : ℕ) → k < group.count + 1 → IsRecordAt g f log.tail (group.first + 3 * k)
      each_of is records k fewer = elim (cases_lt k group.count) [
        | inl before ↦ records.each k before
        | inr last ↦ (let e : group.count ≡ k = omega arith in subst (λ n. IsRecordAt g f log.tail (group.first + 3 * n)) e is)
      ]

  -- a head that is not read stops all
  no_damage : (why : OpenError) → at < log.tail → ReadsHead log at a (Err why) → IsTrue a.told → PassFrom g f log.tail at → why ≡ Nvm
  no_damage Nvm less head told passes = refl
  no_damage (Damaged kept) less head told passes =
      let line : head.line ≡ f at = head.held told in
      let fails : entry_check whole_lines g (f at) (log.tail - at - 1) ≡ Some (head.judged).check =
      subst (λ (x : Line). entry_check whole_lines g x (log.tail - at - 1) ≡ Some (head.judged).check) line (head.judged).fails_it in
      absurd (clash (entry_check whole_lines g (f at) (log.tail - at - 1)) (head.judged).check fails (passes_here g f log.tail at less passes))
    where
      clash : (x : Option ℕ) (check : ℕ) → x ≡ Some check → x ≡ None → ⊥
      clash x check some none = absurd (cc)
  no_damage Ssd less head told passes = absurd head.judged
  no_damage NotAStore less head told passes = absurd head.judged
  no_damage TooSmall less head told passes = absurd head.judged
  no_damage LogEnded less head told passes = absurd head.judged
  no_damage NoMemory less head told passes = absurd head.judged

  pub head_stops : (why : OpenError) (r : Result Group OpenError) → r ≡ Err why → at < log.tail → ReadsHead log at a (Err why) → TakesEntry log group a b r
  head_stops why r is less head =
      let nothing : MakesAll {T = Unit {0}} {E = OpenError} [] a b (Err why) = record { whole = λ told. tt; part = stays } in
      subst (λ (x : Result Group OpenError). TakesEntry log group a b x) (sym is) (record {
        writes = λ told records passes. record {
          makes = makes_stop (ending_calls g (group_changes f group) (entry_at f at)) {e = why} (Err why) (err_is Group why) nothing;
          only = no_damage why less head told passes;
        };
        next = λ told records passes. tt;
      })

  -- an end writes the group, and the next one begins behind it
  module _ (kind : EndKind) (less : at < log.tail) (read : ReadsHead log at a (Ok (head.End kind))) (d : Standing) (goes_d : Goes b d) where
    end_here : IsTrue a.told → Says (head.End kind) (f at)
    end_here told = subst (λ (x : Line). Says (head.End kind) x) (read.held told) (read.judged).1

    end_writes : {T : Type 0} (r : Result T OpenError) → EndsGroup log group kind b d r → IsTrue a.told → Records → MakesCalls (ending_calls g (group_changes f group) (entry_at f at)) a d r
    end_writes r ends told records =
        let same : held_lines log b ≡ held_lines log a = held_same log a b goes stays told in
        let there : MakesCalls (ending_calls g (group_changes (held_lines log b) group) (end_entry kind)) b d r =
        ends.writes (told_then goes told) (subst (λ (x : ℕ → Line). AreRecords g x log.tail group.first group.count) (sym same) records) in
        record {
          makes = makes_as (ap (λ (x : ℕ → Line). ending_calls g (group_changes x group) (end_entry kind)) same ∙ sym (ap (ending_calls g (group_changes f group)) (entry_of_end f at kind (end_here told))))
              (makes_behind goes goes_d stays there.makes);
          only = there.only;
        }

    pub end_taken : EndsGroup {T = Unit {0}} log group kind b d (Ok tt) → TakesEntry log group a d (Ok (record { first = at + 1; count = 0 }))
    end_taken ends = record {
      writes = λ told records passes.
          let there : MakesCalls {T = Unit {0}} (ending_calls g (group_changes f group) (entry_at f at)) a d (Ok tt) = end_writes (Ok tt) ends told records in
          record { makes = record { whole = there.makes.whole; part = there.makes.part }; only = tt };
      next = λ told records passes.
          let step : Advances g f log.tail at 1 = advance_end g f log.tail at less (by_kind kind (end_here told)) (passes_here g f log.tail at less passes) in
          let end : at + 1 ≡ at + 1 + 3 * 0 = omega arith in
          record {
            first = step.first ∙ ap (λ n. entry_at f at ∷ entries_from f log.tail n) end;
            passes = subst (λ n. PassFrom g f log.tail n) end (sym step.checks ∙ passes);
            records = record { ring = records.ring; each = λ k fewer. absurd (omega arith) };
            left_open = sym (ap (open_changes (group_changes f group)) (entry_of_end f at kind (end_here told)) ∙ none_open kind (group_changes f group));
          };
    }
      where
        by_kind : (kind : EndKind) → Says (head.End kind) (f at) → (word_in (f at) 0 ≡ 2) ⊎ (word_in (f at) 0 ≡ 3)
        by_kind Commit says = inl says
        by_kind Abort says = inr says

        none_open : (kind : EndKind) (cs : List Change) → open_changes cs (end_entry kind) ≡ []
        none_open Commit cs = refl
        none_open Abort cs = refl

    pub end_stops : (why : OpenError) (r : Result Group OpenError) → r ≡ Err why → EndsGroup {T = Unit {0}} log group kind b d (Err why) → TakesEntry log group a d r
    end_stops why r is ends = subst (λ (x : Result Group OpenError). TakesEntry log group a d x) (sym is) (record {
      writes = λ told records passes.
          let there : MakesCalls {T = Unit {0}} (ending_calls g (group_changes f group) (entry_at f at)) a d (Err why) = end_writes (Err why) ends told records in
          record { makes = record { whole = λ told. tt; part = there.makes.part }; only = there.only };
      next = λ told records passes. tt;
    })

-- From the beginning of the log up to a group that is open: the groups before it were written.
pub record UpTo (log : Log) (group : Group) (old mid : Standing) : Type 0 where
  pub so_far : Groups
  pub left : grouped so_far (entries_from (held_lines log old) log.tail (group_end group)) ≡ grouped no_log (entries_from (held_lines log old) log.tail log.start)
  pub still_open : changes so_far.open_items ≡ group_changes (held_lines log old) group
  pub makes : MakesAll {T = Unit {0}} {E = OpenError} (groups_calls (sizes_of log.geometry) so_far.closed) old mid (Ok tt)
  pub passes : PassFrom (sizes_of log.geometry) (held_lines log old) log.tail (group_end group)
  pub records : AreRecords (sizes_of log.geometry) (held_lines log old) log.tail group.first group.count

-- What a replay keeps from its beginning to here.
pub record Replaying (log : Log) (group : Group) (old mid : Standing) : Type 0 where
  pub goes : Goes old mid
  pub none : NoFault old mid
  pub reads : mid.block_reads ≡ old.block_reads
  pub above : log.start ≤ group.first
  pub below : group_end group ≤ log.tail
  pub up_to : IsTrue old.told → 0 < log.geometry.log_blocks → PassFrom (sizes_of log.geometry) (held_lines log old) log.tail log.start → UpTo log group old mid

pub replay_begins : (log : Log) (old : Standing) → MakesAll {T = Unit {0}} {E = OpenError} [] old old (Ok tt) → 0 < log.geometry.log_blocks
    → PassFrom (sizes_of log.geometry) (held_lines log old) log.tail log.start → UpTo log (record { first = log.start; count = 0 }) old old
replay_begins log old none ring passes =
    let end : log.start ≡ log.start + 3 * 0 = omega arith in
    record {
      so_far = no_log;
      left = ap (λ n. grouped no_log (entries_from (held_lines log old) log.tail n)) (sym end);
      still_open = refl;
      makes = none;
      passes = subst (λ n. PassFrom (sizes_of log.geometry) (held_lines log old) log.tail n) end passes;
      records = record { ring = ring; each = λ k fewer. absurd (omega arith) };
    }

-- the records that an entry leaves open
open_is : (groups : Groups) (e : Entry) → changes (extended groups e).open_items ≡ open_changes (changes groups.open_items) e
open_is groups (item (write c)) = changes-append groups.open_items c
open_is groups (item (cut n)) = cut_last groups.open_items n
  where
    cut_last : (items : List Item) (n : ℕ) → changes (items ++ cut n ∷ []) ≡ changes items
    cut_last [] n = refl
    cut_last (write c ∷ items) n = ap (λ (cs : List Change). c ∷ cs) (cut_last items n)
    cut_last (cut m ∷ items) n = cut_last items n
open_is groups commit = refl
open_is groups abort = refl

module _ (log : Log) (group : Group) (old mid : Standing) (goes : Goes old mid) (told : IsTrue old.told) (it : UpTo log group old mid) where
  abbrev g₁ : Sizes
  g₁ = sizes_of log.geometry

  abbrev f₁ : ℕ → Line
  f₁ = held_lines log old

  same_held : held_lines log mid ≡ held_lines log old
  same_held = lines_kept log (groups_calls g₁ (it.so_far).closed) old mid (it.records).ring (groups_frames g₁ (it.so_far).closed) told it.makes

  records_mid : AreRecords g₁ (held_lines log mid) log.tail group.first group.count
  records_mid = subst (λ (x : ℕ → Line). AreRecords g₁ x log.tail group.first group.count) (sym same_held) it.records

  passes_mid : PassFrom g₁ (held_lines log mid) log.tail (group_end group)
  passes_mid = subst (λ (x : ℕ → Line). PassFrom g₁ x log.tail (group_end group)) (sym same_held) it.passes

  -- the calls of the next entry, over the groups so far
  calls_are : ending_calls g₁ (group_changes (held_lines log mid) group) (entry_at (held_lines log mid) (group_end group)) ≡ ending_calls g₁ (changes (it.so_far).open_items) (entry_at f₁ (group_end group))
  calls_are =
      ap (λ (x : ℕ → Line). ending_calls g₁ (group_changes x group) (entry_at x (group_end group))) same_held
      ∙ ap (λ (cs : List Change). ending_calls g₁ cs (entry_at f₁ (group_end group))) (sym it.still_open)

  -- one entry more
  pub replay_more : (new : Standing) (next : Group) → Goes mid new → TakesEntry log group mid new (Ok next) → UpTo log next old new
  replay_more new next goes_new takes =
      let made : MakesCalls (ending_calls g₁ (group_changes (held_lines log mid) group) (entry_at (held_lines log mid) (group_end group))) mid new (Ok next) =
      takes.writes (told_then goes told) records_mid passes_mid in
      let is : IsNext g₁ f₁ log.tail group next = subst (λ (x : ℕ → Line). IsNext g₁ x log.tail group next) same_held (takes.next (told_then goes told) records_mid passes_mid) in
      record {
        so_far = extended it.so_far (entry_at f₁ (group_end group));
        left = ap (grouped it.so_far) (sym is.first) ∙ it.left;
        still_open = open_is it.so_far (entry_at f₁ (group_end group)) ∙ ap (λ (cs : List Change). open_changes cs (entry_at f₁ (group_end group))) it.still_open ∙ sym is.left_open;
        makes = makes_as (sym (extended_calls g₁ it.so_far (entry_at f₁ (group_end group)))) (makes_then goes goes_new it.makes (makes_as calls_are (record { whole = made.makes.whole; part = made.makes.part })));
        passes = is.passes;
        records = is.records;
      }

  -- an entry that stops
  pub replay_stops : {T : Type 0} (new : Standing) (why : OpenError) (r : Result T OpenError) → r ≡ Err why → group_end group < log.tail → Goes mid new → TakesEntry log group mid new (Err why)
      → MakesCalls (replay_calls g₁ (grouped no_log (entries_from f₁ log.tail log.start))) old new r
  replay_stops {T} new why r is less goes_new takes =
      let made : MakesCalls (ending_calls g₁ (group_changes (held_lines log mid) group) (entry_at (held_lines log mid) (group_end group))) mid new (Err why) =
      takes.writes (told_then goes told) records_mid passes_mid in
      let step : (n : ℕ) × Advances g₁ f₁ log.tail (group_end group) n = advance_some g₁ f₁ log.tail (group_end group) less it.passes in
      let begins : BeginsWith (replay_calls g₁ (grouped it.so_far (entry_at f₁ (group_end group) ∷ entries_from f₁ log.tail (group_end group + step.0))))
      (groups_calls g₁ (it.so_far).closed ++ ending_calls g₁ (changes (it.so_far).open_items) (entry_at f₁ (group_end group))) =
      ending_begins g₁ it.so_far (entry_at f₁ (group_end group)) (entries_from f₁ log.tail (group_end group + step.0)) in
      let front : MakesAll {T = Group} (groups_calls g₁ (it.so_far).closed ++ ending_calls g₁ (changes (it.so_far).open_items) (entry_at f₁ (group_end group))) old new (Err why) =
      makes_then goes goes_new it.makes (makes_as calls_are made.makes) in
      subst (λ (x : Result T OpenError). MakesCalls (replay_calls g₁ (grouped no_log (entries_from f₁ log.tail log.start))) old new x) (sym is) (record {
        makes = makes_as (sym begins.is ∙ ap (λ (es : List Entry). replay_calls g₁ (grouped it.so_far es)) (sym (step.1).first) ∙ ap (replay_calls g₁) it.left) (makes_stop begins.rest {e = why} (Err why) (err_is T why) front);
        only = made.only;
      })

  -- the open group at the tail
  pub replay_ends : {T : Type 0} (new : Standing) (r : Result T OpenError) → log.tail ≤ group_end group → Goes mid new → UndoesGroup log group mid new r
      → MakesCalls (replay_calls g₁ (grouped no_log (entries_from f₁ log.tail log.start))) old new r
  replay_ends new r above goes_new undoes =
      let made : MakesCalls (undo_calls g₁ (group_changes (held_lines log mid) group)) mid new r = undoes.writes (told_then goes told) records_mid in
      let all : grouped no_log (entries_from f₁ log.tail log.start) ≡ it.so_far =
      sym it.left ∙ ap (λ (lines : List Line). grouped it.so_far (entries whole_lines 0 lines)) (none_left f₁ log.tail (group_end group) above) in
      record {
        makes = makes_as (ap (λ (cs : List Change). groups_calls g₁ (it.so_far).closed ++ undo_calls g₁ cs) (ap (λ (x : ℕ → Line). group_changes x group) same_held ∙ sym it.still_open) ∙ ap (replay_calls g₁) (sym all))
            (makes_then goes goes_new it.makes made.makes);
        only = made.only;
      }
