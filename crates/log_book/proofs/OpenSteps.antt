-- What a record, a harden, an end, a drain and an emptied log make of a store and its open group.
use Rattle.std.proofs.Common.{◌≡◌, ℕ, ◌+◌, ◌<◌, ◌≤◌, eqb, List, [], ◌∷◌, ◌++◌, refl, sym, subst, inl, inr, if◌then◌else◌, Ok}
use Rattle.std.proofs.lemmas.Bool.{cases_Bool, eqb-true, cond-true, cond-false}
use Rattle.nvm_model.specs.declared.line.Line.{Line}
use Rattle.devices.specs.State.{State, Call}
use Rattle.store_model.specs.Layout.{Sizes, pages, ring_lines}
use Rattle.store_model.specs.Append.{commit_lines}
use Rattle.store_model.specs.Put.{put_calls, IsLine}
use Rattle.store_model.specs.Pending.{harden_calls, end_calls}
use Rattle.device_calls.specs.Leads.{Steps}
use Rattle.nvm_log.specs.Offsets.{Offsets}
use Rattle.nvm_log.specs.Entries.{change_of, record_lines}
use Rattle.nvm_log.specs.declared.record.LineRecord.{LineRecord}
use Rattle.nvm_log.specs.declared.record.EndKind.TheVariants.{Commit}
use Rattle.log_records.proofs.OpenGroupLaws.{group_more, group_hardened, group_ended}
use Rattle.tier_facts.specs.Data.{Data}
use Rattle.transaction_facts.specs.Books.{Goal, HeldGoal, HeldEnd}
use Rattle.transaction_facts.proofs.BookLaws.{holds_held, harden_holds, end_holds}
use Rattle.transaction_facts.proofs.WriteLaws.{record_holds, recorded_hardens}
use Rattle.transaction_facts.proofs.WholeLaws.{whole_writes}
use Rattle.log_book.specs.LogData.{LogData, store_of, with_record, all_hardened, group_closed}
use Rattle.log_book.specs.Open.{OpenIn, ReadyIn, RecordedIn, CommittedIn}

-- the calls of a harden: none where nothing waits
abbrev pub harden_list : Offsets → List Call
harden_list at = if eqb at.tail at.written then [] else harden_calls at.written

-- where nothing waits a harden changes nothing, and else it is these calls
hardens_by : (P : LogData → Goal → State → Type 0) (book : LogData) (goal : Goal) (s : State) → HeldGoal goal s → P book goal s
    → Steps HeldGoal (P (all_hardened book)) (harden_calls book.log.written) goal s → Steps HeldGoal (P (all_hardened book)) (harden_list book.log) goal s
hardens_by P book goal s held it steps = elim (cases_Bool (eqb book.log.tail book.log.written)) [
  | inl none ↦ subst (λ (calls : List Call). Steps HeldGoal (P (all_hardened book)) calls goal s) (sym (cond-true (eqb book.log.tail book.log.written) [] (harden_calls book.log.written) none)) (record {
    facts = subst (λ n. P (record book { log = record book.log { tail = n } }) goal s) (eqb-true book.log.tail book.log.written none) it;
    moments = λ mid at. subst (λ (x : State). HeldGoal goal x) (sym at) held;
  })
  | inr some ↦ subst (λ (calls : List Call). Steps HeldGoal (P (all_hardened book)) calls goal s) (sym (cond-false (eqb book.log.tail book.log.written) [] (harden_calls book.log.written) some)) steps
]

pub harden_open : (t : Data) (book : LogData) (goal : Goal) (s : State) → OpenIn t book goal s → Steps HeldGoal (OpenIn t (all_hardened book)) (harden_list book.log) goal s
harden_open t book goal s it =
    let steps = harden_holds (store_of t book) goal s it.holds in
    hardens_by (OpenIn t) book goal s (holds_held (store_of t book) goal s it.holds) it (record {
      facts = record { holds = steps.facts; them = it.them; group = group_hardened _ t.sizes book.log book.first it.them s book.log.written it.group };
      moments = steps.moments;
    })

pub harden_recorded : (page line : ℕ) (value : Line) (t : Data) (book : LogData) (goal : Goal) (s : State) → RecordedIn page line value t book goal s
    → Steps HeldGoal (RecordedIn page line value t (all_hardened book)) (harden_list book.log) goal s
harden_recorded page line value t book goal s it =
    let steps = recorded_hardens (store_of t book) page line value goal s it.recorded in
    hardens_by (RecordedIn page line value t) book goal s (record { keeps = _; format_is = refl; sizes = refl; committed = refl; facts = it.recorded.facts.facts }) it (record {
      facts = record { recorded = steps.facts; them = it.them; group = group_hardened _ t.sizes book.log book.first it.them s book.log.written it.group };
      moments = steps.moments;
    })

-- a record of a line that is to be written
record_in : (t : Data) (book : LogData) (r : LineRecord) → r.page < pages t.sizes → r.line < 64 → IsLine r.before → IsLine r.after
    → book.log.drained ≤ book.log.written → book.log.written + 3 ≤ book.log.drained + ring_lines t.sizes → (goal : Goal) (s : State) → ReadyIn r.page r.line (Ok r.before) t book goal s
    → Steps HeldGoal (RecordedIn r.page r.line r.after t (with_record r.page r.line book)) (put_calls t.sizes book.log.written (record_lines r)) goal s
record_in t book r page line before after order room goal s given =
    let it = given.holds in
    let steps = record_holds (store_of t book) r.page r.line r.before r.after (change_of r) (record_lines r)
    (whole_writes (store_of t book) r r.before r.after refl page line (λ w low. refl) (λ w low. refl) before after) room goal s it.holds (λ w low. given.of_aim.words w low) in
    record {
      facts = record {
        recorded = steps.facts;
        them = it.them ++ record { head = book.log.written; change = change_of r } ∷ [];
        group = group_more t.sizes book.log book.first it.them s r it.group order room page line before after;
      };
      moments = steps.moments;
    }

pub record_open : (g : Sizes) (book : LogData) (r : LineRecord) → r.page < pages g → r.line < 64 → IsLine r.before → IsLine r.after
    → book.log.drained ≤ book.log.written → book.log.written + 3 ≤ book.log.drained + ring_lines g → (t : Data) → t.sizes ≡ g → (goal : Goal) (s : State) → ReadyIn r.page r.line (Ok r.before) t book goal s
    → Steps HeldGoal (RecordedIn r.page r.line r.after t (with_record r.page r.line book)) (put_calls g book.log.written (record_lines r)) goal s
record_open g book r page line before after order room t sizes goal s given =
    subst (λ (x : Sizes). Steps HeldGoal (RecordedIn r.page r.line r.after t (with_record r.page r.line book)) (put_calls x book.log.written (record_lines r)) goal s) sizes
    (record_in t book r (subst (λ (x : Sizes). r.page < pages x) (sym sizes) page) line before after order
    (subst (λ (x : Sizes). book.log.written + 3 ≤ book.log.drained + ring_lines x) (sym sizes) room) goal s given)

-- a commit
commit_in : (t : Data) (book : LogData) → book.log.drained ≤ book.log.written → book.log.written + 1 ≤ book.log.drained + ring_lines t.sizes → (goal : Goal) (s : State) → OpenIn t book goal s
    → Steps HeldEnd (CommittedIn t (group_closed book)) (end_calls t.sizes book.log.written commit_lines) goal s
commit_in t book order room goal s it =
    let steps = end_holds (store_of t book) room goal s it.holds in
    record {
      facts = record { holds = steps.facts; them = []; group = group_ended t.sizes book.log book.first it.them s Commit it.group order room };
      moments = steps.moments;
    }

pub commit_open : (g : Sizes) (book : LogData) → book.log.drained ≤ book.log.written → book.log.written + 1 ≤ book.log.drained + ring_lines g → (t : Data) → t.sizes ≡ g → (goal : Goal) (s : State) → OpenIn t book goal s
    → Steps HeldEnd (CommittedIn t (group_closed book)) (end_calls g book.log.written commit_lines) goal s
commit_open g book order room t sizes goal s it =
    subst (λ (x : Sizes). Steps HeldEnd (CommittedIn t (group_closed book)) (end_calls x book.log.written commit_lines) goal s) sizes
    (commit_in t book order (subst (λ (x : Sizes). book.log.written + 1 ≤ book.log.drained + ring_lines x) (sym sizes) room) goal s it)

pub open_held : (t : Data) (book : LogData) (goal : Goal) (s : State) → OpenIn t book goal s → HeldGoal goal s
open_held t book goal s it = holds_held (store_of t book) goal s it.holds
