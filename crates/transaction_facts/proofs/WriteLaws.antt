-- A line that is written: its record waits behind the tail, the line is loose, and its copy has the new value.
use Rattle.std.proofs.Common.{◌≡◌, ℕ, ◌+◌, ◌<◌, ◌≤◌, ◌&&◌, Bool, true, false, eqb, List, [], ◌∷◌, ◌++◌, length, length-append, slice_index, refl, sym, ap, ◌∙◌, subst, inl, inr, arith, Option, Some, None}
use Rattle.std.proofs.lemmas.Bool.{cases_Bool, and_parts, eqb-true, eq-eqb, cond-true, cond-false}
use Rattle.nvm_model.specs.declared.line.Line.{Line}
use Rattle.devices.specs.State.{State, current, after_all}
use Rattle.store_model.specs.Layout.{Sizes, pages, ring_lines}
use Rattle.store_model.specs.Log.{Words, Change, names, named_in, is_logged}
use Rattle.store_model.specs.Log.Item.{write}
use Rattle.store_model.specs.Log.Entry.{item}
use Rattle.store_model.specs.Format.{Format, entries, log_check, word_in}
use Rattle.store_model.specs.Put.{put_calls}
use Rattle.store_model.specs.StoreFacts.{IsWord}
use Rattle.store_model.specs.Copies.{with_line}
use Rattle.kept_laws.proofs.WriteFacts.{named_last, with_line-here, with_line-other}
use Rattle.store_model.specs.Pending.{harden_calls}
use Rattle.device_calls.specs.Leads.{Steps, Given, Lifts}
use Rattle.tier_facts.specs.Data.{Data, or_home, home_of, with_mark}
use Rattle.tier_facts.specs.Facts.{Aim, Held, Facts, Hard, IsLoose, FactsWith, log_in, is_recorded}
use Rattle.tier_facts.proofs.CopyLaws.{facts_loose, puts}
use Rattle.transaction_facts.specs.Records.{Records, Waiting, FitsBehind, recorded}
use Rattle.transaction_facts.specs.Books.{BookData, Goal, Holds, HoldsWith, HoldsRecorded, HeldGoal, Writes, aim_of, goal_with, noted, took_back, wrote, all_hard}
use Rattle.transaction_facts.proofs.RecordSteps.{or_right, record_steps, record_records, harden_steps, hardened_records}
use Rattle.transaction_facts.proofs.RecordLaws.{whole_log}
use Rattle.transaction_facts.proofs.BookLaws.{no_pending}

-- a record names words of its line alone
pub names_place : (c : Change) (p l w : ℕ) → names c p l w ≡ true → (p ≡ c.page) × (l ≡ c.line)
names_place c p l w h =
    let outer : (eqb c.page p ≡ true) × _ = and_parts (eqb c.page p) _ h in
    let inner : (eqb c.line l ≡ true) × _ = and_parts (eqb c.line l) _ outer.1 in
    (sym (eqb-true c.page p outer.0), sym (eqb-true c.line l inner.0))

-- what holds of a line of a page holds of the same one by another name
pub moved_to : (P : ℕ → ℕ → Type 0) {p l page line : ℕ} → (p ≡ page) × (l ≡ line) → P page line → P p l
moved_to P {p} {l} {page} {line} both it = subst (λ (q : ℕ). P q l) (sym both.0) (subst (λ (k : ℕ). P page k) (sym both.1) it)

pub moved_from : (P : ℕ → ℕ → Type 0) {p l page line : ℕ} → (p ≡ page) × (l ≡ line) → P p l → P page line
moved_from P {p} {l} {page} {line} both it = subst (λ (k : ℕ). P page k) both.1 (subst (λ (q : ℕ). P q l) both.0 it)

module _ (b : BookData) (page line : ℕ) (old new : Line) (c : Change) (lines : List Line) (writes : Writes b page line old new c lines)
    (room : b.log.written + length lines ≤ b.log.drained + ring_lines b.tiers.sizes) (goal : Goal) (s : State) (it : Holds b goal s)
    (old_is : (w : ℕ) → w < 8 → word_in old w ≡ goal.words page line w) where
  abbrev aim : Aim
  aim = aim_of b goal it.lines it.behind it.pending

  abbrev new_words : Words
  new_words = with_line goal.words page line new

  abbrev marks : ℕ → ℕ → Bool
  marks = with_mark page line true b.loose

  fits : FitsBehind aim lines (item (write c))
  fits = record {
    room = (let here : b.log.written + length lines ≤ b.log.drained + ring_lines goal.sizes = subst (λ (g : Sizes). b.log.written + length lines ≤ b.log.drained + ring_lines g) it.facts.sizes_same room in
        let count = it.count in omega (arith, count, here));
    are_lines = writes.are_lines;
    passes = subst (λ (f : Format). (at : ℕ) → log_check f goal.sizes at 0 lines ≡ None) it.format_same
        (subst (λ (g : Sizes). (at : ℕ) → log_check b.format g at 0 lines ≡ None) it.facts.sizes_same writes.passes);
    holds = subst (λ (f : Format). entries f 0 lines ≡ item (write c) ∷ []) it.format_same writes.holds;
  }

  abbrev next : State
  next = after_all (put_calls goal.sizes (b.log.tail + length it.behind) lines) s

  steps : Steps Held (λ (a : Aim). Facts b.tiers (recorded c lines a)) (put_calls goal.sizes (b.log.tail + length it.behind) lines) aim s
  steps = record_steps b.tiers aim s it.facts it.records c lines fits

  at_place : {p l : ℕ} → (eqb p page && eqb l line) ≡ true → (p ≡ page) × (l ≡ line)
  at_place {p} {l} is = let parts : (eqb p page ≡ true) × (eqb l line ≡ true) = and_parts (eqb p page) (eqb l line) is in (eqb-true p page parts.0, eqb-true l line parts.1)

  loose_here : marks page line ≡ true
  loose_here = cond-true (eqb page page && eqb line line) true (b.loose page line) (rw (eq-eqb page page refl, eq-eqb line line refl) refl)

  -- each word of the line is one that a record names now
  named_now : (w : ℕ) → IsWord goal.sizes page line w → is_recorded (recorded c lines aim) page line w ≡ true
  named_now w word = elim (writes.covers w word.word) [
    | inl named ↦ or_right (is_logged (log_in aim) page line w) (named_in (it.pending ++ c ∷ []) page line w) (named_last it.pending c page line w named)
    | inr loose ↦ steps.facts.recorded page line w word loose
  ]

  marked_facts : Facts b.tiers (record (recorded c lines aim) { loose = marks }) next
  marked_facts = facts_loose b.tiers (recorded c lines aim) next marks
      (λ p l hp hl dirty. elim (cases_Bool (eqb p page && eqb l line)) [
        | inl is ↦ cond-true (eqb p page && eqb l line) true (b.loose p l) is
        | inr other ↦ cond-false (eqb p page && eqb l line) true (b.loose p l) other ∙ it.facts.loose p l hp hl dirty
      ])
      (λ p l w word loose. elim (cases_Bool (eqb p page && eqb l line)) [
        | inl is ↦ moved_to (λ p l. is_recorded (recorded c lines aim) p l w ≡ true) (at_place is) (named_now w (moved_from (λ p l. IsWord goal.sizes p l w) (at_place is) word))
        | inr other ↦ steps.facts.recorded p l w word (sym (cond-false (eqb p page && eqb l line) true (b.loose p l) other) ∙ loose)
      ]) steps.facts

  current_line : (w : ℕ) → IsWord goal.sizes page line w → word_in old w ≡ goal.words page line w
  current_line w word = old_is w word.word

  here : (p l w : ℕ) → names c p l w ≡ true → (p ≡ page) × (l ≡ line)
  here p l w named = let place : (p ≡ c.page) × (l ≡ c.line) = names_place c p l w named in (place.0 ∙ writes.page_is, place.1 ∙ writes.line_is)

  marked_records : Records (record (recorded c lines aim) { words = new_words; loose = marks })
  marked_records = record_records b.tiers aim s it.facts it.records c lines fits new_words marks
      (λ p l w word named. moved_to (λ p l. slice_index c.before.words w ≡ goal.words p l w) (here p l w named)
      (writes.before w word.word (moved_from (λ p l. names c p l w ≡ true) (here p l w named) named) ∙ current_line w (moved_from (λ p l. IsWord goal.sizes p l w) (here p l w named) word)))
      (λ p l w word named. writes.after w word.word (moved_from (λ p l. names c p l w ≡ true) (here p l w named) named)
      ∙ sym (with_line-here goal.words page line new p l w (here p l w named).0 (here p l w named).1))
      (λ p l w word unnamed. elim (cases_Bool (eqb p page && eqb l line)) [
        | inr other ↦ sym (with_line-other goal.words page line new p l w other)
        | inl is ↦ moved_to (λ p l. goal.words p l w ≡ word_in old w) (at_place is) (sym (current_line w (moved_from (λ p l. IsWord goal.sizes p l w) (at_place is) word)))
            ∙ sym (writes.rest w word.word (moved_from (λ p l. names c p l w ≡ false) (at_place is) unnamed))
            ∙ sym (with_line-here goal.words page line new p l w (at_place is).0 (at_place is).1)
      ])

  noted_steps : Steps HeldGoal (HoldsRecorded page line new (noted page line (length lines) b)) (put_calls goal.sizes (b.log.tail + length it.behind) lines) goal s
  noted_steps = record {
    facts = record {
      format_same = it.format_same;
      lines = it.lines;
      behind = it.behind ++ lines;
      pending = it.pending ++ c ∷ [];
      loose = loose_here;
      facts = marked_facts;
      records = marked_records;
      count = (let count = it.count in let long : length (it.behind ++ lines) ≡ length it.behind + length lines = length-append it.behind lines in omega (arith, count, long));
    };
    moments = λ mid amid. steps.moments mid amid;
  }

  -- The record of a line that is to be written.
  pub record_holds : Steps HeldGoal (HoldsRecorded page line new (noted page line (length lines) b)) (put_calls b.tiers.sizes b.log.written lines) goal s
  record_holds = subst (λ (g : Sizes). Steps HeldGoal (HoldsRecorded page line new (noted page line (length lines) b)) (put_calls g b.log.written lines) goal s) (sym it.facts.sizes_same)
      (subst (λ (n : ℕ). Steps HeldGoal (HoldsRecorded page line new (noted page line (length lines) b)) (put_calls goal.sizes n lines) goal s) it.count noted_steps)

-- Then its copy gets the value, with no device call,
pub recorded_put : (b : BookData) (page line : ℕ) (value : Line) (goal : Goal) (s : State) → HoldsRecorded page line value b goal s → HoldsWith page line value (took_back page line value b) goal s
recorded_put b page line value goal s it = record {
  format_same = it.format_same;
  lines = it.lines;
  behind = it.behind;
  pending = it.pending;
  facts = puts b.tiers page line value (aim_of b goal it.lines it.behind it.pending) s (record { of_aim = record { loose = it.loose }; holds = it.facts });
  records = record {
    waiting = record { room = it.records.waiting.room; are_lines = it.records.waiting.are_lines; passes = it.records.waiting.passes; holds = it.records.waiting.holds; right = it.records.waiting.right };
    ends = it.records.ends;
  };
  count = it.count;
}

-- or, behind a harden, a call of the tiers stores it in place.
pub recorded_hardens : (b : BookData) (page line : ℕ) (value : Line) (goal : Goal) (s : State) → HoldsRecorded page line value b goal s
    → Steps HeldGoal (HoldsRecorded page line value (all_hard b)) (harden_calls b.log.written) goal s
recorded_hardens b page line value goal s it = subst (λ (n : ℕ). Steps HeldGoal (HoldsRecorded page line value (record b { log = record b.log { tail = n } })) (harden_calls n) goal s) it.count
    (let old : Aim = aim_of b goal it.lines it.behind it.pending in
    let waiting : Waiting old = record { room = it.records.waiting.room; are_lines = it.records.waiting.are_lines; passes = it.records.waiting.passes; holds = it.records.waiting.holds; right = it.records.waiting.right } in
    let steps = harden_steps b.tiers old s it.facts waiting in
    record {
      facts = record {
        format_same = it.format_same;
        lines = it.lines ++ it.behind;
        behind = [];
        pending = [];
        loose = it.loose;
        facts = steps.facts;
        records = hardened_records (aim_of b (goal_with page line value goal) it.lines it.behind it.pending) (whole_log b.tiers old s it.facts) it.records;
        count = (let count = it.count in omega (arith, count));
      };
      moments = λ mid amid. steps.moments mid amid;
    })

pub lift_in_place : (b : BookData) (t : Data) (page line : ℕ) (value : Line) → b.log.written ≡ b.log.tail → (goal : Goal) (s : State) → HoldsRecorded page line value b goal s
    → Lifts Held (Given (IsLoose page line) (Hard b.tiers)) (FactsWith page line value t) HeldGoal (HoldsWith page line value (record b { tiers = t })) goal s
lift_in_place b t page line value same goal s it = record {
  aim = aim_of b goal it.lines it.behind it.pending;
  before = record {
    of_aim = record { loose = it.loose };
    holds = record { of_aim = record { none = no_pending goal.format it.behind it.pending it.records.waiting.holds (let count = it.count in omega (arith, count, same)) }; holds = it.facts };
  };
  held = λ mid held. held;
  after = λ n facts. record { format_same = it.format_same; lines = it.lines; behind = it.behind; pending = it.pending; facts = facts; records = it.records; count = it.count };
}

-- A line of a copy that is written: its record, and then the copy.
pub write_holds : (b : BookData) (page line : ℕ) (old new : Line) (c : Change) (lines : List Line) → Writes b page line old new c lines → b.tiers.copy page line ≡ Some old
    → b.log.written + length lines ≤ b.log.drained + ring_lines b.tiers.sizes → (goal : Goal) (s : State) → Holds b goal s
    → Steps HeldGoal (HoldsWith page line new (wrote page line new (length lines) b)) (put_calls b.tiers.sizes b.log.written lines) goal s
write_holds b page line old new c lines writes resident room goal s it =
    let low : page < pages goal.sizes = subst (λ (g : Sizes). page < pages g) it.facts.sizes_same writes.in_store in
    let steps = record_holds b page line old new c lines writes room goal s it
    (λ w hw. sym (ap (λ (x : Option Line). or_home x w (home_of goal.sizes b.tiers (current s) page line w)) resident) ∙ it.facts.words page line w (record { page = low; line = writes.in_page; word = hw })) in
    record { facts = recorded_put (noted page line (length lines) b) page line new goal _ steps.facts; moments = λ mid amid. steps.moments mid amid }
