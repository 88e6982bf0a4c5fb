-- With the before images of the open group's records written over the current words, from the last to the first, these are the
-- committed ones.
use Rattle.std.proofs.Common.{◌≡◌, ℕ, suc, ◌+◌, ◌-◌, ◌<◌, ◌≤◌, ◌||◌, ◌&&◌, Bool, true, false, eqb, cond, List, [], ◌∷◌, ◌++◌, append-nil, append_assoc, length, get_or, refl, sym, ap, ◌∙◌, subst, inl, inr, arith, Option, Some}
use Rattle.std.proofs.lemmas.Bool.{cases_Bool, and_parts, eqb-true, eq-eqb, cond-false}
use Rattle.nvm_model.specs.declared.line.Line.{Line}
use Rattle.devices.specs.State.{State, current}
use Rattle.store_model.specs.Layout.{Sizes}
use Rattle.store_model.specs.Log.{Words, Change, Item, Entry, Log as Groups, no_log, grouped, extended, names, named_in, changes, undone, applied, applied_with_cuts, applied_all, is_logged, named_in_groups}
use Rattle.store_model.specs.Log.Item.{write}
use Rattle.store_model.specs.Log.Entry.{item}
use Rattle.store_model.specs.Format.{Format, entries, word_in, zero_line}
use Rattle.store_model.specs.Format.Format.{whole_lines, named_words, with_cuts}
use Rattle.store_model.specs.Recovered.{Super, replay, from}
use Rattle.store_model.specs.Put.{CanPut}
use Rattle.store_model.specs.Pending.{record_entries, with_records}
use Rattle.store_model.specs.StoreFacts.{IsWord}
use Rattle.store_model.specs.Copies.{with_line}
use Rattle.home_laws.proofs.FactsLaws.{current_leaves}
use Rattle.home_laws.proofs.LogLaws.{undone_other, undone_named, written_named, written_other, changes-append, grouped-append}
use Rattle.home_laws.proofs.PutLaws.{log_line-in_nvm}
use Rattle.home_laws.proofs.RecoveredLaws.{line_of-same, from-append, entries-append}
use Rattle.log_laws.proofs.EndsFacts.{untouched}
use Rattle.log_laws.proofs.EndsLaws.{record_logged}
use Rattle.kept_laws.proofs.CopyFacts.{copies_facts}
use Rattle.kept_laws.proofs.WriteFacts.{with_line-here, with_line-other}
use Rattle.device_calls.specs.Leads.{Given, Lifts}
use Rattle.nvm_log.specs.Offsets.{Offsets}
use Rattle.nvm_log.specs.Standing.{IsLogOf}
use Rattle.log_records.specs.Heads.{Headed, HeadsOf, changes_of}
use Rattle.log_records.specs.OpenGroup.{OpenGroup, lines_in, lines_before}
use Rattle.log_records.proofs.HeadLaws.{Read, heads_order, heads_read}
use Rattle.log_records.proofs.OpenGroupLaws.{lines_of_log}
use Rattle.tier_facts.specs.Data.{Data, or_home, home_of, with_mark}
use Rattle.tier_facts.specs.Facts.{Aim, Held, Facts, Hard, aim_sizes, keeping, log_in, is_recorded}
use Rattle.tier_facts.proofs.PlaceLaws.{can, log_now}
use Rattle.tier_facts.proofs.CopyLaws.{facts_loose}
use Rattle.transaction_facts.specs.Records.{Records, log_ahead}
use Rattle.transaction_facts.specs.Books.{BookData, Goal, Holds, HoldsTaking, IsClosed, HeldGoal, aim_of, goal_with, took_back}
use Rattle.transaction_facts.specs.Aborts.{goal_back, HoldsBack, IsBack, HoldsAborted, GivesBack, AllNamed, marked_loose}
use Rattle.transaction_facts.proofs.RecordLaws.{stands_pending, ends_right, whole_log}
use Rattle.transaction_facts.proofs.RecordSteps.{or_right}
use Rattle.transaction_facts.proofs.WriteLaws.{names_place, moved_to, moved_from}
use Rattle.transaction_facts.proofs.BookLaws.{no_pending, takes_from, takes_line}

-- ---- by the log

-- in each format replay takes the open group back, of some words
replay_back : (format : Format) (log : Groups) (a : Words) → (x : Words) × (replay format log a ≡ undone (changes log.open_items) x)
replay_back whole_lines log a = (applied_all applied log.closed a, refl)
replay_back named_words log a = (applied_all applied log.closed a, refl)
replay_back with_cuts log a = (applied_all applied_with_cuts log.closed a, refl)

pub taken_back : (t : Data) (aim : Aim) (s : State) → Facts t aim s → Records aim → (p l w : ℕ) → IsWord (aim_sizes aim) p l w
    → undone (changes (log_ahead aim).open_items) aim.words p l w ≡ aim.kept p l w
taken_back t aim s it records p l w word = elim (cases_Bool (named_in (changes (log_ahead aim).open_items) p l w)) [
  | inr unnamed ↦ undone_other (changes (log_ahead aim).open_items) aim.words p l w unnamed
      ∙ sym (untouched (keeping t aim) s it.facts refl aim.behind (stands_pending t aim s it records.waiting) (ends_right t aim s it records) (current s) (current_leaves s) p l w word
      (ap (λ (x : Groups). named_in (changes (with_records x aim.pending).open_items) p l w) (log_now t aim s it (current s) (current_leaves s)) ∙ unnamed))
  | inl named ↦
      (let back : (x : Words) × (replay aim.format (log_ahead aim) aim.words ≡ undone (changes (log_ahead aim).open_items) x) = replay_back aim.format (log_ahead aim) aim.words in
      undone_named (changes (log_ahead aim).open_items) aim.words back.0 p l w named
      ∙ sym (ap (λ (f : Words). f p l w) back.1)
      ∙ records.waiting.right p l w word (or_right (named_in_groups (log_ahead aim).closed p l w) (named_in (changes (log_ahead aim).open_items) p l w) named) aim.words)
]

-- ---- the records by the offsets of their heads

grouped_records : (log : Groups) (cs : List Change) → changes (grouped log (record_entries cs)).open_items ≡ changes log.open_items ++ cs
grouped_records log [] = sym (append-nil (changes log.open_items))
grouped_records log (c ∷ cs) = grouped_records (extended log (item (write c))) cs ∙ ap (λ xs. xs ++ cs) (changes-append log.open_items c) ∙ append_assoc (changes log.open_items) (c ∷ []) cs

-- the records of the open group are those of all that is stored
stored_changes : (format : Format) (g : Sizes) (at : Offsets) (first : ℕ) (them : List Headed) (s : State) → OpenGroup format g at first them s
    → changes (grouped no_log (entries format 0 (lines_before g at at.written s))).open_items ≡ changes_of them
stored_changes format g at first them s it =
    let order : first ≤ at.written = heads_order format (lines_in g at s) first them at.written it.stand in
    let begins : at.start ≤ first = it.begins in
    let read : Read format (lines_in g at s) first them (at.written - first) = heads_read format (lines_in g at s) first them (at.written - first) (subst (HeadsOf format (lines_in g at s) first them) (omega arith) it.stand) in
    let lines : lines_before g at at.written s ≡ lines_before g at first s ++ from (lines_in g at s) first (at.written - first) =
    ap (from (lines_in g at s) at.start) (omega arith)
    ∙ from-append (lines_in g at s) at.start (first - at.start) (at.written - first)
    ∙ ap (λ n. lines_before g at first s ++ from (lines_in g at s) n (at.written - first)) (omega arith) in
    ap (λ (xs : List Line). changes (grouped no_log (entries format 0 xs)).open_items) lines
    ∙ ap (λ (es : List Entry). changes (grouped no_log es).open_items) (entries-append format 0 (lines_before g at first s) (from (lines_in g at s) first (at.written - first)) it.whole)
    ∙ ap (λ (es : List Entry). changes (grouped no_log (entries format 0 (lines_before g at first s) ++ es)).open_items) read.entries_are
    ∙ ap (λ (x : Groups). changes x.open_items) (grouped-append no_log (entries format 0 (lines_before g at first s)) (record_entries (changes_of them)))
    ∙ grouped_records (grouped no_log (entries format 0 (lines_before g at first s))) (changes_of them)
    ∙ ap (λ (items : List Item). changes items ++ changes_of them) it.ended

from_is : (f : ℕ → Line) (at : ℕ) (xs : List Line) → ((k : ℕ) → k < length xs → f (at + k) ≡ get_or xs k zero_line) → from f at (length xs) ≡ xs
from_is f at [] same = refl
from_is f at (x ∷ xs) same = ap (λ (y : Line). y ∷ from f (at + 1) (length xs)) (ap f (omega arith) ∙ same 0 (omega arith))
    ∙ ap (λ (ys : List Line). x ∷ ys) (from_is f (at + 1) xs (λ k less. ap f (omega arith) ∙ same (suc k) (omega arith)))

module _ (b : BookData) (goal : Goal) (s : State) (it : Holds b goal s) where
  abbrev aim : Aim
  aim = aim_of b goal it.lines it.behind it.pending

  log_is : IsLogOf goal.sizes b.log s
  log_is = record {
    sizes = ap (λ (x : Super). x.sizes) it.facts.super_words;
    start = ap (λ (x : Super). x.start) it.facts.super_words;
    drained = ap (λ (x : Super). x.drained) it.facts.super_words;
    tail = ap (λ (x : Super). x.tail) it.facts.super_words;
  }

  gates : CanPut s 0
  gates = can b.tiers aim s it.facts

  low : b.log.drained ≤ b.log.tail
  low = subst (λ (x : Super). x.drained ≤ x.tail) it.facts.super_words gates.drained

  started : b.log.start ≤ b.log.tail
  started = subst (λ (x : Super). x.start ≤ x.tail) it.facts.super_words gates.started

  -- what stands behind the tail is read there
  behind_read : from (lines_in goal.sizes b.log s) b.log.tail (length it.behind) ≡ it.behind
  behind_read = from_is (lines_in goal.sizes b.log s) b.log.tail it.behind (λ k less.
      log_line-in_nvm goal.sizes b.log.drained (current s) (b.log.tail + k) (let below = low in omega (arith, below))
      ∙ line_of-same _ (word_in (get_or it.behind k zero_line)) (λ w hw. (it.facts.waits k w less hw).newest)
      ∙ it.records.waiting.are_lines k less)

  all_lines : lines_before goal.sizes b.log b.log.written s ≡ it.lines ++ it.behind
  all_lines =
      let count = it.count in
      let begins = started in
      ap (from (lines_in goal.sizes b.log s) b.log.start) (omega (arith, count, begins))
      ∙ from-append (lines_in goal.sizes b.log s) b.log.start (b.log.tail - b.log.start) (length it.behind)
      ∙ ap (λ n. from (lines_in goal.sizes b.log s) b.log.start (b.log.tail - b.log.start) ++ from (lines_in goal.sizes b.log s) n (length it.behind)) (omega (arith, begins))
      ∙ ap (λ (ys : List Line). from (lines_in goal.sizes b.log s) b.log.start (b.log.tail - b.log.start) ++ ys) behind_read
      ∙ ap (λ (xs : List Line). xs ++ it.behind) (sym (lines_of_log goal.sizes b.log s log_is) ∙ it.facts.log_same)

  ahead_is : grouped no_log (entries goal.format 0 (it.lines ++ it.behind)) ≡ log_ahead aim
  ahead_is = ap (grouped no_log) (entries-append goal.format 0 it.lines it.behind (whole_log b.tiers aim s it.facts))
      ∙ grouped-append no_log (entries goal.format 0 it.lines) (entries goal.format 0 it.behind)
      ∙ ap (grouped (log_in aim)) it.records.waiting.holds

  -- The records of the open group are those that stand from its first offset on.
  pub open_changes : (first : ℕ) (them : List Headed) → OpenGroup b.format b.tiers.sizes b.log first them s → changes (log_ahead aim).open_items ≡ changes_of them
  open_changes first them group = same
    where
      of_goal : OpenGroup goal.format goal.sizes b.log first them s
      of_goal = subst (λ (f : Format). OpenGroup f goal.sizes b.log first them s) it.format_same (subst (λ (g : Sizes). OpenGroup b.format g b.log first them s) it.facts.sizes_same group)

      same : changes (log_ahead aim).open_items ≡ changes_of them
      same = sym (ap (λ (x : Groups). changes x.open_items) (ap (λ (xs : List Line). grouped no_log (entries goal.format 0 xs)) all_lines ∙ ahead_is))
          ∙ stored_changes goal.format goal.sizes b.log first them s of_goal

  -- So with these taken back the current words are the committed ones.
  pub group_back : (first : ℕ) (them : List Headed) → OpenGroup b.format b.tiers.sizes b.log first them s → IsBack (changes_of them) goal
  group_back first them group = record {
    words = λ p l w word. ap (λ (cs : List Change). undone cs goal.words p l w) (sym (open_changes first them group)) ∙ taken_back b.tiers aim s it.facts it.records p l w word;
  }

-- ---- the loop

-- other current words that say the same
pub facts_words : (t : Data) (aim : Aim) (s : State) (words : Words) → ((p l w : ℕ) → IsWord (aim_sizes aim) p l w → aim.words p l w ≡ words p l w) → Facts t aim s → Facts t (record aim { words = words }) s
facts_words t aim s words same it = record {
  super_words = it.super_words;
  log_same = it.log_same;
  sizes_same = it.sizes_same;
  facts = copies_facts (keeping t aim) s it.facts words t.copy (λ i left p l w word not. same p l w word) it.facts.copies;
  entries_same = it.entries_same;
  owned = it.owned;
  framed = it.framed;
  owner = it.owner;
  frame = it.frame;
  words = λ p l w word. it.words p l w word ∙ same p l w word;
  loose = it.loose;
  recorded = it.recorded;
  clean = it.clean;
  flushed = it.flushed;
  settled = it.settled;
  unworn = it.unworn;
  waits = it.waits;
}

abbrev pub taking_words : (b : BookData) (goal : Goal) (s : State) (words : Words) → ((p l w : ℕ) → IsWord goal.sizes p l w → goal.words p l w ≡ words p l w) → HoldsTaking b goal s → HoldsTaking b (record goal { words = words }) s
taking_words b goal s words same it = record {
  format_same = it.format_same;
  lines = it.lines;
  behind = it.behind;
  pending = it.pending;
  facts = facts_words b.tiers (aim_of b goal it.lines it.behind it.pending) s words same it.facts;
  waiting = record { room = it.waiting.room; are_lines = it.waiting.are_lines; passes = it.waiting.passes; holds = it.waiting.holds; right = it.waiting.right };
  count = it.count;
}

pub holds_words : (b : BookData) (goal : Goal) (s : State) (words : Words) → ((p l w : ℕ) → IsWord goal.sizes p l w → goal.words p l w ≡ words p l w) → Holds b goal s → Holds b (record goal { words = words }) s
holds_words b goal s words same it = record {
  format_same = it.format_same;
  lines = it.lines;
  behind = it.behind;
  pending = it.pending;
  facts = facts_words b.tiers (aim_of b goal it.lines it.behind it.pending) s words same it.facts;
  records = record {
    waiting = record { room = it.records.waiting.room; are_lines = it.records.waiting.are_lines; passes = it.records.waiting.passes; holds = it.records.waiting.holds; right = it.records.waiting.right };
    ends = λ p l w word h homes. it.records.ends p l w word h homes ∙ same p l w word;
  };
  count = it.count;
}

-- it begins with none taken back
pub back_from : (first : ℕ) (them : List Headed) (b : BookData) (goal : Goal) (s : State) → OpenGroup b.format b.tiers.sizes b.log first them s → Holds b goal s
    → Given (IsBack (changes_of them)) (HoldsBack (changes_of them) [] b) goal s
back_from first them b goal s group it = record { of_aim = group_back b goal s it first them group; holds = record { holds = takes_from b goal s it; open_are = open_changes b goal s it first them group } }

-- what the log with the records names, a record does
ahead_recorded : (log : Groups) (cs : List Change) (p l w : ℕ) → is_logged (with_records log cs) p l w ≡ (is_logged log p l w || named_in cs p l w)
ahead_recorded log [] p l w = sym (or_none (is_logged log p l w))
  where
    or_none : (x : Bool) → (x || false) ≡ x
    or_none true = refl
    or_none false = refl
ahead_recorded log (c ∷ cs) p l w = ahead_recorded (extended log (item (write c))) cs p l w
    ∙ ap (λ x. x || named_in cs p l w) (record_logged log c p l w) ∙ or_three (is_logged log p l w) (names c p l w) (named_in cs p l w)
  where
    or_three : (x y z : Bool) → ((x || y) || z) ≡ (x || (y || z))
    or_three true y z = refl
    or_three false y z = refl

-- A line whose words the open group names may be loose.
module _ (all taken : List Change) (b : BookData) (page line : ℕ) (named : AllNamed all page line) (goal : Goal) (s : State) (back : HoldsBack all taken b goal s) where
  abbrev taking : HoldsTaking b (goal_back taken goal) s
  taking = back.holds

  abbrev back_aim : Aim
  back_aim = aim_of b (goal_back taken goal) back.holds.lines back.holds.behind back.holds.pending

  recorded_here : (p l w : ℕ) → IsWord goal.sizes p l w → (eqb p page && eqb l line) ≡ true → is_recorded back_aim p l w ≡ true
  recorded_here p l w word is =
      let parts : (eqb p page ≡ true) × (eqb l line ≡ true) = and_parts (eqb p page) (eqb l line) is in
      ap (λ n. is_recorded back_aim n l w) (eqb-true p page parts.0) ∙ ap (λ n. is_recorded back_aim page n w) (eqb-true l line parts.1)
      ∙ sym (ahead_recorded (log_in back_aim) back.holds.pending page line w)
      ∙ or_right (named_in_groups (log_ahead back_aim).closed page line w) (named_in (changes (log_ahead back_aim).open_items) page line w)
      (ap (λ (cs : List Change). named_in cs page line w) back.open_are ∙ named w word.word)

  pub back_loose : HoldsBack all taken (marked_loose page line b) goal s
  back_loose = record {
    holds = record {
      format_same = back.holds.format_same;
      lines = back.holds.lines;
      behind = back.holds.behind;
      pending = back.holds.pending;
      facts = facts_loose b.tiers back_aim s (with_mark page line true b.loose)
          (λ p l hp hl dirty. either (eqb p page && eqb l line) (b.loose p l) (taking.facts.loose p l hp hl dirty))
          (λ p l w word loose. elim (cases_Bool (eqb p page && eqb l line)) [
            | inl is ↦ recorded_here p l w word is
            | inr other ↦ taking.facts.recorded p l w word (sym (cond-false (eqb p page && eqb l line) true (b.loose p l) other) ∙ loose)
          ]) back.holds.facts;
      waiting = record { room = taking.waiting.room; are_lines = taking.waiting.are_lines; passes = taking.waiting.passes; holds = taking.waiting.holds; right = taking.waiting.right };
      count = back.holds.count;
    };
    open_are = back.open_are;
  }
    where
      either : (x y : Bool) → y ≡ true → cond x true y ≡ true
      either true y e = refl
      either false y e = e

-- one record more is taken back
pub back_more : (all taken : List Change) (b : BookData) (c : Change) (value : Line) → GivesBack b c value → b.loose c.page c.line ≡ true → (goal : Goal) (s : State) → HoldsBack all taken b goal s
    → HoldsBack all (c ∷ taken) (took_back c.page c.line value b) goal s
back_more all taken b c value gives loose goal s back = record {
  holds = taking_words (took_back c.page c.line value b) (goal_with c.page c.line value (goal_back taken goal)) s (undone (c ∷ taken) goal.words) same (takes_line b c.page c.line value loose (goal_back taken goal) s back.holds);
  open_are = back.open_are;
}
  where
    current_word : (old : Line) (w : ℕ) → b.tiers.copy c.page c.line ≡ Some old → IsWord goal.sizes c.page c.line w → word_in old w ≡ undone taken goal.words c.page c.line w
    current_word old w at word = sym (ap (λ (x : Option Line). or_home x w (home_of goal.sizes b.tiers (current s) c.page c.line w)) at) ∙ back.holds.facts.words c.page c.line w word

    at_line : (w : ℕ) → IsWord goal.sizes c.page c.line w → word_in value w ≡ undone (c ∷ taken) goal.words c.page c.line w
    at_line w word = elim (cases_Bool (names c c.page c.line w)) [
      | inl named ↦ gives.named w word.word named ∙ sym (written_named c c.before (undone taken goal.words) c.page c.line w named)
      | inr unnamed ↦
          (let rest = gives.rest w word.word unnamed in
          rest.2 ∙ current_word rest.0 w rest.1 word ∙ sym (written_other c c.before (undone taken goal.words) c.page c.line w unnamed))
    ]

    same : (p l w : ℕ) → IsWord goal.sizes p l w → with_line (undone taken goal.words) c.page c.line value p l w ≡ undone (c ∷ taken) goal.words p l w
    same p l w word = elim (cases_Bool (eqb p c.page && eqb l c.line)) [
      | inl is ↦
          (let parts : (eqb p c.page ≡ true) × (eqb l c.line ≡ true) = and_parts (eqb p c.page) (eqb l c.line) is in
          let both : (p ≡ c.page) × (l ≡ c.line) = (eqb-true p c.page parts.0, eqb-true l c.line parts.1) in
          with_line-here (undone taken goal.words) c.page c.line value p l w both.0 both.1
          ∙ moved_to (λ p l. word_in value w ≡ undone (c ∷ taken) goal.words p l w) both (at_line w (moved_from (λ p l. IsWord goal.sizes p l w) both word)))
      | inr other ↦ with_line-other (undone taken goal.words) c.page c.line value p l w other
          ∙ sym (written_other c c.before (undone taken goal.words) p l w (unnamed (names c p l w) refl other))
    ]
      where
        unnamed : (x : Bool) → names c p l w ≡ x → (eqb p c.page && eqb l c.line) ≡ false → names c p l w ≡ false
        unnamed false e other = e
        unnamed true e other =
            let place : (p ≡ c.page) × (l ≡ c.line) = names_place c p l w e in
            absurd (let here : (eqb p c.page && eqb l c.line) ≡ true = rw (place.0, place.1) both_same in let no : ⊥ = cc in no)
          where
            both_same : (eqb c.page c.page && eqb c.line c.line) ≡ true
            both_same = rw (eq-eqb c.page c.page refl, eq-eqb c.line c.line refl) refl

-- Where all are taken back an end of an abort is written, and then the current words are the committed ones.
pub lift_aborted : (all : List Change) (b d : BookData) (goal : Goal) (s : State) → Given (IsBack all) (HoldsBack all all b) goal s
    → Lifts HeldGoal (Given IsClosed (HoldsTaking b)) (Holds d) HeldGoal (HoldsAborted d) goal s
lift_aborted all b d goal s it = record {
  aim = goal_back all goal;
  before = record { of_aim = record { same = λ p l w word. it.of_aim.words p l w word }; holds = it.holds.holds };
  held = λ mid held. record { keeps = held.keeps; format_is = held.format_is; sizes = held.sizes; committed = held.committed; facts = held.facts };
  after = λ t holds. holds_words d (goal_back all goal) t goal.kept (λ p l w word. it.of_aim.words p l w word) holds;
}

-- a call of the tiers goes on meanwhile: one that stores no line of a copy, and any where no record waits
pub lift_back : (all taken : List Change) (b : BookData) (t : Data) (goal : Goal) (s : State) → HoldsBack all taken b goal s
    → Lifts Held (Facts b.tiers) (Facts t) HeldGoal (HoldsBack all taken (record b { tiers = t })) goal s
lift_back all taken b t goal s it = record {
  aim = aim_of b (goal_back taken goal) it.holds.lines it.holds.behind it.holds.pending;
  before = it.holds.facts;
  held = λ mid held. record { keeps = held.keeps; format_is = held.format_is; sizes = held.sizes; committed = held.committed; facts = held.facts };
  after = λ n facts. record {
    holds = record { format_same = it.holds.format_same; lines = it.holds.lines; behind = it.holds.behind; pending = it.holds.pending; facts = facts; waiting = it.holds.waiting; count = it.holds.count };
    open_are = it.open_are;
  };
}

pub lift_back_hard : (all taken : List Change) (b : BookData) (t : Data) → b.log.written ≡ b.log.tail → (goal : Goal) (s : State) → HoldsBack all taken b goal s
    → Lifts Held (Hard b.tiers) (Hard t) HeldGoal (HoldsBack all taken (record b { tiers = t })) goal s
lift_back_hard all taken b t same goal s it = record {
  aim = aim_of b (goal_back taken goal) it.holds.lines it.holds.behind it.holds.pending;
  before = record { of_aim = record { none = no_pending goal.format it.holds.behind it.holds.pending it.holds.waiting.holds (let count = it.holds.count in omega (arith, count, same)) }; holds = it.holds.facts };
  held = λ mid held. record { keeps = held.keeps; format_is = held.format_is; sizes = held.sizes; committed = held.committed; facts = held.facts };
  after = λ n facts. record {
    holds = record { format_same = it.holds.format_same; lines = it.holds.lines; behind = it.holds.behind; pending = it.holds.pending; facts = facts.holds; waiting = it.holds.waiting; count = it.holds.count };
    open_are = it.open_are;
  };
}
