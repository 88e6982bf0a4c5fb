-- A call of the tiers, as a call of a store and its open group.
use Rattle.std.proofs.Common.{◌≡◌, ℕ, ◌<◌, List, [], ◌∷◌, refl, sym, subst, arith, Result}
use Rattle.std.specs.Prelude.{IfOk}
use Rattle.nvm_model.specs.declared.line.Line.{Line}
use Rattle.devices.specs.State.{State, after_all}
use Rattle.line_pages.specs.declared.stop.Stop.{Stop}
use Rattle.store_model.specs.Format.{Format, word_in}
use Rattle.store_model.specs.Copies.{with_line}
use Rattle.log_laws.proofs.StartLaws.{start_calls}
use Rattle.device_calls.specs.Leads.{Steps, Given, Lifts}
use Rattle.log_records.specs.Heads.{Headed, HeadsOf, changes_of}
use Rattle.log_records.proofs.HeadLaws.{heads_order}
use Rattle.log_records.proofs.OpenGroupLaws.{group_none}
use Rattle.tier_facts.specs.Data.{Data}
use Rattle.tier_facts.specs.Facts.{Aim, Held, Facts, Hard, Settled, AreClean, IsLoose, FactsWith}
use Rattle.transaction_facts.specs.Books.{Goal, IsClosed, HeldGoal, aim_of}
use Rattle.transaction_facts.specs.Aborts.{IsBack}
use Rattle.transaction_facts.proofs.BookLaws.{holds_tiers, none_waits, no_pending, start_holds}
use Rattle.transaction_facts.proofs.BackLaws.{group_back}
use Rattle.log_book.specs.LogData.{LogData, store_of, made_empty}
use Rattle.log_book.specs.Open.{OpenIn, ReadyIn, RecordedIn, WrittenIn, SettledIn, IsOpenGroup}
use Rattle.log_book.proofs.LinesStay.{group_stays}

-- no record stands from an offset up to itself
none_between : (format : Format) (f : ℕ → Line) (first : ℕ) (them : List Headed) (end : ℕ) → HeadsOf format f first them end → first ≡ end → them ≡ []
none_between format f first [] end it same = refl
none_between format f first (head ∷ later) end it same = let order = heads_order format f _ later end it.2 in absurd (omega (arith, order, same))

module _ (t u : Data) (book : LogData) (goal : Goal) (s : State) (it : OpenIn t book goal s) where
  abbrev aim : Aim
  aim = aim_of (store_of t book) goal it.holds.lines it.holds.behind it.holds.pending

  over : (n : State) → Facts u aim n → OpenIn u book goal n
  over n facts = record {
    holds = holds_tiers (store_of t book) goal s it.holds u n facts;
    them = it.them;
    group = group_stays {words = goal.words} it.holds.facts facts it.holds.records.waiting.are_lines book.log (record { start = refl; drained = refl; tail = refl; written = it.holds.count }) _ book.first it.them it.group;
  }

  -- one that stores no line of a copy
  pub lift_open : Lifts Held (Facts t) (Facts u) HeldGoal (OpenIn u book) goal s
  lift_open = record { aim = aim; before = it.holds.facts; held = λ mid held. held; after = over }

  -- any, where no record waits
  pub lift_open_hard : book.log.written ≡ book.log.tail → Lifts Held (Hard t) (Hard u) HeldGoal (OpenIn u book) goal s
  lift_open_hard same = record {
    aim = aim;
    before = record { of_aim = none_waits (store_of t book) goal s it.holds same; holds = it.holds.facts };
    held = λ mid held. held;
    after = λ n facts. over n facts.holds;
  }

  -- the same for one that answers the current line
  module _ (page line : ℕ) (result : Result Line Stop) (Value : Aim → Type 0) (value : (a : Aim) → Value a → IfOk result (λ found. (w : ℕ) → w < 8 → word_in found w ≡ a.words page line w)) where
    pub lift_ready : Lifts Held (Facts t) (Given Value (Facts u)) HeldGoal (ReadyIn page line result u book) goal s
    lift_ready = record {
      aim = aim;
      before = it.holds.facts;
      held = λ mid held. held;
      after = λ n facts. record { of_aim = record { words = value aim facts.of_aim }; holds = over n facts.holds };
    }

    pub lift_ready_hard : book.log.written ≡ book.log.tail → Lifts Held (Hard t) (Given Value (Hard u)) HeldGoal (ReadyIn page line result u book) goal s
    lift_ready_hard same = record {
      aim = aim;
      before = record { of_aim = none_waits (store_of t book) goal s it.holds same; holds = it.holds.facts };
      held = λ mid held. held;
      after = λ n facts. record { of_aim = record { words = value aim facts.of_aim }; holds = over n facts.holds.holds };
    }

  -- before the log is emptied
  module _ (none : book.first ≡ book.log.written) where
    empty : it.them ≡ []
    empty = none_between _ _ book.first it.them book.log.written it.group.stand none

    group_empty : (n : State) → OpenIn u book goal n → IsOpenGroup (store_of u book) book.first [] n
    group_empty n then = subst (λ (xs : List Headed). IsOpenGroup (store_of u book) book.first xs n) (none_between _ _ book.first then.them book.log.written then.group.stand none) then.group

    -- and nothing is open
    pub none_open : IsClosed goal
    none_open = record {
      same = (subst (λ (xs : List Headed). IsBack (changes_of xs) goal) empty (group_back (store_of t book) goal s it.holds book.first it.them it.group)).words;
    }

    pub lift_settled : book.log.written ≡ book.log.tail → Lifts Held (Hard t) (Settled u) HeldGoal (SettledIn u book) goal s
    lift_settled same = record {
      aim = aim;
      before = record { of_aim = none_waits (store_of t book) goal s it.holds same; holds = it.holds.facts };
      held = λ mid held. held;
      after = λ n settled. record {
        settled = record { holds = holds_tiers (store_of t book) goal s it.holds u n settled.facts; settled = settled; closed = none_open };
        group = group_empty n (over n settled.facts);
      };
    }

-- A line whose record stands behind the tail is written.
module _ (page line : ℕ) (value : Line) (t u : Data) (book : LogData) (goal : Goal) (s : State) (it : RecordedIn page line value t book goal s) where
  abbrev aim_before : Aim
  aim_before = aim_of (store_of t book) goal it.recorded.lines it.recorded.behind it.recorded.pending

  written_over : (n : State) → FactsWith page line value u aim_before n → WrittenIn page line value u book goal n
  written_over n facts = record {
    holds = record { format_same = it.recorded.format_same; lines = it.recorded.lines; behind = it.recorded.behind; pending = it.recorded.pending; facts = facts; records = it.recorded.records; count = it.recorded.count };
    them = it.them;
    group = group_stays {words = with_line goal.words page line value} it.recorded.facts facts it.recorded.records.waiting.are_lines book.log
        (record { start = refl; drained = refl; tail = refl; written = it.recorded.count }) _ book.first it.them it.group;
  }

  pub lift_written : Lifts Held (Given (IsLoose page line) (Facts t)) (FactsWith page line value u) HeldGoal (WrittenIn page line value u book) goal s
  lift_written = record {
    aim = aim_before;
    before = record { of_aim = record { loose = it.recorded.loose }; holds = it.recorded.facts };
    held = λ mid held. held;
    after = written_over;
  }

  pub lift_written_hard : book.log.written ≡ book.log.tail → Lifts Held (Given (IsLoose page line) (Hard t)) (FactsWith page line value u) HeldGoal (WrittenIn page line value u book) goal s
  lift_written_hard same = record {
    aim = aim_before;
    before = record {
      of_aim = record { loose = it.recorded.loose };
      holds = record {
        of_aim = record { none = no_pending goal.format it.recorded.behind it.recorded.pending it.recorded.records.waiting.holds (let count = it.recorded.count in omega (arith, count, same)) };
        holds = it.recorded.facts;
      };
    };
    held = λ mid held. held;
    after = written_over;
  }

-- The log is emptied.
pub empty_open : (t : Data) (book : LogData) → AreClean t → book.log.written ≡ book.log.tail → book.first ≡ book.log.written → (goal : Goal) (s : State) → SettledIn t book goal s
    → Steps HeldGoal (OpenIn t (made_empty book)) (start_calls book.log.tail) goal s
empty_open t book clean hard none goal s it =
    let steps = start_holds (store_of t book) clean hard goal s it.settled in
    record {
      facts = record {
        holds = steps.facts;
        them = [];
        group = subst (λ n. IsOpenGroup (store_of t (made_empty book)) n [] (after_all (start_calls book.log.tail) s)) (sym none)
            (group_none _ t.sizes (made_empty book).log (after_all (start_calls book.log.tail) s) (sym hard));
      };
      moments = steps.moments;
    }
