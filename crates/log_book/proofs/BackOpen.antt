-- An abort: the records of the open group are read back from the last to the first, and their before images are written.
use Rattle.std.proofs.Common.{◌≡◌, ℕ, ◌+◌, ◌<◌, ◌≤◌, ◌&&◌, ◌||◌, Bool, true, false, eqb, List, [], ◌∷◌, ◌++◌, append-nil, refl, sym, ap, ◌∙◌, subst, inl, inr, arith, Option, Some, None, Result, Ok, Err}
use Rattle.std.specs.Prelude.{OnOk, IfOk}
use Rattle.std.proofs.lemmas.Bool.{cases_Bool, and_parts, eqb-true, eq-eqb}
use Rattle.nvm_model.specs.declared.line.Line.{Line}
use Rattle.devices.specs.State.{State, after_all}
use Rattle.devices.specs.World.{Standing}
use Rattle.line_pages.specs.declared.stop.Stop.{Stop}
use Rattle.store_model.specs.Layout.{Sizes, ring_lines}
use Rattle.store_model.specs.Log.{Words, Change, names, named_in, undone}
use Rattle.store_model.specs.Format.{word_in}
use Rattle.store_model.specs.Format.Format.{whole_lines}
use Rattle.store_model.specs.Append.{abort_lines}
use Rattle.store_model.specs.Pending.{end_calls}
use Rattle.store_model.specs.StoreFacts.{IsWord}
use Rattle.store_model.specs.Copies.{with_line}
use Rattle.home_laws.proofs.LogLaws.{written_named, written_other}
use Rattle.kept_laws.proofs.WriteFacts.{with_line-here, with_line-other}
use Rattle.device_calls.specs.Leads.{Steps, Given, Lifts}
use Rattle.nvm_log.specs.declared.log.Log.{Log}
use Rattle.nvm_log.specs.declared.record.EndKind.TheVariants.{Abort}
use Rattle.log_records.specs.Heads.{Headed, HeadsOf, AreOfStore, behind, changes_of}
use Rattle.log_records.specs.OpenGroup.{lines_in}
use Rattle.log_records.specs.Back.{IsLast, FindsLast, IsBack as IsReadBack}
use Rattle.log_records.specs.declared.back.BeforeImage.{BeforeImage}
use Rattle.log_records.proofs.OpenGroupLaws.{group_ended}
use Rattle.tier_facts.specs.Data.{Data}
use Rattle.tier_facts.specs.Facts.{Aim, Held, Hard, IsLoose, FactsWith}
use Rattle.tier_facts.proofs.PlaceLaws.{clash}
use Rattle.transaction_facts.specs.Books.{Goal, HoldsTaking, HeldGoal, aim_of, goal_with, all_ended}
use Rattle.transaction_facts.specs.Aborts.{goal_back, HoldsBack, AllNamed}
use Rattle.transaction_facts.proofs.BookLaws.{no_pending, abort_holds}
use Rattle.transaction_facts.proofs.BackLaws.{back_from, back_loose, taking_words, lift_aborted}
use Rattle.transaction_facts.proofs.WriteLaws.{moved_to, names_place}
use Rattle.transaction_facts.proofs.WholeLaws.{whole_names, found_more}
use Rattle.log_book.specs.LogData.{LogData, store_of, with_line as with_named, group_closed}
use Rattle.log_book.specs.Open.{OpenIn, BackIn, FoundIn, DoneIn, ReadBackIn, AbortedIn}
use Rattle.log_book.proofs.LinesStay.{StandsAs, group_stays, heads_stay}

-- ---- it begins with none taken back

pub back_begins : (t : Data) (book : LogData) (goal : Goal) (s : State) → OpenIn t book goal s → BackIn book.log.written t book goal s
back_begins t book goal s it =
    let begun = back_from book.first it.them (store_of t book) goal s it.group it.holds in
    record {
      all = it.them;
      group = it.group;
      is_back = begun.of_aim;
      left = it.them;
      taken = [];
      split = sym (append-nil (changes_of it.them));
      stand = it.group.stand;
      of_store = it.group.of_store;
      within = omega arith;
      back = begun.holds;
    }

pub back_held : (t : Data) (book : LogData) (end : ℕ) (goal : Goal) (s : State) → BackIn end t book goal s → HeldGoal goal s
back_held t book end goal s it = record { keeps = _; format_is = refl; sizes = refl; committed = refl; facts = it.back.holds.facts.facts }

-- ---- a record is read back

of_store_front : (g : Sizes) (xs ys : List Headed) → AreOfStore g (xs ++ ys) → AreOfStore g xs
of_store_front g [] ys it = tt
of_store_front g (x ∷ xs) ys it = (it.0, of_store_front g xs ys it.1)

whole_mask : (f : ℕ → Line) (first : ℕ) (xs : List Headed) (x : Headed) (end : ℕ) → HeadsOf whole_lines f first (xs ++ x ∷ []) end → x.change.mask ≡ 255
whole_mask f first [] x end it = ap (λ (c : Change). c.mask) (sym it.1.gives)
whole_mask f first (y ∷ xs) x end it = whole_mask f (behind whole_lines f first) xs x end it.2

pub back_found : (t : Data) (book : LogData) (end : ℕ) (goal : Goal) (s : State) (it : BackIn end t book goal s) (found : BeforeImage) → IsLast (lines_in t.sizes book.log s) book.first it.left found → found.head + 3 ≡ end
    → FoundIn found t book goal s
back_found t book end goal s it found last ends = record {
  all = it.all;
  group = it.group;
  is_back = it.is_back;
  earlier = last.earlier;
  change = last.change;
  taken = it.taken;
  split = found_more (lines_in t.sizes book.log s) book.first it.left it.taken (changes_of it.all) found it.split last;
  stand = last.stand;
  of_store = of_store_front t.sizes last.earlier _ (subst (λ (xs : List Headed). AreOfStore t.sizes xs) last.all it.of_store);
  within = (let within = it.within in omega (arith, ends, within));
  page = last.page;
  line = last.line;
  value = last.value;
  mask = whole_mask (lines_in t.sizes book.log s) book.first last.earlier (record { head = found.head; change = last.change }) end (subst (λ (xs : List Headed). HeadsOf whole_lines (lines_in t.sizes book.log s) book.first xs end) last.all it.stand);
  back = it.back;
}

pub back_done : (t : Data) (book : LogData) (end : ℕ) (goal : Goal) (s : State) (it : BackIn end t book goal s) → it.left ≡ [] → DoneIn t book goal s
back_done t book end goal s it none = record {
  all = it.all;
  group = it.group;
  is_back = it.is_back;
  back = subst (λ (taken : List Change). HoldsBack (changes_of it.all) taken (store_of t book) goal s) (sym (it.split ∙ ap (λ (xs : List Headed). changes_of xs ++ it.taken) none)) it.back;
}

-- what was read back, of a state that reads as the devices do
pub back_read : (log : Log) (old new : Standing) (r : Result (Option BeforeImage) Stop) (t : Data) (book : LogData) (end : ℕ) (goal : Goal) (s : State) (it : BackIn end t book goal s) (f : ℕ → Line) → f ≡ lines_in t.sizes book.log s
    → IfOk r (FindsLast f book.first it.left) → IfOk r (IsReadBack log book.first end old new) → OnOk r (ReadBackIn r t book goal s)
back_read log old new (Err why) t book end goal s it f same last found = tt
back_read log old new (Ok None) t book end goal s it f same last found = back_done t book end goal s it last
back_read log old new (Ok (Some image)) t book end goal s it f same last found =
    back_found t book end goal s it image (subst (λ (g : ℕ → Line). IsLast g book.first it.left image) same last) found.ends

-- ---- its line is named, and its before image is written

named_behind : (xs : List Change) (c : Change) (ys : List Change) (p l w : ℕ) → names c p l w ≡ true → named_in (xs ++ (c ∷ ys)) p l w ≡ true
named_behind [] c ys p l w named = or_left (names c p l w) (named_in ys p l w) named
  where
    or_left : (x y : Bool) → x ≡ true → (x || y) ≡ true
    or_left true y e = refl
    or_left false y e = absurd (let no : ⊥ = cc in no)
named_behind (x ∷ xs) c ys p l w named = or_right (names x p l w) (named_in (xs ++ (c ∷ ys)) p l w) (named_behind xs c ys p l w named)
  where
    or_right : (x y : Bool) → y ≡ true → (x || y) ≡ true
    or_right true y e = refl
    or_right false y e = e

pub found_named : (found : BeforeImage) (t : Data) (book : LogData) (goal : Goal) (s : State) → FoundIn found t book goal s → FoundIn found t (with_named found.page found.line book) goal s
found_named found t book goal s it = record {
  all = it.all;
  group = it.group;
  is_back = it.is_back;
  earlier = it.earlier;
  change = it.change;
  taken = it.taken;
  split = it.split;
  stand = it.stand;
  of_store = it.of_store;
  within = it.within;
  page = it.page;
  line = it.line;
  value = it.value;
  mask = it.mask;
  back = back_loose (changes_of it.all) it.taken (store_of t book) found.page found.line all_named goal s it.back;
}
  where
    named_word : (w : ℕ) → w < 8 → named_in (changes_of it.all) it.change.page it.change.line w ≡ true
    named_word w low = ap (λ (cs : List Change). named_in cs it.change.page it.change.line w) it.split
        ∙ named_behind (changes_of it.earlier) it.change it.taken it.change.page it.change.line w (whole_names it.change w it.mask low)

    all_named : AllNamed (changes_of it.all) found.page found.line
    all_named w low = subst (λ l. named_in (changes_of it.all) found.page l w ≡ true) it.line (subst (λ p. named_in (changes_of it.all) p it.change.line w ≡ true) it.page (named_word w low))

-- the current words with one record more taken back
back_words : (taken : List Change) (c : Change) (value : Line) (words : Words) → c.mask ≡ 255 → c.before ≡ value → (p l w : ℕ) → w < 8
    → with_line (undone taken words) c.page c.line value p l w ≡ undone (c ∷ taken) words p l w
back_words taken c value words mask is p l w low = elim (cases_Bool (eqb p c.page && eqb l c.line)) [
  | inl here ↦
      (let parts : (eqb p c.page ≡ true) × (eqb l c.line ≡ true) = and_parts (eqb p c.page) (eqb l c.line) here in
      let both : (p ≡ c.page) × (l ≡ c.line) = (eqb-true p c.page parts.0, eqb-true l c.line parts.1) in
      with_line-here (undone taken words) c.page c.line value p l w both.0 both.1
      ∙ ap (λ (line : Line). word_in line w) (sym is)
      ∙ moved_to (λ p l. word_in c.before w ≡ undone (c ∷ taken) words p l w) both (sym (written_named c c.before (undone taken words) c.page c.line w (whole_names c w mask low))))
  | inr other ↦ with_line-other (undone taken words) c.page c.line value p l w other ∙ sym (written_other c c.before (undone taken words) p l w (unnamed (names c p l w) refl other))
]
  where
    unnamed : (x : Bool) → names c p l w ≡ x → (eqb p c.page && eqb l c.line) ≡ false → names c p l w ≡ false
    unnamed false e other = e
    unnamed true e other =
        let place : (p ≡ c.page) × (l ≡ c.line) = names_place c p l w e in
        clash (moved_to (λ p l. (eqb p c.page && eqb l c.line) ≡ true) place both_same) other
      where
        both_same : (eqb c.page c.page && eqb c.line c.line) ≡ true
        both_same = rw (eq-eqb c.page c.page refl, eq-eqb c.line c.line refl) refl

module _ (found : BeforeImage) (t u : Data) (book : LogData) (goal : Goal) (s : State) (it : FoundIn found t book goal s) where
  abbrev aim : Aim
  aim = aim_of (store_of t book) (goal_back it.taken goal) it.back.holds.lines it.back.holds.behind it.back.holds.pending

  same_words : (p l w : ℕ) → IsWord goal.sizes p l w → with_line (undone it.taken goal.words) found.page found.line found.value p l w ≡ undone (it.change ∷ it.taken) goal.words p l w
  same_words p l w word =
      subst (λ page. with_line (undone it.taken goal.words) page found.line found.value p l w ≡ undone (it.change ∷ it.taken) goal.words p l w) it.page
      (subst (λ line. with_line (undone it.taken goal.words) it.change.page line found.value p l w ≡ undone (it.change ∷ it.taken) goal.words p l w) it.line
      (back_words it.taken it.change found.value goal.words it.mask it.value p l w word.word))

  written_back : (n : State) → FactsWith found.page found.line found.value u aim n → BackIn found.head u book goal n
  written_back n facts =
      let stands : StandsAs aim book.log = record { start = refl; drained = refl; tail = refl; written = it.back.holds.count } in
      let taking : HoldsTaking (store_of u book) (goal_with found.page found.line found.value (goal_back it.taken goal)) n = record {
        format_same = it.back.holds.format_same;
        lines = it.back.holds.lines;
        behind = it.back.holds.behind;
        pending = it.back.holds.pending;
        facts = facts;
        waiting = record { room = it.back.holds.waiting.room; are_lines = it.back.holds.waiting.are_lines; passes = it.back.holds.waiting.passes; holds = it.back.holds.waiting.holds; right = it.back.holds.waiting.right };
        count = it.back.holds.count;
      } in
      record {
        all = it.all;
        group = group_stays {words = with_line (undone it.taken goal.words) found.page found.line found.value} it.back.holds.facts facts it.back.holds.waiting.are_lines book.log stands _ book.first it.all it.group;
        is_back = it.is_back;
        left = it.earlier;
        taken = it.change ∷ it.taken;
        split = it.split;
        stand = heads_stay {words = with_line (undone it.taken goal.words) found.page found.line found.value} it.back.holds.facts facts it.back.holds.waiting.are_lines book.log stands _ book.first it.earlier found.head
            it.group.begins it.within it.stand;
        of_store = subst (λ (x : Sizes). AreOfStore x it.earlier) (it.back.holds.facts.sizes_same ∙ sym facts.sizes_same) it.of_store;
        within = it.within;
        back = record {
          holds = taking_words (store_of u book) (goal_with found.page found.line found.value (goal_back it.taken goal)) n (undone (it.change ∷ it.taken) goal.words) same_words taking;
          open_are = it.back.open_are;
        };
      }

  -- its before image is written by a call of the tiers
  pub lift_back_written : book.log.written ≡ book.log.tail → book.loose found.page found.line ≡ true
      → Lifts Held (Given (IsLoose found.page found.line) (Hard t)) (FactsWith found.page found.line found.value u) HeldGoal (BackIn found.head u book) goal s
  lift_back_written same loose = record {
    aim = aim;
    before = record {
      of_aim = record { loose = loose };
      holds = record {
        of_aim = record { none = no_pending goal.format it.back.holds.behind it.back.holds.pending it.back.holds.waiting.holds (let count = it.back.holds.count in omega (arith, count, same)) };
        holds = it.back.holds.facts;
      };
    };
    held = λ mid held. record { keeps = held.keeps; format_is = held.format_is; sizes = held.sizes; committed = held.committed; facts = held.facts };
    after = written_back;
  }

-- ---- the end of an abort

abort_in : (t : Data) (book : LogData) → book.log.drained ≤ book.log.written → book.log.written + 1 ≤ book.log.drained + ring_lines t.sizes → (goal : Goal) (s : State) → DoneIn t book goal s
    → Steps HeldGoal (AbortedIn t (group_closed book)) (end_calls t.sizes book.log.written abort_lines) goal s
abort_in t book order room goal s it =
    let up = lift_aborted (changes_of it.all) (store_of t book) (all_ended (store_of t book)) goal s (record { of_aim = it.is_back; holds = it.back }) in
    let steps = abort_holds (store_of t book) room up.aim s up.before in
    record {
      facts = record {
        holds = up.after (after_all (end_calls t.sizes book.log.written abort_lines) s) steps.facts;
        them = [];
        group = group_ended t.sizes book.log book.first it.all s Abort it.group order room;
      };
      moments = λ mid amid. up.held mid (steps.moments mid amid);
    }

pub abort_open : (g : Sizes) (book : LogData) → book.log.drained ≤ book.log.written → book.log.written + 1 ≤ book.log.drained + ring_lines g → (t : Data) → t.sizes ≡ g → (goal : Goal) (s : State) → DoneIn t book goal s
    → Steps HeldGoal (AbortedIn t (group_closed book)) (end_calls g book.log.written abort_lines) goal s
abort_open g book order room t sizes goal s it =
    subst (λ (x : Sizes). Steps HeldGoal (AbortedIn t (group_closed book)) (end_calls x book.log.written abort_lines) goal s) sizes
    (abort_in t book order (subst (λ (x : Sizes). book.log.written + 1 ≤ book.log.drained + ring_lines x) (sym sizes) room) goal s it)
