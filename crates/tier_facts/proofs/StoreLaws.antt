-- A line that is stored and flushed in the frame of its page, and a fence.
use Rattle.std.proofs.Common.{Bool, true, false, ◌≡◌, ◌≢◌, ◌⊎◌, ℕ, ◌+◌, ◌-◌, ◌<◌, ◌≤◌, ◌&&◌, List, [], ◌∷◌, refl, sym, ap, ◌∙◌, subst, inl, inr, arith, eqb, Option, Some, None}
use Rattle.std.proofs.lemmas.Bool.{cases_Bool, cases_eq, and_parts, eqb-true, eq-eqb, cond-true, cond-false}
use Rattle.nvm_model.specs.declared.line.Line.{Line}
use Rattle.nvm_model.specs.Word.{Word, stored, marked}
use Rattle.devices.specs.State.{State, Image, Call, Leaves, Amid, current, after_all, line_stored, fenced}
use Rattle.devices.specs.State.Call.{fence}
use Rattle.devices.specs.Growth.{no_store, no_write}
use Rattle.store_model.specs.Layout.{Sizes, pages, entry_line, entry_word, ring_line, frame_line}
use Rattle.store_model.specs.Log.{Words, Log, is_logged}
use Rattle.store_model.specs.Format.{word_in}
use Rattle.store_model.specs.Recovered.{Super, super_of, entry_at, home_in, log_line, log_lines, from}
use Rattle.store_model.specs.Install.{store_calls, CanStore}
use Rattle.store_model.specs.StoreFacts.{IsWord, StoreFacts, is_written}
use Rattle.store_model.specs.Copies.{with_line}
use Rattle.store_model.specs.Untouched.{Untouched}
use Rattle.devices.proofs.StateLaws.{line_stored_same, flushed_same}
use Rattle.devices.proofs.DurableLaws.{line_stores}
use Rattle.devices.proofs.GrowthLaws.{Amid-grows, Amid_end}
use Rattle.home_laws.proofs.LayoutLaws.{frame_apart}
use Rattle.home_laws.proofs.PutLaws.{super_same, named_low, log_line-same}
use Rattle.home_laws.proofs.RecoveredLaws.{from-same}
use Rattle.home_laws.proofs.QuietLaws.{fence_facts, quiet_facts, no_stores_quiet}
use Rattle.home_laws.proofs.StoreLaws.{store_facts}
use Rattle.home_laws.proofs.UntouchedLaws.{calls_untouched}
use Rattle.device_calls.specs.Leads.{Steps, Given}
use Rattle.tier_facts.specs.Data.{Data, or_home, home_of, current_in, with_mark, line_cleaned}
use Rattle.tier_facts.specs.Facts.{Aim, Held, Facts, Hard, IsHardened, IsWritten, InFrame, IsLoose, FactsWith, aim_sizes, keeping, log_in}
use Rattle.tier_facts.proofs.PlaceLaws.{can, positive, super_sizes, frame_entry, log_now, dirty_logged, clash, some_same}
use Rattle.tier_facts.proofs.CopyLaws.{unwritten}

-- ---- a fence

fence_only : (t : Data) (aim : Aim) (s : State) → Facts t aim s → (mid : State) → Amid s (fence ∷ []) mid → StoreFacts (keeping t aim) mid
fence_only t aim s it mid amid = quiet_facts (keeping t aim) s it.facts refl no_store no_write (no_stores_quiet s) mid (Amid-grows no_store no_write (fence ∷ []) s mid (tt, tt) amid)

pub fenced_facts : (t : Data) (aim : Aim) (s : State) → Facts t aim s → Facts t aim (fenced s)
fenced_facts t aim s it = record {
  super_words = it.super_words;
  log_same = it.log_same;
  sizes_same = it.sizes_same;
  facts = fence_facts (keeping t aim) s it.facts refl;
  entries_same = it.entries_same;
  owned = it.owned;
  framed = it.framed;
  owner = it.owner;
  frame = it.frame;
  words = it.words;
  loose = it.loose;
  recorded = it.recorded;
  clean = it.clean;
  flushed = it.flushed;
  settled = it.settled;
  unworn = λ k p at not. record { settled = (it.unworn k p at not).settled; words = (it.unworn k p at not).words };
  waits = λ n w less hw. record { newest = (it.waits n w less hw).newest; kept = (it.waits n w less hw).kept };
}

-- A fence keeps the facts.
pub fences : (t : Data) (aim : Aim) (s : State) → Facts t aim s → Steps Held (Facts t) (fence ∷ []) aim s
fences t aim s it = record {
  facts = fenced_facts t aim s it;
  moments = λ mid amid. record { keeps = keeping t aim; format_is = refl; sizes = refl; committed = refl; facts = fence_only t aim s it mid amid };
}

-- ---- a line that is stored in the frame of its page, where it is loose and no record waits

module _ (t : Data) (aim : Aim) (s : State) (it : Facts t aim s) (hard : IsHardened aim) (k page line : ℕ) (value : Line)
    (in_store : page < pages (aim_sizes aim)) (placed : t.frame page ≡ Some k) (in_page : line < 64) (worn : t.worn k ≡ true) (loose : aim.loose page line ≡ true) where
  abbrev place : ℕ
  place = frame_line (aim_sizes aim) k line

  abbrev calls : List Call
  calls = store_calls (aim_sizes aim) k line value

  abbrev next : State
  next = after_all (store_calls (aim_sizes aim) k line value) s

  untouched : Untouched (line_stores (frame_line (aim_sizes aim) k line) value) no_write s next
  untouched = calls_untouched (line_stores (frame_line (aim_sizes aim) k line) value) no_write calls s ((λ w hw. (refl, hw, refl)), (tt, tt))

  stored_word : (w : ℕ) → w < 8 → next.nvm (frame_line (aim_sizes aim) k line) w ≡ marked (stored (word_in value w) (s.nvm (frame_line (aim_sizes aim) k line) w))
  stored_word w hw = flushed_same place (line_stored place value s) w ∙ ap marked (line_stored_same place value s w hw)

  other_word : (l w : ℕ) → l ≢ frame_line (aim_sizes aim) k line → (next.nvm l w).newest ≡ (s.nvm l w).newest
  other_word l w apart = untouched.newest l w (λ v st. apart st.0)

  ring_apart : (o : ℕ) → ring_line (aim_sizes aim) o ≢ frame_line (aim_sizes aim) k line
  ring_apart o at = let some : 0 < (aim_sizes aim).log_blocks = positive t aim s it in omega arith

  super_stays : super_of (current next) ≡ super_of (current s)
  super_stays = super_same (current next) (current s) (λ l w named. other_word l w (λ at. let four : l < 4 = named_low l w named in omega arith))

  lines_stay : log_lines (current next) ≡ log_lines (current s)
  lines_stay = ap (λ (x : Super). from (log_line x.sizes x.drained (current next)) x.start (x.tail - x.start)) super_stays
      ∙ from-same _ _ _ _ (λ o above below. log_line-same (super_of (current s)).sizes (super_of (current s)).drained (current next) (current s) o
      (λ over w hw. other_word (ring_line (super_of (current s)).sizes o) w (subst (λ (g : Sizes). ring_line g o ≢ frame_line (aim_sizes aim) k line) (sym (super_sizes t aim s it)) (ring_apart o))) (λ n. refl))

  entry_stays : (n : ℕ) → n ≤ (aim_sizes aim).frames → entry_at (current next) n ≡ entry_at (current s) n
  entry_stays n h = other_word (entry_line n) (entry_word n) (λ at. omega arith)

  frame_stays : (n l w : ℕ) → l < 64 → ((n ≡ k) × (l ≡ line) → ⊥) → (next.nvm (frame_line (aim_sizes aim) n l) w).newest ≡ (s.nvm (frame_line (aim_sizes aim) n l) w).newest
  frame_stays n l w hl other = other_word (frame_line (aim_sizes aim) n l) w (λ at. other (frame_apart (aim_sizes aim) n k l line hl in_page at))

  flushed_stays : (n l w : ℕ) → w < 8 → (s.nvm (frame_line (aim_sizes aim) n l) w).kept ≡ 0 → (next.nvm (frame_line (aim_sizes aim) n l) w).kept ≡ 0
  flushed_stays n l w hw was = elim (cases_eq (frame_line (aim_sizes aim) n l) (frame_line (aim_sizes aim) k line)) [
    | inl same ↦ ap (λ m. (next.nvm m w).kept) same ∙ ap (λ (x : Word). x.kept) (stored_word w hw)
    | inr apart ↦ untouched.flushed (frame_line (aim_sizes aim) n l) w (λ v st. apart st.0) was
  ]

  only_page : (p : ℕ) → t.frame p ≡ Some k → p ≡ page
  only_page p at = some_same (sym (it.owner p k at) ∙ it.owner page k placed)

  home_stays : (p l w : ℕ) → l < 64 → ((p ≡ page) × (l ≡ line) → ⊥) → home_of (aim_sizes aim) t (current next) p l w ≡ home_of (aim_sizes aim) t (current s) p l w
  home_stays p l w hl other = by (t.frame p) refl
    where
      by : (f : Option ℕ) → t.frame p ≡ f → home_in (aim_sizes aim) (current next) f p l w ≡ home_in (aim_sizes aim) (current s) f p l w
      by None e = refl
      by (Some n) e = frame_stays n l w hl (λ both. other (only_page p (e ∙ ap (λ (m : ℕ). Some m) both.0), both.1))

  home_here : (w : ℕ) → w < 8 → home_of (aim_sizes aim) t (current next) page line w ≡ word_in value w
  home_here w hw = ap (λ (f : Option ℕ). home_in (aim_sizes aim) (current next) f page line w) placed ∙ ap (λ (x : Word). x.newest) (stored_word w hw)

  logged : (w : ℕ) → w < 8 → is_logged (log_in aim) page line w ≡ true
  logged w hw = dirty_logged t aim s it hard page line loose w (record { page = in_store; line = in_page; word = hw })

  may_store : CanStore aim.format s k page line value
  may_store = record {
    can = can t aim s it;
    frame = subst (λ (g : Sizes). k ≤ g.frames) (sym (super_sizes t aim s it)) (it.framed page k placed);
    in_page = in_page;
    named = frame_entry t aim s it k page placed;
    words = λ i left w hw not. clash (ap (λ (x : Log). is_logged x page line w) (log_now t aim s it i left) ∙ logged w hw) not;
  }

  cases_here : (p l : ℕ) → ((p ≡ page) × (l ≡ line)) ⊎ ((p ≡ page) × (l ≡ line) → ⊥)
  cases_here p l = elim (cases_eq p page) [
    | inr other ↦ inr (λ both. other both.0)
    | inl first ↦ elim (cases_eq l line) [ inl second ↦ inl (first, second) | inr other ↦ inr (λ both. other both.1) ]
  ]

  -- the words and the marks may change at this line
  module _ (words : Words) (marks : ℕ → ℕ → Bool)
      (same_words : (p l w : ℕ) → IsWord (aim_sizes aim) p l w → ((p ≡ page) × (l ≡ line) → ⊥) → aim.words p l w ≡ words p l w)
      (same_marks : (p l : ℕ) → ((p ≡ page) × (l ≡ line) → ⊥) → marks p l ≡ t.dirty p l)
      (here_now : (w : ℕ) → w < 8 → or_home (t.copy page line) w (word_in value w) ≡ words page line w)
      (here_clean : (x : Line) (w : ℕ) → t.copy page line ≡ Some x → marks page line ≡ false → w < 8 → word_in x w ≡ word_in value w) where
    abbrev aim' : Aim
    aim' = record aim { words = words }

    abbrev u : Data
    u = record t { dirty = marks }

    unwritten_same : (i : Image) → Leaves s i → (p l w : ℕ) → IsWord (aim_sizes aim) p l w → is_written (keeping t aim) i p l w ≡ false → aim.words p l w ≡ words p l w
    unwritten_same i left p l w word not = same_words p l w word (λ both. clash
        (ap (λ n. is_logged (log_in aim) n l w) both.0 ∙ ap (λ n. is_logged (log_in aim) page n w) both.1 ∙ logged w word.word) (unwritten t aim s it i left p l w not).0)

    moment : (mid : State) → Amid s (store_calls (aim_sizes aim) k line value) mid → StoreFacts (keeping u aim') mid
    moment mid amid = store_facts (keeping t aim) s it.facts k page line value may_store words unwritten_same mid
        (subst (λ (g : Sizes). Amid s (store_calls g k line value) mid) (sym (super_sizes t aim s it)) amid)

    current_now : (p l w : ℕ) → IsWord (aim_sizes aim) p l w → current_in (aim_sizes aim) t (current next) p l w ≡ words p l w
    current_now p l w word = elim (cases_here p l) [
      | inr other ↦ ap (or_home (t.copy p l) w) (home_stays p l w word.line other) ∙ it.words p l w word ∙ same_words p l w word other
      | inl both ↦ ap (λ n. current_in (aim_sizes aim) t (current next) n l w) both.0 ∙ ap (λ n. current_in (aim_sizes aim) t (current next) page n w) both.1
          ∙ ap (or_home (t.copy page line) w) (home_here w word.word) ∙ here_now w word.word
          ∙ ap (λ n. words n line w) (sym both.0) ∙ ap (λ n. words p n w) (sym both.1)
    ]

    clean_now : (p l w : ℕ) (x : Line) → IsWord (aim_sizes aim) p l w → t.copy p l ≡ Some x → marks p l ≡ false → word_in x w ≡ home_of (aim_sizes aim) t (current next) p l w
    clean_now p l w x word at not = elim (cases_here p l) [
      | inr other ↦ it.clean p l w x word at (sym (same_marks p l other) ∙ not) ∙ sym (home_stays p l w word.line other)
      | inl both ↦ here_clean x w (ap (λ n. t.copy n line) (sym both.0) ∙ ap (λ n. t.copy p n) (sym both.1) ∙ at) (ap (λ n. marks n line) (sym both.0) ∙ ap (λ n. marks p n) (sym both.1) ∙ not) word.word
          ∙ sym (home_here w word.word) ∙ ap (λ n. home_of (aim_sizes aim) t (current next) n line w) (sym both.0) ∙ ap (λ n. home_of (aim_sizes aim) t (current next) p n w) (sym both.1)
    ]

    loose_now : (p l : ℕ) → p < pages (aim_sizes aim) → l < 64 → marks p l ≡ true → aim.loose p l ≡ true
    loose_now p l hp hl dirty = elim (cases_here p l) [
      | inr other ↦ it.loose p l hp hl (sym (same_marks p l other) ∙ dirty)
      | inl both ↦ ap (λ n. aim.loose n l) both.0 ∙ ap (λ n. aim.loose page n) both.1 ∙ loose
    ]

    unworn_now : (n p : ℕ) → t.owner n ≡ Some p → t.worn n ≡ false → IsWritten (aim_sizes aim) p n next
    unworn_now n p at not = let was : IsWritten (aim_sizes aim) p n s = it.unworn n p at not in record {
      settled = was.settled;
      words = λ l w hl hw. was.words l w hl hw ∙ sym (frame_stays n l w hl (λ both. clash (ap t.worn both.0 ∙ worn) not));
    }

    store_steps : Steps Held (λ (a : Aim) (x : State). Facts u (record a { words = words }) x) (store_calls (aim_sizes aim) k line value) aim s
    store_steps = record {
      facts = record {
        super_words = super_stays ∙ it.super_words;
        log_same = lines_stay ∙ it.log_same;
        sizes_same = it.sizes_same;
        facts = moment next (Amid_end calls s);
        entries_same = λ n h. entry_stays n h ∙ it.entries_same n h;
        owned = it.owned;
        framed = it.framed;
        owner = it.owner;
        frame = it.frame;
        words = current_now;
        loose = loose_now;
        recorded = it.recorded;
        clean = clean_now;
        flushed = λ n p l w at hl hw. flushed_stays n l w hw (it.flushed n p l w at hl hw);
        settled = it.settled;
        unworn = unworn_now;
        waits = λ n w less hw. record {
          newest = other_word (ring_line (aim_sizes aim) (aim.super.tail + n)) w (ring_apart (aim.super.tail + n)) ∙ (it.waits n w less hw).newest;
          kept = untouched.flushed (ring_line (aim_sizes aim) (aim.super.tail + n)) w (λ v st. ring_apart (aim.super.tail + n) st.0) (it.waits n w less hw).kept;
        };
      };
      moments = λ mid amid. record { keeps = keeping u aim'; format_is = refl; sizes = refl; committed = refl; facts = moment mid amid };
    }

-- A dirty line of a copy is stored in the frame of its page: then it is clean.
pub stores : (t : Data) (page k line : ℕ) (value : Line) → InFrame t page k → line < 64 → t.worn k ≡ true → t.copy page line ≡ Some value → t.dirty page line ≡ true
    → (aim : Aim) (s : State) → Hard t aim s → Steps Held (Hard (line_cleaned page line t)) (store_calls t.sizes k line value) aim s
stores t page k line value framed in_page worn copied dirty aim s it =
    let in_store : page < pages (aim_sizes aim) = subst (λ (g : Sizes). page < pages g) it.holds.sizes_same framed.in_store in
    let steps = store_steps t aim s it.holds it.of_aim k page line value in_store framed.placed in_page worn (it.holds.loose page line in_store in_page dirty)
    aim.words (with_mark page line false t.dirty) (λ p l w word other. refl)
    (λ p l other. cond-false (eqb p page && eqb l line) false (t.dirty p l) (not_here p l other))
    (λ w hw. ap (λ (c : Option Line). or_home c w (word_in value w)) copied ∙ sym (ap (λ (c : Option Line). or_home c w (home_of (aim_sizes aim) t (current s) page line w)) copied)
    ∙ it.holds.words page line w (record { page = in_store; line = in_page; word = hw }))
    (λ x w at not hw. ap (λ (v : Line). word_in v w) (line_same (sym at ∙ copied))) in
    subst (λ (g : Sizes). Steps Held (Hard (line_cleaned page line t)) (store_calls g k line value) aim s) (sym it.holds.sizes_same)
    (record { facts = record { of_aim = it.of_aim; holds = steps.facts }; moments = steps.moments })
  where
    line_same : {x y : Line} → Some x ≡ Some y → x ≡ y
    line_same e = cc

    not_here : (p l : ℕ) → ((p ≡ page) × (l ≡ line) → ⊥) → (eqb p page && eqb l line) ≡ false
    not_here p l other = elim (cases_Bool (eqb p page && eqb l line)) [
      | inr not ↦ not
      | inl is ↦ (let parts : (eqb p page ≡ true) × (eqb l line ≡ true) = and_parts (eqb p page) (eqb l line) is in absurd (other (eqb-true p page parts.0, eqb-true l line parts.1)))
    ]

-- A line that has no copy gets a value in its frame.
pub stores_in_place : (t : Data) (page k line : ℕ) (value : Line) → InFrame t page k → line < 64 → t.worn k ≡ true → t.copy page line ≡ None
    → (aim : Aim) (s : State) → Given (IsLoose page line) (Hard t) aim s → Steps Held (FactsWith page line value t) (store_calls t.sizes k line value) aim s
stores_in_place t page k line value framed in_page worn absent aim s it =
    let in_store : page < pages (aim_sizes aim) = subst (λ (g : Sizes). page < pages g) it.holds.holds.sizes_same framed.in_store in
    let steps = store_steps t aim s it.holds.holds it.holds.of_aim k page line value in_store framed.placed in_page worn it.of_aim.loose
    (with_line aim.words page line value) t.dirty
    (λ p l w word other. sym (cond-false (eqb p page && eqb l line) (word_in value w) (aim.words p l w) (not_here p l other)))
    (λ p l other. refl)
    (λ w hw. ap (λ (c : Option Line). or_home c w (word_in value w)) absent ∙ sym (cond-true (eqb page page && eqb line line) (word_in value w) (aim.words page line w) here))
    (λ x w at not hw. absurd (never (sym at ∙ absent))) in
    subst (λ (g : Sizes). Steps Held (FactsWith page line value t) (store_calls g k line value) aim s) (sym it.holds.holds.sizes_same)
    (record { facts = steps.facts; moments = steps.moments })
  where
    never : {x : Line} → Some x ≡ None → ⊥
    never e = cc

    here : (eqb page page && eqb line line) ≡ true
    here = rw (eq-eqb page page refl, eq-eqb line line refl) refl

    not_here : (p l : ℕ) → ((p ≡ page) × (l ≡ line) → ⊥) → (eqb p page && eqb l line) ≡ false
    not_here p l other = elim (cases_Bool (eqb p page && eqb l line)) [
      | inr not ↦ not
      | inl is ↦ (let parts : (eqb p page ≡ true) × (eqb l line ≡ true) = and_parts (eqb p page) (eqb l line) is in absurd (other (eqb-true p page parts.0, eqb-true l line parts.1)))
    ]
