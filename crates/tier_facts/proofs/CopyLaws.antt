-- Copies in DRAM that are read, dropped or written, with no device call.
use Rattle.std.proofs.Common.{Bool, true, false, ◌≡◌, ℕ, ◌<◌, ◌||◌, ◌&&◌, refl, sym, ap, ◌∙◌, subst, inl, inr, eqb, Option, Some, None}
use Rattle.std.proofs.lemmas.Bool.{cases_Bool, and_parts, or_parts, eqb-true, cond-true, cond-false}
use Rattle.nvm_model.specs.declared.line.Line.{Line}
use Rattle.devices.specs.State.{State, Image, Leaves, current}
use Rattle.store_model.specs.Layout.{Sizes, pages}
use Rattle.store_model.specs.Log.{is_logged, named_in}
use Rattle.store_model.specs.Format.{word_in}
use Rattle.store_model.specs.Recovered.{home_in}
use Rattle.store_model.specs.StoreFacts.{IsWord, is_written, StoreFacts}
use Rattle.store_model.specs.Copies.{with_copy, with_line}
use Rattle.kept_laws.proofs.CopyFacts.{copies_facts}
use Rattle.device_calls.specs.Leads.{Given}
use Rattle.tier_facts.specs.Data.{Data, entry_of, or_home, home_of, current_in, put_in, SameData, IsHome, Recopied}
use Rattle.tier_facts.specs.Facts.{Aim, Facts, IsLoose, FactsWith, aim_sizes, aim_with, keeping, log_in, is_recorded}
use Rattle.tier_facts.proofs.PlaceLaws.{home_fixed, current_clean, log_now, clash}

pub some_line : (x y : Line) → Some x ≡ Some y → x ≡ y
some_line x y e = cc

-- what is not written the log doesn't name, nor a record
pub unwritten : (t : Data) (aim : Aim) (s : State) → Facts t aim s → (i : Image) → Leaves s i → (p l w : ℕ) → is_written (keeping t aim) i p l w ≡ false → (is_logged (log_in aim) p l w ≡ false) × (is_recorded aim p l w ≡ false)
unwritten t aim s it i left p l w not =
    let same : is_recorded aim p l w ≡ false = sym (ap (λ x. is_logged x p l w || named_in aim.pending p l w) (log_now t aim s it i left)) ∙ not in
    ((or_parts (is_logged (log_in aim) p l w) (named_in aim.pending p l w) same).0, same)

-- Copies that were read from their homes or dropped.
module _ (t u : Data) (aim : Aim) (s : State) (it : Facts t aim s) (re : Recopied t u (current s)) where
  home_same : (p l w : ℕ) → home_of (aim_sizes aim) u (current s) p l w ≡ home_of (aim_sizes aim) t (current s) p l w
  home_same p l w = ap (λ (f : Option ℕ). home_in (aim_sizes aim) (current s) f p l w) (re.frame p)

  is_home : (p l w : ℕ) (x : Line) → IsHome t u (current s) p l → u.copy p l ≡ Some x → w < 8 → word_in x w ≡ home_of (aim_sizes aim) t (current s) p l w
  is_home p l w x read at low = read.words x at w low ∙ ap (λ (g : Sizes). home_of g t (current s) p l w) it.sizes_same

  in_pages : (p : ℕ) → p < pages (aim_sizes aim) → p < pages t.sizes
  in_pages p low = subst (λ (g : Sizes). p < pages g) (sym it.sizes_same) low

  facts_now : StoreFacts (keeping u aim) s
  facts_now = copies_facts (keeping t aim) s it.facts aim.words u.copy (λ i left p l w word not. refl) (λ i left p l w x word at not.
      elim (re.lines p l (in_pages p word.page) word.line) [
        | inl same ↦ it.facts.copies i left p l w x word (sym same.0 ∙ at) not
        | inr read ↦ is_home p l w x read at word.word ∙ sym (home_fixed t aim s it i left p l w word (unwritten t aim s it i left p l w not).0)
      ])

  current_home : (p l w : ℕ) → IsWord (aim_sizes aim) p l w → IsHome t u (current s) p l → current_in (aim_sizes aim) t (current s) p l w ≡ home_of (aim_sizes aim) t (current s) p l w
  current_home p l w word read = elim (cases_Bool (t.dirty p l)) [
    | inl dirty ↦ ap (λ (c : Option Line). or_home c w (home_of (aim_sizes aim) t (current s) p l w)) (read.was dirty)
    | inr not ↦ current_clean t aim s it p l w word not
  ]

  words_now : (p l w : ℕ) → IsWord (aim_sizes aim) p l w → current_in (aim_sizes aim) u (current s) p l w ≡ aim.words p l w
  words_now p l w word = elim (re.lines p l (in_pages p word.page) word.line) [
    | inl same ↦ ap (λ (c : Option Line). or_home c w (home_of (aim_sizes aim) u (current s) p l w)) same.0 ∙ ap (or_home (t.copy p l) w) (home_same p l w) ∙ it.words p l w word
    | inr read ↦ by read (u.copy p l) refl ∙ sym (current_home p l w word read) ∙ it.words p l w word
  ]
    where
      by : IsHome t u (current s) p l → (c : Option Line) → u.copy p l ≡ c → or_home c w (home_of (aim_sizes aim) u (current s) p l w) ≡ home_of (aim_sizes aim) t (current s) p l w
      by read None at = home_same p l w
      by read (Some x) at = is_home p l w x read at word.word

  was_dirty : (p l : ℕ) → p < pages (aim_sizes aim) → l < 64 → u.dirty p l ≡ true → t.dirty p l ≡ true
  was_dirty p l hp hl dirty = elim (re.lines p l (in_pages p hp) hl) [
    | inl same ↦ sym same.1 ∙ dirty
    | inr read ↦ clash dirty read.clean
  ]

  clean_now : (p l w : ℕ) (x : Line) → IsWord (aim_sizes aim) p l w → u.copy p l ≡ Some x → u.dirty p l ≡ false → word_in x w ≡ home_of (aim_sizes aim) u (current s) p l w
  clean_now p l w x word at not = elim (re.lines p l (in_pages p word.page) word.line) [
    | inl same ↦ it.clean p l w x word (sym same.0 ∙ at) (sym same.1 ∙ not) ∙ sym (home_same p l w)
    | inr read ↦ is_home p l w x read at word.word ∙ sym (home_same p l w)
  ]

  pub facts_recopied : Facts u aim s
  facts_recopied = record {
    super_words = it.super_words;
    log_same = it.log_same;
    sizes_same = re.sizes ∙ it.sizes_same;
    facts = facts_now;
    entries_same = λ k h. it.entries_same k h ∙ ap entry_of (sym (re.owner k));
    owned = λ k p at. it.owned k p (sym (re.owner k) ∙ at);
    framed = λ p k at. it.framed p k (sym (re.frame p) ∙ at);
    owner = λ p k at. re.owner k ∙ it.owner p k (sym (re.frame p) ∙ at);
    frame = λ k p at. re.frame p ∙ it.frame k p (sym (re.owner k) ∙ at);
    words = words_now;
    loose = λ p l hp hl dirty. it.loose p l hp hl (was_dirty p l hp hl dirty);
    recorded = it.recorded;
    clean = clean_now;
    flushed = λ k p l w at. it.flushed k p l w (sym (re.owner k) ∙ at);
    settled = λ p hp at. it.settled p hp (sym (re.frame p) ∙ at);
    unworn = λ k p at not. it.unworn k p (sym (re.owner k) ∙ at) (re.worn k p (sym (re.owner k) ∙ at) not);
    waits = it.waits;
  }

pub same_recopied : {t u : Data} (i : Image) → SameData t u → Recopied t u i
same_recopied i same = record {
  sizes = same.sizes;
  frame = same.frame;
  owner = same.owner;
  worn = λ k p at not. sym (same.worn k p at) ∙ not;
  lines = λ p l hp hl. inl (same.copy p l hp hl, same.dirty p l hp hl);
}

-- Data that say the same.
pub facts_same : {t u : Data} → SameData t u → (aim : Aim) (s : State) → Facts t aim s → Facts u aim s
facts_same {t} {u} same aim s it = facts_recopied t u aim s it (same_recopied (current s) same)

pub SameData-refl : (t : Data) → SameData t t
SameData-refl t = record { sizes = refl; copy = λ p l hp hl. refl; dirty = λ p l hp hl. refl; frame = λ p. refl; owner = λ k. refl; worn = λ k p at. refl }

-- The copy of a line gets a value: each of its words is one that a record names.
module _ (t : Data) (page line : ℕ) (value : Line) (aim : Aim) (s : State) (it : Facts t aim s) (loose : aim.loose page line ≡ true) where
  at_line : {p l : ℕ} → (eqb p page && eqb l line) ≡ true → (p ≡ page) × (l ≡ line)
  at_line {p} {l} is = let parts : (eqb p page ≡ true) × (eqb l line ≡ true) = and_parts (eqb p page) (eqb l line) is in (eqb-true p page parts.0, eqb-true l line parts.1)

  recorded_here : (p l w : ℕ) → IsWord (aim_sizes aim) p l w → (eqb p page && eqb l line) ≡ true → is_recorded aim p l w ≡ true
  recorded_here p l w word is = it.recorded p l w word (ap (λ n. aim.loose n l) (at_line is).0 ∙ ap (λ n. aim.loose page n) (at_line is).1 ∙ loose)

  words_put : StoreFacts (keeping (put_in page line value t) (aim_with page line value aim)) s
  words_put = copies_facts (keeping t aim) s it.facts (with_line aim.words page line value) (with_copy t.copy page line (Some value))
      (λ i left p l w word not. elim (cases_Bool (eqb p page && eqb l line)) [
        | inl is ↦ clash (recorded_here p l w word is) (unwritten t aim s it i left p l w not).1
        | inr other ↦ sym (cond-false (eqb p page && eqb l line) (word_in value w) (aim.words p l w) other)
      ])
      (λ i left p l w x word at not. elim (cases_Bool (eqb p page && eqb l line)) [
        | inl is ↦ clash (recorded_here p l w word is) (unwritten t aim s it i left p l w not).1
        | inr other ↦ it.facts.copies i left p l w x word (sym (cond-false (eqb p page && eqb l line) (Some value) (t.copy p l) other) ∙ at) not
      ])

  put_facts : Facts (put_in page line value t) (aim_with page line value aim) s
  put_facts = record {
    super_words = it.super_words;
    log_same = it.log_same;
    sizes_same = it.sizes_same;
    facts = words_put;
    entries_same = it.entries_same;
    owned = it.owned;
    framed = it.framed;
    owner = it.owner;
    frame = it.frame;
    words = λ p l w word. elim (cases_Bool (eqb p page && eqb l line)) [
      | inl is ↦ ap (λ (c : Option Line). or_home c w (home_of (aim_sizes aim) t (current s) p l w)) (cond-true (eqb p page && eqb l line) (Some value) (t.copy p l) is)
          ∙ sym (cond-true (eqb p page && eqb l line) (word_in value w) (aim.words p l w) is)
      | inr other ↦ ap (λ (c : Option Line). or_home c w (home_of (aim_sizes aim) t (current s) p l w)) (cond-false (eqb p page && eqb l line) (Some value) (t.copy p l) other)
          ∙ it.words p l w word ∙ sym (cond-false (eqb p page && eqb l line) (word_in value w) (aim.words p l w) other)
    ];
    loose = λ p l hp hl dirty. elim (cases_Bool (eqb p page && eqb l line)) [
      | inl is ↦ ap (λ n. aim.loose n l) (at_line is).0 ∙ ap (λ n. aim.loose page n) (at_line is).1 ∙ loose
      | inr other ↦ it.loose p l hp hl (sym (cond-false (eqb p page && eqb l line) true (t.dirty p l) other) ∙ dirty)
    ];
    recorded = it.recorded;
    clean = λ p l w x word at not. elim (cases_Bool (eqb p page && eqb l line)) [
      | inl is ↦ clash (cond-true (eqb p page && eqb l line) true (t.dirty p l) is) not
      | inr other ↦ it.clean p l w x word (sym (cond-false (eqb p page && eqb l line) (Some value) (t.copy p l) other) ∙ at) (sym (cond-false (eqb p page && eqb l line) true (t.dirty p l) other) ∙ not)
    ];
    flushed = it.flushed;
    settled = it.settled;
    unworn = it.unworn;
    waits = it.waits;
  }

-- A line that is loose gets a value in its copy.
pub puts : (t : Data) (page line : ℕ) (value : Line)
    → (aim : Aim) (s : State) → Given (IsLoose page line) (Facts t) aim s → FactsWith page line value (put_in page line value t) aim s
puts t page line value aim s it = put_facts t page line value aim s it.holds it.of_aim.loose

-- Other lines are loose: all that are dirty, each named by a record.
pub facts_loose : (t : Data) (aim : Aim) (s : State) (loose : ℕ → ℕ → Bool)
    → ((p l : ℕ) → p < pages (aim_sizes aim) → l < 64 → t.dirty p l ≡ true → loose p l ≡ true)
    → ((p l w : ℕ) → IsWord (aim_sizes aim) p l w → loose p l ≡ true → is_recorded aim p l w ≡ true) → Facts t aim s → Facts t (record aim { loose = loose }) s
facts_loose t aim s loose dirty named it = record {
  super_words = it.super_words;
  log_same = it.log_same;
  sizes_same = it.sizes_same;
  facts = it.facts;
  entries_same = it.entries_same;
  owned = it.owned;
  framed = it.framed;
  owner = it.owner;
  frame = it.frame;
  words = it.words;
  loose = dirty;
  recorded = named;
  clean = it.clean;
  flushed = it.flushed;
  settled = it.settled;
  unworn = it.unworn;
  waits = it.waits;
}
