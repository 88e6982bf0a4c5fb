-- The dirty lines of a copy, stored one after the other; what is read of a page; a page that passes through an empty frame; and a
-- fence behind which the log may be emptied.
use Rattle.std.proofs.Common.{Bool, true, false, ◌≡◌, ◌≢◌, ℕ, zero, suc, ◌+◌, ◌<◌, ◌≤◌, ◌&&◌, List, [], ◌∷◌, length, get_or, refl, sym, ap, ◌∙◌, subst, inl, inr, arith, eqb, ltb, Option, Some, None}
use Rattle.std.proofs.lemmas.Bool.{cases_Bool, cases_eq, cases_lt, and_parts, eqb-true, eq-eqb, ne_eqb, cond-true, cond-false, lt-ltb, le-ltb}
use Rattle.nvm_model.specs.declared.line.Line.{Line}
use Rattle.nvm_model.proofs.ImageLaws.{line_of-word}
use Rattle.devices.specs.State.{State, Image, current, line_at}
use Rattle.devices.specs.State.Call.{fence}
use Rattle.store_model.specs.Layout.{Sizes, pages, frame_line, page_block}
use Rattle.store_model.specs.Format.{word_in, zero_line}
use Rattle.store_model.specs.Recovered.{home_in, from, block_word, block_line}
use Rattle.store_model.specs.Install.{store_calls}
use Rattle.kept_laws.proofs.FlushedFacts.{homes_durable}
use Rattle.tier_map.proofs.PlacementLaws.{changed-same, changed-other}
use Rattle.device_calls.specs.Leads.{Steps, Given, ReadsAs}
use Rattle.tier_facts.specs.Data.{Data, or_home, home_of, current_in, line_cleaned, lines_cleaned, page_cleaned, marked_worn, installed, released, SameData, Recopied}
use Rattle.tier_facts.specs.Facts.{Aim, Held, Facts, Hard, InFrame, AreClean, AreCurrent, HoldsFrame, Settled, keeping}
use Rattle.tier_facts.proofs.PlaceLaws.{home_now, current_clean, homes_flushed, clash}
use Rattle.tier_facts.proofs.CopyLaws.{facts_same, facts_recopied}
use Rattle.tier_facts.proofs.StoreLaws.{stores, fences, fenced_facts}
use Rattle.tier_facts.proofs.InstallLaws.{none_some}

-- something more holds of the aim
pub given_map : {Of : Aim → Type 0} {A B : Aim → State → Type 0} → ((aim : Aim) (s : State) → A aim s → B aim s) → (aim : Aim) (s : State) → Given Of A aim s → Given Of B aim s
given_map change aim s it = record { of_aim = it.of_aim; holds = change aim s it.holds }

pub given_same : {Of : Aim → Type 0} {t u : Data} → SameData t u → (aim : Aim) (s : State) → Given Of (Facts t) aim s → Given Of (Facts u) aim s
given_same same = given_map (facts_same same)

-- ---- the dirty lines of a copy, stored one after the other

module _ (page : ℕ) (t : Data) where
  marks_in : (n p l : ℕ) → p ≡ page → l < n → (lines_cleaned page n t).dirty p l ≡ false
  marks_in n p l here low = cond-true (eqb p page && ltb l n) false (t.dirty p l) (rw (eq-eqb p page here, lt-ltb l n low) refl)

  marks_above : (n p l : ℕ) → n ≤ l → (lines_cleaned page n t).dirty p l ≡ t.dirty p l
  marks_above n p l high = cond-false (eqb p page && ltb l n) false (t.dirty p l) (rw (le-ltb l n high) (second (eqb p page)))
    where
      second : (x : Bool) → (x && false) ≡ false
      second true = refl
      second false = refl

  marks_other : (n p l : ℕ) → p ≢ page → (lines_cleaned page n t).dirty p l ≡ t.dirty p l
  marks_other n p l other = cond-false (eqb p page && ltb l n) false (t.dirty p l) (rw (ne_eqb p page other) refl)

  -- none of them yet
  pub lines_none : SameData t (lines_cleaned page 0 t)
  lines_none = record { sizes = refl; copy = λ p l hp hl. refl; dirty = λ p l hp hl. marks_above 0 p l (omega arith); frame = λ p. refl; owner = λ k. refl; worn = λ k p at. refl }

  -- all of them
  pub lines_all : SameData (lines_cleaned page 64 t) (page_cleaned page t)
  lines_all = record {
    sizes = refl;
    copy = λ p l hp hl. refl;
    dirty = λ p l hp hl. elim (cases_eq p page) [
      | inl here ↦ cond-true (eqb p page) false (t.dirty p l) (eq-eqb p page here) ∙ sym (marks_in 64 p l here hl)
      | inr other ↦ cond-false (eqb p page) false (t.dirty p l) (ne_eqb p page other) ∙ sym (marks_other 64 p l other)
    ];
    frame = λ p. refl;
    owner = λ k. refl;
    worn = λ k p at. refl;
  }

  -- one more that is dirty, or that is not
  marks_next : (n p l : ℕ) → (l ≡ n → p ≡ page → ⊥) → (lines_cleaned page (n + 1) t).dirty p l ≡ (lines_cleaned page n t).dirty p l
  marks_next n p l apart = elim (cases_eq p page) [
    | inr other ↦ marks_other (n + 1) p l other ∙ sym (marks_other n p l other)
    | inl here ↦ elim (cases_lt l n) [
      | inl low ↦ marks_in (n + 1) p l here (omega arith) ∙ sym (marks_in n p l here low)
      | inr high ↦ (let above : l ≢ n = (λ e. apart e here) in marks_above (n + 1) p l (omega arith) ∙ sym (marks_above n p l high))
    ]
  ]

  lines_next : (n : ℕ) → SameData (line_cleaned page n (lines_cleaned page n t)) (lines_cleaned page (n + 1) t)
  lines_next n = record {
    sizes = refl;
    copy = λ p l hp hl. refl;
    dirty = λ p l hp hl. elim (cases_Bool (eqb p page && eqb l n)) [
      | inr other ↦ marks_next n p l (λ e f. clash (rw (eq-eqb p page f, eq-eqb l n e) refl) other) ∙ sym (cond-false (eqb p page && eqb l n) false ((lines_cleaned page n t).dirty p l) other)
      | inl here ↦ (let at : (p ≡ page) × (l ≡ n) = both p l n here in marks_in (n + 1) p l at.0 (let e : l ≡ n = at.1 in omega arith)
          ∙ sym (cond-true (eqb p page && eqb l n) false ((lines_cleaned page n t).dirty p l) here))
    ];
    frame = λ p. refl;
    owner = λ k. refl;
    worn = λ k p at. refl;
  }
    where
      both : (p l n : ℕ) → (eqb p page && eqb l n) ≡ true → (p ≡ page) × (l ≡ n)
      both p l n is = let parts : (eqb p page ≡ true) × (eqb l n ≡ true) = and_parts (eqb p page) (eqb l n) is in (eqb-true p page parts.0, eqb-true l n parts.1)

  lines_past : (n : ℕ) → t.dirty page n ≡ false → SameData (lines_cleaned page n t) (lines_cleaned page (n + 1) t)
  lines_past n not = record {
    sizes = refl;
    copy = λ p l hp hl. refl;
    dirty = λ p l hp hl. elim (cases_Bool (eqb p page && eqb l n)) [
      | inr other ↦ marks_next n p l (λ e f. clash (rw (eq-eqb p page f, eq-eqb l n e) refl) other)
      | inl here ↦
          (let parts : (eqb p page ≡ true) × (eqb l n ≡ true) = and_parts (eqb p page) (eqb l n) here in
          let e : l ≡ n = eqb-true l n parts.1 in
          let f : p ≡ page = eqb-true p page parts.0 in
          marks_in (n + 1) p l f (omega arith) ∙ sym not ∙ ap (λ q. t.dirty q n) (sym f) ∙ ap (t.dirty p) (sym e) ∙ sym (marks_above n p l (omega arith)))
    ];
    frame = λ p. refl;
    owner = λ k. refl;
    worn = λ k p at. refl;
  }

  -- A line of the copy that is dirty is stored in the frame: then one more is clean.
  pub stores_next : (k n : ℕ) (value : Line) → InFrame t page k → n < 64 → t.worn k ≡ true → t.copy page n ≡ Some value → t.dirty page n ≡ true
      → (aim : Aim) (s : State) → Hard (lines_cleaned page n t) aim s → Steps Held (Hard (lines_cleaned page (n + 1) t)) (store_calls t.sizes k n value) aim s
  stores_next k n value place low worn copied dirty aim s it =
      let steps = stores (lines_cleaned page n t) page k n value (record { in_store = place.in_store; placed = place.placed }) low worn copied (marks_above n page n (omega arith) ∙ dirty) aim s it in
      record { facts = given_same (lines_next n) aim _ steps.facts; moments = steps.moments }

  -- one that is not dirty
  pub stores_past : (n : ℕ) → t.dirty page n ≡ false → (aim : Aim) (s : State) → Hard (lines_cleaned page n t) aim s → Hard (lines_cleaned page (n + 1) t) aim s
  stores_past n not = given_same (lines_past n not)

  -- one that has no copy
  lines_absent : (n : ℕ) → t.copy page n ≡ None → (i : Image) → Recopied (lines_cleaned page n t) (lines_cleaned page (n + 1) t) i
  lines_absent n absent i = record {
    sizes = refl;
    frame = λ p. refl;
    owner = λ k. refl;
    worn = λ k p at not. not;
    lines = λ p l hp hl. elim (cases_Bool (eqb p page && eqb l n)) [
      | inr other ↦ inl (refl, marks_next n p l (λ e f. clash (rw (eq-eqb p page f, eq-eqb l n e) refl) other))
      | inl here ↦
          (let parts : (eqb p page ≡ true) × (eqb l n ≡ true) = and_parts (eqb p page) (eqb l n) here in
          let e : l ≡ n = eqb-true l n parts.1 in
          let f : p ≡ page = eqb-true p page parts.0 in
          let none : t.copy p l ≡ None = ap (λ q. t.copy q l) f ∙ ap (t.copy page) e ∙ absent in
          inr (record {
            was = λ dirty. none;
            clean = marks_in (n + 1) p l f (omega arith);
            words = λ x at w low. none_some (sym none ∙ at);
          }))
    ];
  }

  pub stores_absent : (n : ℕ) → t.copy page n ≡ None → (aim : Aim) (s : State) → Hard (lines_cleaned page n t) aim s → Hard (lines_cleaned page (n + 1) t) aim s
  stores_absent n absent aim s it = record { of_aim = it.of_aim; holds = facts_recopied (lines_cleaned page n t) (lines_cleaned page (n + 1) t) aim s it.holds (lines_absent n absent (current s)) }

  -- at the beginning none is, and at the end all of the page are
  pub stores_none : (aim : Aim) (s : State) → Hard t aim s → Hard (lines_cleaned page 0 t) aim s
  stores_none = given_same lines_none

  pub stores_all : (aim : Aim) (s : State) → Hard (lines_cleaned page 64 t) aim s → Hard (page_cleaned page t) aim s
  stores_all = given_same lines_all

-- ---- a frame that is marked

pub facts_marked : (t : Data) (k : ℕ) (aim : Aim) (s : State) → Facts t aim s → Facts (marked_worn k t) aim s
facts_marked t k aim s it = facts_recopied t (marked_worn k t) aim s it (record {
  sizes = refl;
  frame = λ p. refl;
  owner = λ n. refl;
  worn = λ n p at not. elim (cases_eq n k) [
    | inl here ↦ clash (changed-same k true t.worn n here) not
    | inr other ↦ sym (changed-other k true t.worn n other) ∙ not
  ];
  lines = λ p l hp hl. inl (refl, refl);
})

-- ---- a page that passes through an empty frame: its copy is clean then, and it stands where it stood

pub passed : (t : Data) (page k : ℕ) (worn : Bool) → t.frame page ≡ None → t.owner k ≡ None → SameData (released page k (installed page k worn t)) (page_cleaned page t)
passed t page k worn homeless empty = record {
  sizes = refl;
  copy = λ p l hp hl. refl;
  dirty = λ p l hp hl. refl;
  frame = λ p. elim (cases_eq p page) [
    | inl here ↦ ap t.frame here ∙ homeless ∙ sym (changed-same page None (installed page k worn t).frame p here)
    | inr other ↦ sym (changed-other page (Some k) t.frame p other) ∙ sym (changed-other page None (installed page k worn t).frame p other)
  ];
  owner = λ n. elim (cases_eq n k) [
    | inl here ↦ ap t.owner here ∙ empty ∙ sym (changed-same k None (installed page k worn t).owner n here)
    | inr other ↦ sym (changed-other k (Some page) t.owner n other) ∙ sym (changed-other k None (installed page k worn t).owner n other)
  ];
  worn = λ n p at. elim (cases_eq n k) [
    | inl here ↦ none_some (sym (changed-same k None (installed page k worn t).owner n here) ∙ at)
    | inr other ↦ sym (changed-other k worn t.worn n other)
  ];
}

-- ---- what is read of a page

pub block_line-word : (bytes : List ℕ) (l w : ℕ) → w < 8 → word_in (block_line bytes l) w ≡ block_word bytes l w
block_line-word bytes l w low = line_of-word (block_word bytes l) w low

pub from-at : (f : ℕ → Line) (at n l : ℕ) (other : Line) → l < n → get_or (from f at n) l other ≡ f (at + l)
from-at f at zero l other low = absurd (omega arith)
from-at f at (suc n) zero other low = ap f (let e : at ≡ at + 0 = omega arith in e)
from-at f at (suc n) (suc l) other low = from-at f (at + 1) n l other (omega arith) ∙ ap f (let e : at + 1 + l ≡ at + suc l = omega arith in e)

pub from-length : (f : ℕ → Line) (at n : ℕ) → length (from f at n) ≡ n
from-length f at zero = refl
from-length f at (suc n) = ap suc (from-length f (at + 1) n)

-- bytes with the words of the page's current lines
pub bytes_current : (t : Data) (i : Image) (page : ℕ) (bytes : List ℕ) → ((l w : ℕ) → l < 64 → w < 8 → block_word bytes l w ≡ current_in t.sizes t i page l w)
    → AreCurrent t i page (from (block_line bytes) 0 64)
bytes_current t i page bytes same = record {
  whole = from-length (block_line bytes) 0 64;
  words = λ l w hl hw. ap (λ (x : Line). word_in x w) (from-at (block_line bytes) 0 64 l zero_line hl)
      ∙ ap (λ n. word_in (block_line bytes n) w) (let e : 0 + l ≡ l = omega arith in e) ∙ block_line-word bytes l w hw ∙ same l w hl hw;
}

-- a copy with all lines of the page
pub copy_current : (t : Data) (i : Image) (page : ℕ) (bytes : List ℕ) → ((l : ℕ) → l < 64 → (x : Line) × (t.copy page l ≡ Some x) × ((w : ℕ) → w < 8 → block_word bytes l w ≡ word_in x w))
    → AreCurrent t i page (from (block_line bytes) 0 64)
copy_current t i page bytes copied = bytes_current t i page bytes (λ l w hl hw.
    let x : (y : Line) × (t.copy page l ≡ Some y) × ((n : ℕ) → n < 8 → block_word bytes l n ≡ word_in y n) = copied l hl in
    x.2 w hw ∙ sym (ap (λ (c : Option Line). or_home c w (home_of t.sizes t i page l w)) x.1))

-- the home block of a page that has no frame
pub home_block : (t : Data) (i : Image) (page l w : ℕ) (bytes : List ℕ) → t.frame page ≡ None → bytes ≡ i.ssd (page_block t.sizes page) → block_word bytes l w ≡ home_of t.sizes t i page l w
home_block t i page l w bytes homeless read = ap (λ xs. block_word xs l w) read ∙ sym (ap (λ (f : Option ℕ). home_in t.sizes i f page l w) homeless)

-- and no copy
pub block_current : (t : Data) (i : Image) (page : ℕ) (bytes : List ℕ) → t.frame page ≡ None → ((l : ℕ) → l < 64 → t.copy page l ≡ None) → bytes ≡ i.ssd (page_block t.sizes page)
    → AreCurrent t i page (from (block_line bytes) 0 64)
block_current t i page bytes homeless absent read = bytes_current t i page bytes (λ l w hl hw.
    home_block t i page l w bytes homeless read ∙ sym (ap (λ (c : Option Line). or_home c w (home_of t.sizes t i page l w)) (absent l hl)))

-- a line of the frame
pub home_line : (t : Data) (s : State) (page k l w : ℕ) (x : Line) → t.frame page ≡ Some k → x ≡ line_at s (frame_line t.sizes k l) → w < 8 → word_in x w ≡ home_of t.sizes t (current s) page l w
home_line t s page k l w x placed read low = ap (λ (y : Line). word_in y w) read ∙ line_of-word (λ n. (s.nvm (frame_line t.sizes k l) n).newest) w low
    ∙ sym (ap (λ (f : Option ℕ). home_in t.sizes (current s) f page l w) placed)

-- the bytes are those of the frame in each state that reads the same
pub holds_as : (g : Sizes) (k : ℕ) (s t : State) (bytes : List ℕ) → ReadsAs t s → HoldsFrame g k s bytes → HoldsFrame g k t bytes
holds_as g k s t bytes same it = record { words = λ l w less word. it.words l w less word ∙ sym (same.words (frame_line g k l) w) }

-- ---- a fence behind which the log may be emptied

-- Behind a fence each home is durable, and where no line is dirty it has the current word.
pub settles : (t : Data) → AreClean t → (aim : Aim) (s : State) → Hard t aim s → Steps Held (Settled t) (fence ∷ []) aim s
settles t clean aim s hard =
    let it : Facts t aim s = hard.holds in
    record {
      facts = record {
        hard = hard.of_aim;
        facts = fenced_facts t aim s it;
        homes = λ i left p l w word. (homes_durable (keeping t aim) s it.facts refl (homes_flushed t aim s it) i left p l w word).1 ∙ home_now t aim s it p l w
            ∙ sym (current_clean t aim s it p l w word (clean.lines p l (subst (λ (g : Sizes). p < pages g) (sym it.sizes_same) word.page) word.line)) ∙ it.words p l w word;
        durable = λ k p l w at hl hw. rw (it.flushed k p l w at hl hw) refl;
      };
      moments = (fences t aim s it).moments;
    }
