-- The steps of an open store at a device: as one reads it, and whatever a crash leaves.
use Rattle.std.proofs.Common.{◌≡◌, ◌⊎◌, ℕ, ◌+◌, ◌<◌, ◌≤◌, List, [], refl, sym, ap, ◌∙◌, subst, inl, inr, arith, IsTrue, Result, suc, drop, ◌∷◌}
use Rattle.std.specs.Prelude.{OnOk}
use Rattle.nvm_model.specs.declared.line.Line.{Line}
use Rattle.devices.specs.State.{State, Image, Call, Leaves, Amid, current, fresh, after_all}
use Rattle.devices.specs.World.{Standing, Goes, MakesAll, now}
use Rattle.line_pages.specs.Lines.{Lines, with_line}
use Rattle.flat_store_meaning.specs.Layout.{Sizes, pages, frame_line, ring_lines}
use Rattle.flat_store_meaning.specs.Put.{IsLine, append_calls}
use Rattle.flat_store_meaning.specs.Append.{commit_lines, abort_lines}
use Rattle.flat_store_meaning.specs.Format.Format.{whole_lines}
use Rattle.flat_store_meaning.specs.Recovered.{recovered_pages, lines_of, log_of}
use Rattle.flat_store_meaning.proofs.FactsLaws.{current_leaves}
use Rattle.flat_store_meaning.proofs.AtEndLaws.{OnOk_map}
use Rattle.flat_store_laws.specs.OpenFacts.{OpenFacts, keeping}
use Rattle.flat_store_laws.specs.ShownPages.{pages_in, committed_in}
use Rattle.flat_store_laws.specs.Calls.{write_calls, checkpoint_calls}
use Rattle.flat_store_laws.specs.Steps.{IsSized, IsStoreOf, MayLeave, HoldsFacts, LeadsTo, KeepsOpen, CommitsOpen}
use Rattle.flat_store_laws.proofs.OpenLaws.{open_pages, open_store, same_store}
use Rattle.flat_store_laws.proofs.AsReadLaws.{amid_as, after_as, current_as, fresh_as, facts_read, open_read}
use Rattle.flat_store_laws.proofs.TakingBackLaws.{back_step, back_moment, back_open, back_newest, back_ends}
use Rattle.flat_store_laws.specs.Undoing.{TakingBack}
use Rattle.flat_store_meaning.specs.Log.{Change, changes, undone}
use Rattle.flat_store_meaning.specs.InPlace.{store_calls}
use Rattle.flat_store_laws.proofs.WriteLaws.{write_facts, write_lines, write_moment}
use Rattle.flat_store_laws.proofs.EndLaws.{commit_open, commit_newest, commit_committed, commit_chooses}
use Rattle.flat_store_laws.proofs.CheckpointLaws.{checkpoint_open, checkpoint_newest, checkpoint_moment}

-- The steps.
pub write_step : (g : Sizes) (start tail : ℕ) (s : State) → OpenFacts g start tail s → (page line : ℕ) (value : Line) → page < pages g → line < 64 → IsLine value → tail + 3 ≤ start + ring_lines g
    → KeepsOpen g start (tail + 3) (with_line page line value) (write_calls g tail page line value s) s
write_step g start tail s it page line value hp hl is_line room = record {
  leads = record { facts = write_facts g start tail s it page line value hp hl is_line room; moments = write_moment g start tail s it page line value hp hl is_line room };
  current = write_lines g start tail s it page line value hp hl is_line room;
}

pub checkpoint_step : (g : Sizes) (start tail : ℕ) (s : State) → OpenFacts g start tail s → changes (log_of whole_lines (current s)).open_items ≡ []
    → KeepsOpen g tail tail (λ lines. lines) (checkpoint_calls tail) s
checkpoint_step g start tail s it closed = record {
  leads = record { facts = checkpoint_open g start tail s it closed; moments = checkpoint_moment g start tail s it closed };
  current = checkpoint_newest g start tail s it closed;
}

pub commit_step : (g : Sizes) (start tail : ℕ) (s : State) → OpenFacts g start tail s → tail + 1 ≤ start + ring_lines g → CommitsOpen g start (tail + 1) (append_calls g tail commit_lines) s
commit_step g start tail s it room = record {
  facts = commit_open g start tail s it room;
  current = commit_newest g start tail s it room;
  committed = commit_committed g start tail s it room;
  moments = λ mid amid i left. elim (commit_chooses g start tail s it room mid amid i left) [
    | inl old ↦ inl (same_store g (lines_of (pages g) it.kept) (committed_in s) i old (sym (open_pages g start tail s it (current s) (current_leaves s))))
    | inr new ↦ inr new
  ];
}

-- one record taken back, and the end of an abort
pub back_leads : (g : Sizes) (start tail first k : ℕ) (s : State) (it : TakingBack g start tail first (suc k) s) (c : Change) (rest : List Change) → drop k (it.group).group ≡ c ∷ rest
    → LeadsTo g (TakingBack g start tail first k) (store_calls g c.page c.line c.before) s
back_leads g start tail first k s it c rest at = record { facts = back_step g start tail first k s it c rest at; moments = back_moment g start tail first k s it c rest at }

pub abort_step : (g : Sizes) (start tail first : ℕ) (s : State) → TakingBack g start tail first 0 s → tail + 1 ≤ start + ring_lines g
    → KeepsOpen g start (tail + 1) (λ lines. committed_in s) (append_calls g tail abort_lines) s
abort_step g start tail first s it room = record {
  leads = record { facts = back_open g start tail first s it room; moments = back_ends g start tail first s it room };
  current = back_newest g start tail first s it room;
}

-- what is being taken back holds of what one reads of the state too
pub back_read : (g : Sizes) (start tail first k : ℕ) (s : State) → TakingBack g start tail first k s → TakingBack g start tail first k (fresh (current s))
back_read g start tail first k s it = record {
  words = it.words;
  kept = it.kept;
  group = it.group;
  undoing = record {
    super_words = (it.undoing).super_words;
    facts = facts_read (keeping g (undone (drop k (it.group).group) it.words) it.kept) s (it.undoing).facts;
    newest = (it.undoing).newest;
    flushed = λ p l w word. refl;
  };
  back = it.back;
}

-- what may be left of an earlier moment
pub leaves_earlier : (g : Sizes) (a b : Standing) → Goes a b → (m : ℕ) (lines : Lines) → m ≤ a.clock → MayLeave g b m lines → MayLeave g a m lines
leaves_earlier g a b goes m lines early h = (h.0, subst (λ (s : State). Leaves s h.0) (goes.earlier m early) h.1, h.2)

-- what an image of a store recovers to, where it may be left
pub left_lines : (g : Sizes) (lines others : Lines) (i : Image) → IsStoreOf g others i → (IsSized g i → recovered_pages whole_lines i ≡ lines) → lines ≡ others
left_lines g lines others i is left = sym (left is.is_sized) ∙ is.pages

-- where the facts of an open store hold, the committed lines
pub open_left : (g : Sizes) (start tail : ℕ) (s : State) → OpenFacts g start tail s → (lines : Lines) (i : Image) → Leaves s i → (IsSized g i → recovered_pages whole_lines i ≡ lines) → lines ≡ committed_in s
open_left g start tail s it lines i leaves left =
    left_lines g lines (committed_in s) i
    (same_store g (lines_of (pages g) it.kept) (committed_in s) i (open_store g start tail s it i leaves) (sym (open_pages g start tail s it (current s) (current_leaves s)))) left

-- what the calls leave, as one reads it
same_read : (calls : List Call) (s : State) → current (after_all calls s) ≡ current (after_all calls (fresh (current s)))
same_read calls s = current_as (after_all calls s) (after_all calls (fresh (current s))) (after_as calls s (fresh (current s)) (fresh_as s))

read_pages : Sizes → Image → Lines
read_pages g i = lines_of (pages g) (λ p l w. i.nvm (frame_line g p l) w)

module _ {T E : Type 0} (calls : List Call) (a b : Standing) (r : Result T E) (goes : Goes a b) (makes : MakesAll calls a b r) (told : IsTrue a.told) where
  abbrev seen : State
  seen = fresh (current (now a))

  at_end : Amid (now a) calls (now b)
  at_end = (makes.part told).each b.clock goes.clock (omega arith)

  facts_after : (Facts : State → Type 0) → ((s : State) → Facts s → Facts (fresh (current s))) → Facts (after_all calls seen) → OnOk r (Facts (fresh (current (now b))))
  facts_after Facts reads facts = OnOk_map r (λ (done : now b ≡ after_all calls (now a)).
      subst (λ (i : Image). Facts (fresh i)) (sym (ap current done ∙ same_read calls (now a))) (reads (after_all calls seen) facts)) (makes.whole told)

  current_after : (g : Sizes) (lines : Lines) → pages_in g (after_all calls seen) ≡ lines → OnOk r (pages_in g (now b) ≡ lines)
  unfolding read_pages
  current_after g lines same = OnOk_map r (λ (done : now b ≡ after_all calls (now a)). ap (read_pages g) (ap current done ∙ same_read calls (now a)) ∙ same) (makes.whole told)

  -- As one reads the device: the facts and the current lines where the call answers ok, and the committed lines whatever it
  -- answers.
  pub read_facts : {g : Sizes} (Facts : State → Type 0) → ((s : State) → Facts s → Facts (fresh (current s))) → LeadsTo g Facts calls seen → OnOk r (Facts (fresh (current (now b))))
  read_facts Facts reads step = facts_after Facts reads step.facts

  pub read_committed : {g : Sizes} {Facts : State → Type 0} → LeadsTo g Facts calls seen → committed_in (now b) ≡ committed_in (now a)
  read_committed step =
      let found : (m : State) × Amid seen calls m × _ = amid_as calls (now a) seen (now b) (fresh_as (now a)) at_end in
      ap (recovered_pages whole_lines) (current_as (now b) found.0 found.2) ∙ (step.moments found.0 found.1 (current found.0) (current_leaves found.0)).pages

  pub read_open : (g : Sizes) (start tail : ℕ) {change : Lines → Lines} → KeepsOpen g start tail change calls seen → OnOk r (OpenFacts g start tail (fresh (current (now b))))
  read_open g start tail step = facts_after (OpenFacts g start tail) (open_read g start tail) (step.leads).facts

  pub read_current : (g : Sizes) (start tail : ℕ) {change : Lines → Lines} → KeepsOpen g start tail change calls seen → OnOk r (pages_in g (now b) ≡ change (pages_in g (now a)))
  read_current g start tail step = current_after g _ step.current

  -- Whatever a crash leaves: the facts where the call answers ok, and at each moment the committed lines and the facts of a
  -- store.
  pub steady_facts : {g : Sizes} (Facts : State → Type 0) → LeadsTo g Facts calls (now a) → OnOk r (Facts (now b))
  steady_facts Facts step = OnOk_map r (λ (done : now b ≡ after_all calls (now a)). subst Facts (sym done) step.facts) (makes.whole told)

  pub steady_during : {g : Sizes} {Facts : State → Type 0} → LeadsTo g Facts calls (now a) → (m : ℕ) → a.clock < m → m ≤ b.clock → (lines : Lines) → MayLeave g b m lines → lines ≡ committed_in (now a)
  steady_during {g} step m low high lines h = left_lines g lines (committed_in (now a)) h.0 (step.moments (b.at m) ((makes.part told).each m (omega arith) high) h.0 h.1) h.2

  pub steady_held : (g : Sizes) → ((mid : State) → Amid (now a) calls mid → HoldsFacts g mid) → (m : ℕ) → a.clock < m → m ≤ b.clock → HoldsFacts g (b.at m)
  steady_held g held m low high = held (b.at m) ((makes.part told).each m (omega arith) high)

  -- The same for a commit.
  pub commit_read : (g : Sizes) (start tail : ℕ) → CommitsOpen g start tail calls seen → OnOk r (OpenFacts g start tail (fresh (current (now b))))
  commit_read g start tail step = facts_after (OpenFacts g start tail) (open_read g start tail) step.facts

  pub commit_current : (g : Sizes) (start tail : ℕ) → CommitsOpen g start tail calls seen → OnOk r (pages_in g (now b) ≡ pages_in g (now a))
  commit_current g start tail step = current_after g _ step.current

  pub commit_result : (g : Sizes) (start tail : ℕ) → CommitsOpen g start tail calls seen → OnOk r (committed_in (now b) ≡ pages_in g (now a))
  commit_result g start tail step =
      OnOk_map r (λ (done : now b ≡ after_all calls (now a)). ap (recovered_pages whole_lines) (ap current done ∙ same_read calls (now a)) ∙ step.committed) (makes.whole told)

  pub commit_steady : (g : Sizes) (start tail : ℕ) → CommitsOpen g start tail calls (now a) → OnOk r (OpenFacts g start tail (now b))
  commit_steady g start tail step = OnOk_map r (λ (done : now b ≡ after_all calls (now a)). subst (λ (s : State). OpenFacts g start tail s) (sym done) step.facts) (makes.whole told)

  pub commit_during : (g : Sizes) (start tail : ℕ) → CommitsOpen g start tail calls (now a) → (m : ℕ) → a.clock < m → m ≤ b.clock → (lines : Lines) → MayLeave g b m lines
      → (lines ≡ committed_in (now a)) ⊎ (lines ≡ pages_in g (now a))
  commit_during g start tail step m low high lines h = elim (step.moments (b.at m) ((makes.part told).each m (omega arith) high) h.0 h.1) [
    | inl old ↦ inl (left_lines g lines (committed_in (now a)) h.0 old h.2)
    | inr new ↦ inr (left_lines g lines (pages_in g (now a)) h.0 new h.2)
  ]
