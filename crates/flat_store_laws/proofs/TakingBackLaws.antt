-- An abort, record by record: how it begins, what each line taken back makes of it, and how it ends.
use Rattle.std.proofs.Common.{◌≡◌, ℕ, zero, suc, ◌+◌, ◌<◌, ◌≤◌, Bool, true, false, ◌||◌, List, [], ◌∷◌, ◌++◌, drop, length, refl, sym, ap, ◌∙◌, subst}
use Rattle.nvm_model.specs.declared.line.Line.{Line}
use Rattle.devices.specs.State.{State, Image, Amid, Leaves, current, after_all}
use Rattle.flat_store_meaning.specs.Layout.{Sizes, pages, ring_lines}
use Rattle.flat_store_meaning.specs.Log.{Words, Change, names, named_in, named_in_groups, changes, is_logged, undone, written, grouped, no_log}
use Rattle.flat_store_meaning.specs.Format.{entries}
use Rattle.flat_store_meaning.specs.Format.Format.{whole_lines}
use Rattle.flat_store_meaning.specs.Recovered.{log_lines, log_of, lines_of}
use Rattle.flat_store_meaning.specs.Put.{append_calls}
use Rattle.flat_store_meaning.specs.Append.{abort_lines}
use Rattle.flat_store_meaning.specs.InPlace.{store_calls}
use Rattle.flat_store_meaning.specs.StoreFacts.{IsWord}
use Rattle.devices.proofs.GrowthLaws.{Amid_end}
use Rattle.flat_store_meaning.proofs.FactsLaws.{current_leaves}
use Rattle.flat_store_meaning.proofs.AtEndLaws.{log_durable}
use Rattle.flat_store_laws.specs.OpenFacts.{OpenFacts, keeping}
use Rattle.flat_store_laws.specs.Steps.{HoldsFacts, IsStoreOf}
use Rattle.flat_store_laws.specs.OpenGroup.{OpenGroup, IsOfStore, AreOfStore}
use Rattle.flat_store_laws.specs.ShownPages.{pages_in, committed_in}
use Rattle.flat_store_laws.specs.Undoing.{Undoing, TakingBack}
use Rattle.flat_store_laws.proofs.OpenLaws.{pages_by, facts_can_store, same_store, open_undoing}
use Rattle.flat_store_laws.proofs.WriteLaws.{record_at, names_here}
use Rattle.flat_store_laws.proofs.GroupLaws.{group_changes}
use Rattle.flat_store_laws.proofs.AbortLaws.{or_right, abort_words, undo_done, undo_moment, undo_pages, undo_lines}
use Rattle.flat_store_laws.proofs.AbortEndLaws.{abort_held, abort_log, abort_open, abort_pages, abort_newest, abort_committed}

or_left : (x y : Bool) → x ≡ true → (x || y) ≡ true
or_left true y e = refl
or_left false y e = absurd (cc)

drop_all : (cs : List Change) → drop (length cs) cs ≡ []
drop_all [] = refl
drop_all (c ∷ cs) = drop_all cs

drop_none : (cs : List Change) → drop 0 cs ≡ cs
drop_none [] = refl
drop_none (c ∷ cs) = refl

-- the record that is taken back next, and those behind it
drop_more : (k : ℕ) (cs : List Change) (c : Change) (rest : List Change) → drop k cs ≡ c ∷ rest → drop (suc k) cs ≡ rest
drop_more zero [] c rest at = cc
drop_more (suc k) [] c rest at = cc
drop_more zero (x ∷ xs) c rest at = drop_none xs ∙ cc
drop_more (suc k) (x ∷ xs) c rest at = drop_more k xs c rest at

of_store_at : (g : Sizes) (k : ℕ) (cs : List Change) (c : Change) (rest : List Change) → AreOfStore g cs → drop k cs ≡ c ∷ rest → IsOfStore g c
of_store_at g zero [] c rest all at = absurd (cc)
of_store_at g (suc k) [] c rest all at = absurd (cc)
of_store_at g zero (x ∷ xs) c rest all at = let same : x ≡ c = cc in subst (λ (y : Change). IsOfStore g y) same all.0
of_store_at g (suc k) (x ∷ xs) c rest all at = of_store_at g k xs c rest all.1 at

named_at : (k : ℕ) (cs : List Change) (c : Change) (rest : List Change) (p l w : ℕ) → drop k cs ≡ c ∷ rest → names c p l w ≡ true → named_in cs p l w ≡ true
named_at zero [] c rest p l w at named = absurd (cc)
named_at (suc k) [] c rest p l w at named = absurd (cc)
named_at zero (x ∷ xs) c rest p l w at named = let same : x ≡ c = cc in or_left (names x p l w) (named_in xs p l w) (ap (λ (y : Change). names y p l w) same ∙ named)
named_at (suc k) (x ∷ xs) c rest p l w at named = or_right (names x p l w) (named_in xs p l w) (named_at k xs c rest p l w at named)

-- Before the first of them all records stand.
pub back_begins : (g : Sizes) (start tail first : ℕ) (s : State) → OpenFacts g start tail s → (group : OpenGroup g start first (current s)) → TakingBack g start tail first (length group.group) s
back_begins g start tail first s it group = record {
  words = it.words;
  kept = it.kept;
  group = group;
  undoing = subst (λ (cs : List Change). Undoing g start tail (undone cs it.words) it.kept s) (sym (drop_all group.group)) (open_undoing it);
  back = λ p l w word. ap (λ (cs : List Change). undone cs it.words p l w) (sym (group_changes g start first (current s) group))
      ∙ abort_words g start tail s it (current s) (current_leaves s) p l w word;
}

-- the lines that recovery gives meanwhile
pub back_committed : (g : Sizes) (start tail first k : ℕ) (s : State) (it : TakingBack g start tail first k s) → committed_in s ≡ lines_of (pages g) it.kept
back_committed g start tail first k s it =
    pages_by (keeping g (undone (drop k (it.group).group) it.words) it.kept) s (it.undoing).facts it.kept (λ n p l w. refl) (current s) (current_leaves s)

-- One record taken back.
module _ (g : Sizes) (start tail first k : ℕ) (s : State) (it : TakingBack g start tail first (suc k) s) (c : Change) (rest : List Change) (at : drop k (it.group).group ≡ c ∷ rest) where
  abbrev words₁ : Words
  words₁ = undone (drop (suc k) (it.group).group) it.words

  one : IsOfStore g c
  one = of_store_at g k (it.group).group c rest (it.group).of_store at

  abbrev masked : ℕ → Change
  masked m = record { page = c.page; line = c.line; mask = m; before = c.before; after = c.before }

  named : (w : ℕ) → w < 8 → names c c.page c.line w ≡ true
  named w hw = ap (λ m. names (masked m) c.page c.line w) one.mask ∙ names_here c.page c.line c.before c.before w hw

  logged : (i : Image) → Leaves s i → (w : ℕ) → w < 8 → is_logged (log_of whole_lines i) c.page c.line w ≡ true
  logged i left w hw =
      ap (λ (lines : List Line). is_logged (grouped no_log (entries whole_lines 0 lines)) c.page c.line w)
      (log_durable s 0 (facts_can_store (keeping g words₁ it.kept) s (it.undoing).facts refl) i left)
      ∙ or_right (named_in_groups (log_of whole_lines (current s)).closed c.page c.line w) (named_in (changes (log_of whole_lines (current s)).open_items) c.page c.line w)
      (ap (λ (cs : List Change). named_in cs c.page c.line w) (group_changes g start first (current s) it.group)
      ∙ named_at k (it.group).group c rest c.page c.line w at (named w hw))

  abbrev s₂ : State
  s₂ = after_all (store_calls g c.page c.line c.before) s

  same_words₂ : written (record_at c.page c.line c.before c.before) c.before words₁ ≡ undone (drop k (it.group).group) it.words
  same_words₂ =
      ap (λ m. written (masked m) c.before words₁) (sym one.mask)
      ∙ ap (λ (cs : List Change). written c c.before (undone cs it.words)) (drop_more k (it.group).group c rest at)
      ∙ ap (λ (cs : List Change). undone cs it.words) (sym at)

  -- the record before it is next
  pub back_step : TakingBack g start tail first k (after_all (store_calls g c.page c.line c.before) s)
  back_step = record {
    words = it.words;
    kept = it.kept;
    group = record {
      front = (it.group).front;
      group = (it.group).group;
      lines = undo_lines g start tail words₁ it.kept s it.undoing c.page c.line c.before one.line logged ∙ (it.group).lines;
      whole = (it.group).whole;
      ended = (it.group).ended;
      begins = (it.group).begins;
      of_store = (it.group).of_store;
    };
    undoing = subst (λ (x : Words). Undoing g start tail x it.kept s₂) same_words₂
        (undo_done g start tail words₁ it.kept s it.undoing c.page c.line c.before one.line logged);
    back = it.back;
  }

  -- At each moment the facts of a store hold.
  pub back_held : (mid : State) → Amid s (store_calls g c.page c.line c.before) mid → HoldsFacts g mid
  back_held mid amid = record {
    keeps = keeping g (written (record_at c.page c.line c.before c.before) c.before words₁) it.kept;
    format = refl;
    sizes = refl;
    facts = undo_moment g start tail words₁ it.kept s it.undoing c.page c.line c.before one.line logged mid amid;
  }

  -- At each moment every image is a store that recovers to the committed pages.
  pub back_moment : (mid : State) → Amid s (store_calls g c.page c.line c.before) mid → (i : Image) → Leaves mid i → IsStoreOf g (committed_in s) i
  back_moment mid amid i left =
      same_store g (lines_of (pages g) it.kept) (committed_in s) i
      (undo_pages g start tail words₁ it.kept s it.undoing c.page c.line c.before one.line logged mid amid i left)
      (sym (back_committed g start tail first (suc k) s it))

  pub back_stays : committed_in (after_all (store_calls g c.page c.line c.before) s) ≡ committed_in s
  back_stays = (back_moment s₂ (Amid_end (store_calls g c.page c.line c.before) s) (current s₂) (current_leaves s₂)).pages

-- When all records are taken back, the end of the abort.
module _ (g : Sizes) (start tail first : ℕ) (s : State) (it : TakingBack g start tail first 0 s) (room : tail + 1 ≤ start + ring_lines g) where
  abbrev words₀ : Words
  words₀ = undone (drop 0 (it.group).group) it.words

  all_back : (p l w : ℕ) → IsWord g p l w → words₀ p l w ≡ it.kept p l w
  all_back p l w word = ap (λ (cs : List Change). undone cs it.words p l w) (drop_none (it.group).group) ∙ it.back p l w word

  -- The facts of an open store hold again, and the current lines are those that were committed all along.
  pub back_open : OpenFacts g start (tail + 1) (after_all (append_calls g tail abort_lines) s)
  back_open = abort_open g start tail words₀ it.kept s it.undoing all_back room

  pub back_newest : pages_in g (after_all (append_calls g tail abort_lines) s) ≡ committed_in s
  back_newest = abort_newest g start tail words₀ it.kept s it.undoing all_back room ∙ sym (back_committed g start tail first 0 s it)

  pub back_kept : committed_in (after_all (append_calls g tail abort_lines) s) ≡ committed_in s
  back_kept = abort_committed g start tail words₀ it.kept s it.undoing all_back room ∙ sym (back_committed g start tail first 0 s it)

  pub back_end_held : (mid : State) → Amid s (append_calls g tail abort_lines) mid → HoldsFacts g mid
  back_end_held mid amid = abort_held g start tail words₀ it.kept s it.undoing all_back room mid amid

  pub back_ends : (mid : State) → Amid s (append_calls g tail abort_lines) mid → (i : Image) → Leaves mid i → IsStoreOf g (committed_in s) i
  back_ends mid amid i left =
      same_store g (lines_of (pages g) it.kept) (committed_in s) i
      (abort_pages g start tail words₀ it.kept s it.undoing all_back room mid amid i left)
      (sym (back_committed g start tail first 0 s it))

  -- the log has the end last, so that nothing is open
  pub back_log : log_lines (current (after_all (append_calls g tail abort_lines) s)) ≡ log_lines (current s) ++ abort_lines
  back_log = abort_log g start tail words₀ it.kept s it.undoing all_back room
