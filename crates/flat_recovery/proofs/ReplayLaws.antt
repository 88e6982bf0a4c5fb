-- A replay in place: what its calls make of the newest words, and that at each moment every image recovers to the same words.
use Rattle.std.proofs.Common.{◌≡◌, ◌≢◌, ℕ, ◌<◌, Bool, true, false, ◌||◌, cond, List, [], ◌∷◌, ◌++◌, refl, sym, ap, ◌∙◌, subst, inl, inr}
use Rattle.std.proofs.lemmas.Bool.{cases_Bool, cases_eq}
use Rattle.nvm_model.specs.declared.line.Line.{Line}
use Rattle.nvm_model.specs.Word.{Word}
use Rattle.devices.specs.State.{State, Image, Call, Leaves, Amid, Part, after, after_all, current, line_stored}
use Rattle.devices.specs.State.Call.{store_line}
use Rattle.devices.specs.Growth.{Grows, no_write}
use Rattle.devices.proofs.DurableLaws.{line_stores}
use Rattle.devices.proofs.GrowthLaws.{Part-grows, Part-whole, Grows-leaves, after_all_append}
use Rattle.devices.proofs.StateLaws.{line_stored_same, line_stored_other}
use Rattle.flat_store_meaning.specs.Layout.{Sizes, frame_line}
use Rattle.flat_store_meaning.specs.Log.{Words, Change, Group, Log, names, named_in, named_in_groups, is_logged, changes, written, redone, undone, applied, applied_all, replayed}
use Rattle.flat_store_meaning.specs.Format.Format.{whole_lines}
use Rattle.flat_store_meaning.specs.Recovered.{Super, super_of, log_of}
use Rattle.flat_store_meaning.specs.InPlace.{CanStore}
use Rattle.flat_store_meaning.specs.StoreFacts.{StoreFacts}
use Rattle.flat_store_meaning.specs.AtEnd.{HasLog}
use Rattle.flat_store_meaning.proofs.FactsLaws.{current_leaves}
use Rattle.flat_store_meaning.proofs.LayoutLaws.{frame_apart}
use Rattle.flat_store_meaning.proofs.LogLaws.{written_named, written_other, written_word, redone_word, undone_word, applied_all_word}
use Rattle.flat_store_meaning.proofs.LogLaws.{plain_replay}
use Rattle.flat_store_meaning.proofs.StoreLaws.{Stored, store_same, store_grows_facts}
use Rattle.flat_store_laws.specs.OpenFacts.{keeping}
use Rattle.flat_store_laws.specs.OpenGroup.{IsOfStore, AreOfStore}
use Rattle.flat_store_laws.specs.ShownPages.{words_in}
use Rattle.flat_store_laws.proofs.OpenLaws.{facts_can_store}
use Rattle.flat_store_laws.proofs.WriteLaws.{record_at, names_here, names_place}
use Rattle.flat_store_laws.proofs.AbortLaws.{or_right}
use Rattle.flat_recovery.specs.Calls.{redo_calls, undo_calls, group_calls, groups_calls, replay_calls}

-- the records of each group are of lines of the store
abbrev pub GroupsOfStore : Sizes → List Group → Type 0
GroupsOfStore g [] = Unit {0}
GroupsOfStore g (group ∷ groups) = AreOfStore g (changes group.items) × GroupsOfStore g groups

pub record LogOfStore (g : Sizes) (log : Log) : Type 0 where
  pub closed : GroupsOfStore g log.closed
  pub left : AreOfStore g (changes log.open_items)

-- a record of a whole line, with its mask written out
whole_names : (c : Change) → c.mask ≡ 255 → (p l w : ℕ) → names c p l w ≡ names (record_at c.page c.line c.before c.after) p l w
whole_names c mask p l w = ap (λ m. names (record c { mask = m }) p l w) mask

named_whole : (g : Sizes) (c : Change) → IsOfStore g c → (w : ℕ) → w < 8 → names c c.page c.line w ≡ true
named_whole g c of w hw = whole_names c of.mask c.page c.line w ∙ names_here c.page c.line c.before c.after w hw

-- a line that is stored is what the record writes
store_words : (g : Sizes) (c : Change) (v : Line) (s : State) → IsOfStore g c → (p l w : ℕ) → l < 64 → w < 8
    → words_in g (line_stored (frame_line g c.page c.line) v s) p l w ≡ written c v (words_in g s) p l w
store_words g c v s of p l w hl hw = elim (cases_eq (frame_line g p l) (frame_line g c.page c.line)) [
  | inl here ↦
      (let apart : (p ≡ c.page) × (l ≡ c.line) = frame_apart g p c.page l c.line hl of.line here in
      ap (λ n. ((line_stored (frame_line g c.page c.line) v s).nvm n w).newest) here
      ∙ ap (λ (x : Word). x.newest) (line_stored_same (frame_line g c.page c.line) v s w hw)
      ∙ sym (written_named c v (words_in g s) c.page c.line w (named_whole g c of w hw))
      ∙ ap (λ n. written c v (words_in g s) n c.line w) (sym apart.0) ∙ ap (λ n. written c v (words_in g s) p n w) (sym apart.1))
  | inr other ↦
      ap (λ (x : Word). x.newest) (line_stored_other (frame_line g c.page c.line) v s (frame_line g p l) w other)
      ∙ sym (written_other c v (words_in g s) p l w (unnamed other))
]
  where
    unnamed : frame_line g p l ≢ frame_line g c.page c.line → names c p l w ≡ false
    unnamed other = elim (cases_Bool (names c p l w)) [
      | inl named ↦
          (let at : (c.page ≡ p) × (c.line ≡ l) = names_place c.page c.line c.before c.after p l w (sym (whole_names c of.mask p l w) ∙ named) in
          absurd (other (ap (λ n. frame_line g n l) (sym at.0) ∙ ap (λ n. frame_line g c.page n) (sym at.1))))
      | inr not ↦ not
    ]

redo_words : (g : Sizes) (cs : List Change) (s : State) → AreOfStore g cs → (p l w : ℕ) → l < 64 → w < 8 → words_in g (after_all (redo_calls g cs) s) p l w ≡ redone cs (words_in g s) p l w
redo_words g [] s all p l w hl hw = refl
redo_words g (c ∷ cs) s all p l w hl hw =
    redo_words g cs (line_stored (frame_line g c.page c.line) c.after s) all.1 p l w hl hw
    ∙ redone_word cs (words_in g (line_stored (frame_line g c.page c.line) c.after s)) (written c c.after (words_in g s)) p l w (store_words g c c.after s all.0 p l w hl hw)

undo_words : (g : Sizes) (cs : List Change) (s : State) → AreOfStore g cs → (p l w : ℕ) → l < 64 → w < 8 → words_in g (after_all (undo_calls g cs) s) p l w ≡ undone cs (words_in g s) p l w
undo_words g [] s all p l w hl hw = refl
undo_words g (c ∷ cs) s all p l w hl hw =
    ap (λ (t : State). words_in g t p l w) (after_all_append (undo_calls g cs) (store_line (frame_line g c.page c.line) c.before ∷ []) s)
    ∙ store_words g c c.before (after_all (undo_calls g cs) s) all.0 p l w hl hw
    ∙ written_word c c.before (words_in g (after_all (undo_calls g cs) s)) (undone cs (words_in g s)) p l w (undo_words g cs s all.1 p l w hl hw)

group_words : (g : Sizes) (group : Group) (s : State) → AreOfStore g (changes group.items) → (p l w : ℕ) → l < 64 → w < 8 → words_in g (after_all (group_calls g group) s) p l w ≡ applied group (words_in g s) p l w
group_words g group s all p l w hl hw = by_end group.committed
  where
    by_end : (b : Bool) → words_in g (after_all (cond b (redo_calls g (changes group.items)) (undo_calls g (changes group.items))) s) p l w
        ≡ cond b (redone (changes group.items) (words_in g s)) (undone (changes group.items) (words_in g s)) p l w
    by_end true = redo_words g (changes group.items) s all p l w hl hw
    by_end false = undo_words g (changes group.items) s all p l w hl hw

groups_words : (g : Sizes) (groups : List Group) (s : State) → GroupsOfStore g groups → (p l w : ℕ) → l < 64 → w < 8 → words_in g (after_all (groups_calls g groups) s) p l w ≡ applied_all applied groups (words_in g s) p l w
groups_words g [] s all p l w hl hw = refl
groups_words g (group ∷ groups) s all p l w hl hw =
    ap (λ (t : State). words_in g t p l w) (after_all_append (group_calls g group) (groups_calls g groups) s)
    ∙ groups_words g groups (after_all (group_calls g group) s) all.1 p l w hl hw
    ∙ applied_all_word applied plain_replay groups (words_in g (after_all (group_calls g group) s)) (applied group (words_in g s)) p l w (group_words g group s all.0 p l w hl hw)

-- The calls of a replay make the newest words what replay makes of them.
pub replay_words : (g : Sizes) (log : Log) (s : State) → LogOfStore g log → (p l w : ℕ) → l < 64 → w < 8 → words_in g (after_all (replay_calls g log) s) p l w ≡ replayed log (words_in g s) p l w
replay_words g log s all p l w hl hw =
    ap (λ (t : State). words_in g t p l w) (after_all_append (groups_calls g log.closed) (undo_calls g (changes log.open_items)) s)
    ∙ undo_words g (changes log.open_items) (after_all (groups_calls g log.closed) s) all.left p l w hl hw
    ∙ undone_word (changes log.open_items) (words_in g (after_all (groups_calls g log.closed) s)) (applied_all applied log.closed (words_in g s)) p l w
    (groups_words g log.closed s all.closed p l w hl hw)

-- A store of a line of a frame, each word of which the log names.
pub record IsLoggedStore (g : Sizes) (log : Log) (call : Call) : Type 0 where
  pub page : ℕ
  pub line : ℕ
  pub value : Line
  pub is : call ≡ store_line (frame_line g page line) value
  pub in_page : line < 64
  pub logged : (w : ℕ) → w < 8 → is_logged log page line w ≡ true

abbrev pub AreLoggedStores : Sizes → Log → List Call → Type 0
AreLoggedStores g log [] = Unit {0}
AreLoggedStores g log (call ∷ calls) = IsLoggedStore g log call × AreLoggedStores g log calls

logged_append : (g : Sizes) (log : Log) (xs ys : List Call) → AreLoggedStores g log xs → AreLoggedStores g log ys → AreLoggedStores g log (xs ++ ys)
logged_append g log [] ys a b = b
logged_append g log (x ∷ xs) ys a b = (a.0, logged_append g log xs ys a.1 b)

or_left : (x y : Bool) → x ≡ true → (x || y) ≡ true
or_left true y e = refl
or_left false y e = absurd (cc)

logged_one : (g : Sizes) (log : Log) (c : Change) (cs : List Change) (v : Line) → IsOfStore g c → ((p l w : ℕ) → named_in (c ∷ cs) p l w ≡ true → is_logged log p l w ≡ true)
    → IsLoggedStore g log (store_line (frame_line g c.page c.line) v)
logged_one g log c cs v of within = record {
  page = c.page;
  line = c.line;
  value = v;
  is = refl;
  in_page = of.line;
  logged = λ w hw. within c.page c.line w (or_left (names c c.page c.line w) (named_in cs c.page c.line w) (named_whole g c of w hw));
}

redo_logged : (g : Sizes) (log : Log) (cs : List Change) → AreOfStore g cs → ((p l w : ℕ) → named_in cs p l w ≡ true → is_logged log p l w ≡ true) → AreLoggedStores g log (redo_calls g cs)
redo_logged g log [] all within = tt
redo_logged g log (c ∷ cs) all within = (
  logged_one g log c cs c.after all.0 within,
  redo_logged g log cs all.1 (λ p l w h. within p l w (or_right (names c p l w) (named_in cs p l w) h)),
)

undo_logged : (g : Sizes) (log : Log) (cs : List Change) → AreOfStore g cs → ((p l w : ℕ) → named_in cs p l w ≡ true → is_logged log p l w ≡ true) → AreLoggedStores g log (undo_calls g cs)
undo_logged g log [] all within = tt
undo_logged g log (c ∷ cs) all within =
    logged_append g log (undo_calls g cs) (store_line (frame_line g c.page c.line) c.before ∷ [])
    (undo_logged g log cs all.1 (λ p l w h. within p l w (or_right (names c p l w) (named_in cs p l w) h)))
    (logged_one g log c cs c.before all.0 within, tt)

groups_logged : (g : Sizes) (log : Log) (groups : List Group) → GroupsOfStore g groups → ((p l w : ℕ) → named_in_groups groups p l w ≡ true → is_logged log p l w ≡ true) → AreLoggedStores g log (groups_calls g groups)
groups_logged g log [] all within = tt
groups_logged g log (group ∷ groups) all within =
    logged_append g log (group_calls g group) (groups_calls g groups) (by_end group.committed)
    (groups_logged g log groups all.1 (λ p l w h. within p l w (or_right (named_in (changes group.items) p l w) (named_in_groups groups p l w) h)))
  where
    first : (p l w : ℕ) → named_in (changes group.items) p l w ≡ true → is_logged log p l w ≡ true
    first p l w h = within p l w (or_left (named_in (changes group.items) p l w) (named_in_groups groups p l w) h)

    by_end : (b : Bool) → AreLoggedStores g log (cond b (redo_calls g (changes group.items)) (undo_calls g (changes group.items)))
    by_end true = redo_logged g log (changes group.items) all.0 first
    by_end false = undo_logged g log (changes group.items) all.0 first

-- Each call of a replay is such a store.
pub replay_logged : (g : Sizes) (log : Log) → LogOfStore g log → AreLoggedStores g log (replay_calls g log)
replay_logged g log all =
    logged_append g log (groups_calls g log.closed) (undo_calls g (changes log.open_items))
    (groups_logged g log log.closed all.closed (λ p l w h. or_left (named_in_groups log.closed p l w) (named_in (changes log.open_items) p l w) h))
    (undo_logged g log (changes log.open_items) all.left (λ p l w h. or_right (named_in_groups log.closed p l w) (named_in (changes log.open_items) p l w) h))

-- What holds of each moment of a replay: the facts of an open store, with the superblock and the log that stood at its beginning.
pub record Replays (g : Sizes) (kept : Words) (sup : Super) (log : Log) (s : State) : Type 0 where
  pub facts : StoreFacts (keeping g kept kept) s
  pub gates : (i : Image) → Leaves s i → super_of i ≡ sup
  pub has : HasLog whole_lines log s

-- One such store keeps it.
module _ (g : Sizes) (kept : Words) (sup : Super) (log : Log) (s : State) (it : Replays g kept sup log s) (call : Call) (one : IsLoggedStore g log call) (mid : State) (part : Part call s mid) where
  clash : (y : Bool) → y ≡ true → y ≡ false → ⊥
  clash y e f = absurd (cc)

  can : CanStore whole_lines s one.page one.line one.value
  can = record {
    can = facts_can_store (keeping g kept kept) s it.facts refl;
    in_page = one.in_page;
    words = λ i left w hw unlogged. absurd (clash (is_logged (log_of whole_lines i) one.page one.line w) (ap (λ (x : Log). is_logged x one.page one.line w) (it.has i left) ∙ one.logged w hw) unlogged);
  }

  abbrev stores : ℕ → ℕ → ℕ → Type 0
  stores = line_stores (frame_line (super_of (current s)).sizes one.page one.line) one.value

  same_sizes : (super_of (current s)).sizes ≡ g
  same_sizes = it.facts.sizes (current s) (current_leaves s)

  grows : Grows stores no_write s mid
  grows = Part-grows stores no_write (store_line (frame_line g one.page one.line) one.value) s mid
      (λ w hw. (ap (λ (x : Sizes). frame_line x one.page one.line) (sym same_sizes), hw, refl)) (subst (λ (x : Call). Part x s mid) one.is part)

  stored : (i : Image) → Leaves mid i → (j : Image) × Leaves s j × Stored whole_lines s one.page one.line one.value can i j
  stored i left = store_same whole_lines s one.page one.line one.value can i (Grows-leaves stores no_write s mid i grows left)

  store_replays : Replays g kept sup log mid
  store_replays = record {
    facts = store_grows_facts (keeping g kept kept) s it.facts one.page one.line one.value can kept (λ i left p l w word h. refl) mid grows;
    gates = λ i left. ((stored i left).2).super_words ∙ it.gates (stored i left).0 (stored i left).1;
    has = λ i left. ((stored i left).2).log ∙ it.has (stored i left).0 (stored i left).1;
  }

-- At each moment of such stores the facts hold, and the superblock and the log are as they were.
pub replays_moment : (g : Sizes) (kept : Words) (sup : Super) (log : Log) (calls : List Call) → AreLoggedStores g log calls → (s : State) → Replays g kept sup log s → (mid : State) → Amid s calls mid → Replays g kept sup log mid
replays_moment g kept sup log [] all s it mid at = subst (λ (x : State). Replays g kept sup log x) (sym at) it
replays_moment g kept sup log (call ∷ calls) all s it mid (inl part) = store_replays g kept sup log s it call all.0 mid part
replays_moment g kept sup log (call ∷ calls) all s it mid (inr later) =
    replays_moment g kept sup log calls all.1 (after call s) (store_replays g kept sup log s it call all.0 (after call s) (Part-whole call s)) mid later
