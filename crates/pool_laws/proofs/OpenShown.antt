-- The pool as it is made shows the state at the opening.
use Rattle.std.proofs.Common.{◌≡◌, ℕ, zero, suc, ◌+◌, ◌<◌, ◌≤◌, Bool, true, false, cond, List, [], ◌∷◌, length, take, replicate, get_or, slice_set, pred, inl, inr, refl, sym, ap, ◌∙◌, subst, arith}
use Rattle.std.specs.Prelude.{Option, Some, None, ◌==◌, slice_index}
use Rattle.std.proofs.lemmas.Bool.{cases_eq, eq-eqb, eqb-true, false_from_ne_true}
use Rattle.std.proofs.lemmas.List.{get_or-set_same, get_or-set_other, length-set, length-replicate, set-get_or, get_or-take, ext_get_or}
use Rattle.tier_map.specs.declared.place.Place.{Place}
use Rattle.tier_map.specs.Placement.{Inverse}
use Rattle.tier_map.proofs.PlacementLaws.{changed-same, changed-other}
use Rattle.page_frame.specs.Frames.{resident_lines}
use Rattle.page_frame.proofs.ArenaLaws.{blank_mask}
use Rattle.migration_policy.specs.Draws.{generator_after}
use Rattle.migration_policy.proofs.DrawLaws.{first_generator}
use Rattle.clock_sweep.specs.declared.clock.Slot.TheVariants.{Empty, Set}
use Rattle.clock_sweep.specs.Clock.{Circle, places_from, with_slot, inserted}
use Rattle.tier_rules.specs.Plans.{Plan}
use Rattle.tier_rules.specs.Opening.{named_page, frame_naming, slot_of, table_clock, is_named, opened, IsTable}
use Rattle.tier_rules.specs.Parts.{Parts, copy_at, dirty_at}
use Rattle.tier_laws.proofs.OpenLaws.{opened-sound}
use Rattle.pool_laws.specs.States.{state_of, IsState}
use Rattle.tier_pool.specs.Opening.{empty_parts, entry_placed, entries_placed}
use Rattle.tier_pool.proofs.SteadyOpening.{all_alike, made_steady}
use Rattle.pool_laws.proofs.StateLaws.{same_state, same_map, mark_set, shown_at}

-- ---- the first words of the table, and no page behind them

fill : ℕ → ℕ → List ℕ → List ℕ
fill n zero words = replicate n 0
fill n (suc k) words = slice_set (fill n k words) k (slice_index words k)

fill_long : (n k : ℕ) (words : List ℕ) → length (fill n k words) ≡ n
unfolding fill
fill_long n zero words = length-replicate n 0
fill_long n (suc k) words = length-set (fill n k words) k (slice_index words k) ∙ fill_long n k words

fill_past : (n k : ℕ) (words : List ℕ) (j : ℕ) → k ≤ j → slice_index (fill n k words) j ≡ 0
unfolding fill
fill_past n zero words j h = all_alike n j 0
fill_past n (suc k) words j h = get_or-set_other (fill n k words) k j (slice_index words k) 0 (λ same. omega arith) ∙ fill_past n k words j (omega arith)

fill_at : (n k : ℕ) (words : List ℕ) → k ≤ n → (j : ℕ) → j < k → slice_index (fill n k words) j ≡ slice_index words j
unfolding fill
fill_at n zero words h j low = absurd (omega arith)
fill_at n (suc k) words h j low = elim (cases_eq j k) [
  | inl same ↦
      let long = fill_long n k words in
      ap (λ (i : ℕ). slice_index (slice_set (fill n k words) k (slice_index words k)) i) same ∙ get_or-set_same (fill n k words) k (slice_index words k) 0 (omega arith) ∙ ap (slice_index words) (sym same)
  | inr other ↦ get_or-set_other (fill n k words) k j (slice_index words k) 0 other ∙ fill_at n k words (omega arith) j (omega arith)
]

taken_long : (n : ℕ) (words : List ℕ) → n ≤ length words → length (take n words) ≡ n
taken_long zero words h = refl
taken_long (suc n) [] h = absurd (omega arith)
taken_long (suc n) (w ∷ words) h = let rest = taken_long n words (omega arith) in omega arith

filled_all : (n : ℕ) (words : List ℕ) → n ≤ length words → fill n n words ≡ take n words
filled_all n words h =
    let long = fill_long n n words in
    ext_get_or 0 (fill n n words) (take n words) (fill_long n n words ∙ sym (taken_long n words h))
    (λ j low. fill_at n n words (omega arith) j (omega arith) ∙ sym (get_or-take n words j 0 (omega arith)))

-- ---- clocks

new_table : (b n : ℕ) → places_from b n ≡ table_clock b (replicate n 0)
new_table b zero = refl
new_table b (suc n) = ap (λ (t : Circle). (b, Empty) ∷ t) (new_table (b + 1) n)

untouched : (c b : ℕ) (es : List ℕ) → c < b → with_slot c Set (table_clock b es) ≡ table_clock b es
untouched c b [] h = refl
untouched c b (e ∷ es) h =
    let no : (b == c) ≡ false = false_from_ne_true (b == c) (λ t. let same = eqb-true b c t in omega arith) in
    ap (λ (x : Bool). (b, cond x Set (slot_of e)) ∷ with_slot c Set (table_clock (b + 1) es)) no
    ∙ ap (λ (t : Circle). (b, slot_of e) ∷ t) (untouched c (b + 1) es (omega arith))

inserted_table : (b i c p : ℕ) (es : List ℕ) → c ≡ b + i → i < length es → with_slot c Set (table_clock b es) ≡ table_clock b (slice_set es i (suc p))
inserted_table b i c p [] at low = absurd (omega arith)
inserted_table b zero c p (e ∷ es) at low =
    ap (λ (x : Bool). (b, cond x Set (slot_of e)) ∷ with_slot c Set (table_clock (b + 1) es)) (eq-eqb b c (omega arith))
    ∙ ap (λ (t : Circle). (b, Set) ∷ t) (untouched c (b + 1) es (omega arith))
inserted_table b (suc i) c p (e ∷ es) at low =
    let no : (b == c) ≡ false = false_from_ne_true (b == c) (λ t. let same = eqb-true b c t in omega arith) in
    ap (λ (x : Bool). (b, cond x Set (slot_of e)) ∷ with_slot c Set (table_clock (b + 1) es)) no
    ∙ ap (λ (t : Circle). (b, slot_of e) ∷ t) (inserted_table (b + 1) i c p es (omega arith) (omega arith))

-- ---- the frames as so many words name them

record IsFilled (es : List ℕ) (parts : Parts) : Type 0 where
  owner : (j : ℕ) → parts.map.frame_page j ≡ named_page (slice_index es j)
  marks : (j : ℕ) → get_or parts.frame_dirty j false ≡ is_named (slice_index es j)
  clock : parts.nvm_clock ≡ table_clock 0 es
  long : length parts.frame_dirty ≡ length es

empty_filled : (plan : Plan) (n : ℕ) → IsFilled (replicate n 0) (empty_parts plan n)
empty_filled plan n = record {
  owner = λ j. ap named_page (sym (all_alike n j 0));
  marks = λ j. all_alike n j false ∙ ap is_named (sym (all_alike n j 0));
  clock = new_table 0 n;
  long = length-replicate n false ∙ sym (length-replicate n 0);
}

entry_filled : (e k : ℕ) (es : List ℕ) (parts : Parts) → k < length es → slice_index es k ≡ 0 → IsFilled es parts → IsFilled (slice_set es k e) (entry_placed (named_page e) k parts)
entry_filled zero k es parts low none f = subst (λ (xs : List ℕ). IsFilled xs parts) (sym (ap (slice_set es k) (sym none) ∙ set-get_or es k 0)) f
entry_filled (suc page) k es parts low none f = record {
  owner = λ j. elim (cases_eq j k) [
    | inl same ↦ changed-same k (Some page) parts.map.frame_page j same ∙ ap named_page (sym (now j same))
    | inr other ↦ changed-other k (Some page) parts.map.frame_page j other ∙ f.owner j ∙ ap named_page (sym (get_or-set_other es k j (suc page) 0 other))
  ];
  marks = λ j. mark_set parts.frame_dirty k true (let long = f.long in omega arith) j ∙ elim (cases_eq j k) [
    | inl same ↦ changed-same k true (λ i. get_or parts.frame_dirty i false) j same ∙ ap is_named (sym (now j same))
    | inr other ↦ changed-other k true (λ i. get_or parts.frame_dirty i false) j other ∙ f.marks j ∙ ap is_named (sym (get_or-set_other es k j (suc page) 0 other))
  ];
  clock = ap (inserted k) f.clock ∙ inserted_table 0 k k page es (omega arith) low;
  long = length-set parts.frame_dirty k true ∙ f.long ∙ sym (length-set es k (suc page));
}
  where
    now : (j : ℕ) → j ≡ k → slice_index (slice_set es k (suc page)) j ≡ suc page
    now j same = ap (λ (i : ℕ). slice_index (slice_set es k (suc page)) i) same ∙ get_or-set_same es k (suc page) 0 low

entries_filled : (plan : Plan) (n : ℕ) (words : List ℕ) (k : ℕ) → k ≤ n → IsFilled (fill n k words) (entries_placed k words (empty_parts plan n))
unfolding fill entries_placed
entries_filled plan n words zero h = empty_filled plan n
entries_filled plan n words (suc k) h =
    let long = fill_long n k words in
    entry_filled (slice_index words k) k (fill n k words) (entries_placed k words (empty_parts plan n)) (omega arith) (fill_past n k words k (omega arith)) (entries_filled plan n words k (omega arith))

-- ---- the rest is as it was

record SameRest (old new : Parts) : Type 0 where
  plan : new.plan ≡ old.plan
  frames : new.frames ≡ old.frames
  access : new.access ≡ old.access
  place : new.map.place ≡ old.map.place
  full_page : new.map.full_page ≡ old.map.full_page
  mini_owner : new.map.mini_owner ≡ old.map.mini_owner
  full_clock : new.full_clock ≡ old.full_clock
  mini_clock : new.mini_clock ≡ old.mini_clock
  queue : new.queue ≡ old.queue
  draws : new.draws ≡ old.draws
  tally : new.tally ≡ old.tally

rest_same : (parts : Parts) → SameRest parts parts
rest_same parts = record { plan = refl; frames = refl; access = refl; place = refl; full_page = refl; mini_owner = refl; full_clock = refl; mini_clock = refl; queue = refl; draws = refl; tally = refl }

rest_entry : (o : Option ℕ) (k : ℕ) (old parts : Parts) → SameRest old parts → SameRest old (entry_placed o k parts)
rest_entry None k old parts r = r
rest_entry (Some page) k old parts r = record {
  plan = r.plan;
  frames = r.frames;
  access = r.access;
  place = r.place;
  full_page = r.full_page;
  mini_owner = r.mini_owner;
  full_clock = r.full_clock;
  mini_clock = r.mini_clock;
  queue = r.queue;
  draws = r.draws;
  tally = r.tally;
}

rest_entries : (words : List ℕ) (parts : Parts) (k : ℕ) → SameRest parts (entries_placed k words parts)
unfolding entries_placed
rest_entries words parts zero = rest_same parts
rest_entries words parts (suc k) = rest_entry (named_page (slice_index words k)) k parts (entries_placed k words parts) (rest_entries words parts k)

-- two ways to a relation that is read back in one way
one_way : (f g owner : ℕ → Option ℕ) → Inverse f owner → Inverse g owner → (p : ℕ) → f p ≡ g p
one_way f g owner a b p = by (f p) (g p) refl refl
  where
    by : (x y : Option ℕ) → f p ≡ x → g p ≡ y → f p ≡ g p
    by (Some k) y e h = e ∙ sym ((b p k).1 ((a p k).0 e))
    by None (Some k) e h = (a p k).1 ((b p k).0 h) ∙ sym h
    by None None e h = e ∙ sym h

taken_was : (n : ℕ) (words : List ℕ) (i p : ℕ) → slice_index (take n words) i ≡ suc p → slice_index words i ≡ suc p
taken_was zero words i p h = absurd (omega arith)
taken_was (suc n) [] i p h = h
taken_was (suc n) (w ∷ words) zero p h = h
taken_was (suc n) (w ∷ words) (suc i) p h = taken_was n words i p h

module _ (plan : Plan) (n : ℕ) (words : List ℕ) (some : 1 ≤ plan.dram_frames) (long : length words ≡ n + 1) (table : IsTable words) where
  abbrev made : Parts
  made = entries_placed n words (empty_parts plan n)

  named : pred (length words) ≡ n
  named = ap pred long ∙ last n
    where
      last : (m : ℕ) → pred (m + 1) ≡ m
      last m = let one : m + 1 ≡ suc m = omega arith in ap pred one

  filled : IsFilled (take (pred (length words)) words) (entries_placed n words (empty_parts plan n))
  filled = subst (λ (es : List ℕ). IsFilled es (entries_placed n words (empty_parts plan n))) (filled_all n words (omega arith) ∙ ap (λ (m : ℕ). take m words) (sym named)) (entries_filled plan n words n (omega arith))

  rest : SameRest (empty_parts plan n) (entries_placed n words (empty_parts plan n))
  rest = rest_entries words (empty_parts plan n) n

  frames_taken : (entries_placed n words (empty_parts plan n)).frames ≡ length (take (pred (length words)) words)
  frames_taken = rest.frames ∙ sym (taken_long n words (omega arith)) ∙ ap (λ (m : ℕ). length (take m words)) (sym named)

  table_taken : IsTable (take (pred (length words)) words)
  table_taken i j page at_i at_j = table i j page (taken_was (pred (length words)) words i page at_i) (taken_was (pred (length words)) words j page at_j)

  same_frames : (page : ℕ) → (entries_placed n words (empty_parts plan n)).map.nvm page ≡ frame_naming page 0 (take (pred (length words)) words)
  unfolding opened
  same_frames page =
      one_way made.map.nvm (λ p. frame_naming p 0 (take (pred (length words)) words)) (λ k. named_page (slice_index (take (pred (length words)) words) k))
      (λ p k. (λ h. sym (filled.owner k) ∙ (agrees p k).0 h, λ h. (agrees p k).1 (filled.owner k ∙ h)))
      (opened-sound plan words some table_taken).held.agrees.nvm page
    where
      agrees : Inverse (entries_placed n words (empty_parts plan n)).map.nvm (entries_placed n words (empty_parts plan n)).map.frame_page
      agrees = (made_steady words plan n some table).agrees.nvm

  -- the state at the opening
  pub state_made : state_of 0 (entries_placed n words (empty_parts plan n)) ≡ opened plan words
  unfolding opened
  state_made = same_state (record {
    plan = rest.plan;
    frames = frames_taken;
    access = rest.access;
    map = same_map (record {
      place = λ page. ap (λ (f : ℕ → Place). f page) rest.place;
      nvm = same_frames;
      full_page = λ i. ap (λ (f : ℕ → Option ℕ). f i) rest.full_page;
      mini_owner = λ j. ap (λ (f : ℕ → Option ℕ). f j) rest.mini_owner;
      frame_page = filled.owner;
    });
    resident = λ page. ap (λ (f : ℕ → Place). resident_lines (copy_at (f page) made.arena made.minis)) rest.place ∙ blank_mask;
    dirty = λ page. ap (λ (f : ℕ → Place). dirty_at (f page) made.full_dirty made.minis) rest.place;
    frame_dirty = filled.marks;
    full_clock = rest.full_clock;
    mini_clock = rest.mini_clock;
    nvm_clock = filled.clock;
    queue = rest.queue;
    drawn = refl;
    tally = rest.tally;
  })

  pub shown_made : IsState (entries_placed n words (empty_parts plan n)) (opened plan words)
  shown_made =
      shown_at 0 made (opened plan words) state_made
      (rest.draws ∙ first_generator plan.seed ∙ ap (λ (p : Plan). generator_after p.seed 0) (sym rest.plan))
