-- Laws of replay: what it leaves, what it doesn't depend on, and what one entry more makes of it.
use Rattle.std.proofs.Common.{◌≡◌, ℕ, zero, suc, Bool, true, false, ◌||◌, List, [], ◌∷◌, ◌++◌, take, refl, sym, ap, ◌∙◌, inl, inr, cond, slice_index, append_assoc, append-nil}
use Rattle.std.proofs.lemmas.Bool.{cases_Bool, or_parts, cond-true, cond-false}
use Rattle.flat_store_meaning.specs.Log.{Words, Change, Item, Entry, Group, Log, names, named_in, named_in_groups, is_logged, changes, kept, written, redone, undone, applied, applied_with_cuts, applied_all, last_group, replayed_by, extended, grouped}
use Rattle.flat_store_meaning.specs.Log.Item.{write, cut}
use Rattle.flat_store_meaning.specs.Log.Entry.{item, commit, abort}
use Rattle.nvm_model.specs.declared.line.Line.{Line}

pub or_second : (x y : Bool) → x ≡ false → (x || y) ≡ true → y ≡ true
or_second true y e h = cc
or_second false y e h = h

-- a record writes what it names, and leaves the rest
pub written_named : (c : Change) (v : Line) (pages : Words) (p l w : ℕ) → names c p l w ≡ true → written c v pages p l w ≡ slice_index v.words w
written_named c v pages p l w h = cond-true (names c p l w) _ _ h

pub written_other : (c : Change) (v : Line) (pages : Words) (p l w : ℕ) → names c p l w ≡ false → written c v pages p l w ≡ pages p l w
written_other c v pages p l w h = cond-false (names c p l w) _ _ h

-- what is written at a word depends on that word alone
pub written_word : (c : Change) (v : Line) (a b : Words) (p l w : ℕ) → a p l w ≡ b p l w → written c v a p l w ≡ written c v b p l w
written_word c v a b p l w e = ap (λ x. cond (names c p l w) (slice_index v.words w) x) e

pub redone_word : (cs : List Change) (a b : Words) (p l w : ℕ) → a p l w ≡ b p l w → redone cs a p l w ≡ redone cs b p l w
redone_word [] a b p l w e = e
redone_word (c ∷ cs) a b p l w e = redone_word cs (written c c.after a) (written c c.after b) p l w (written_word c c.after a b p l w e)

pub undone_word : (cs : List Change) (a b : Words) (p l w : ℕ) → a p l w ≡ b p l w → undone cs a p l w ≡ undone cs b p l w
undone_word [] a b p l w e = e
undone_word (c ∷ cs) a b p l w e = written_word c c.before (undone cs a) (undone cs b) p l w (undone_word cs a b p l w e)

-- what no record names stays
pub redone_other : (cs : List Change) (pages : Words) (p l w : ℕ) → named_in cs p l w ≡ false → redone cs pages p l w ≡ pages p l w
redone_other [] pages p l w h = refl
redone_other (c ∷ cs) pages p l w h =
    let parts : (names c p l w ≡ false) × (named_in cs p l w ≡ false) = or_parts (names c p l w) (named_in cs p l w) h in
    redone_other cs (written c c.after pages) p l w parts.1 ∙ written_other c c.after pages p l w parts.0

pub undone_other : (cs : List Change) (pages : Words) (p l w : ℕ) → named_in cs p l w ≡ false → undone cs pages p l w ≡ pages p l w
undone_other [] pages p l w h = refl
undone_other (c ∷ cs) pages p l w h =
    let parts : (names c p l w ≡ false) × (named_in cs p l w ≡ false) = or_parts (names c p l w) (named_in cs p l w) h in
    written_other c c.before (undone cs pages) p l w parts.0 ∙ undone_other cs pages p l w parts.1

-- what a record names is the same whatever it was before
pub redone_named : (cs : List Change) (a b : Words) (p l w : ℕ) → named_in cs p l w ≡ true → redone cs a p l w ≡ redone cs b p l w
redone_named [] a b p l w h = cc
redone_named (c ∷ cs) a b p l w h = elim (cases_Bool (names c p l w)) [
  | inl here ↦ redone_word cs (written c c.after a) (written c c.after b) p l w
      (written_named c c.after a p l w here ∙ sym (written_named c c.after b p l w here))
  | inr not_here ↦ redone_named cs (written c c.after a) (written c c.after b) p l w (or_second (names c p l w) (named_in cs p l w) not_here h)
]

pub undone_named : (cs : List Change) (a b : Words) (p l w : ℕ) → named_in cs p l w ≡ true → undone cs a p l w ≡ undone cs b p l w
undone_named [] a b p l w h = cc
undone_named (c ∷ cs) a b p l w h = elim (cases_Bool (names c p l w)) [
  | inl here ↦ written_named c c.before (undone cs a) p l w here ∙ sym (written_named c c.before (undone cs b) p l w here)
  | inr not_here ↦ written_word c c.before (undone cs a) (undone cs b) p l w (undone_named cs a b p l w (or_second (names c p l w) (named_in cs p l w) not_here h))
]

-- a record more at the end
pub undone-append : (cs : List Change) (c : Change) (pages : Words) → undone (cs ++ c ∷ []) pages ≡ undone cs (written c c.before pages)
undone-append [] c pages = refl
undone-append (x ∷ cs) c pages = ap (written x x.before) (undone-append cs c pages)

pub changes-append : (items : List Item) (c : Change) → changes (items ++ write c ∷ []) ≡ changes items ++ c ∷ []
changes-append [] c = refl
changes-append (write x ∷ items) c = ap (λ cs. x ∷ cs) (changes-append items c)
changes-append (cut n ∷ items) c = changes-append items c

-- a group more at the end
pub applied_all-append : (apply : Group → Words → Words) (gs : List Group) (g : Group) (pages : Words) → applied_all apply (gs ++ g ∷ []) pages ≡ apply g (applied_all apply gs pages)
applied_all-append apply [] g pages = refl
applied_all-append apply (x ∷ gs) g pages = applied_all-append apply gs g (apply x pages)

-- entries that follow one another
pub grouped-append : (log : Log) (xs ys : List Entry) → grouped log (xs ++ ys) ≡ grouped (grouped log xs) ys
grouped-append log [] ys = refl
grouped-append log (x ∷ xs) ys = grouped-append (extended log x) xs ys

-- what is kept of a group is named in it
pub kept_other : (so_far : List Change) (items : List Item) (p l w : ℕ) → named_in so_far p l w ≡ false → named_in (changes items) p l w ≡ false → named_in (kept so_far items) p l w ≡ false
kept_other so_far [] p l w a b = a
kept_other so_far (write c ∷ items) p l w a b =
    let parts : (names c p l w ≡ false) × (named_in (changes items) p l w ≡ false) = or_parts (names c p l w) (named_in (changes items) p l w) b in
    kept_other (so_far ++ c ∷ []) items p l w (more so_far a parts.0) parts.1
  where
    more : (cs : List Change) → named_in cs p l w ≡ false → names c p l w ≡ false → named_in (cs ++ c ∷ []) p l w ≡ false
    more [] x y = or_from_false (names c p l w) false y refl
      where
        or_from_false : (x y : Bool) → x ≡ false → y ≡ false → (x || y) ≡ false
        or_from_false x y e f = rw (e, f)
    more (d ∷ cs) x y =
        let both : (names d p l w ≡ false) × (named_in cs p l w ≡ false) = or_parts (names d p l w) (named_in cs p l w) x in
        rw (both.0, more cs both.1 y)
kept_other so_far (cut n ∷ items) p l w a b = kept_other (take n so_far) items p l w (fewer n so_far a) b
  where
    fewer : (n : ℕ) (cs : List Change) → named_in cs p l w ≡ false → named_in (take n cs) p l w ≡ false
    fewer zero [] x = refl
    fewer zero (d ∷ cs) x = refl
    fewer (suc n) [] x = refl
    fewer (suc n) (d ∷ cs) x =
        let both : (names d p l w ≡ false) × (named_in cs p l w ≡ false) = or_parts (names d p l w) (named_in cs p l w) x in
        rw (both.0, fewer n cs both.1)

-- What both kinds of replay keep.
pub record IsReplay (apply : Group → Words → Words) : Type 0 where
  pub word : (g : Group) (a b : Words) (p l w : ℕ) → a p l w ≡ b p l w → apply g a p l w ≡ apply g b p l w
  pub other : (g : Group) (a : Words) (p l w : ℕ) → named_in (changes g.items) p l w ≡ false → apply g a p l w ≡ a p l w
  pub named : (g : Group) (a b : Words) (p l w : ℕ) → named_in (changes g.items) p l w ≡ true → apply g a p l w ≡ apply g b p l w
  pub back : (items : List Item) (a : Words) → apply (record { items = items; committed = false }) a ≡ undone (changes items) a

pub plain_replay : IsReplay applied
plain_replay = record {
  word = λ g a b p l w e. cond_at g.committed (redone (changes g.items) a) (undone (changes g.items) a) (redone (changes g.items) b) (undone (changes g.items) b) p l w
      (redone_word (changes g.items) a b p l w e) (undone_word (changes g.items) a b p l w e);
  other = λ g a p l w h. cond_at g.committed (redone (changes g.items) a) (undone (changes g.items) a) a a p l w
      (redone_other (changes g.items) a p l w h) (undone_other (changes g.items) a p l w h) ∙ one g.committed a p l w;
  named = λ g a b p l w h. cond_at g.committed (redone (changes g.items) a) (undone (changes g.items) a) (redone (changes g.items) b) (undone (changes g.items) b) p l w
      (redone_named (changes g.items) a b p l w h) (undone_named (changes g.items) a b p l w h);
  back = λ items a. refl;
}
  where
    cond_at : (b : Bool) (x y x' y' : Words) (p l w : ℕ) → x p l w ≡ x' p l w → y p l w ≡ y' p l w → (cond b x y) p l w ≡ (cond b x' y') p l w
    cond_at true x y x' y' p l w e f = e
    cond_at false x y x' y' p l w e f = f

    one : (b : Bool) (x : Words) (p l w : ℕ) → (cond b x x) p l w ≡ x p l w
    one true x p l w = refl
    one false x p l w = refl

pub replay_with_cuts : IsReplay applied_with_cuts
replay_with_cuts = record {
  word = λ g a b p l w e. cond_at g.committed (redone (kept [] g.items) (undone (changes g.items) a)) (undone (changes g.items) a)
      (redone (kept [] g.items) (undone (changes g.items) b)) (undone (changes g.items) b) p l w
      (redone_word (kept [] g.items) _ _ p l w (undone_word (changes g.items) a b p l w e)) (undone_word (changes g.items) a b p l w e);
  other = λ g a p l w h. cond_at g.committed (redone (kept [] g.items) (undone (changes g.items) a)) (undone (changes g.items) a) a a p l w
      (redone_other (kept [] g.items) _ p l w (kept_other [] g.items p l w refl h) ∙ undone_other (changes g.items) a p l w h)
      (undone_other (changes g.items) a p l w h) ∙ one g.committed a p l w;
  named = λ g a b p l w h. cond_at g.committed (redone (kept [] g.items) (undone (changes g.items) a)) (undone (changes g.items) a)
      (redone (kept [] g.items) (undone (changes g.items) b)) (undone (changes g.items) b) p l w
      (redone_word (kept [] g.items) _ _ p l w (undone_named (changes g.items) a b p l w h)) (undone_named (changes g.items) a b p l w h);
  back = λ items a. refl;
}
  where
    cond_at : (b : Bool) (x y x' y' : Words) (p l w : ℕ) → x p l w ≡ x' p l w → y p l w ≡ y' p l w → (cond b x y) p l w ≡ (cond b x' y') p l w
    cond_at true x y x' y' p l w e f = e
    cond_at false x y x' y' p l w e f = f

    one : (b : Bool) (x : Words) (p l w : ℕ) → (cond b x x) p l w ≡ x p l w
    one true x p l w = refl
    one false x p l w = refl

module _ (apply : Group → Words → Words) (is : IsReplay apply) where
  pub applied_all_word : (gs : List Group) (a b : Words) (p l w : ℕ) → a p l w ≡ b p l w → applied_all apply gs a p l w ≡ applied_all apply gs b p l w
  applied_all_word [] a b p l w e = e
  applied_all_word (g ∷ gs) a b p l w e = applied_all_word gs (apply g a) (apply g b) p l w (is.word g a b p l w e)

  -- replay at a word depends on that word alone
  pub replayed_word : (log : Log) (a b : Words) (p l w : ℕ) → a p l w ≡ b p l w → replayed_by apply log a p l w ≡ replayed_by apply log b p l w
  replayed_word log a b p l w e = is.word (last_group log) _ _ p l w (applied_all_word log.closed a b p l w e)

  pub applied_all_other : (gs : List Group) (a : Words) (p l w : ℕ) → named_in_groups gs p l w ≡ false → applied_all apply gs a p l w ≡ a p l w
  applied_all_other [] a p l w h = refl
  applied_all_other (g ∷ gs) a p l w h =
      let parts : (named_in (changes g.items) p l w ≡ false) × (named_in_groups gs p l w ≡ false) = or_parts (named_in (changes g.items) p l w) (named_in_groups gs p l w) h in
      applied_all_other gs (apply g a) p l w parts.1 ∙ is.other g a p l w parts.0

  -- what the log doesn't name is its home
  pub replayed_other : (log : Log) (a : Words) (p l w : ℕ) → is_logged log p l w ≡ false → replayed_by apply log a p l w ≡ a p l w
  replayed_other log a p l w h =
      let parts : (named_in_groups log.closed p l w ≡ false) × (named_in (changes log.open_items) p l w ≡ false) = or_parts (named_in_groups log.closed p l w) (named_in (changes log.open_items) p l w) h in
      is.other (last_group log) _ p l w parts.1 ∙ applied_all_other log.closed a p l w parts.0

  pub applied_all_named : (gs : List Group) (a b : Words) (p l w : ℕ) → named_in_groups gs p l w ≡ true → applied_all apply gs a p l w ≡ applied_all apply gs b p l w
  applied_all_named [] a b p l w h = cc
  applied_all_named (g ∷ gs) a b p l w h = elim (cases_Bool (named_in (changes g.items) p l w)) [
    | inl here ↦ applied_all_word gs (apply g a) (apply g b) p l w (is.named g a b p l w here)
    | inr not_here ↦ applied_all_named gs (apply g a) (apply g b) p l w (or_second (named_in (changes g.items) p l w) (named_in_groups gs p l w) not_here h)
  ]

  -- what the log names doesn't depend on the homes
  pub replayed_named : (log : Log) (a b : Words) (p l w : ℕ) → is_logged log p l w ≡ true → replayed_by apply log a p l w ≡ replayed_by apply log b p l w
  replayed_named log a b p l w h = elim (cases_Bool (named_in_groups log.closed p l w)) [
    | inl here ↦ is.word (last_group log) _ _ p l w (applied_all_named log.closed a b p l w here)
    | inr not_here ↦ is.named (last_group log) _ _ p l w (or_second (named_in_groups log.closed p l w) (named_in (changes log.open_items) p l w) not_here h)
  ]

  -- a record more at the end changes nothing where its before value is what replay gives, unless an earlier record of
  -- its group has the word
  pub replayed-record : (log : Log) (c : Change) (a : Words) (p l w : ℕ)
      → (names c p l w ≡ true → named_in (changes log.open_items) p l w ≡ false → replayed_by apply log a p l w ≡ slice_index c.before.words w)
      → replayed_by apply (extended log (item (write c))) a p l w ≡ replayed_by apply log a p l w
  replayed-record log c a p l w before =
      let homes : Words = applied_all apply log.closed a in
      let as_back : replayed_by apply log a p l w ≡ undone (changes log.open_items) homes p l w = ap (λ (x : Words). x p l w) (is.back log.open_items homes) in
      let more : replayed_by apply (extended log (item (write c))) a p l w ≡ undone (changes log.open_items) (written c c.before homes) p l w =
      ap (λ (x : Words). x p l w) (is.back (log.open_items ++ write c ∷ []) homes)
      ∙ ap (λ (cs : List Change). undone cs homes p l w) (changes-append log.open_items c)
      ∙ ap (λ (x : Words). x p l w) (undone-append (changes log.open_items) c homes) in
      elim (cases_Bool (named_in (changes log.open_items) p l w)) [
        | inl named ↦ more ∙ undone_named (changes log.open_items) _ homes p l w named ∙ sym as_back
        | inr unnamed ↦ elim (cases_Bool (names c p l w)) [
          | inl here ↦ more ∙ undone_other (changes log.open_items) _ p l w unnamed ∙ written_named c c.before homes p l w here ∙ sym (before here unnamed)
          | inr not_here ↦ more ∙ undone_other (changes log.open_items) _ p l w unnamed ∙ written_other c c.before homes p l w not_here
              ∙ sym (undone_other (changes log.open_items) homes p l w unnamed) ∙ sym as_back
        ]
      ]

-- a group without cuts
pub HasNoCut : List Item → Type 0
HasNoCut [] = Unit {0}
HasNoCut (write c ∷ items) = HasNoCut items
HasNoCut (cut n ∷ items) = ⊥

kept_all : (so_far : List Change) (items : List Item) → HasNoCut items → kept so_far items ≡ so_far ++ changes items
unfolding HasNoCut
kept_all so_far [] h = sym (append-nil so_far)
kept_all so_far (write c ∷ items) h = kept_all (so_far ++ c ∷ []) items h ∙ append_assoc so_far (c ∷ []) (changes items)
kept_all so_far (cut n ∷ items) h = absurd h

-- without cuts both kinds of replay are the same
pub same_without_cuts : (g : Group) (a : Words) (p l w : ℕ) → HasNoCut g.items → applied_with_cuts g a p l w ≡ applied g a p l w
same_without_cuts g a p l w h = by_end g.committed
  where
    cs : List Change
    cs = changes g.items

    same : redone (kept [] g.items) (undone (changes g.items) a) p l w ≡ redone (changes g.items) a p l w
    same = ap (λ (cs : List Change). redone cs (undone (changes g.items) a) p l w) (kept_all [] g.items h)
        ∙ elim (cases_Bool (named_in (changes g.items) p l w)) [
          | inl named ↦ redone_named (changes g.items) _ a p l w named
          | inr other ↦ redone_other (changes g.items) _ p l w other ∙ undone_other (changes g.items) a p l w other ∙ sym (redone_other (changes g.items) a p l w other)
        ]

    by_end : (b : Bool) → (cond b (redone (kept [] g.items) (undone (changes g.items) a)) (undone (changes g.items) a)) p l w ≡ (cond b (redone (changes g.items) a) (undone (changes g.items) a)) p l w
    by_end true = same
    by_end false = refl

-- what a log with one entry more names
unfoldable pub items_of : Entry → List Item
items_of (item x) = x ∷ []
items_of commit = []
items_of abort = []

named-append : (xs : List Item) (x : Item) (p l w : ℕ) → named_in (changes (xs ++ x ∷ [])) p l w ≡ (named_in (changes xs) p l w || named_in (changes (x ∷ [])) p l w)
named-append [] x p l w = refl
named-append (write c ∷ xs) x p l w = ap (λ b. names c p l w || b) (named-append xs x p l w) ∙ sym (or_assoc (names c p l w) (named_in (changes xs) p l w) (named_in (changes (x ∷ [])) p l w))
  where
    or_assoc : (a b c : Bool) → ((a || b) || c) ≡ (a || (b || c))
    or_assoc true b c = refl
    or_assoc false b c = refl
named-append (cut n ∷ xs) x p l w = named-append xs x p l w

named_groups-append : (gs : List Group) (g : Group) (p l w : ℕ) → named_in_groups (gs ++ g ∷ []) p l w ≡ (named_in_groups gs p l w || named_in (changes g.items) p l w)
named_groups-append [] g p l w = or_false (named_in (changes g.items) p l w)
  where
    or_false : (a : Bool) → (a || false) ≡ a
    or_false true = refl
    or_false false = refl
named_groups-append (x ∷ gs) g p l w = ap (λ b. named_in (changes x.items) p l w || b) (named_groups-append gs g p l w)
    ∙ sym (or_assoc (named_in (changes x.items) p l w) (named_in_groups gs p l w) (named_in (changes g.items) p l w))
  where
    or_assoc : (a b c : Bool) → ((a || b) || c) ≡ (a || (b || c))
    or_assoc true b c = refl
    or_assoc false b c = refl

pub is_logged-extended : (log : Log) (e : Entry) (p l w : ℕ) → is_logged (extended log e) p l w ≡ (is_logged log p l w || named_in (changes (items_of e)) p l w)
unfolding items_of
is_logged-extended log (item x) p l w = ap (λ b. named_in_groups log.closed p l w || b) (named-append log.open_items x p l w)
    ∙ sym (or_assoc (named_in_groups log.closed p l w) (named_in (changes log.open_items) p l w) (named_in (changes (x ∷ [])) p l w))
  where
    or_assoc : (a b c : Bool) → ((a || b) || c) ≡ (a || (b || c))
    or_assoc true b c = refl
    or_assoc false b c = refl
is_logged-extended log commit p l w = ap (λ b. b || false) (named_groups-append log.closed (record { items = log.open_items; committed = true }) p l w)
is_logged-extended log abort p l w = ap (λ b. b || false) (named_groups-append log.closed (record { items = log.open_items; committed = false }) p l w)

-- what was logged stays so
pub not_logged_before : (log : Log) (e : Entry) (p l w : ℕ) → is_logged (extended log e) p l w ≡ false → is_logged log p l w ≡ false
not_logged_before log e p l w h = (or_parts (is_logged log p l w) (named_in (changes (items_of e)) p l w) (sym (is_logged-extended log e p l w) ∙ h)).0

-- a word that only the last record names
pub replayed-record_named : (apply : Group → Words → Words) → IsReplay apply → (log : Log) (c : Change) (a : Words) (p l w : ℕ) → names c p l w ≡ true → named_in (changes log.open_items) p l w ≡ false
    → replayed_by apply (extended log (item (write c))) a p l w ≡ slice_index c.before.words w
replayed-record_named apply is log c a p l w here unnamed =
    let homes : Words = applied_all apply log.closed a in
    ap (λ (x : Words). x p l w) (is.back (log.open_items ++ write c ∷ []) homes)
    ∙ ap (λ (cs : List Change). undone cs homes p l w) (changes-append log.open_items c)
    ∙ ap (λ (x : Words). x p l w) (undone-append (changes log.open_items) c homes)
    ∙ undone_other (changes log.open_items) _ p l w unnamed ∙ written_named c c.before homes p l w here

-- an abort at the end changes nothing: the group behind the last end was undone already
pub replayed-abort : (apply : Group → Words → Words) → IsReplay apply → (log : Log) (a : Words) (p l w : ℕ) → replayed_by apply (extended log abort) a p l w ≡ replayed_by apply log a p l w
replayed-abort apply is log a p l w =
    ap (λ (x : Words). x p l w) (is.back [] (applied_all apply (log.closed ++ last_group log ∷ []) a))
    ∙ ap (λ (x : Words). x p l w) (applied_all-append apply log.closed (last_group log) a)
