-- The pages of a tree before and after the rows of a leaf were changed: the leaf, a page above it, and the root.
use Rattle.std.proofs.Common.{◌≡◌, ◌≢◌, ℕ, zero, suc, ◌+◌, ◌-◌, ◌<◌, ◌≤◌, ◌⊎◌, inl, inr, Bool, true, false, List, [], ◌∷◌, ◌++◌, length, Option, Some, None, refl, sym, ap, subst, ◌∙◌, arith, append_assoc, length-append}
use Rattle.std.proofs.lemmas.Bool.{cases_Bool, cases_lt, eq-eqb, lt-ltb}
use Rattle.line_pages.specs.Lines.{Lines}
use Rattle.line_pages.specs.Bytes.{bytes_of, page_bytes}
use Rattle.line_pages.proofs.ByteLaws.{length-page_bytes}
use Rattle.page_format.specs.declared.root.Expect.{Expect}
use Rattle.rows.specs.Rows.{Row}
use Rattle.page_format.specs.Room.{leaf_room, leaf_floor}
use Rattle.page_format.specs.Spans.{reach}
use Rattle.page_format.specs.Sound.{row_bytes}
use Rattle.page_format.specs.Node.{Child, leaf_rows, children, entry_count, IsWellFormed}
use Rattle.page_format.proofs.FactLemmas.{leaf_used_is}
use Rattle.page_format.proofs.PageFacts.{leaf_facts, inner_facts}
use Rattle.page_format.proofs.InnerLemmas.{length_children}
use Rattle.page_edit.specs.Join.{unused_word}
use Rattle.node_edit.specs.declared.fit.Fit.{Fit}
use Rattle.node_edit.specs.declared.fit.Fit.TheVariants as fits
use Rattle.node_edit.specs.declared.pair.Pair.{Pair}
use Rattle.node_edit.specs.Edit.{loose, Fits, IsPairAt, PairsUp, IsNewRoot, both, joined}
use Rattle.node_edit.specs.Record.{FitsLeaf}
use Rattle.node_edit.specs.Cuts.{CutsRows, CutsChildren, JoinsRows, JoinsChildren}
use Rattle.tree_search.specs.declared.root.Root.{Root}
use Rattle.tree_search.specs.Tree.{IsTree, tree_pages, tree_rows, pages_of}
use Rattle.page_alloc.specs.Counted.{times, SameOn}
use Rattle.page_alloc.specs.Space.{high_of, IsFreeList}
use Rattle.page_alloc.specs.Moves.{below, ArePart, Moves, Takes}
use Rattle.page_alloc.specs.Written.{Rewrites}
use Rattle.bplus_tree.specs.declared.outcome.Outcome.{Outcome}
use Rattle.bplus_tree.specs.declared.outcome.Outcome.TheVariants.{Whole, Short, Cut, Alone}
use Rattle.bplus_tree.specs.Edit.{Became, IsOutcome, Shows, Stores, Added, IsMendable, MendsPages, PairJoined, JoinsPair, MendWritten, MendGiven, Rewritten, left_pages, after_fit}
use Rattle.bplus_tree.specs.PageChanges.{rows_at, children_at, ChangesOnly, LeafHolds, InnerHolds, PairHolds, JoinsSibling, IsRootOver, CutsLeaf}
use Rattle.page_alloc.proofs.CountedLaws.{times-append, SameOn-first}
use Rattle.page_alloc.proofs.MovesLaws.{Moves-trans}
use Rattle.page_alloc.proofs.Places.{Moves-widen, Moves-write, part_after, same_beside}
use Rattle.bplus_tree.proofs.Editing.{at_level, three_pages}
use Rattle.bplus_tree.proofs.Joined.{JoinWritten, RightIs, two_apart}

-- pages that pass between a tree and the free list are the only ones that change
pub only_moved : (count : ℕ) (old new : Lines) (pages pages' free rest : List ℕ) → IsFreeList old free → Moves count old new pages pages' free rest → ChangesOnly pages old new
only_moved count old new pages pages' free rest is m = record { free = free; is_free = is; others = λ n some low out. m.others n some out (inl low) }

-- a well-formed leaf has room for its rows, and enough of them
fits_leaf : (bytes : List ℕ) (e : Expect) → length bytes ≡ 4096 → e.level ≡ 0 → IsWellFormed bytes e → FitsLeaf (e.root ≡ true) (leaf_rows bytes)
fits_leaf bytes e size level well =
    let facts = leaf_facts bytes e level well in
    let used = leaf_used_is bytes (record { size = size; kind = facts.kind; level = facts.level ∙ level; below_heap = facts.below_heap; heap = facts.heap; in_heap = facts.in_heap; apart = facts.apart }) in (
      omega (arith, facts.used, used),
      elim (cases_Bool e.root) [
        | inl as_root ↦ inl as_root
        | inr below_root ↦ inr (omega (arith, facts.full below_root, used))
      ],
    )

-- what a leaf holds after its rows were changed
pub leaf_holds : (e : Expect) (old new : Lines) (page : ℕ) (outcome : Outcome) (rows' : List Row) (free : List ℕ) → Became e.pages old new 0 page e.low e.high e.root outcome rows' free → (FitsLeaf (e.root ≡ true) rows' → outcome ≡ Whole)
    → CutsLeaf rows' new page outcome → LeafHolds new page e.root rows' outcome
leaf_holds e old new page Whole rows' free b fits cut =
    let held = fits_leaf (bytes_of new page) (at_level e 0) (length-page_bytes (new page)) refl b.tree in
    (b.rows, subst (λ (rows : List Row). FitsLeaf (e.root ≡ true) rows) b.rows held)
leaf_holds e old new page Short rows' free b fits cut =
    let held = fits_leaf (bytes_of new page) (loose (at_level e 0)) (length-page_bytes (new page)) refl b.tree in
    let room : row_bytes rows' ≤ leaf_room = subst (λ (rows : List Row). row_bytes rows ≤ leaf_room) b.rows held.0 in
    elim (cases_Bool e.root) [
      | inl as_root ↦ let never = fits (room, inl as_root) in absurd (cc)
      | inr below_root ↦ elim (cases_lt (row_bytes rows') leaf_floor) [
        | inl few ↦ (b.rows, below_root, few)
        | inr enough ↦ let never = fits (room, inr (omega (arith, enough))) in absurd (cc)
      ]
    ]
leaf_holds e old new page (Cut separator right) rows' free b fits cut = cut
leaf_holds e old new page (Alone child) rows' free b fits cut = absurd (omega (arith, b.tree.1))

-- a well-formed inner page has room for its children, and enough of them
fits_inner : (bytes : List ℕ) (e : Expect) → e.level ≢ 0 → IsWellFormed bytes e → (length (children bytes) ≤ 240) × ((e.root ≡ true) ⊎ (80 ≤ length (children bytes)))
fits_inner bytes e above well =
    let facts = inner_facts bytes e above well in
    let size = length_children bytes in (
      omega (arith, facts.room, size),
      elim (cases_Bool e.root) [
        | inl as_root ↦ inl as_root
        | inr below_root ↦ inr (omega (arith, facts.full below_root, size))
      ],
    )

held_inner : (e : Expect) (new : Lines) (page : ℕ) (all : List Child) (left right : List ℕ) (fit : Fit) (outcome : Outcome) → e.level ≢ 0 → Shows new page outcome left right → Fits children e left right all fit → IsOutcome e.pages fit outcome → fit ≢ fits.Short
    → ((k : ℕ) → fit ≡ fits.Cut k → CutsChildren all (children left) (children right) k) → InnerHolds new page e.root all outcome
held_inner e new page all left right fits.Whole Whole above shows fit is long parts =
    let held = fits_inner left e above fit.well in (
      ap children shows ∙ fit.are,
      subst (λ (cs : List Child). length cs ≤ 240) fit.are held.0,
      subst (λ (cs : List Child). (e.root ≡ true) ⊎ (80 ≤ length cs)) fit.are held.1,
    )
held_inner e new page all left right fits.Whole Short above shows fit is long parts = absurd (cc)
held_inner e new page all left right fits.Whole (Cut key more) above shows fit is long parts = absurd (cc)
held_inner e new page all left right fits.Whole (Alone child) above shows fit is long parts = absurd (cc)
held_inner e new page all left right fits.Short outcome above shows fit is long parts = absurd (long refl)
held_inner e new page all left right (fits.Cut at) Whole above shows fit is long parts = absurd is
held_inner e new page all left right (fits.Cut at) Short above shows fit is long parts = absurd is
held_inner e new page all left right (fits.Cut at) (Alone child) above shows fit is long parts = absurd is
held_inner e new page all left right (fits.Cut at) (Cut key more) above shows fit is long parts =
    subst (λ (k : ℕ). CutsChildren all (children (bytes_of new page)) (children (bytes_of new more)) k) (sym is.0)
    (subst (λ (b : List ℕ). CutsChildren all (children b) (children (bytes_of new more)) at) (sym shows.0)
    (subst (λ (b : List ℕ). CutsChildren all (children left) (children b) at) (sym shows.1) (parts at refl)))

pub added_holds : (e : Expect) (old new : Lines) (page : ℕ) (all : List Child) (outcome : Outcome) (free : List ℕ) → e.level ≢ 0 → Added old new page e all outcome free → InnerHolds new page e.root all outcome
added_holds e old new page all outcome free above a = held_inner e new page all a.left a.right a.fit outcome above a.stored.shows a.held a.is a.long a.parts

-- two neighbours that were joined
pair_holds : (level : ℕ) (one two left right : List ℕ) (cut : Option ℕ) → (level ≡ 0 → JoinsRows (leaf_rows one ++ leaf_rows two) (leaf_rows left) (leaf_rows right) cut) → (1 ≤ level → JoinsChildren (children one ++ children two) (children left) (children right) cut)
    → PairHolds level one two left right cut
pair_holds zero one two left right cut leaves inner = leaves refl
pair_holds (suc level) one two left right cut leaves inner = inner (omega arith)

pair_kept : (level : ℕ) (one two left right right' : List ℕ) (cut : Option ℕ) → ((k : ℕ) → cut ≡ Some k → right' ≡ right) → PairHolds level one two left right cut → PairHolds level one two left right' cut
pair_kept zero one two left right right' None kept holds = holds
pair_kept (suc level) one two left right right' None kept holds = holds
pair_kept zero one two left right right' (Some k) kept holds = subst (λ (b : List ℕ). PairHolds 0 one two left b (Some k)) (sym (kept k refl)) holds
pair_kept (suc level) one two left right right' (Some k) kept holds = subst (λ (b : List ℕ). PairHolds (suc level) one two left b (Some k)) (sym (kept k refl)) holds

right_kept : (lines : Lines) (pair : Pair) (right : List ℕ) (cut : Option ℕ) → RightIs lines pair right cut → (k : ℕ) → cut ≡ Some k → bytes_of lines pair.right ≡ right
right_kept lines pair right None is k e = absurd (cc)
right_kept lines pair right (Some j) is k e = is

IsLow : List ℕ → List ℕ → Type 0
IsLow one two = (row_bytes (leaf_rows one) < leaf_floor) ⊎ (row_bytes (leaf_rows two) < leaf_floor)

pub pair_joined : (count : ℕ) (old first new : Lines) (level : ℕ) (pair : Pair) (cut : Option ℕ) (one two left right : List ℕ) → first ≡ old → one ≡ bytes_of old pair.left → two ≡ bytes_of old pair.right
    → (level ≡ 0 → ((row_bytes (leaf_rows one) < 1344) ⊎ (row_bytes (leaf_rows two) < 1344)) → JoinsRows (leaf_rows one ++ leaf_rows two) (leaf_rows left) (leaf_rows right) cut)
    → (1 ≤ level → JoinsChildren (children one ++ children two) (children left) (children right) cut)
    → ((free : List ℕ) → IsFreeList first free → ArePart first (pair.left ∷ pair.right ∷ free) → high_of first ≤ count → JoinWritten count first new pair cut left right free) → JoinsPair count old new level pair cut
pair_joined count old first new level pair cut one two left right same one_is two_is leaves inner writes free is whole within low =
    let w = subst (λ (lines : Lines). (free : List ℕ) → IsFreeList lines free → ArePart lines (pair.left ∷ pair.right ∷ free) → high_of lines ≤ count → JoinWritten count lines new pair cut left right free) same writes free is whole within in
    let low_one : level ≡ 0 → (row_bytes (leaf_rows one) < 1344) ⊎ (row_bytes (leaf_rows two) < 1344) =
    λ ground. subst (λ (b : List ℕ). (row_bytes (leaf_rows b) < 1344) ⊎ (row_bytes (leaf_rows two) < 1344)) (sym one_is)
    (subst (λ (b : List ℕ). (row_bytes (leaf_rows (bytes_of old pair.left)) < 1344) ⊎ (row_bytes (leaf_rows b) < 1344)) (sym two_is) (low ground)) in
    let held = pair_holds level one two left right cut (λ ground. leaves ground (low_one ground)) inner in
    let now = pair_kept level one two left right (bytes_of new pair.right) cut (right_kept new pair right cut w.right_is) held in
    record {
      rest = w.rest;
      moves = w.moves;
      holds = subst (λ (b : List ℕ). PairHolds level b (bytes_of old pair.right) (bytes_of new pair.left) (bytes_of new pair.right) cut) one_is
          (subst (λ (b : List ℕ). PairHolds level one b (bytes_of new pair.left) (bytes_of new pair.right) cut) two_is
          (subst (λ (b : List ℕ). PairHolds level one two b (bytes_of new pair.right) cut) (sym w.left_is) now));
    }

-- a child with its right sibling, or with its left one where it is the last
record PairSplit (all : List Child) (s : Child) (high : ℕ) (pair : Pair) : Type 0 where
  front : List Child
  back : List Child
  is : all ≡ front ++ (both pair ++ back)
  reach_is : reach back high ≡ pair.high
  side : (pair.low ≡ s.0) ⊎ ((pair.middle ≡ s.0) × (back ≡ []))
  own : (s.1 ≡ pair.left) ⊎ (s.1 ≡ pair.right)

pair_split : (all : List Child) (high : ℕ) (xs ys : List Child) (s : Child) (pair : Pair) → IsPairAt xs s ys high pair → all ≡ xs ++ ((s ∷ []) ++ ys) → PairSplit all s high pair
pair_split all high xs (y ∷ ys) s pair p was = subst (λ (q : Pair). PairSplit all s high q) (sym p) (record { front = xs; back = ys; is = was; reach_is = refl; side = inl refl; own = inl refl })
pair_split all high xs [] s pair p was =
    subst (λ (q : Pair). PairSplit all s high q) (sym p.3) (record {
      front = p.0;
      back = [];
      is = was ∙ ap (λ (l : List Child). l ++ (s ∷ [])) p.2 ∙ append_assoc p.0 (p.1 ∷ []) (s ∷ []);
      reach_is = refl;
      side = inr (refl, refl);
      own = inr refl;
    })

-- a tree has its own page
head_page : (lines : Lines) (level page n : ℕ) → times n (page ∷ []) ≤ times n (tree_pages lines level page)
head_page lines zero page n = omega arith
head_page lines (suc level) page n = omega arith

mended_holds : (e : Expect) (new : Lines) (page : ℕ) (all : List Child) (bytes : List ℕ) (fit : Fit) (outcome : Outcome) → e.level ≢ 0 → bytes_of new page ≡ bytes → Fits children e bytes bytes all fit → ((k : ℕ) → fit ≢ fits.Cut k)
    → (fit ≡ fits.Short → (e.root ≡ false) × (length (children bytes) < 80)) → outcome ≡ after_fit fit → InnerHolds new page e.root all outcome
mended_holds e new page all bytes fits.Whole outcome above shows fit uncut short is =
    subst (λ (o : Outcome). InnerHolds new page e.root all o) (sym is) (held_inner e new page all bytes bytes fits.Whole Whole above shows fit refl (λ x. cc) (λ k x. absurd (cc)))
mended_holds e new page all bytes fits.Short outcome above shows fit uncut short is =
    let s = short refl in
    subst (λ (o : Outcome). InnerHolds new page e.root all o) (sym is) (ap children shows ∙ fit.are, s.0, subst (λ (cs : List Child). length cs < 80) fit.are s.1)
mended_holds e new page all bytes (fits.Cut k) outcome above shows fit uncut short is = absurd (uncut k refl)

no_children : (xs : List Child) → length xs ≤ 0 → xs ≡ []
no_children [] none = refl
no_children (x ∷ xs) none = absurd (omega (arith, none))

alone_left : (pair : Pair) (front back all : List Child) → all ≡ front ++ (both pair ++ back) → length all < 3 → front ++ (joined pair None ++ back) ≡ (pair.low, pair.left) ∷ []
alone_left pair front back all is few =
    let size = ap length is ∙ length-append front (both pair ++ back) in
    let first = no_children front (omega (arith, size, few)) in
    let last = no_children back (omega (arith, size, few)) in
    ap (λ (f : List Child). f ++ (joined pair None ++ back)) first ∙ ap (λ (b : List Child). (pair.low, pair.left) ∷ b) last

-- what is known of the page above two neighbours once they were joined
record Between (e : Expect) (old mid : Lines) (page key level count : ℕ) (pair : Pair) (cut : Option ℕ) (free : List ℕ) : Type 0 where
  split_at : Child
  key_is : split_at.0 ≡ key
  split : PairSplit (children (bytes_of old page)) split_at e.high pair
  join : PairJoined count old mid level pair cut free
  whole : ArePart old ((page ∷ pair.left ∷ pair.right ∷ []) ++ free)
  same : mid page ≡ old page

between : (e : Expect) (old mid : Lines) (page key level count : ℕ) (pair : Pair) (cut : Option ℕ) (free : List ℕ) → count ≡ e.pages → PairsUp (children (bytes_of old page)) e.high key pair → JoinsPair count old mid level pair cut
    → (m : IsMendable old page e key level free) → (level ≡ 0 → row_bytes (rows_at old m.s.1) < leaf_floor) → Between e old mid page key level count pair cut free
between e old mid page key level count pair cut free is_count pairs joins m low =
    let kids = children (bytes_of old page) in
    let split = pair_split kids e.high m.xs m.ys m.s pair (pairs m.xs m.ys m.s m.at_key m.are) m.are in
    let whole : ArePart old ((page ∷ pair.left ∷ pair.right ∷ []) ++ free) =
    λ n. omega (
      arith,
      m.parted n,
      times-append n (pages_of old level kids) free,
      ap (λ (all : List Child). times n (pages_of old level all)) split.is,
      three_pages old level split.front (both pair) split.back n,
      times-append n (tree_pages old level pair.left) (tree_pages old level pair.right ++ []),
      times-append n (tree_pages old level pair.right) [],
      head_page old level pair.left n,
      head_page old level pair.right n,
    ) in
    let join = joins free m.is_free (λ n. omega (arith, whole n)) (omega (arith, m.within, is_count)) (λ ground. elim split.own [
      | inl one ↦ inl (subst (λ (c : ℕ). row_bytes (rows_at old c) < leaf_floor) one (low ground))
      | inr two ↦ inr (subst (λ (c : ℕ). row_bytes (rows_at old c) < leaf_floor) two (low ground))
    ]) in
    record {
      split_at = m.s;
      key_is = m.at_key;
      split = split;
      join = join;
      whole = whole;
      same = SameOn-first page [] old mid (same_beside (page ∷ pair.left ∷ pair.right ∷ []) (page ∷ []) whole join.moves (λ n. omega arith));
    }

side_at : (pair : Pair) (back : List Child) (a key : ℕ) → a ≡ key → (pair.low ≡ a) ⊎ ((pair.middle ≡ a) × (back ≡ [])) → (pair.low ≡ key) ⊎ ((pair.middle ≡ key) × (back ≡ []))
side_at pair back a key is (inl low) = inl (low ∙ is)
side_at pair back a key is (inr last) = inr (last.0 ∙ is, last.1)

-- the page above is written
sibling_written : (e : Expect) (old mid new : Lines) (page key level count : ℕ) (pair : Pair) (cut : Option ℕ) (outcome : Outcome) (free : List ℕ) → e.level ≢ 0 → IsFreeList old free → Between e old mid page key level count pair cut free
    → MendWritten mid new page e pair cut outcome → JoinsSibling old new level page e.root key outcome
sibling_written e old mid new page key level count pair cut outcome free above is_free b w =
    let m1 = Moves-widen (page ∷ pair.left ∷ pair.right ∷ []) (page ∷ left_pages pair cut) b.join.moves (λ n. omega arith) (λ n. omega arith) in
    let after : ArePart mid ((page ∷ left_pages pair cut) ++ b.join.rest) = part_after b.whole m1 in
    let wrote = Moves-write count mid new page w.bytes b.join.rest w.wrote b.join.moves.is_free (λ n. omega (arith, after n, times-append n (left_pages pair cut) b.join.rest)) b.join.moves.within in
    let m2 = Moves-widen (page ∷ left_pages pair cut) (page ∷ left_pages pair cut) wrote.moves (λ n. omega arith) (λ n. omega arith) in
    let left_same : new pair.left ≡ mid pair.left = w.wrote.others pair.left (λ x. two_apart old page pair.left (pair.right ∷ free) b.whole (sym x)) in
    let right_same : new pair.right ≡ mid pair.right = w.wrote.others pair.right (λ x. two_apart old page pair.right (pair.left ∷ free) (λ n. omega (arith, b.whole n)) (sym x)) in
    let kids : children (bytes_of mid page) ≡ b.split.front ++ (both pair ++ b.split.back) = ap (λ p. children (page_bytes p)) b.same ∙ b.split.is in
    let fit = w.mended b.split.front b.split.back kids b.split.reach_is in
    record {
      pair = pair;
      front = b.split.front;
      back = b.split.back;
      are = b.split.is;
      sibling = side_at pair b.split.back b.split_at.0 key b.key_is b.split.side;
      cut = cut;
      joins = subst (λ p. PairHolds level (bytes_of old pair.left) (bytes_of old pair.right) (page_bytes p) (bytes_of new pair.right) cut) (sym left_same)
          (subst (λ p. PairHolds level (bytes_of old pair.left) (bytes_of old pair.right) (bytes_of mid pair.left) (page_bytes p) cut) (sym right_same) b.join.holds);
      above = mended_holds e new page (b.split.front ++ (joined pair cut ++ b.split.back)) w.bytes w.fit outcome above w.wrote.bytes_are fit w.uncut w.short w.is;
      only = only_moved count old new (page ∷ pair.left ∷ pair.right ∷ []) (page ∷ left_pages pair cut) free b.join.rest is_free (Moves-trans m1 m2);
    }

-- or given back, and its one child is left
sibling_alone : (e : Expect) (old mid new : Lines) (page key level count : ℕ) (pair : Pair) (outcome : Outcome) (free : List ℕ) → e.level ≢ 0 → IsFreeList old free → IsWellFormed (bytes_of old page) e → Between e old mid page key level count pair None free
    → MendGiven count mid new page pair None outcome → JoinsSibling old new level page e.root key outcome
sibling_alone e old mid new page key level count pair outcome free above is_free well b v =
    let m1 = Moves-widen (page ∷ pair.left ∷ pair.right ∷ []) (page ∷ pair.left ∷ []) b.join.moves (λ n. omega arith) (λ n. omega arith) in
    let after : ArePart mid ((page ∷ pair.left ∷ []) ++ b.join.rest) = part_after b.whole m1 in
    let given = v.gives b.join.rest b.join.moves.is_free (λ n. omega (arith, after n)) b.join.moves.within in
    let m2 = Moves-widen (page ∷ pair.left ∷ []) (pair.left ∷ []) given.moves (λ n. omega arith) (λ n. omega arith) in
    let left_same : new pair.left ≡ mid pair.left = SameOn-first pair.left [] mid new (same_beside (page ∷ pair.left ∷ []) (pair.left ∷ []) after given.moves (λ n. omega arith)) in
    let now = pair_kept level (bytes_of old pair.left) (bytes_of old pair.right) (bytes_of mid pair.left) (bytes_of mid pair.right) (bytes_of new pair.right) None (λ k x. absurd (cc)) b.join.holds in
    let few : entry_count (bytes_of old page) < 3 = subst (λ p. entry_count (page_bytes p) < 3) b.same v.few in
    let facts = inner_facts (bytes_of old page) e above well in
    let one : (e.root ≡ true) × (low : ℕ) × (b.split.front ++ (joined pair None ++ b.split.back) ≡ (low, pair.left) ∷ []) = (
      elim (cases_Bool e.root) [
        | inl as_root ↦ as_root
        | inr below_root ↦ absurd (omega (arith, facts.full below_root, few))
      ],
      pair.low,
      alone_left pair b.split.front b.split.back (children (bytes_of old page)) b.split.is (omega (arith, few, length_children (bytes_of old page))),
    ) in
    record {
      pair = pair;
      front = b.split.front;
      back = b.split.back;
      are = b.split.is;
      sibling = side_at pair b.split.back b.split_at.0 key b.key_is b.split.side;
      cut = None;
      joins = subst (λ p. PairHolds level (bytes_of old pair.left) (bytes_of old pair.right) (page_bytes p) (bytes_of new pair.right) None) (sym left_same) now;
      above = subst (λ (o : Outcome). InnerHolds new page e.root (b.split.front ++ (joined pair None ++ b.split.back)) o) (sym v.is) one;
      only = only_moved count old new (page ∷ pair.left ∷ pair.right ∷ []) (pair.left ∷ []) free (page ∷ b.join.rest) is_free (Moves-trans m1 m2);
    }

sibling_left : (e : Expect) (old mid new : Lines) (page key level count : ℕ) (pair : Pair) (cut : Option ℕ) (outcome : Outcome) (free : List ℕ) → e.level ≢ 0 → IsFreeList old free → IsWellFormed (bytes_of old page) e
    → Between e old mid page key level count pair cut free → Rewritten count mid new page e pair cut outcome → JoinsSibling old new level page e.root key outcome
sibling_left e old mid new page key level count pair cut outcome free above is_free well b (inl w) = sibling_written e old mid new page key level count pair cut outcome free above is_free b w
sibling_left e old mid new page key level count pair cut outcome free above is_free well b (inr v) =
    sibling_alone e old mid new page key level count pair outcome free above is_free well (subst (λ (c : Option ℕ). Between e old mid page key level count pair c free) v.none b)
    (subst (λ (c : Option ℕ). MendGiven count mid new page pair c outcome) v.none v)

pub mends_pages : (e : Expect) (old first mid new : Lines) (page key count : ℕ) (pair : Pair) (cut : Option ℕ) (outcome : Outcome) (buffer : List ℕ) → count ≡ e.pages → first ≡ old → buffer ≡ bytes_of old page → PairsUp (children buffer) e.high key pair
    → JoinsPair count first mid (e.level - 1) pair cut → Rewritten count mid new page e pair cut outcome → MendsPages old new page e key outcome
mends_pages e old first mid new page key count pair cut outcome buffer is_count same are pairs joins rewritten level free m low =
    let here = subst (λ (b : List ℕ). PairsUp (children b) e.high key pair) are pairs in
    let at : e.level - 1 ≡ level = omega (arith, m.is_level) in
    let join = subst (λ (l : ℕ). JoinsPair count old mid l pair cut) at (subst (λ (lines : Lines). JoinsPair count lines mid (e.level - 1) pair cut) same joins) in
    let b = between e old mid page key level count pair cut free is_count here join m low in
    sibling_left e old mid new page key level count pair cut outcome free (λ ground. omega (arith, ground, m.is_level)) m.is_free m.well b rewritten

-- a new root over two pages, one of which was taken for it
pub root_over : (count n : ℕ) (mid a new : Lines) (root : Root) (top separator right : ℕ) (bytes rest : List ℕ) → Takes count mid a top → Rewrites top bytes a new → IsNewRoot bytes root.levels root.page separator right n → unused_word bytes ≡ 0
    → IsFreeList mid rest → IsRootOver mid new root (record { page = top; levels = root.levels + 1 }) separator right
root_over count n mid a new root top separator right bytes rest takes wrote made unused is =
    let t = takes rest is in
    record {
      levels = refl;
      children_are = ap children wrote.bytes_are ∙ made.are;
      unused = ap unused_word wrote.bytes_are ∙ unused;
      only = record {
        free = rest;
        is_free = is;
        others = λ i some low out.
            let apart : i ≢ top = λ same.
            let one : below i (high_of mid) ≡ 1 = rw (lt-ltb i (high_of mid) low) refl in
            let two : below i (high_of a) ≡ 1 = rw (lt-ltb i (high_of a) (omega (arith, low, t.moves.higher))) refl in
            let own = rw (eq-eqb top i (sym same)) at (t.moves.kept i) in
            omega (arith, own, one, two, out) in
            wrote.others i apart ∙ t.moves.others i some out (inl low);
      };
    }

-- a leaf that was written, and a further page where it was cut
stored_cuts : (n : ℕ) (new : Lines) (page : ℕ) (rows : List Row) (left right : List ℕ) (fit : Fit) (outcome : Outcome) → ((k : ℕ) → fit ≡ fits.Cut k → CutsRows rows (leaf_rows left) (leaf_rows right) k) → IsOutcome n fit outcome
    → Shows new page outcome left right → CutsLeaf rows new page outcome
stored_cuts n new page rows left right fit Whole parts is shows = tt
stored_cuts n new page rows left right fit Short parts is shows = tt
stored_cuts n new page rows left right fit (Alone child) parts is shows = tt
stored_cuts n new page rows left right fits.Whole (Cut key more) parts is shows = absurd (cc)
stored_cuts n new page rows left right fits.Short (Cut key more) parts is shows = absurd (cc)
stored_cuts n new page rows left right (fits.Cut at) (Cut key more) parts is shows =
    subst (λ (k : ℕ). CutsRows rows (leaf_rows (bytes_of new page)) (leaf_rows (bytes_of new more)) k) (sym is.0)
    (subst (λ (b : List ℕ). CutsRows rows (leaf_rows b) (leaf_rows (bytes_of new more)) at) (sym shows.0)
    (subst (λ (b : List ℕ). CutsRows rows (leaf_rows left) (leaf_rows b) at) (sym shows.1) (parts at refl)))

pub leaf_cuts : (count n : ℕ) (old mid new : Lines) (page : ℕ) (rows : List Row) (left right free : List ℕ) (fit : Fit) (outcome : Outcome) → n ≡ count → mid ≡ old → ((k : ℕ) → fit ≡ fits.Cut k → CutsRows rows (leaf_rows left) (leaf_rows right) k)
    → IsOutcome n fit outcome → Stores n mid new page outcome left right → IsFreeList old free → ArePart old (page ∷ free) → high_of old ≤ count → CutsLeaf rows new page outcome
leaf_cuts count n old mid new page rows left right free fit outcome is_count same parts is stores is_free part within =
    let s = subst (λ (lines : Lines). Stores n lines new page outcome left right) same stores free is_free part (omega (arith, within, is_count)) in
    stored_cuts n new page rows left right fit outcome parts is s.shows

pub uncut_leaf : (rows : List Row) (new : Lines) (page : ℕ) (outcome : Outcome) → ((k r : ℕ) → outcome ≢ Cut k r) → CutsLeaf rows new page outcome
uncut_leaf rows new page Whole uncut = tt
uncut_leaf rows new page Short uncut = tt
uncut_leaf rows new page (Cut k r) uncut = absurd (uncut k r refl)
uncut_leaf rows new page (Alone child) uncut = tt
