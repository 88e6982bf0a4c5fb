-- Trees under a page before and after a call that changes them.
use Rattle.std.proofs.Common.{◌≡◌, ◌≢◌, ℕ, zero, suc, ◌+◌, ◌-◌, ◌<◌, ◌≤◌, ◌⊎◌, inl, inr, Bool, true, false, List, [], ◌∷◌, ◌++◌, length, Option, Some, None, refl, sym, ap, subst, ◌∙◌, arith, append-nil, append_assoc, slice_get}
use Rattle.std.proofs.lemmas.Bool.{lt-ltb, le-ltb, eqb-true, ne_eqb, cases_Bool, cases_lt}
use Rattle.std.proofs.lemmas.List.Concat.{flat_map-append}
use Rattle.line_pages.specs.Lines.{Lines}
use Rattle.line_pages.specs.Bytes.{bytes_of, page_bytes}
use Rattle.page_format.specs.declared.root.Expect.{Expect}
use Rattle.rows.specs.Rows.{Row, row_put, row_delete, Each, AllBelow, AllAbove}
use Rattle.page_format.specs.Spans.{Span, reach, spans}
use Rattle.page_format.specs.Node.{Child, children, IsWellFormed, entry_count, begins_at, leaf_checks, inner_checks, first_failing}
use Rattle.page_format.proofs.FactLemmas.{all_hold}
use Rattle.page_format.proofs.PageFacts.{inner_facts}
use Rattle.node_edit.specs.declared.fit.Fit.{Fit}
use Rattle.node_edit.specs.declared.fit.Fit.TheVariants as fits
use Rattle.bplus_tree.specs.declared.outcome.Outcome.{Outcome}
use Rattle.bplus_tree.specs.declared.outcome.Outcome.TheVariants.{Whole, Short, Alone}
use Rattle.node_edit.specs.declared.pair.Pair.{Pair}
use Rattle.page_alloc.specs.Space.{high_of, IsFreeList}
use Rattle.page_alloc.specs.Counted.{times, SameOn}
use Rattle.tree_search.specs.Tree.{IsTree, tree_rows, tree_pages, rows_of, pages_of}
use Rattle.page_alloc.specs.Moves.{below, ArePart, Moves, SameEntries, Gives}
use Rattle.page_alloc.specs.Written.{Rewrites}
use Rattle.node_edit.specs.Edit.{part, loose, Holds, Fits, both, joined, IsPairAt, PairsUp, Mended}
use Rattle.bplus_tree.specs.Edit.{Became, Edits, Joins, IsMendable, Mends, own, after_fit, Rewritten}
use Rattle.page_alloc.proofs.CountedLaws.{times-append, SameOn-first}
use Rattle.tree_search.proofs.TreeLaws.{tree_pages-same, tree_rows-same, IsTree-same}
use Rattle.tree_search.proofs.OrderLaws.{IsChildTree, length-children, Each-get, located}
use Rattle.rows.proofs.RowLaws.{row_put-amid, row_delete-amid}
use Rattle.tree_search.proofs.FanLaws.{StayUnder, spans-parts, spans-join, stay_under, beside}
use Rattle.page_alloc.proofs.MovesLaws.{Moves-trans}
use Rattle.page_alloc.proofs.Places.{Moves-widen, Moves-write, part_after, same_beside}

-- a change of rows that acts in the part alone that the key belongs to
pub record IsLocal (key : ℕ) (step : List Row → List Row) : Type 0 where
  pub amid : (before rows after : List Row) → AllBelow key before → AllAbove key after → step (before ++ (rows ++ after)) ≡ before ++ (step rows ++ after)

pub put_local : (key : ℕ) (value : List ℕ) → IsLocal key (row_put key value)
put_local key value = record { amid = λ before rows after low high. row_put-amid key value before rows after low high }

pub delete_local : (key : ℕ) → IsLocal key (row_delete key)
delete_local key = record { amid = λ before rows after low high. row_delete-amid key before rows after low high }

-- what is expected of a page at another level
abbrev pub at_level : Expect → ℕ → Expect
at_level e l = record { level = l; low = e.low; high = e.high; root = e.root; pages = e.pages }

-- an inner page with these children over pages that are already trees
pub tree_of : (count : ℕ) (lines : Lines) (level page low high : ℕ) (root : Bool) (bytes : List ℕ) → bytes_of lines page ≡ bytes
    → IsWellFormed bytes (record { level = suc level; low = low; high = high; root = root; pages = count })
    → Each (IsChildTree count lines level) (spans (children bytes) high) → IsTree count lines (suc level) page low high root
tree_of count lines level page low high root bytes is well trees = (
  subst (λ b. IsWellFormed b (record { level = suc level; low = low; high = high; root = root; pages = count })) (sym is) well,
  subst (λ b. Each (IsChildTree count lines level) (spans (children b) high)) (sym is) trees,
)

pub reach_begins : (key high : ℕ) (cs : List Child) → begins_at key cs ≡ true → 1 ≤ length cs → reach cs high ≡ key - 1
reach_begins key high [] begins some = absurd (omega (arith, some))
reach_begins key high (c ∷ cs) begins some = ap (λ k. k - 1) (eqb-true c.0 key begins)

pub one_above : (level : ℕ) → 1 ≤ level → level ≡ suc (level - 1)
one_above level some = omega arith

pub once_after : (lines : Lines) (used free : List ℕ) → ArePart lines (used ++ free) → (n : ℕ) → times n used ≤ 1
once_after lines used free part n =
    elim (cases_lt n (high_of lines)) [
      | inl lt ↦ let b : below n (high_of lines) ≡ 1 = rw (lt-ltb n (high_of lines) lt) refl in omega (arith, part n, b, times-append n used free)
      | inr ge ↦ let b : below n (high_of lines) ≡ 0 = rw (le-ltb n (high_of lines) ge) refl in omega (arith, part n, b, times-append n used free)
    ]

-- some children of a page that is not written yet gave way to others
pub record Beside (count : ℕ) (old mid : Lines) (level page : ℕ) (xs ms ys : List Child) (seg : List Row) (free : List ℕ) : Type 0 where
  pub rest : List ℕ
  pub moves : Moves count old mid (tree_pages old (suc level) page) (page ∷ pages_of mid level (xs ++ (ms ++ ys))) free rest
  pub entries : SameEntries old mid
  pub front : StayUnder count old mid level xs
  pub back : StayUnder count old mid level ys
  pub rows : rows_of mid level (xs ++ (ms ++ ys)) ≡ rows_of old level xs ++ (seg ++ rows_of old level ys)
  pub same : mid page ≡ old page
  pub apart : ArePart mid ((page ∷ pages_of mid level (xs ++ (ms ++ ys))) ++ rest)

three_rows : (lines : Lines) (level : ℕ) (xs ss ys : List Child) → rows_of lines level (xs ++ (ss ++ ys)) ≡ rows_of lines level xs ++ (rows_of lines level ss ++ rows_of lines level ys)
three_rows lines level xs ss ys =
    flat_map-append (λ (child : Child). tree_rows lines level child.1) xs (ss ++ ys) ∙ ap (λ r. rows_of lines level xs ++ r) (flat_map-append (λ (child : Child). tree_rows lines level child.1) ss ys)

pub three_pages : (lines : Lines) (level : ℕ) (xs ss ys : List Child) (n : ℕ)
    → times n (pages_of lines level (xs ++ (ss ++ ys))) ≡ times n (pages_of lines level xs) + (times n (pages_of lines level ss) + times n (pages_of lines level ys))
three_pages lines level xs ss ys n =
    let all = flat_map-append (λ (child : Child). tree_pages lines level child.1) xs (ss ++ ys) ∙ ap (λ r. pages_of lines level xs ++ r) (flat_map-append (λ (child : Child). tree_pages lines level child.1) ss ys) in
    omega (arith, ap (times n) all, times-append n (pages_of lines level xs) (pages_of lines level ss ++ pages_of lines level ys), times-append n (pages_of lines level ss) (pages_of lines level ys))

pub turn : (count : ℕ) (old mid : Lines) (level page : ℕ) (xs ss ms ys : List Child) (seg : List Row) (free rest : List ℕ) → children (bytes_of old page) ≡ xs ++ (ss ++ ys)
    → ArePart old (tree_pages old (suc level) page ++ free) → Moves count old mid (pages_of old level ss) (pages_of mid level ms) free rest → SameEntries old mid → rows_of mid level ms ≡ seg
    → Beside count old mid level page xs ms ys seg free
turn count old mid level page xs ss ms ys seg free rest was whole m entries is =
    let counted : (n : ℕ) → times n (tree_pages old (suc level) page) ≡ times n (page ∷ []) + (times n (pages_of old level xs) + (times n (pages_of old level ss) + times n (pages_of old level ys))) =
    λ n. omega (arith, ap (λ all. times n (pages_of old level all)) was, three_pages old level xs ss ys n) in
    let front = stay_under count old mid level xs (same_beside (tree_pages old (suc level) page) (pages_of old level xs) whole m (λ n. omega (arith, counted n))) in
    let back = stay_under count old mid level ys (same_beside (tree_pages old (suc level) page) (pages_of old level ys) whole m (λ n. omega (arith, counted n))) in
    let same : SameOn (page ∷ []) old mid = same_beside (tree_pages old (suc level) page) (page ∷ []) whole m (λ n. omega (arith, counted n)) in
    let moves : Moves count old mid (tree_pages old (suc level) page) (page ∷ pages_of mid level (xs ++ (ms ++ ys))) free rest =
    Moves-widen (tree_pages old (suc level) page) (page ∷ pages_of mid level (xs ++ (ms ++ ys))) m
    (λ n. omega (arith, counted n, three_pages mid level xs ms ys n, ap (times n) front.pages, ap (times n) back.pages)) (λ n. omega (arith, counted n)) in
    record {
      rest = rest;
      moves = moves;
      entries = entries;
      front = front;
      back = back;
      rows = three_rows mid level xs ms ys ∙ ap (λ r. r ++ (rows_of mid level ms ++ rows_of mid level ys)) front.rows ∙ ap (λ r. rows_of old level xs ++ (rows_of mid level ms ++ r)) back.rows
          ∙ ap (λ r. rows_of old level xs ++ (r ++ rows_of old level ys)) is;
      same = SameOn-first page [] old mid same;
      apart = part_after whole moves;
    }

-- a change in one child, seen from above
pub step_at : (count : ℕ) (old mid : Lines) (level page low high : ℕ) (root : Bool) (xs ys : List Child) (s : Child) (key : ℕ) (step : List Row → List Row) (free : List ℕ) → IsLocal key step → IsTree count old (suc level) page low high root
    → children (bytes_of old page) ≡ xs ++ ((s ∷ []) ++ ys) → s.0 ≤ key → key ≤ reach ys high → (b : Beside count old mid level page xs (s ∷ []) ys (step (tree_rows old level s.1)) free)
    → rows_of mid level (xs ++ ((s ∷ []) ++ ys)) ≡ step (tree_rows old (suc level) page)
step_at count old mid level page low high root xs ys s key step free local tree was above within b =
    let sides = beside count old level page low high root xs [] ys s key tree was above within in
    b.rows ∙ sym (ap step (ap (rows_of old level) was ∙ flat_map-append (λ (child : Child). tree_rows old level child.1) xs ((s ∷ []) ++ ys))
    ∙ local.amid (rows_of old level xs) (tree_rows old level s.1) (rows_of old level ys) sides.0 sides.1)

pub one_child : (count : ℕ) (old mid : Lines) (level : ℕ) (s : Child) (free rest : List ℕ) → Moves count old mid (tree_pages old level s.1) (tree_pages mid level s.1) free rest
    → Moves count old mid (pages_of old level (s ∷ [])) (pages_of mid level (s ∷ [])) free rest
one_child count old mid level s free rest m =
    Moves-widen (pages_of old level (s ∷ [])) (pages_of mid level (s ∷ [])) m (λ n. omega (arith, times-append n (tree_pages old level s.1) [], times-append n (tree_pages mid level s.1) []))
    (λ n. omega (arith, times-append n (tree_pages old level s.1) []))

pub child_part : (old : Lines) (level page : ℕ) (xs ys : List Child) (s : Child) (free : List ℕ) → children (bytes_of old page) ≡ xs ++ ((s ∷ []) ++ ys)
    → ArePart old (tree_pages old (suc level) page ++ free) → ArePart old (tree_pages old level s.1 ++ free)
child_part old level page xs ys s free was whole =
    λ n. omega (
      arith,
      whole n,
      ap (λ all. times n (pages_of old level all)) was,
      three_pages old level xs (s ∷ []) ys n,
      times-append n (tree_pages old level s.1) [],
      times-append n (tree_pages old (suc level) page) free,
      times-append n (tree_pages old level s.1) free,
    )

-- the child stays as full as it has to be
pub edits_kept : (e : Expect) (old mid new : Lines) (page key child low high at : ℕ) (step : List Row → List Row) → IsLocal key step → 1 ≤ e.level → mid ≡ old
    → (IsWellFormed (bytes_of old page) e → slice_get (spans (children (bytes_of old page)) e.high) at ≡ Some (record { page = child; low = low; high = high })) → low ≤ key → key ≤ high
    → Edits mid new child (record { level = e.level - 1; low = low; high = high; root = false; pages = e.pages }) Whole step
    → Edits old new page e Whole step
edits_kept e old mid new page key child low high at step local some same found above within deletes =
    let is_level = one_above e.level some in
    let level = e.level - 1 in
    let s : Span = record { page = child; low = low; high = high } in
    subst (λ l. Edits old new page (at_level e l) Whole step) (sym is_level)
    (λ free tree is whole bound.
    let spot = found (subst (λ l. IsWellFormed (bytes_of old page) (at_level e l)) (sym is_level) tree.0) in
    let l = located (children (bytes_of old page)) e.high at s spot in
    let c : Child = (low, child) in
    let below = Each-get (IsChildTree e.pages old level) (spans (children (bytes_of old page)) e.high) at s tree.1 spot in
    let d = subst (λ lines. Edits lines new child (record { level = level; low = low; high = high; root = false; pages = e.pages }) Whole step) same deletes
    free below is (child_part old level page l.xs l.ys c free l.is whole) bound in
    let b = turn e.pages old new level page l.xs (c ∷ []) (c ∷ []) l.ys (step (tree_rows old level child)) free d.rest l.is whole (one_child e.pages old new level c free d.rest d.moves) d.entries
    (append-nil (tree_rows new level child) ∙ d.rows) in
    let rows = step_at e.pages old new level page e.low e.high e.root l.xs l.ys c key step free local tree l.is above (omega (arith, within, l.reach_is)) b in
    let bytes : bytes_of new page ≡ bytes_of old page = ap (λ p. page_bytes p) b.same in
    let kids : children (bytes_of new page) ≡ l.xs ++ ((c ∷ []) ++ l.ys) = ap children bytes ∙ l.is in
    let parts = spans-parts (IsChildTree e.pages old level) l.xs ((c ∷ []) ++ l.ys) e.high (subst (λ all. Each (IsChildTree e.pages old level) (spans all e.high)) l.is tree.1) in
    let back = b.back.trees e.high (spans-parts (IsChildTree e.pages old level) (c ∷ []) l.ys e.high parts.1).1 in
    let own : IsTree e.pages new level child low (reach l.ys e.high) false = subst (λ h. IsTree e.pages new level child low h false) (sym l.reach_is) d.tree in
    let trees = spans-join (IsChildTree e.pages new level) l.xs ((c ∷ []) ++ l.ys) e.high (b.front.trees (low - 1) parts.0) (own, back) in
    record {
      rest = b.rest;
      moves = subst (λ ps. Moves e.pages old new (tree_pages old (suc level) page) ps free b.rest) (ap (λ all. page ∷ pages_of new level all) (sym kids)) b.moves;
      entries = b.entries;
      tree = tree_of e.pages new level page e.low e.high e.root (bytes_of old page) bytes tree.0 (subst (λ all. Each (IsChildTree e.pages new level) (spans all e.high)) (sym l.is) trees);
      rows = ap (rows_of new level) kids ∙ rows;
    })

-- a child that is no root is not left alone
pub edits_alone : (e : Expect) (old mid new : Lines) (page child low high at other : ℕ) (step : List Row → List Row) → 1 ≤ e.level → mid ≡ old
    → (IsWellFormed (bytes_of old page) e → slice_get (spans (children (bytes_of old page)) e.high) at ≡ Some (record { page = child; low = low; high = high }))
    → Edits mid new child (record { level = e.level - 1; low = low; high = high; root = false; pages = e.pages }) (Alone other) step
    → Edits old new page e Whole step
edits_alone e old mid new page child low high at other step some same found deletes =
    let is_level = one_above e.level some in
    let level = e.level - 1 in
    let s : Span = record { page = child; low = low; high = high } in
    subst (λ l. Edits old new page (at_level e l) Whole step) (sym is_level)
    (λ free tree is whole bound.
    let spot = found (subst (λ l. IsWellFormed (bytes_of old page) (at_level e l)) (sym is_level) tree.0) in
    let l = located (children (bytes_of old page)) e.high at s spot in
    let below = Each-get (IsChildTree e.pages old level) (spans (children (bytes_of old page)) e.high) at s tree.1 spot in
    let d = subst (λ lines. Edits lines new child (record { level = level; low = low; high = high; root = false; pages = e.pages }) (Alone other) step) same deletes
    free below is (child_part old level page l.xs l.ys (low, child) free l.is whole) bound in
    let never = d.tree.0 in absurd (cc))

-- the page above a child that fell below the floor
pub record ShortBelow (e : Expect) (old mid : Lines) (level page low child : ℕ) (free : List ℕ) (rows' : List Row) : Type 0 where
  pub rest : List ℕ
  pub mendable : IsMendable mid page (at_level e (suc level)) low level rest
  pub child_is : child ≡ mendable.s.1
  pub moves : Moves e.pages old mid (tree_pages old (suc level) page) (tree_pages mid (suc level) page) free rest
  pub entries : SameEntries old mid
  pub rows : rows_of mid level (children (bytes_of mid page)) ≡ rows'

pub short_below : (e : Expect) (old mid : Lines) (level page key child low high at : ℕ) (step : List Row → List Row) (free : List ℕ) → IsLocal key step
    → slice_get (spans (children (bytes_of old page)) e.high) at ≡ Some (record { page = child; low = low; high = high }) → low ≤ key → key ≤ high
    → Edits old mid child (record { level = level; low = low; high = high; root = false; pages = e.pages }) Short step
    → IsTree e.pages old (suc level) page e.low e.high e.root → IsFreeList old free → ArePart old (tree_pages old (suc level) page ++ free) → high_of old ≤ e.pages
    → ShortBelow e old mid level page low child free (step (tree_rows old (suc level) page))
short_below e old mid level page key child low high at step free local spot above within deletes tree is whole bound =
    let s : Span = record { page = child; low = low; high = high } in
    let l = located (children (bytes_of old page)) e.high at s spot in
    let c : Child = (low, child) in
    let below = Each-get (IsChildTree e.pages old level) (spans (children (bytes_of old page)) e.high) at s tree.1 spot in
    let d = deletes free below is (child_part old level page l.xs l.ys c free l.is whole) bound in
    let b = turn e.pages old mid level page l.xs (c ∷ []) (c ∷ []) l.ys (step (tree_rows old level child)) free d.rest l.is whole (one_child e.pages old mid level c free d.rest d.moves) d.entries
    (append-nil (tree_rows mid level child) ∙ d.rows) in
    let rows = step_at e.pages old mid level page e.low e.high e.root l.xs l.ys c key step free local tree l.is above (omega (arith, within, l.reach_is)) b in
    let bytes : bytes_of mid page ≡ bytes_of old page = ap (λ p. page_bytes p) b.same in
    let kids : children (bytes_of mid page) ≡ l.xs ++ ((c ∷ []) ++ l.ys) = ap children bytes ∙ l.is in
    let parts = spans-parts (IsChildTree e.pages old level) l.xs ((c ∷ []) ++ l.ys) e.high (subst (λ all. Each (IsChildTree e.pages old level) (spans all e.high)) l.is tree.1) in
    let back = b.back.trees e.high (spans-parts (IsChildTree e.pages old level) (c ∷ []) l.ys e.high parts.1).1 in
    let own : IsTree e.pages mid level child low (reach l.ys e.high) true = subst (λ h. IsTree e.pages mid level child low h true) (sym l.reach_is) d.tree in
    let moves = subst (λ ps. Moves e.pages old mid (tree_pages old (suc level) page) ps free b.rest) (ap (λ all. page ∷ pages_of mid level all) (sym kids)) b.moves in
    record {
      rest = b.rest;
      mendable = record {
        is_level = refl;
        xs = l.xs;
        ys = l.ys;
        s = c;
        at_key = refl;
        are = kids;
        well = subst (λ x. IsWellFormed x (at_level e (suc level))) (sym bytes) tree.0;
        front = b.front.trees (low - 1) parts.0;
        short = own;
        back = back;
        is_free = b.moves.is_free;
        parted = part_after whole moves;
        within = b.moves.within;
      };
      child_is = refl;
      moves = moves;
      entries = b.entries;
      rows = ap (rows_of mid level) kids ∙ rows;
    }

-- the child fell below the floor, and the page above is mended
pub edits_short : (e : Expect) (old first mid new : Lines) (page key child low high at : ℕ) (outcome : Outcome) (step : List Row → List Row) → IsLocal key step → 1 ≤ e.level → first ≡ old
    → (IsWellFormed (bytes_of old page) e → slice_get (spans (children (bytes_of old page)) e.high) at ≡ Some (record { page = child; low = low; high = high })) → low ≤ key → key ≤ high
    → Edits first mid child (record { level = e.level - 1; low = low; high = high; root = false; pages = e.pages }) Short step
    → Mends mid new page e low outcome → Edits old new page e outcome step
edits_short e old first mid new page key child low high at outcome step local some same found above within deletes mends =
    let is_level = one_above e.level some in
    let level = e.level - 1 in
    let lower : Expect = record { level = level; low = low; high = high; root = false; pages = e.pages } in
    subst (λ l. Mends mid new page (at_level e l) low outcome → Edits old new page (at_level e l) outcome step) (sym is_level)
    (λ mending free tree is whole bound.
    let spot = found (subst (λ l. IsWellFormed (bytes_of old page) (at_level e l)) (sym is_level) tree.0) in
    let s = short_below e old mid level page key child low high at step free local spot above within (subst (λ lines. Edits lines mid child lower Short step) same deletes) tree is whole bound in
    let m = mending level s.rest s.mendable in
    record {
      rest = m.rest;
      moves = Moves-trans {free1 = s.rest} {free2 = m.rest} s.moves m.moves;
      entries = λ i ne. m.entries i ne ∙ s.entries i ne;
      tree = m.tree;
      rows = m.rows ∙ s.rows;
    })
    mends

-- two neighbours, one of which may be below the floor, and the children on both sides
pub record Segment (count : ℕ) (old : Lines) (level : ℕ) (all : List Child) (high : ℕ) (pair : Pair) : Type 0 where
  pub front : List Child
  pub back : List Child
  pub is : all ≡ front ++ (both pair ++ back)
  pub reach_is : reach back high ≡ pair.high
  pub front_trees : Each (IsChildTree count old level) (spans front (pair.low - 1))
  pub back_trees : Each (IsChildTree count old level) (spans back high)
  pub left_loose : Bool
  pub right_loose : Bool
  pub left : IsTree count old level pair.left pair.low (pair.middle - 1) left_loose
  pub right : IsTree count old level pair.right pair.middle pair.high right_loose
  pub one : (left_loose ≡ false) ⊎ (right_loose ≡ false)

pub segment : (count : ℕ) (old : Lines) (level : ℕ) (all : List Child) (high : ℕ) (xs ys : List Child) (s : Child) (pair : Pair) → IsPairAt xs s ys high pair → all ≡ xs ++ ((s ∷ []) ++ ys)
    → Each (IsChildTree count old level) (spans xs (s.0 - 1)) → IsTree count old level s.1 s.0 (reach ys high) true → Each (IsChildTree count old level) (spans ys high) → Segment count old level all high pair
segment count old level all high xs [] s pair p was front own back =
    let h = s.0 - 1 in
    let parts = spans-parts (IsChildTree count old level) p.0 (p.1 ∷ []) h (subst (λ l. Each (IsChildTree count old level) (spans l h)) p.2 front) in
    subst (Segment count old level all high) (sym p.3) (record {
      front = p.0;
      back = [];
      is = was ∙ ap (λ l. l ++ (s ∷ [])) p.2 ∙ append_assoc p.0 (p.1 ∷ []) (s ∷ []);
      reach_is = refl;
      front_trees = parts.0;
      back_trees = tt;
      left_loose = false;
      right_loose = true;
      left = parts.1.0;
      right = own;
      one = inl refl;
    })
segment count old level all high xs (y ∷ ys) s pair p was front own back =
    subst (Segment count old level all high) (sym p) (record {
      front = xs;
      back = ys;
      is = was;
      reach_is = refl;
      front_trees = front;
      back_trees = back.1;
      left_loose = true;
      right_loose = false;
      left = own;
      right = back.0;
      one = inr refl;
    })

-- the pair that a page to be mended gives
pub mend_segment : (e : Expect) (old : Lines) (page key level : ℕ) (free : List ℕ) (pair : Pair) (buffer : List ℕ) → buffer ≡ bytes_of old page → PairsUp (children buffer) e.high key pair → IsMendable old page e key level free
    → Segment e.pages old level (children (bytes_of old page)) e.high pair
mend_segment e old page key level free pair buffer are pairs m =
    let pairs_old = subst (λ b. PairsUp (children b) e.high key pair) are pairs in
    segment e.pages old level (children (bytes_of old page)) e.high m.xs m.ys m.s pair (pairs_old m.xs m.ys m.s m.at_key m.are) m.are m.front m.short m.back

pair_part : (old : Lines) (level page : ℕ) (xs ss ys : List Child) (free : List ℕ) → children (bytes_of old page) ≡ xs ++ (ss ++ ys)
    → ArePart old (tree_pages old (suc level) page ++ free) → ArePart old (pages_of old level ss ++ free)
pair_part old level page xs ss ys free was whole =
    λ n. omega (arith, whole n, ap (λ all. times n (pages_of old level all)) was, three_pages old level xs ss ys n, times-append n (tree_pages old (suc level) page) free, times-append n (pages_of old level ss) free)

reach_joined : (pair : Pair) (cut : Option ℕ) (ys : List Child) (high : ℕ) → reach (joined pair cut ++ ys) high ≡ pair.low - 1
reach_joined pair None ys high = refl
reach_joined pair (Some key) ys high = refl

-- the join, before the page above is written
pub joins_over : (count : ℕ) (old mid : Lines) (level page high : ℕ) (pair : Pair) (cut : Option ℕ) (free : List ℕ) → (g : Segment count old level (children (bytes_of old page)) high pair) → Joins count old mid level pair cut
    → IsFreeList old free → ArePart old (tree_pages old (suc level) page ++ free) → high_of old ≤ count
    → Beside count old mid level page g.front (joined pair cut) g.back (rows_of old level (both pair)) free × Each (IsChildTree count mid level) (spans (joined pair cut) pair.high)
joins_over count old mid level page high pair cut free g joins is whole bound =
    let t = joins free g.left_loose g.right_loose g.left g.right g.one is (pair_part old level page g.front (both pair) g.back free g.is whole) bound in
    (turn count old mid level page g.front (both pair) (joined pair cut) g.back (rows_of old level (both pair)) free t.rest g.is whole t.moves t.entries t.rows, t.trees)

abbrev pub is_loose : Expect → Fit → Expect
is_loose e fits.Whole = e
is_loose e fits.Short = loose e
is_loose e (fits.Cut key) = e

loose_is : (e : Expect) (fit : Fit) → is_loose e fit ≡ record { level = e.level; low = e.low; high = e.high; root = (is_loose e fit).root; pages = e.pages }
loose_is e fits.Whole = refl
loose_is e fits.Short = refl
loose_is e (fits.Cut key) = refl

holds_of : {X : Type 0} (entries : List ℕ → List X) (e : Expect) (bytes : List ℕ) (all : List X) (fit : Fit) → ((key : ℕ) → fit ≢ fits.Cut key) → Fits entries e bytes bytes all fit → Holds entries (is_loose e fit) bytes all
holds_of entries e bytes all fits.Whole uncut holds = holds
holds_of entries e bytes all fits.Short uncut holds = holds
holds_of entries e bytes all (fits.Cut key) uncut holds = absurd (uncut key refl)

finish : (e : Expect) (old new : Lines) (level page : ℕ) (fit : Fit) (rows' : List Row) (free rest : List ℕ) → Moves e.pages old new (tree_pages old (suc level) page) (tree_pages new (suc level) page) free rest
    → SameEntries old new → IsTree e.pages new (suc level) page e.low e.high (is_loose (at_level e (suc level)) fit).root → tree_rows new (suc level) page ≡ rows'
    → Became e.pages old new (suc level) page e.low e.high e.root (after_fit fit) rows' free
finish e old new level page fits.Whole rows' free rest moves entries tree rows = record { rest = rest; moves = moves; entries = entries; tree = tree; rows = rows }
finish e old new level page fits.Short rows' free rest moves entries tree rows = record { rest = rest; moves = moves; entries = entries; tree = tree; rows = rows }
finish e old new level page (fits.Cut key) rows' free rest moves entries tree rows = record { rest = rest; moves = moves; entries = entries; tree = tree; rows = rows }

mend_written : (e : Expect) (old mid new : Lines) (level page : ℕ) (pair : Pair) (cut : Option ℕ) (fit : Fit) (bytes : List ℕ) (free : List ℕ) → (g : Segment e.pages old level (children (bytes_of old page)) e.high pair)
    → Joins e.pages old mid level pair cut → Holds children (is_loose (at_level e (suc level)) fit) bytes (g.front ++ (joined pair cut ++ g.back)) → Rewrites page bytes mid new
    → IsFreeList old free → ArePart old (tree_pages old (suc level) page ++ free) → high_of old ≤ e.pages
    → Became e.pages old new (suc level) page e.low e.high e.root (after_fit fit) (rows_of old level (children (bytes_of old page))) free
mend_written e old mid new level page pair cut fit bytes free g joins holds wrote is whole bound =
    let r = joins_over e.pages old mid level page e.high pair cut free g joins is whole bound in
    let b = r.0 in
    let P = IsChildTree e.pages mid level in
    let ms = joined pair cut in
    let cs = g.front ++ (ms ++ g.back) in
    let front = subst (λ h. Each P (spans g.front h)) (sym (reach_joined pair cut g.back e.high)) (b.front.trees (pair.low - 1) g.front_trees) in
    let middle = subst (λ h. Each P (spans ms h)) (sym g.reach_is) r.1 in
    let trees = spans-join P g.front (ms ++ g.back) e.high front (spans-join P ms g.back e.high middle (b.back.trees e.high g.back_trees)) in
    let w = Moves-write e.pages mid new page bytes b.rest wrote b.moves.is_free
    (λ n. omega (arith, b.apart n, times-append n (page ∷ pages_of mid level cs) b.rest)) b.moves.within in
    let same : SameOn (pages_of mid level cs) mid new = same_beside (page ∷ pages_of mid level cs) (pages_of mid level cs) b.apart w.moves (λ n. omega arith) in
    let stay = stay_under e.pages mid new level cs same in
    let kids : children (bytes_of new page) ≡ cs = ap children wrote.bytes_are ∙ holds.are in
    let moves = Moves-trans b.moves (Moves-widen (page ∷ pages_of mid level cs) (page ∷ pages_of mid level cs) w.moves (λ n. omega arith) (λ n. omega arith)) in
    finish e old new level page fit (rows_of old level (children (bytes_of old page))) free b.rest
    (subst (λ ps. Moves e.pages old new (tree_pages old (suc level) page) ps free b.rest) (ap (λ ps. page ∷ ps) (sym stay.pages ∙ ap (pages_of new level) (sym kids))) moves)
    (λ l ne. w.entries l ne ∙ b.entries l ne)
    (tree_of e.pages new level page e.low e.high (is_loose (at_level e (suc level)) fit).root bytes wrote.bytes_are (subst (IsWellFormed bytes) (loose_is (at_level e (suc level)) fit) holds.well)
    (subst (λ all. Each (IsChildTree e.pages new level) (spans all e.high)) (sym holds.are) (stay.trees e.high trees)))
    (ap (rows_of new level) kids ∙ stay.rows ∙ b.rows ∙ sym (three_rows old level g.front (both pair) g.back) ∙ ap (rows_of old level) (sym g.is))

pub mends_written : (e : Expect) (old first mid new : Lines) (page key count : ℕ) (pair : Pair) (cut : Option ℕ) (fit : Fit) (buffer bytes : List ℕ) → count ≡ e.pages → first ≡ old → buffer ≡ bytes_of old page
    → ((k : ℕ) → fit ≢ fits.Cut k) → PairsUp (children buffer) e.high key pair → Joins count first mid (e.level - 1) pair cut → Mended e (bytes_of mid page) bytes pair cut fit → Rewrites page bytes mid new
    → Mends old new page e key (after_fit fit)
mends_written e old first mid new page key count pair cut fit buffer bytes is_count same are uncut pairs joins mended wrote level free m =
    let is_level = m.is_level in
    let lower : e.level - 1 ≡ level = omega (arith, is_level) in
    let g = mend_segment e old page key level free pair buffer are pairs m in
    let well = m.well in
    let is = m.is_free in
    let whole = m.parted in
    let bound = m.within in
    let joins_old = subst (λ l. Joins e.pages old mid l pair cut) lower (subst (λ n. Joins n old mid (e.level - 1) pair cut) is_count (subst (λ lines. Joins count lines mid (e.level - 1) pair cut) same joins)) in
    let part = subst (λ l. ArePart old ((page ∷ pages_of old level (children (bytes_of old page))) ++ free)) lower whole in
    let r = joins_over e.pages old mid level page e.high pair cut free g joins_old is part bound in
    let now : children (bytes_of mid page) ≡ g.front ++ (both pair ++ g.back) = ap (λ p. children (page_bytes p)) r.0.same ∙ g.is in
    let holds = mended g.front g.back now g.reach_is in
    subst (λ l. Became e.pages old new l page e.low e.high e.root (after_fit fit) (rows_of old level (children (bytes_of old page))) free) (sym is_level)
    (mend_written e old mid new level page pair cut fit bytes free g joins_old
    (subst (λ l. Holds children (is_loose (at_level e l) fit) bytes (g.front ++ (joined pair cut ++ g.back))) is_level (holds_of children e bytes (g.front ++ (joined pair cut ++ g.back)) fit uncut holds)) wrote is
    (subst (λ l. ArePart old ((page ∷ pages_of old level (children (bytes_of old page))) ++ free)) lower whole) bound)

-- a page as full as it has to be is one that a root may be
pub leaf_root : (bytes : List ℕ) (low high pages : ℕ) → IsWellFormed bytes (record { level = 0; low = low; high = high; root = false; pages = pages }) → IsWellFormed bytes (record { level = 0; low = low; high = high; root = true; pages = pages })
unfolding first_failing
leaf_root bytes low high pages well =
    let all = all_hold (leaf_checks bytes (record { level = 0; low = low; high = high; root = false; pages = pages })) well in
    rw (all.0, all.1.0, all.1.1.0, all.1.1.1.0, all.1.1.1.1.0, all.1.1.1.1.1.0, all.1.1.1.1.1.1.0) refl

pub inner_root : (bytes : List ℕ) (level low high pages : ℕ) → IsWellFormed bytes (record { level = suc level; low = low; high = high; root = false; pages = pages })
    → IsWellFormed bytes (record { level = suc level; low = low; high = high; root = true; pages = pages })
unfolding first_failing
inner_root bytes level low high pages well =
    let above = ne_eqb (suc level) 0 (λ e. cc) in
    let all = all_hold (inner_checks bytes (record { level = suc level; low = low; high = high; root = false; pages = pages })) (rw above at well) in
    rw (above, all.0, all.1.0, all.1.1.0, all.1.1.1.0, all.1.1.1.1.0) refl

IsTree-root : (count : ℕ) (lines : Lines) (level page low high : ℕ) → IsTree count lines level page low high false → IsTree count lines level page low high true
IsTree-root count lines zero page low high is = leaf_root (bytes_of lines page) low high count is
IsTree-root count lines (suc level) page low high is = (inner_root (bytes_of lines page) level low high count is.0, is.1)

two_more : (front back : List Child) (a b : Child) → 2 ≤ length (front ++ (a ∷ b ∷ back))
two_more [] back a b = omega arith
two_more (x ∷ front) back a b = let ih = two_more front back a b in omega (arith, ih)

two_only : (front back : List Child) (a b : Child) → length (front ++ (a ∷ b ∷ back)) < 3 → (front ≡ []) × (back ≡ [])
two_only [] [] a b lt = (refl, refl)
two_only [] (y ∷ ys) a b lt = absurd (omega (arith, lt))
two_only (x ∷ front) back a b lt = let more = two_more front back a b in absurd (omega (arith, lt, more))

-- a root whose two children became one gives way to it
mend_alone : (e : Expect) (old mid new : Lines) (level page : ℕ) (pair : Pair) (free : List ℕ) → (g : Segment e.pages old level (children (bytes_of old page)) e.high pair)
    → Joins e.pages old mid level pair None → entry_count (bytes_of old page) < 3 → IsWellFormed (bytes_of old page) (at_level e (suc level)) → Gives e.pages mid new page
    → IsFreeList old free → ArePart old (tree_pages old (suc level) page ++ free) → high_of old ≤ e.pages
    → Became e.pages old new (suc level) page e.low e.high e.root (Alone pair.left) (rows_of old level (children (bytes_of old page))) free
mend_alone e old mid new level page pair free g joins few well gives is whole bound =
    let r = joins_over e.pages old mid level page e.high pair None free g joins is whole bound in
    let b = r.0 in
    let one : List Child = (pair.low, pair.left) ∷ [] in
    let cs = g.front ++ (one ++ g.back) in
    let facts = inner_facts (bytes_of old page) (at_level e (suc level)) (λ z. cc) well in
    let ends = two_only g.front g.back (pair.low, pair.left) (pair.middle, pair.right) (omega (arith, few, length-children (bytes_of old page), ap length g.is)) in
    let all : children (bytes_of old page) ≡ both pair = g.is ∙ ap (λ f. f ++ (both pair ++ g.back)) ends.0 ∙ ap (λ k. both pair ++ k) ends.1 in
    let low : pair.low ≡ e.low = eqb-true pair.low e.low (subst (λ l. begins_at e.low l ≡ true) all facts.begins) in
    let high : pair.high ≡ e.high = sym g.reach_is ∙ ap (λ k. reach k e.high) ends.1 in
    let w = gives b.rest b.moves.is_free (λ n. omega (arith, b.apart n, times-append n (page ∷ pages_of mid level cs) b.rest)) b.moves.within in
    let counted : (n : ℕ) → times n (pages_of mid level cs) ≡ times n (tree_pages mid level pair.left) =
    λ n. omega (arith, three_pages mid level g.front one g.back n, ap (λ f. times n (pages_of mid level f)) ends.0, ap (λ f. times n (pages_of mid level f)) ends.1, times-append n (tree_pages mid level pair.left) []) in
    let same : SameOn (tree_pages mid level pair.left) mid new = same_beside (page ∷ pages_of mid level cs) (tree_pages mid level pair.left) b.apart w.moves (λ n. omega (arith, counted n)) in
    let pages_are = tree_pages-same mid new level pair.left same in
    let moves : Moves e.pages old new (tree_pages old (suc level) page) (tree_pages new level pair.left) free (page ∷ b.rest) =
    Moves-trans b.moves (Moves-widen (page ∷ pages_of mid level cs) (tree_pages new level pair.left) w.moves (λ n. omega (arith, counted n, ap (times n) pages_are)) (λ n. omega arith)) in
    let tree : IsTree e.pages new level pair.left e.low e.high true =
    subst (λ h. IsTree e.pages new level pair.left e.low h true) high (subst (λ l. IsTree e.pages new level pair.left l pair.high true) low
    (IsTree-root e.pages new level pair.left pair.low pair.high (IsTree-same e.pages mid new level pair.left pair.low pair.high false same r.1.0))) in
    let only : rows_of mid level cs ≡ tree_rows mid level pair.left =
    ap (λ f. rows_of mid level (f ++ (one ++ g.back))) ends.0 ∙ ap (λ k. rows_of mid level (one ++ k)) ends.1 ∙ append-nil (tree_rows mid level pair.left) in
    let rows = tree_rows-same mid new level pair.left same ∙ sym only ∙ b.rows ∙ sym (three_rows old level g.front (both pair) g.back) ∙ ap (rows_of old level) (sym g.is) in
    let lower : level ≡ suc level - 1 = omega arith in
    record {
      rest = page ∷ b.rest;
      moves = subst (λ l. Moves e.pages old new (tree_pages old (suc level) page) (tree_pages new l pair.left) free (page ∷ b.rest)) lower moves;
      entries = λ l ne. w.entries l ne ∙ b.entries l ne;
      tree = (
        elim (cases_Bool e.root) [ inl t ↦ t | inr f ↦ absurd (omega (arith, facts.full f, few)) ],
        omega arith,
        subst (λ l. IsTree e.pages new l pair.left e.low e.high true) lower tree,
      );
      rows = subst (λ l. tree_rows new l pair.left ≡ rows_of old level (children (bytes_of old page))) lower rows;
    }

pub mends_alone : (e : Expect) (old first mid new : Lines) (page key count : ℕ) (pair : Pair) (buffer : List ℕ) → count ≡ e.pages → first ≡ old → buffer ≡ bytes_of old page
    → PairsUp (children buffer) e.high key pair → Joins count first mid (e.level - 1) pair None → entry_count (bytes_of mid page) < 3 → Gives count mid new page
    → Mends old new page e key (Alone pair.left)
mends_alone e old first mid new page key count pair buffer is_count same are pairs joins few gives level free m =
    let is_level = m.is_level in
    let lower : e.level - 1 ≡ level = omega (arith, is_level) in
    let g = mend_segment e old page key level free pair buffer are pairs m in
    let well = m.well in
    let is = m.is_free in
    let whole = m.parted in
    let bound = m.within in
    let joins_old = subst (λ l. Joins e.pages old mid l pair None) lower (subst (λ n. Joins n old mid (e.level - 1) pair None) is_count (subst (λ lines. Joins count lines mid (e.level - 1) pair None) same joins)) in
    let r = joins_over e.pages old mid level page e.high pair None free g joins_old is whole bound in
    subst (λ l. Became e.pages old new l page e.low e.high e.root (Alone pair.left) (rows_of old level (children (bytes_of old page))) free) (sym is_level)
    (mend_alone e old mid new level page pair free g joins_old (omega (arith, few, ap (λ p. entry_count (page_bytes p)) r.0.same)) (subst (λ l. IsWellFormed (bytes_of old page) (at_level e l)) is_level well)
    (subst (λ n. Gives n mid new page) is_count gives) is whole bound)

-- the page above after a join
pub mended_by : (e : Expect) (old first mid new : Lines) (page key count : ℕ) (pair : Pair) (cut : Option ℕ) (outcome : Outcome) (buffer : List ℕ) → count ≡ e.pages → first ≡ old → buffer ≡ bytes_of old page
    → PairsUp (children buffer) e.high key pair → Joins count first mid (e.level - 1) pair cut → Rewritten count mid new page e pair cut outcome → Mends old new page e key outcome
mended_by e old first mid new page key count pair cut outcome buffer is_count same are pairs joins (inl w) =
    subst (λ (o : Outcome). Mends old new page e key o) (sym w.is)
    (mends_written e old first mid new page key count pair cut w.fit buffer w.bytes is_count same are w.uncut pairs joins w.mended w.wrote)
mended_by e old first mid new page key count pair cut outcome buffer is_count same are pairs joins (inr w) =
    subst (λ (o : Outcome). Mends old new page e key o) (sym w.is)
    (mends_alone e old first mid new page key count pair buffer is_count same are pairs (subst (λ (c : Option ℕ). Joins count first mid (e.level - 1) pair c) w.none joins) w.few w.gives)
