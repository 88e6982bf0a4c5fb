-- The first row from a key on.
use Rattle.std.proofs.Common.{◌≡◌, ◌≢◌, ℕ, zero, suc, ◌+◌, ◌-◌, ◌*◌, ◌^◌, ◌<◌, ◌≤◌, false, List, [], ◌∷◌, ◌++◌, length, take, drop, Option, Some, None, Result, IfOk, refl, sym, ap, subst, ◌∙◌, arith, slice_get, append_assoc, append-nil, pow-suc}
use Rattle.std.proofs.lemmas.Bool.{lt-ltb, le-ltb}
use Rattle.std.proofs.lemmas.List.Concat.{flat_map-append}
use Rattle.line_pages.specs.Lines.{Lines}
use Rattle.line_pages.specs.Bytes.{bytes_of}
use Rattle.page_format.specs.declared.root.Expect.{Expect}
use Rattle.rows.specs.Rows.{Row, keys, row_next, Ascends, AllBelow, AllAbove}
use Rattle.page_format.specs.Spans.{Span, reach, spans}
use Rattle.page_format.specs.Node.{Child, children, first_keys}
use Rattle.page_format.proofs.PageFacts.{inner_facts}
use Rattle.tree_search.specs.Tree.{IsTree, tree_rows, rows_of}
use Rattle.tree_search.specs.Next.{Reaches, most_visits}
use Rattle.rows.proofs.RowLaws.{row_next-behind, row_next-append, or_else, below_bound}
use Rattle.tree_search.proofs.OrderLaws.{IsChildTree, Each-get, tree_rows-ascend, located}
use Rattle.tree_search.proofs.FanLaws.{beside}
use Rattle.tree_search.proofs.SizeLaws.{rows_below}
use Rattle.node_edit.proofs.ChildEdits.{later_child}

pub none_at : {X : Type 0} (xs : List X) (at : ℕ) → length xs ≤ at → slice_get xs at ≡ None
none_at [] at past = refl
none_at (x ∷ xs) zero past = absurd (omega (arith, past))
none_at (x ∷ xs) (suc at) past = none_at xs at (omega (arith, past))

pub next_gap : (from at : ℕ) (rows : List Row) → AllBelow from (take at rows) → AllAbove from (drop at rows) → slice_get rows at ≡ row_next from rows
next_gap from zero [] below above = refl
next_gap from zero (row ∷ rows) below above = rw (le-ltb row.0 from (omega (arith, above.0))) refl
next_gap from (suc at) [] below above = refl
next_gap from (suc at) (row ∷ rows) below above = rw (lt-ltb row.0 from below.0) (next_gap from at rows below.1 above)

key_above : (low high at key : ℕ) (rows : List Row) → Ascends low high (keys rows) → slice_get (keys rows) at ≡ Some key → low ≤ key
key_above low high at key [] up e = absurd (cc)
key_above low high zero key (row ∷ rows) up e = let same : row.0 ≡ key = cc in omega (arith, same, up.0)
key_above low high (suc at) key (row ∷ rows) up e = let ih = key_above (row.0 + 1) high at key rows up.2 e in omega (arith, ih, up.0)

pub next_row : (low high from at : ℕ) (rows : List Row) → Ascends low high (keys rows) → slice_get (keys rows) at ≡ Some from → slice_get rows at ≡ row_next from rows
next_row low high from at [] up e = refl
next_row low high from zero (row ∷ rows) up e = let same : row.0 ≡ from = cc in rw (le-ltb row.0 from (omega (arith, same))) refl
next_row low high from (suc at) (row ∷ rows) up e =
    let more = key_above (row.0 + 1) high at from rows up.2 e in rw (lt-ltb row.0 from (omega (arith, more))) (next_row (row.0 + 1) high from at rows up.2 e)

-- the first of rows that are all above
pub first_above : (from key : ℕ) (rows : List Row) → from ≤ key + 1 → AllAbove key rows → row_next from rows ≡ row_next (key + 1) rows
first_above from key [] le above = refl
first_above from key (row ∷ rows) le above = rw (le-ltb row.0 from (omega (arith, above.0, le)), le-ltb row.0 (key + 1) (omega (arith, above.0))) refl

pub some_next : (from : ℕ) (rows : List Row) → 1 ≤ length rows → (low high : ℕ) → Ascends low high (keys rows) → from ≤ low → row_next from rows ≢ None
some_next from [] some low high up le = absurd (omega (arith, some))
some_next from (row ∷ rows) some low high up le = λ e. let first : Some row ≡ None = rw (le-ltb row.0 from (omega (arith, up.0, le))) at e in absurd (cc)

wider : (low high key : ℕ) (rows : List Row) → AllBelow low rows → low ≤ key → AllBelow key rows
wider low high key [] below le = tt
wider low high key (row ∷ rows) below le = (omega (arith, below.0, le), wider low high key rows below.1 le)

-- the rows of a page as those in front of a child, its own, and those behind it
pub record Split (lines : Lines) (level page child low high from : ℕ) : Type 0 where
  pub before : List Row
  pub after : List Row
  pub rows : tree_rows lines (suc level) page ≡ before ++ (tree_rows lines level child ++ after)
  pub front : AllBelow from before
  pub behind : AllAbove high after
  pub own : Ascends low high (keys (tree_rows lines level child))

pub split : (e : Expect) (lines : Lines) (level page at child low high from : ℕ) → IsTree e.pages lines (suc level) page e.low e.high e.root → slice_get (spans (children (bytes_of lines page)) e.high) at ≡ Some (record { page = child; low = low; high = high })
    → low ≤ from → from ≤ high → Split lines level page child low high from
split e lines level page at child low high from tree spot above within =
    let s : Span = record { page = child; low = low; high = high } in
    let l = located (children (bytes_of lines page)) e.high at s spot in
    let c : Child = (low, child) in
    let below = Each-get (IsChildTree e.pages lines level) (spans (children (bytes_of lines page)) e.high) at s tree.1 spot in
    let one = beside e.pages lines level page e.low e.high e.root l.xs [] l.ys c from tree l.is above (omega (arith, within, l.reach_is)) in
    let two = beside e.pages lines level page e.low e.high e.root l.xs [] l.ys c high tree l.is (omega (arith, above, within)) (omega (arith, l.reach_is)) in
    record {
      before = rows_of lines level l.xs;
      after = rows_of lines level l.ys;
      rows = ap (rows_of lines level) l.is ∙ flat_map-append (λ (child : Child). tree_rows lines level child.1) l.xs ((c ∷ []) ++ l.ys);
      front = one.0;
      behind = two.1;
      own = tree_rows-ascend e.pages lines level child low high false below;
    }

-- the child has a row from the key on
pub next_found : (lines : Lines) (level page child low high from : ℕ) (row : Row) → Split lines level page child low high from → Some row ≡ row_next from (tree_rows lines level child) → Some row ≡ row_next from (tree_rows lines (suc level) page)
next_found lines level page child low high from row s is =
    let own = tree_rows lines level child in
    sym (ap (row_next from) s.rows ∙ row_next-behind from s.before (own ++ s.after) s.front ∙ row_next-append from own s.after ∙ ap (λ o. or_else o (row_next from s.after)) (sym is))

-- it has none: the next one is the first behind its keys
pub next_behind : (lines : Lines) (level page child low high from : ℕ) → from ≤ high → Split lines level page child low high from → None ≡ row_next from (tree_rows lines level child)
    → row_next (high + 1) (tree_rows lines (suc level) page) ≡ row_next from (tree_rows lines (suc level) page)
next_behind lines level page child low high from within s none =
    let own = tree_rows lines level child in
    let one : row_next from (tree_rows lines (suc level) page) ≡ row_next from s.after =
    ap (row_next from) s.rows ∙ row_next-behind from s.before (own ++ s.after) s.front ∙ row_next-append from own s.after ∙ ap (λ o. or_else o (row_next from s.after)) (sym none) in
    let two : row_next (high + 1) (tree_rows lines (suc level) page) ≡ row_next (high + 1) s.after =
    ap (row_next (high + 1)) s.rows ∙ row_next-behind (high + 1) s.before (own ++ s.after) (wider from high (high + 1) s.before s.front (omega (arith, within)))
    ∙ row_next-behind (high + 1) own s.after (below_bound low high (high + 1) own (omega arith) s.own) in
    two ∙ sym (first_above from high s.after (omega (arith, within)) s.behind) ∙ sym one

pub most_some : (n : ℕ) → 3 ≤ most_visits n
most_some zero = omega arith
most_some (suc n) = let ih = most_some n in omega (arith, ih)

pub most_twice : (n : ℕ) → 1 ≤ n → most_visits n ≡ 2 * most_visits (n - 1)
most_twice n some = let e : n ≡ suc (n - 1) = omega (arith, some) in ap most_visits e

pub next_past : (from low high : ℕ) (rows : List Row) → Ascends low high (keys rows) → high < from → None ≡ row_next from rows
next_past from low high rows up past = sym (ap (row_next from) (sym (append-nil rows)) ∙ row_next-behind from rows [] (below_bound low high from rows past up))

or_first : {X : Type 0} (o p : Option X) → o ≢ None → or_else o p ≡ o
or_first None p some = absurd (some refl)
or_first (Some x) p some = refl

pub child_first : (lines : Lines) (level page child low high from : ℕ) → Split lines level page child low high from → row_next from (tree_rows lines level child) ≢ None
    → row_next from (tree_rows lines level child) ≡ row_next from (tree_rows lines (suc level) page)
child_first lines level page child low high from s some =
    let own = tree_rows lines level child in
    sym (ap (row_next from) s.rows ∙ row_next-behind from s.before (own ++ s.after) s.front ∙ row_next-append from own s.after ∙ or_first (row_next from own) (row_next from s.after) some)

reach_before : (low most : ℕ) (xs ys : List Child) (y : Child) → Ascends (low + 1) most (first_keys (xs ++ (y ∷ ys))) → reach (xs ++ (y ∷ ys)) most < y.0
reach_before low most [] ys y up = omega (arith, up.0)
reach_before low most (x ∷ xs) ys y up = let more = later_child (x.0 + 1) most y xs ys up.2 in omega (arith, up.0, more)

two_places : (low most : ℕ) (xs ys xs2 ys2 : List Child) (y c : Child) → Ascends low most (first_keys (xs2 ++ (c ∷ ys2))) → xs ++ (y ∷ ys) ≡ xs2 ++ (c ∷ ys2) → c.0 ≤ y.0 → y.0 ≤ reach ys2 most → c.0 ≡ y.0
two_places low most [] ys [] ys2 y c up same le within = let e : y ≡ c = cc in ap (λ (x : Child). x.0) (sym e)
two_places low most [] ys (x ∷ xs2) ys2 y c up same le within =
    let e : y ≡ x = cc in let more = later_child (x.0 + 1) most c xs2 ys2 up.2 in absurd (omega (arith, more, le, ap (λ (z : Child). z.0) e))
two_places low most (x ∷ xs) ys [] ys2 y c up same le within =
    let rest : xs ++ (y ∷ ys) ≡ ys2 = cc in
    let less = reach_before c.0 most xs ys y (subst (λ (l : List Child). Ascends (c.0 + 1) most (first_keys l)) (sym rest) up.2) in
    absurd (omega (arith, less, within, ap (λ (l : List Child). reach l most) rest))
two_places low most (x ∷ xs) ys (x2 ∷ xs2) ys2 y c up same le within =
    let rest : xs ++ (y ∷ ys) ≡ xs2 ++ (c ∷ ys2) = cc in two_places (x2.0 + 1) most xs ys xs2 ys2 y c up.2 rest le within

behind_low : (low most : ℕ) (xs ys : List Child) (a b : Child) → Ascends low most (first_keys (xs ++ (a ∷ b ∷ ys))) → 1 ≤ b.0
behind_low low most [] ys a b up = omega (arith, up.2.0)
behind_low low most (x ∷ xs) ys a b up = behind_low (x.0 + 1) most xs ys a b up.2

-- behind a child that reaches up to a key the next one begins
pub begins_behind : (low most high at : ℕ) (cs : List Child) (s : Span) → Ascends low most (first_keys cs) → Reaches cs most high → high < most → slice_get (spans cs most) at ≡ Some s → s.low ≤ high + 1 → high + 1 ≤ s.high → s.low ≡ high + 1
begins_behind low most high at cs s up r less spot above within =
    go r.ys r.is r.up_to
  where
    go : (ys : List Child) → cs ≡ r.xs ++ (r.s ∷ ys) → reach ys most ≡ high → s.low ≡ high + 1
    go [] is e = absurd (omega (arith, e, less))
    go (y ∷ ys) is e =
        let l = located cs most at s spot in
        let front : List Child = r.xs ++ (r.s ∷ []) in
        let whole : cs ≡ front ++ (y ∷ ys) = is ∙ sym (append_assoc r.xs (r.s ∷ []) (y ∷ ys)) in
        let order = later_child low most y front ys (subst (λ (k : List Child). Ascends low most (first_keys k)) whole up) in
        let least = behind_low low most r.xs ys r.s y (subst (λ (k : List Child). Ascends low most (first_keys k)) is up) in
        let key : y.0 ≡ high + 1 = omega (arith, e, least) in
        two_places low most front ys l.xs l.ys y (s.low, s.page) (subst (λ (k : List Child). Ascends low most (first_keys k)) l.is up) (sym whole ∙ l.is) (omega (arith, key, above)) (omega (arith, key, within, l.reach_is)) ∙ key

pub reaches : (cs : List Child) (most at : ℕ) (s : Span) → slice_get (spans cs most) at ≡ Some s → Reaches cs most s.high
reaches cs most at s spot = let l = located cs most at s spot in record { xs = l.xs; ys = l.ys; s = (s.low, s.page); is = l.is; up_to = l.reach_is }

pub pow_some : (n : ℕ) → 1 ≤ 80 ^ n
pow_some zero = omega arith
pow_some (suc n) = let ih = pow_some n in omega (arith, ih, pow-suc 80 n)

-- the answer of the child behind, in the words of the page above
pub after_child : {E : Type 0} (e : Expect) (old new : Lines) (page at child low top high : ℕ) (r : Result (Option Row) E) → new ≡ old → 1 ≤ e.level → IsTree e.pages old e.level page e.low e.high e.root
    → Reaches (children (bytes_of old page)) e.high high → high < e.high → slice_get (spans (children (bytes_of old page)) e.high) at ≡ Some (record { page = child; low = low; high = top }) → low ≤ high + 1 → high + 1 ≤ top
    → (IsTree e.pages new (e.level - 1) child low top false → IfOk r (λ row. row ≡ row_next (high + 1) (tree_rows new (e.level - 1) child))) → IfOk r (λ row. row ≡ row_next (high + 1) (tree_rows old e.level page))
after_child e old new page at child low top high r same some tree reached less spot above within answer =
    let level = e.level - 1 in
    let is_level : e.level ≡ suc level = omega (arith, some) in
    let down : IsTree e.pages old (suc level) page e.low e.high e.root = subst (λ (l : ℕ). IsTree e.pages old l page e.low e.high e.root) is_level tree in
    let facts = inner_facts (bytes_of old page) _ (λ z. cc) down.0 in
    let begins = begins_behind e.low e.high high at (children (bytes_of old page)) (record { page = child; low = low; high = top }) facts.order reached less spot above within in
    let below = Each-get (IsChildTree e.pages old level) (spans (children (bytes_of old page)) e.high) at (record { page = child; low = low; high = top }) down.1 spot in
    let s = split e old level page at child low top (high + 1) down spot above within in
    let rows = rows_below e.pages old level child low top below in
    let first = child_first old level page child low top (high + 1) s (some_next (high + 1) (tree_rows old level child) (omega (arith, rows, pow_some level)) low top s.own (omega (arith, begins))) in
    let ih = subst (λ (lines : Lines). IsTree e.pages lines level child low top false → IfOk r (λ row. row ≡ row_next (high + 1) (tree_rows lines level child))) same answer below in
    subst (λ (o : Option Row). IfOk r (λ row. row ≡ o)) (first ∙ ap (λ (l : ℕ). row_next (high + 1) (tree_rows old l page)) (sym is_level)) ih

-- the child has none, and the search behind it answers for the page
pub none_in_child : {E : Type 0} (e : Expect) (old mid : Lines) (page at child low high from : ℕ) (r : Result (Option Row) E) → mid ≡ old → 1 ≤ e.level → IsTree e.pages old e.level page e.low e.high e.root
    → slice_get (spans (children (bytes_of old page)) e.high) at ≡ Some (record { page = child; low = low; high = high }) → low ≤ from → from ≤ high
    → None ≡ row_next from (tree_rows old (e.level - 1) child)
    → (IsTree e.pages mid e.level page e.low e.high e.root → Reaches (children (bytes_of mid page)) e.high high → IfOk r (λ row. row ≡ row_next (high + 1) (tree_rows mid e.level page))) → IfOk r (λ row. row ≡ row_next from (tree_rows old e.level page))
none_in_child e old mid page at child low high from r same some tree spot above within none answer =
    let level = e.level - 1 in
    let is_level : e.level ≡ suc level = omega (arith, some) in
    let down : IsTree e.pages old (suc level) page e.low e.high e.root = subst (λ (l : ℕ). IsTree e.pages old l page e.low e.high e.root) is_level tree in
    let s = split e old level page at child low high from down spot above within in
    let is = next_behind old level page child low high from within s none in
    let ih = subst (λ (lines : Lines). IsTree e.pages lines e.level page e.low e.high e.root → Reaches (children (bytes_of lines page)) e.high high → IfOk r (λ row. row ≡ row_next (high + 1) (tree_rows lines e.level page))) same answer tree
    (reaches (children (bytes_of old page)) e.high at (record { page = child; low = low; high = high }) spot) in
    subst (λ (o : Option Row). IfOk r (λ row. row ≡ o)) (ap (λ (l : ℕ). row_next (high + 1) (tree_rows old l page)) is_level ∙ is ∙ ap (λ (l : ℕ). row_next from (tree_rows old l page)) (sym is_level)) ih

-- the child's answer, at the pages as they were
pub child_answer : (e : Expect) (old mid : Lines) (page at child low high from : ℕ) (o : Option Row) → mid ≡ old → 1 ≤ e.level → IsTree e.pages old e.level page e.low e.high e.root
    → slice_get (spans (children (bytes_of old page)) e.high) at ≡ Some (record { page = child; low = low; high = high })
    → (IsTree e.pages mid (e.level - 1) child low high false → o ≡ row_next from (tree_rows mid (e.level - 1) child)) → o ≡ row_next from (tree_rows old (e.level - 1) child)
child_answer e old mid page at child low high from o same some tree spot answer =
    let level = e.level - 1 in
    let is_level : e.level ≡ suc level = omega (arith, some) in
    let down : IsTree e.pages old (suc level) page e.low e.high e.root = subst (λ (l : ℕ). IsTree e.pages old l page e.low e.high e.root) is_level tree in
    let below = Each-get (IsChildTree e.pages old level) (spans (children (bytes_of old page)) e.high) at (record { page = child; low = low; high = high }) down.1 spot in
    subst (λ (lines : Lines). IsTree e.pages lines level child low high false → o ≡ row_next from (tree_rows lines level child)) same answer below

pub some_in_child : (e : Expect) (old : Lines) (page at child low high from : ℕ) (row : Row) → 1 ≤ e.level → IsTree e.pages old e.level page e.low e.high e.root
    → slice_get (spans (children (bytes_of old page)) e.high) at ≡ Some (record { page = child; low = low; high = high }) → low ≤ from → from ≤ high → Some row ≡ row_next from (tree_rows old (e.level - 1) child)
    → Some row ≡ row_next from (tree_rows old e.level page)
some_in_child e old page at child low high from row some tree spot above within is =
    let level = e.level - 1 in
    let is_level : e.level ≡ suc level = omega (arith, some) in
    let down : IsTree e.pages old (suc level) page e.low e.high e.root = subst (λ (l : ℕ). IsTree e.pages old l page e.low e.high e.root) is_level tree in
    let s = split e old level page at child low high from down spot above within in
    next_found old level page child low high from row s is ∙ ap (λ (l : ℕ). row_next from (tree_rows old l page)) (sym is_level)

pub most_of_four : (n : ℕ) → n ≤ 3 → most_visits n ≤ 24
most_of_four zero few = omega arith
most_of_four (suc zero) few = omega arith
most_of_four (suc (suc zero)) few = omega arith
most_of_four (suc (suc (suc zero))) few = omega arith
most_of_four (suc (suc (suc (suc n)))) few = absurd (omega (arith, few))
