-- Pages that were written, and the trees over them.
use Rattle.std.proofs.Common.{◌≡◌, ◌≢◌, ℕ, suc, ◌+◌, ◌-◌, ◌/◌, ◌<◌, ◌≤◌, Bool, true, false, List, [], ◌∷◌, ◌++◌, Some, Result, Ok, Err, IfOk, OnOk, refl, sym, ap, subst, ◌∙◌, arith, append-nil, slice_get, length}
use Rattle.std.proofs.lemmas.Bool.{eq-eqb}
use Rattle.std.proofs.lemmas.List.Concat.{flat_map-append}
use Rattle.line_pages.specs.Lines.{Lines}
use Rattle.line_pages.specs.Bytes.{bytes_of, page_bytes}
use Rattle.page_format.specs.declared.root.Expect.{Expect}
use Rattle.rows.specs.Rows.{Row, Each, Ascends, last_key}
use Rattle.page_format.specs.Spans.{Span, reach, spans}
use Rattle.page_format.specs.Node.{Child, leaf_rows, children, first_keys, IsWellFormed}
use Rattle.page_format.proofs.PageFacts.{inner_facts}
use Rattle.tree_search.specs.declared.root.Root.{Root}
use Rattle.node_edit.specs.declared.fit.Fit.{Fit}
use Rattle.node_edit.specs.declared.fit.Fit.TheVariants as fits
use Rattle.bplus_tree.specs.declared.outcome.Outcome.{Outcome}
use Rattle.bplus_tree.specs.declared.outcome.Outcome.TheVariants.{Whole, Short, Cut, Alone}
use Rattle.page_alloc.specs.Space.{high_of}
use Rattle.page_alloc.specs.Counted.{times, SameOn}
use Rattle.tree_search.specs.Tree.{IsTree, Tree, tree_rows, tree_pages, rows_of, pages_of}
use Rattle.page_alloc.specs.Moves.{ArePart, Moves, Takes}
use Rattle.bplus_tree.specs.Changes.{ChangesRows}
use Rattle.page_alloc.specs.Written.{Rewrites}
use Rattle.node_edit.specs.Cuts.{CutsChildren}
use Rattle.node_edit.specs.Edit.{part, loose, Divides, Fits, child_put, IsNewRoot}
use Rattle.bplus_tree.specs.Edit.{Became, Edits, IsOutcome, Stored, Stores, AddsChild, root_left, spent, IsSpent}
use Rattle.page_alloc.proofs.CountedLaws.{times-append, SameOn-first}
use Rattle.tree_search.proofs.SizeLaws.{page_bound}
use Rattle.tree_search.proofs.OrderLaws.{IsChildTree, length-children, Each-get, located}
use Rattle.tree_search.proofs.FanLaws.{spans-parts, spans-join, stay_under, beside}
use Rattle.page_alloc.proofs.MovesLaws.{Moves-trans}
use Rattle.page_alloc.proofs.Places.{Moves-widen, Moves-write, in_part, part_after, same_beside}
use Rattle.bplus_tree.proofs.Editing.{IsLocal, at_level, tree_of, reach_begins, one_above, once_after, Beside, turn, child_part}
use Rattle.node_edit.proofs.ChildEdits.{child_put-behind, child_put-next, keys_below}

pub stored_whole : (count : ℕ) (old new : Lines) (page : ℕ) (left right : List ℕ) → Rewrites page left old new → Stores count old new page Whole left right
stored_whole count old new page left right wrote free is part within =
    let w = Moves-write count old new page left free wrote is part within in
    record { rest = free; moves = w.moves; entries = w.entries; shows = wrote.bytes_are }

pub stored_short : (count : ℕ) (old new : Lines) (page : ℕ) (left right : List ℕ) → Rewrites page left old new → Stores count old new page Short left right
stored_short count old new page left right wrote free is part within =
    let w = Moves-write count old new page left free wrote is part within in
    record { rest = free; moves = w.moves; entries = w.entries; shows = wrote.bytes_are }

pub stored_cut : (count : ℕ) (old a b new : Lines) (page key more : ℕ) (left right : List ℕ) → Rewrites page left old a → Takes count a b more → Rewrites more right b new
    → Stores count old new page (Cut key more) left right
stored_cut count old a b new page key more left right first takes second free is part within =
    let w1 = Moves-write count old a page left free first is part within in
    let part1 : ArePart a (page ∷ free) = λ n. omega (arith, part_after part w1.moves n) in
    let t = takes free w1.moves.is_free in
    let m1 = Moves-widen (page ∷ []) (page ∷ more ∷ []) t.moves (λ n. omega arith) (λ n. omega arith) in
    let part2 : ArePart b ((page ∷ more ∷ []) ++ t.rest) = part_after part1 m1 in
    let w2 = Moves-write count b new more right t.rest second t.moves.is_free (λ n. omega (arith, part2 n)) t.moves.within in
    let m2 = Moves-widen (page ∷ more ∷ []) (page ∷ more ∷ []) w2.moves (λ n. omega arith) (λ n. omega arith) in
    let mine = in_part b (page ∷ more ∷ t.rest) page part2 (rw (eq-eqb page page refl) (omega arith)) in
    let apart : page ≢ more = λ e. let own = rw (eq-eqb page page refl, eq-eqb more page (sym e)) at mine.2 in omega (arith, own) in
    let same : SameOn (page ∷ []) a b = same_beside (page ∷ []) (page ∷ []) part1 t.moves (λ n. omega arith) in
    record {
      rest = t.rest;
      moves = Moves-trans w1.moves (Moves-trans m1 m2);
      entries = λ l ne. w2.entries l ne ∙ t.entries l ne ∙ w1.entries l ne;
      shows = (ap (λ p. page_bytes p) (second.others page apart ∙ SameOn-first page [] a b same) ∙ first.bytes_are, second.bytes_are);
    }

leaf_became : (e : Expect) (old new : Lines) (page : ℕ) (left right : List ℕ) (rows' : List Row) (fit : Fit) (outcome : Outcome) (free : List ℕ) → Fits leaf_rows (at_level e 0) left right rows' fit
    → IsOutcome e.pages fit outcome → Stored e.pages old new page outcome left right free → Became e.pages old new 0 page e.low e.high e.root outcome rows' free
leaf_became e old new page left right rows' fits.Whole Whole free fit is s = record {
  rest = s.rest;
  moves = s.moves;
  entries = s.entries;
  tree = subst (λ b. IsWellFormed b (at_level e 0)) (sym s.shows) fit.well;
  rows = ap leaf_rows s.shows ∙ fit.are;
}
leaf_became e old new page left right rows' fits.Whole Short free fit is s = absurd (cc)
leaf_became e old new page left right rows' fits.Whole (Cut key more) free fit is s = absurd (cc)
leaf_became e old new page left right rows' fits.Whole (Alone child) free fit is s = absurd (cc)
leaf_became e old new page left right rows' fits.Short Whole free fit is s = absurd (cc)
leaf_became e old new page left right rows' fits.Short Short free fit is s = record {
  rest = s.rest;
  moves = s.moves;
  entries = s.entries;
  tree = subst (λ b. IsWellFormed b (loose (at_level e 0))) (sym s.shows) fit.well;
  rows = ap leaf_rows s.shows ∙ fit.are;
}
leaf_became e old new page left right rows' fits.Short (Cut key more) free fit is s = absurd (cc)
leaf_became e old new page left right rows' fits.Short (Alone child) free fit is s = absurd (cc)
leaf_became e old new page left right rows' (fits.Cut at) Whole free fit is s = absurd is
leaf_became e old new page left right rows' (fits.Cut at) Short free fit is s = absurd is
leaf_became e old new page left right rows' (fits.Cut at) (Cut key more) free found is s =
    let fit = subst (λ k. Divides leaf_rows (at_level e 0) left right rows' k) (sym is.0) found in
    record {
      rest = s.rest;
      moves = s.moves;
      entries = s.entries;
      tree = (
        subst (λ b. IsWellFormed b (part (at_level e 0) e.low (key - 1))) (sym s.shows.0) fit.left_well,
        subst (λ b. IsWellFormed b (part (at_level e 0) key e.high)) (sym s.shows.1) fit.right_well,
      );
      rows = ap (λ b. leaf_rows b ++ leaf_rows (bytes_of new more)) s.shows.0 ∙ ap (λ b. leaf_rows left ++ leaf_rows b) s.shows.1 ∙ fit.are;
    }
leaf_became e old new page left right rows' (fits.Cut at) (Alone child) free fit is s = absurd is

-- a leaf whose rows were changed and that was written
pub leaf_edits : (e : Expect) (old mid new : Lines) (page count : ℕ) (bytes left right : List ℕ) (fit : Fit) (outcome : Outcome) (step : List Row → List Row) → e.level ≡ 0 → count ≡ e.pages → mid ≡ old → bytes ≡ bytes_of old page
    → Fits leaf_rows e left right (step (leaf_rows bytes)) fit → IsOutcome count fit outcome → Stores count mid new page outcome left right → Edits old new page e outcome step
leaf_edits e old mid new page count bytes left right fit outcome step level is_count same are fits is stores =
    subst (λ l. Fits leaf_rows (at_level e l) left right (step (leaf_rows (bytes_of old page))) fit → Edits old new page (at_level e l) outcome step) (sym level)
    (λ held free tree is_free part within.
    leaf_became e old new page left right (step (leaf_rows (bytes_of old page))) fit outcome free held (subst (λ n. IsOutcome n fit outcome) is_count is)
    (subst (λ n. Stores n old new page outcome left right) is_count (subst (λ lines. Stores count lines new page outcome left right) same stores) free is_free part within))
    (subst (λ b. Fits leaf_rows e left right (step (leaf_rows b)) fit) are fits)

-- the page above is written with its children, alone or in two
added : (e : Expect) (old mid new : Lines) (level page : ℕ) (xs ms ys : List Child) (seg rows' : List Row) (free left right : List ℕ) (fit : Fit) (outcome : Outcome)
    → (b : Beside e.pages old mid level page xs ms ys seg free) → Each (IsChildTree e.pages mid level) (spans (xs ++ (ms ++ ys)) e.high) → rows_of mid level (xs ++ (ms ++ ys)) ≡ rows'
    → Stored e.pages mid new page outcome left right b.rest → Fits children (at_level e (suc level)) left right (xs ++ (ms ++ ys)) fit → IsOutcome e.pages fit outcome → fit ≢ fits.Short
    → Became e.pages old new (suc level) page e.low e.high e.root outcome rows' free
added e old mid new level page xs ms ys seg rows' free left right fits.Whole Whole b trees rows s fit is long =
    let cs = xs ++ (ms ++ ys) in
    let same : SameOn (pages_of mid level cs) mid new = same_beside (page ∷ pages_of mid level cs) (pages_of mid level cs) b.apart s.moves (λ n. omega arith) in
    let stay = stay_under e.pages mid new level cs same in
    let kids : children (bytes_of new page) ≡ cs = ap children s.shows ∙ fit.are in
    let moves = Moves-trans b.moves (Moves-widen (page ∷ pages_of mid level cs) (page ∷ pages_of mid level cs) s.moves (λ n. omega arith) (λ n. omega arith)) in
    record {
      rest = s.rest;
      moves = subst (λ ps. Moves e.pages old new (tree_pages old (suc level) page) ps free s.rest) (ap (λ ps. page ∷ ps) (sym stay.pages ∙ ap (pages_of new level) (sym kids))) moves;
      entries = λ l ne. s.entries l ne ∙ b.entries l ne;
      tree = tree_of e.pages new level page e.low e.high e.root left s.shows fit.well (subst (λ all. Each (IsChildTree e.pages new level) (spans all e.high)) (sym fit.are) (stay.trees e.high trees));
      rows = ap (rows_of new level) kids ∙ stay.rows ∙ rows;
    }
added e old mid new level page xs ms ys seg rows' free left right fits.Whole Short b trees rows s fit is long = absurd (cc)
added e old mid new level page xs ms ys seg rows' free left right fits.Whole (Cut key more) b trees rows s fit is long = absurd (cc)
added e old mid new level page xs ms ys seg rows' free left right fits.Whole (Alone child) b trees rows s fit is long = absurd (cc)
added e old mid new level page xs ms ys seg rows' free left right fits.Short outcome b trees rows s fit is long = absurd (long refl)
added e old mid new level page xs ms ys seg rows' free left right (fits.Cut at) Whole b trees rows s fit is long = absurd is
added e old mid new level page xs ms ys seg rows' free left right (fits.Cut at) Short b trees rows s fit is long = absurd is
added e old mid new level page xs ms ys seg rows' free left right (fits.Cut at) (Alone child) b trees rows s fit is long = absurd is
added e old mid new level page xs ms ys seg rows' free left right (fits.Cut at) (Cut key more) b trees rows s found is long =
    let cs = xs ++ (ms ++ ys) in
    let P = IsChildTree e.pages new level in
    let fit = subst (λ k. Divides children (at_level e (suc level)) left right cs k) (sym is.0) found in
    let same : SameOn (pages_of mid level cs) mid new = same_beside (page ∷ pages_of mid level cs) (pages_of mid level cs) b.apart s.moves (λ n. omega arith) in
    let stay = stay_under e.pages mid new level cs same in
    let parts = spans-parts P (children left) (children right) e.high (subst (λ all. Each P (spans all e.high)) (sym fit.are) (stay.trees e.high trees)) in
    let facts = inner_facts right _ (λ e. cc) fit.right_well in
    let bound : reach (children right) e.high ≡ key - 1 = reach_begins key e.high (children right) facts.begins (omega (arith, facts.some, length-children right)) in
    let kids_left : children (bytes_of new page) ≡ children left = ap children s.shows.0 in
    let kids_right : children (bytes_of new more) ≡ children right = ap children s.shows.1 in
    let rows_are : rows_of new level (children left) ++ rows_of new level (children right) ≡ rows' =
    sym (flat_map-append (λ (child : Child). tree_rows new level child.1) (children left) (children right)) ∙ ap (rows_of new level) fit.are ∙ stay.rows ∙ rows in
    let pages_are : pages_of new level (children left) ++ pages_of new level (children right) ≡ pages_of mid level cs =
    sym (flat_map-append (λ (child : Child). tree_pages new level child.1) (children left) (children right)) ∙ ap (pages_of new level) fit.are ∙ stay.pages in
    let counted : (n : ℕ) → times n (tree_pages new (suc level) page ++ tree_pages new (suc level) more) ≡ times n (page ∷ more ∷ []) + times n (pages_of mid level cs) =
    λ n. omega (
      arith,
      times-append n (tree_pages new (suc level) page) (tree_pages new (suc level) more),
      ap (λ all. times n (pages_of new level all)) kids_left,
      ap (λ all. times n (pages_of new level all)) kids_right,
      ap (times n) pages_are,
      times-append n (pages_of new level (children left)) (pages_of new level (children right)),
    ) in
    record {
      rest = s.rest;
      moves = Moves-trans b.moves (Moves-widen (page ∷ pages_of mid level cs) (tree_pages new (suc level) page ++ tree_pages new (suc level) more) s.moves (λ n. omega (arith, counted n)) (λ n. omega arith));
      entries = λ l ne. s.entries l ne ∙ b.entries l ne;
      tree = (
        tree_of e.pages new level page e.low (key - 1) false left s.shows.0 fit.left_well (subst (λ h. Each P (spans (children left) h)) bound parts.0),
        tree_of e.pages new level more key e.high false right s.shows.1 fit.right_well parts.1,
      );
      rows = ap (λ all. rows_of new level all ++ tree_rows new (suc level) more) kids_left ∙ ap (λ all. rows_of new level (children left) ++ rows_of new level all) kids_right ∙ rows_are;
    }

step_cut : (count : ℕ) (old mid : Lines) (level page low high : ℕ) (root : Bool) (xs ms ys : List Child) (s : Child) (key : ℕ) (step : List Row → List Row) (free : List ℕ) → IsLocal key step → IsTree count old (suc level) page low high root
    → children (bytes_of old page) ≡ xs ++ ((s ∷ []) ++ ys) → s.0 ≤ key → key ≤ reach ys high → (b : Beside count old mid level page xs ms ys (step (tree_rows old level s.1)) free)
    → rows_of mid level (xs ++ (ms ++ ys)) ≡ step (tree_rows old (suc level) page)
step_cut count old mid level page low high root xs ms ys s key step free local tree was above within b =
    let sides = beside count old level page low high root xs [] ys s key tree was above within in
    b.rows ∙ sym (ap step (ap (rows_of old level) was ∙ flat_map-append (λ (child : Child). tree_rows old level child.1) xs ((s ∷ []) ++ ys))
    ∙ local.amid (rows_of old level xs) (tree_rows old level s.1) (rows_of old level ys) sides.0 sides.1)

-- the child was cut, and the page above has one more
pub edits_cut : (e : Expect) (old first mid new : Lines) (page key child low high at separator right : ℕ) (outcome : Outcome) (step : List Row → List Row) → IsLocal key step → 1 ≤ e.level → first ≡ old
    → (IsWellFormed (bytes_of old page) e → slice_get (spans (children (bytes_of old page)) e.high) at ≡ Some (record { page = child; low = low; high = high })) → low ≤ key → key ≤ high
    → low < separator → separator ≤ high
    → Edits first mid child (record { level = e.level - 1; low = low; high = high; root = false; pages = e.pages }) (Cut separator right) step
    → AddsChild mid new page e separator right outcome → Edits old new page e outcome step
edits_cut e old first mid new page key child low high at separator right outcome step local some same found above within after before edits adds =
    let is_level = one_above e.level some in
    let level = e.level - 1 in
    let s : Span = record { page = child; low = low; high = high } in
    subst (λ l. AddsChild mid new page (at_level e l) separator right outcome → Edits old new page (at_level e l) outcome step) (sym is_level)
    (λ adding free tree is whole bound.
    let spot = found (subst (λ l. IsWellFormed (bytes_of old page) (at_level e l)) (sym is_level) tree.0) in
    let l = located (children (bytes_of old page)) e.high at s spot in
    let c : Child = (low, child) in
    let ms : List Child = c ∷ (separator, right) ∷ [] in
    let below = Each-get (IsChildTree e.pages old level) (spans (children (bytes_of old page)) e.high) at s tree.1 spot in
    let d = subst (λ lines. Edits lines mid child (record { level = level; low = low; high = high; root = false; pages = e.pages }) (Cut separator right) step) same edits
    free below is (child_part old level page l.xs l.ys c free l.is whole) bound in
    let seg = step (tree_rows old level child) in
    let two_pages : pages_of mid level ms ≡ tree_pages mid level child ++ tree_pages mid level right = ap (λ r. tree_pages mid level child ++ r) (append-nil (tree_pages mid level right)) in
    let two_rows : rows_of mid level ms ≡ seg = ap (λ r. tree_rows mid level child ++ r) (append-nil (tree_rows mid level right)) ∙ d.rows in
    let m = Moves-widen (pages_of old level (c ∷ [])) (pages_of mid level ms) d.moves (λ n. omega (arith, times-append n (tree_pages old level child) [], ap (times n) two_pages)) (λ n. omega (arith, times-append n (tree_pages old level child) [])) in
    let b = turn e.pages old mid level page l.xs (c ∷ []) ms l.ys seg free d.rest l.is whole m d.entries two_rows in
    let rows = step_cut e.pages old mid level page e.low e.high e.root l.xs ms l.ys c key step free local tree l.is above (omega (arith, within, l.reach_is)) b in
    let parts = spans-parts (IsChildTree e.pages old level) l.xs ((c ∷ []) ++ l.ys) e.high (subst (λ all. Each (IsChildTree e.pages old level) (spans all e.high)) l.is tree.1) in
    let back = b.back.trees e.high (spans-parts (IsChildTree e.pages old level) (c ∷ []) l.ys e.high parts.1).1 in
    let second : IsTree e.pages mid level right separator (reach l.ys e.high) false = subst (λ h. IsTree e.pages mid level right separator h false) (sym l.reach_is) d.tree.1 in
    let trees = spans-join (IsChildTree e.pages mid level) l.xs (ms ++ l.ys) e.high (b.front.trees (low - 1) parts.0) (d.tree.0, (second, back)) in
    let a = adding b.rest b.moves.is_free (λ n. omega (arith, b.apart n, times-append n (page ∷ pages_of mid level (l.xs ++ (ms ++ l.ys))) b.rest, times-append n (pages_of mid level (l.xs ++ (ms ++ l.ys))) b.rest)) b.moves.within in
    let order = subst (λ all. Ascends e.low e.high (first_keys all)) l.is (inner_facts (bytes_of old page) _ (λ z. cc) tree.0).order in
    let all : child_put separator right (children (bytes_of mid page)) ≡ l.xs ++ (ms ++ l.ys) =
    ap (child_put separator right) (ap (λ p. children (page_bytes p)) b.same ∙ l.is)
    ∙ child_put-behind separator right l.xs ((low, child) ∷ l.ys) (keys_below e.low e.high separator (low, child) l.xs l.ys order (omega (arith, after)))
    ∙ ap (λ r. l.xs ++ r) (child_put-next separator right e.high (low, child) l.ys after (omega (arith, before, l.reach_is))) in
    added e old mid new level page l.xs ms l.ys seg (step (tree_rows old (suc level) page)) free a.left a.right a.fit outcome b trees rows a.stored
    (subst (λ cs. Fits children (at_level e (suc level)) a.left a.right cs a.fit) all a.held) a.is a.long)
    adds

-- an inner page that has one more child and was written
pub child_added : (e : Expect) (old mid new : Lines) (page key child count : ℕ) (bytes left right : List ℕ) (fit : Fit) (outcome : Outcome) → count ≡ e.pages → mid ≡ old → bytes ≡ bytes_of old page
    → Fits children e left right (child_put key child (children bytes)) fit → fit ≢ fits.Short
    → ((k : ℕ) → fit ≡ fits.Cut k → CutsChildren (child_put key child (children bytes)) (children left) (children right) k) → IsOutcome count fit outcome → Stores count mid new page outcome left right → AddsChild old new page e key child outcome
child_added e old mid new page key child count bytes left right fit outcome is_count same are held long parts is stores free is_free part within =
    record {
      left = left;
      right = right;
      fit = fit;
      stored = subst (λ n. Stored n old new page outcome left right free) is_count
          (subst (λ lines. Stores count lines new page outcome left right) same stores free is_free part (subst (λ n. high_of old ≤ n) (sym is_count) within));
      held = subst (λ b. Fits children e left right (child_put key child (children b)) fit) are held;
      is = subst (λ n. IsOutcome n fit outcome) is_count is;
      long = long;
      parts = subst (λ b. (k : ℕ) → fit ≡ fits.Cut k → CutsChildren (child_put key child (children b)) (children left) (children right) k) are parts;
    }

-- a tree of these rows has at most so many pages
page_bound_of : (count : ℕ) (lines : Lines) (level page low high : ℕ) (root : Bool) (rows : List Row) → IsTree count lines level page low high root → rows ≡ tree_rows lines level page
    → length (tree_pages lines level page) ≤ length rows / 2 + 8
page_bound_of count lines level page low high root rows is rows_are =
    subst (λ (all : List Row). length (tree_pages lines level page) ≤ length all / 2 + 8) (sym rows_are) (page_bound count lines level page low high root is)

-- the rows of a root's tree before and after
pub root_edited : (count : ℕ) (old new : Lines) (root : Root) (outcome : Outcome) (step : List Row → List Row) → ((k r : ℕ) → outcome ≢ Cut k r) → 1 ≤ root.levels → root.levels ≤ 4
    → Edits old new root.page (record { level = root.levels - 1; low = 0; high = last_key; root = true; pages = count }) outcome step → ChangesRows count old new root (root_left root outcome) step
root_edited count old new root Whole step uncut some few deletes rows used free r is part within =
    let d = deletes free r.tree.is_tree is (subst (λ u. ArePart old (u ++ free)) r.tree.used_are part) within in
    let used' = tree_pages new (root.levels - 1) root.page in
    let moves = subst (λ u. Moves count old new u used' free d.rest) (sym r.tree.used_are) d.moves in
    record {
      used' = used';
      free' = d.rest;
      moves = moves;
      entries = d.entries;
      tree = record {
        some_levels = some;
        few_levels = few;
        tree = record { is_tree = d.tree; rows_are = ap step r.tree.rows_are ∙ sym d.rows; used_are = refl; once = once_after new used' d.rest (part_after part moves) };
      };
      bound = page_bound_of count new (root.levels - 1) root.page 0 last_key true (step rows) d.tree (ap step r.tree.rows_are ∙ sym d.rows);
    }
root_edited count old new root Short step uncut some few deletes rows used free r is part within =
    let d = deletes free r.tree.is_tree is (subst (λ u. ArePart old (u ++ free)) r.tree.used_are part) within in
    let used' = tree_pages new (root.levels - 1) root.page in
    let moves = subst (λ u. Moves count old new u used' free d.rest) (sym r.tree.used_are) d.moves in
    record {
      used' = used';
      free' = d.rest;
      moves = moves;
      entries = d.entries;
      tree = record {
        some_levels = some;
        few_levels = few;
        tree = record { is_tree = d.tree; rows_are = ap step r.tree.rows_are ∙ sym d.rows; used_are = refl; once = once_after new used' d.rest (part_after part moves) };
      };
      bound = page_bound_of count new (root.levels - 1) root.page 0 last_key true (step rows) d.tree (ap step r.tree.rows_are ∙ sym d.rows);
    }
root_edited count old new root (Alone child) step uncut some few deletes rows used free r is part within =
    let d = deletes free r.tree.is_tree is (subst (λ u. ArePart old (u ++ free)) r.tree.used_are part) within in
    let used' = tree_pages new (root.levels - 1 - 1) child in
    let moves = subst (λ u. Moves count old new u used' free d.rest) (sym r.tree.used_are) d.moves in
    record {
      used' = used';
      free' = d.rest;
      moves = moves;
      entries = d.entries;
      tree = record {
        some_levels = omega (arith, d.tree.1);
        few_levels = omega (arith, few);
        tree = record { is_tree = d.tree.2; rows_are = ap step r.tree.rows_are ∙ sym d.rows; used_are = refl; once = once_after new used' d.rest (part_after part moves) };
      };
      bound = page_bound_of count new (root.levels - 1 - 1) child 0 last_key true (step rows) d.tree.2 (ap step r.tree.rows_are ∙ sym d.rows);
    }
root_edited count old new root (Cut key right) step uncut some few deletes rows used free r is part within = absurd (uncut key right refl)

pub root_cut : (count : ℕ) (old mid a new : Lines) (root : Root) (top separator right : ℕ) (bytes : List ℕ) (step : List Row → List Row) → 1 ≤ root.levels → root.levels ≤ 3
    → Edits old mid root.page (record { level = root.levels - 1; low = 0; high = last_key; root = true; pages = count }) (Cut separator right) step
    → Takes count mid a top → Rewrites top bytes a new → IsNewRoot bytes root.levels root.page separator right count
    → ChangesRows count old new root (record { page = top; levels = root.levels + 1 }) step
root_cut count old mid a new root top separator right bytes step some few puts takes wrote made rows used free r is part within =
    let level = root.levels - 1 in
    let is_level : root.levels ≡ suc level = one_above root.levels some in
    let whole : ArePart old (tree_pages old level root.page ++ free) = subst (λ u. ArePart old (u ++ free)) r.tree.used_are part in
    let b = puts free r.tree.is_tree is whole within in
    let cs : List Child = (0, root.page) ∷ (separator, right) ∷ [] in
    let two : pages_of mid level cs ≡ tree_pages mid level root.page ++ tree_pages mid level right = ap (λ r. tree_pages mid level root.page ++ r) (append-nil (tree_pages mid level right)) in
    let two_rows : rows_of mid level cs ≡ step (tree_rows old level root.page) = ap (λ r. tree_rows mid level root.page ++ r) (append-nil (tree_rows mid level right)) ∙ b.rows in
    let moved : Moves count old mid (tree_pages old level root.page) (pages_of mid level cs) free b.rest = subst (λ u. Moves count old mid (tree_pages old level root.page) u free b.rest) (sym two) b.moves in
    let t = takes b.rest moved.is_free in
    let part_mid = part_after whole moved in
    let m1 = Moves-widen (pages_of mid level cs) (top ∷ pages_of mid level cs) t.moves (λ n. omega arith) (λ n. omega arith) in
    let part_a = part_after part_mid m1 in
    let w = Moves-write count a new top bytes t.rest wrote t.moves.is_free (λ n. omega (arith, part_a n, times-append n (top ∷ pages_of mid level cs) t.rest)) t.moves.within in
    let same : SameOn (pages_of mid level cs) mid new = same_beside (pages_of mid level cs) (pages_of mid level cs) part_mid (Moves-trans t.moves w.moves) (λ n. omega arith) in
    let stay = stay_under count mid new level cs same in
    let m2 = Moves-widen (top ∷ pages_of mid level cs) (top ∷ pages_of mid level cs) w.moves (λ n. omega arith) (λ n. omega arith) in
    let kids : children (bytes_of new top) ≡ cs = ap children wrote.bytes_are ∙ made.are in
    let used' = tree_pages new (suc level) top in
    let used_is : used' ≡ top ∷ pages_of mid level cs = ap (λ ps. top ∷ ps) (ap (pages_of new level) kids ∙ stay.pages) in
    let moves = subst (λ u. Moves count old new u used' free t.rest) (sym r.tree.used_are)
    (subst (λ u. Moves count old new (tree_pages old level root.page) u free t.rest) (sym used_is) (Moves-trans moved (Moves-trans m1 m2))) in
    let well = subst (λ l. IsWellFormed bytes (record { level = l; low = 0; high = last_key; root = true; pages = count })) is_level made.well in
    let tree : IsTree count new (suc level) top 0 last_key true =
    tree_of count new level top 0 last_key true bytes wrote.bytes_are well
    (subst (λ all. Each (IsChildTree count new level) (spans all last_key)) (sym made.are) (stay.trees last_key (b.tree.0, (b.tree.1, tt)))) in
    let up : suc level ≡ (root.levels + 1) - 1 = omega arith in
    record {
      used' = used';
      free' = t.rest;
      moves = moves;
      entries = λ l ne. w.entries l ne ∙ t.entries l ne ∙ b.entries l ne;
      tree = record {
        some_levels = omega arith;
        few_levels = omega (arith, few);
        tree = subst (λ l. Tree count new top l 0 last_key true (step rows) used') up (record {
          is_tree = tree;
          rows_are = ap step r.tree.rows_are ∙ sym two_rows ∙ sym stay.rows ∙ ap (rows_of new level) (sym kids);
          used_are = refl;
          once = once_after new used' t.rest (part_after part moves);
        });
      };
      bound = page_bound_of count new (suc level) top 0 last_key true (step rows) tree (ap step r.tree.rows_are ∙ sym two_rows ∙ sym stay.rows ∙ ap (rows_of new level) (sym kids));
    }

-- the room that a page takes
pub spent_most : (n : ℕ) (fit : Fit) → n ≤ 64 → spent n fit ≤ 129
spent_most n fits.Whole few = omega (arith, few)
spent_most n fits.Short few = omega (arith, few)
spent_most n (fits.Cut key) few = omega arith

pub spent_least : (n m : ℕ) (fit : Fit) → ((k : ℕ) → fit ≢ fits.Cut k) → n ≤ m → spent n fit ≤ m
spent_least n m fits.Whole uncut few = few
spent_least n m fits.Short uncut few = few
spent_least n m (fits.Cut key) uncut few = absurd (uncut key refl)

pub if_ok : {T E : Type 0} {P Q : T → Type 0} (r : Result T E) → ((v : T) → P v → Q v) → IfOk r P → IfOk r Q
if_ok (Ok v) to h = to v h
if_ok (Err e) to h = tt

pub if_both : {T E : Type 0} {P R Q : T → Type 0} (r : Result T E) → ((v : T) → P v → R v → Q v) → IfOk r P → IfOk r R → IfOk r Q
if_both (Ok v) to h k = to v h k
if_both (Err e) to h k = tt

-- the room that a leaf takes
pub leaf_spent : {E : Type 0} (count old mid new n : ℕ) (fit : Fit) (r : Result Outcome E) → mid ≡ old → n ≤ 64 → (fit ≡ fits.Short → n ≤ 33) → IfOk r (IsOutcome count fit) → OnOk r (mid ≤ new + spent n fit) → IfOk r (IsSpent 0 old new)
leaf_spent count old mid new n fits.Whole (Ok Whole) same few short is room = omega (arith, same, few, room)
leaf_spent count old mid new n fits.Whole (Ok Short) same few short is room = absurd (cc)
leaf_spent count old mid new n fits.Whole (Ok (Cut key right)) same few short is room = absurd (cc)
leaf_spent count old mid new n fits.Whole (Ok (Alone child)) same few short is room = absurd (cc)
leaf_spent count old mid new n fits.Short (Ok Whole) same few short is room = absurd (cc)
leaf_spent count old mid new n fits.Short (Ok Short) same few short is room = omega (arith, same, short refl, room)
leaf_spent count old mid new n fits.Short (Ok (Cut key right)) same few short is room = absurd (cc)
leaf_spent count old mid new n fits.Short (Ok (Alone child)) same few short is room = absurd (cc)
leaf_spent count old mid new n (fits.Cut at) (Ok Whole) same few short is room = absurd is
leaf_spent count old mid new n (fits.Cut at) (Ok Short) same few short is room = absurd is
leaf_spent count old mid new n (fits.Cut at) (Ok (Cut key right)) same few short is room = omega (arith, same, room)
leaf_spent count old mid new n (fits.Cut at) (Ok (Alone child)) same few short is room = absurd is
leaf_spent count old mid new n fit (Err stop) same few short is room = tt
