-- A way to a leaf on which no page has room.
use Rattle.std.proofs.Common.{◌≡◌, ◌≢◌, ℕ, zero, suc, ◌-◌, ◌≤◌, Bool, List, [], ◌∷◌, ◌++◌, IsTrue, Result, IfErr, refl, sym, ap, subst, ◌∙◌, arith}
use Rattle.line_pages.specs.declared.stop.Stop.{Stop}
use Rattle.line_pages.specs.Lines.{Lines}
use Rattle.line_pages.specs.Bytes.{bytes_of, page_bytes}
use Rattle.rows.specs.Rows.{Row, row_put}
use Rattle.page_format.specs.Spans.{Span}
use Rattle.page_format.specs.Node.{leaf_rows, children, entry_count, IsWellFormed}
use Rattle.tree_search.specs.declared.root.Root.{Root}
use Rattle.tree_search.specs.Tree.{IsTree, path, child_for, leaf_for, tree_pages}
use Rattle.tree_search.proofs.SearchLaws.{well_formed_top}
use Rattle.tree_search.proofs.OrderLaws.{descends}
use Rattle.page_alloc.specs.Space.{FitsHeader}
use Rattle.page_alloc.specs.Stops.{IsFault}
use Rattle.bplus_tree.specs.declared.outcome.Outcome.{Outcome}
use Rattle.bplus_tree.specs.declared.outcome.Outcome.TheVariants.{Whole, Short, Cut, Alone}
use Rattle.bplus_tree.specs.declared.path.Node.{Node}
use Rattle.bplus_tree.specs.declared.path.Passed.{Passed}
use Rattle.bplus_tree.specs.Edit.{Edits}
use Rattle.bplus_tree.specs.Path.{LeadsTo, Leads, MayFollow, StandsAt, StandsAbove, StopsAbove, root_place}
use Rattle.bplus_tree.specs.LineChanges.{leaf_after}
use Rattle.bplus_tree.specs.Full.{NotFull, NamesFull, NamesRoot, NamesAbove, CutsFor, IsNeeded, NeededAbove, IsOverfull, IsWayFull, MustCut}
use Rattle.bplus_tree.proofs.Editing.{IsLocal}
use Rattle.bplus_tree.proofs.StandLaws.{stands_child, leads_stands, above_child}
use Rattle.bplus_tree.proofs.LeafOfKey.{same_first}
use Rattle.bplus_tree.proofs.PathLaws.{Climbing, leads-back, leads-height, climb_faults}
use Rattle.bplus_tree.proofs.FullLaws.{not_full_names, names_to, fault_needed, cut_needed, needed_wider}

-- the child that the way goes on to is the one for the key
way_child : (told : Bool) (lines : Lines) (count key : ℕ) (from : Passed) (to : Node) (free : List ℕ) → IsTrue told → LeadsTo told lines count key from to → StandsAt lines from.place.page from.place.expect free
    → child_for key 0 (children (bytes_of lines from.place.page)) ≡ to.page
way_child told lines count key from to free t way stands =
    let e = from.place.expect in
    let page = from.place.page in
    let s : Span = record { page = to.page; low = to.expect.low; high = to.expect.high } in
    let found = way.found t (well_formed_top e.pages lines e.level page e.low e.high e.root stands.tree) in
    let d = descends e.pages lines to.expect.level page e.low e.high e.root key way.at s (subst (λ (l : ℕ). IsTree e.pages lines l page e.low e.high e.root) way.level stands.tree) found
    (omega (arith, way.after, way.above)) (omega (arith, way.within, way.before)) way.above way.within in
    let rest : path lines to.expect.level (child_for key 0 (children (bytes_of lines page))) key ≡ path lines to.expect.level to.page key = let along = d.way in cc in
    same_first lines to.expect.level key (child_for key 0 (children (bytes_of lines page))) to.page rest

-- a page whose child on the way has none
way_on : (told : Bool) (lines : Lines) (count key : ℕ) (value : List ℕ) (from : Passed) (to : Node) (free : List ℕ) → IsTrue told → LeadsTo told lines count key from to → StandsAt lines from.place.page from.place.expect free
    → entry_count (bytes_of lines from.place.page) ≡ 240 → IsWayFull lines to.expect.level to.page key value → IsWayFull lines from.place.expect.level from.place.page key value
way_on told lines count key value from to free t way stands many below =
    let child = way_child told lines count key from to free t way stands in
    subst (λ (l : ℕ). IsWayFull lines l from.place.page key value) (sym way.level) (many, subst (λ (n : ℕ). IsWayFull lines to.expect.level n key value) (sym child) below)

-- the leaf of the key is that of the bottom of the way
leads_leaf_for : (told : Bool) (lines : Lines) (count key : ℕ) (top bottom : Node) (path : List Passed) (free : List ℕ) → IsTrue told → Leads told lines count key top path bottom → StandsAt lines top.page top.expect free
    → leaf_for lines top.expect.level top.page key ≡ leaf_for lines bottom.expect.level bottom.page key
leads_leaf_for told lines count key top bottom [] free t leads stands = ap (λ (p : Node). leaf_for lines p.expect.level p.page key) leads
leads_leaf_for told lines count key top bottom (passed ∷ path) free t leads stands =
    let next = leads.1 in
    let way = leads.2 in
    let here = subst (λ (p : Node). StandsAt lines p.page p.expect free) (sym leads.0) stands in
    let child = way_child told lines count key passed next free t way here in
    let ih = leads_leaf_for told lines count key next bottom path free t leads.3 (stands_child told lines count key passed next free t way here) in
    let down : leaf_for lines (suc next.expect.level) passed.place.page key ≡ leaf_for lines bottom.expect.level bottom.page key = ap (λ (n : ℕ). leaf_for lines next.expect.level n key) child ∙ ih in
    subst (λ (p : Node). leaf_for lines p.expect.level p.page key ≡ leaf_for lines bottom.expect.level bottom.page key) leads.0
    (subst (λ (l : ℕ). leaf_for lines l passed.place.page key ≡ leaf_for lines bottom.expect.level bottom.page key) (sym way.level) down)

-- the leaf at the end of a full way
full_leaf : (lines : Lines) (level page key : ℕ) (value : List ℕ) → IsWayFull lines level page key value → IsOverfull (leaf_after lines level page key value)
full_leaf lines zero page key value full = full
full_leaf lines (suc level) page key value full = full_leaf lines level (child_for key 0 (children (bytes_of lines page))) key value full.1

overfull_at : (lines : Lines) (key n m : ℕ) (value : List ℕ) → n ≡ m → IsOverfull (row_put key value (leaf_rows (bytes_of lines m))) → IsOverfull (row_put key value (leaf_rows (bytes_of lines n)))
overfull_at lines key n m value same over = subst (λ (k : ℕ). IsOverfull (row_put key value (leaf_rows (bytes_of lines k)))) (sym same) over

-- So far the page at the bottom of the path is cut only where no page on the way from it has room.
pub record Filling (told : Bool) (count key : ℕ) (value : List ℕ) (old : Lines) (top : Node) (path : List Passed) (outcome : Outcome) : Type 0 where
  pub bottom : Node
  pub leads : Leads told old count key top path bottom
  pub full : IsTrue told → (free : List ℕ) → StandsAt old top.page top.expect free → CutsFor (IsWayFull old bottom.expect.level bottom.page key value) outcome

reason_to : (A B : Type 0) (outcome : Outcome) → (A → B) → CutsFor A outcome → CutsFor B outcome
reason_to A B Whole to cuts = tt
reason_to A B Short to cuts = tt
reason_to A B (Cut k r) to cuts = to cuts
reason_to A B (Alone child) to cuts = tt

-- at the leaf
pub filling_start : (told : Bool) (count key : ℕ) (value : List ℕ) (old mid : Lines) (top leaf : Node) (path : List Passed) (outcome : Outcome) → leaf.expect.level ≡ 0 → Leads told old count key top path leaf → (IsTrue told → mid ≡ old)
    → (IsTrue told → CutsFor (IsOverfull (row_put key value (leaf_rows (bytes_of mid leaf.page)))) outcome) → Filling told count key value old top path outcome
filling_start told count key value old mid top leaf path outcome ground leads same cuts = record {
  bottom = leaf;
  leads = leads;
  full = λ t free stands.
      let here = subst (λ (lines : Lines). CutsFor (IsOverfull (row_put key value (leaf_rows (bytes_of lines leaf.page)))) outcome) (same t) (cuts t) in
      subst (λ (l : ℕ). CutsFor (IsWayFull old l leaf.page key value) outcome) (sym ground) here;
}

-- the page above a child that was cut is as it was
same_above : (told : Bool) (count key : ℕ) (old mid : Lines) (passed : Passed) (child : Node) (separator right : ℕ) (step : List Row → List Row) (free : List ℕ) → IsTrue told → LeadsTo told old count key passed child
    → Edits old mid child.page child.expect (Cut separator right) step → StandsAt old passed.place.page passed.place.expect free → bytes_of mid passed.place.page ≡ bytes_of old passed.place.page
same_above told count key old mid passed child separator right step free t way edits stands =
    let s = stands_child told old count key passed child free t way stands in
    let b = edits free s.tree s.is_free s.parted s.within in
    let above = above_child told old mid count key passed child (tree_pages mid child.expect.level child.page ++ tree_pages mid child.expect.level right) free b.rest child.expect.pages t way stands b.moves in
    ap (λ p. page_bytes p) above.same

-- a page up
filled : (told : Bool) (count key : ℕ) (value : List ℕ) (old mid : Lines) (passed : Passed) (child bottom : Node) (before outcome : Outcome) (step : List Row → List Row) (free : List ℕ) → IsTrue told → LeadsTo told old count key passed child
    → LeadsTo told old count key passed bottom → Edits old mid child.page child.expect before step → StandsAt old passed.place.page passed.place.expect free → MayFollow before outcome
    → CutsFor (IsWayFull old bottom.expect.level bottom.page key value) before → CutsFor (entry_count (bytes_of mid passed.place.page) ≡ 240) outcome → CutsFor (IsWayFull old passed.place.expect.level passed.place.page key value) outcome
filled told count key value old mid passed child bottom Whole outcome step free t way down edits stands follows below cuts = subst (CutsFor (IsWayFull old passed.place.expect.level passed.place.page key value)) (sym follows) tt
filled told count key value old mid passed child bottom (Alone other) outcome step free t way down edits stands follows below cuts = subst (CutsFor (IsWayFull old passed.place.expect.level passed.place.page key value)) (sym follows) tt
filled told count key value old mid passed child bottom Short Whole step free t way down edits stands follows below cuts = tt
filled told count key value old mid passed child bottom Short Short step free t way down edits stands follows below cuts = tt
filled told count key value old mid passed child bottom Short (Cut k r) step free t way down edits stands follows below cuts = absurd (follows k r refl)
filled told count key value old mid passed child bottom Short (Alone other) step free t way down edits stands follows below cuts = tt
filled told count key value old mid passed child bottom (Cut separator right) outcome step free t way down edits stands follows below cuts =
    let same = same_above told count key old mid passed child separator right step free t way edits stands in
    reason_to (entry_count (bytes_of mid passed.place.page) ≡ 240) (IsWayFull old passed.place.expect.level passed.place.page key value) outcome
    (λ many. way_on told old count key value passed bottom free t down stands (sym (ap (λ (b : List ℕ). entry_count b) same) ∙ many) below) cuts

pub filling_on : (told : Bool) (count key : ℕ) (value : List ℕ) (old mid : Lines) (top : Node) (path : List Passed) (passed : Passed) (before outcome : Outcome) (step : List Row → List Row) (old_room room old_visits visits : ℕ)
    → Climbing told count key old mid top (path ++ passed ∷ []) before step old_room room old_visits visits → Filling told count key value old top (path ++ passed ∷ []) before → MayFollow before outcome
    → (IsTrue told → CutsFor (entry_count (bytes_of mid passed.place.page) ≡ 240) outcome) → Filling told count key value old top path outcome
filling_on told count key value old mid top path passed before outcome step old_room room old_visits visits c f follows cuts =
    let back = leads-back told old count key top c.bottom path passed c.leads in
    let down = leads-back told old count key top f.bottom path passed f.leads in
    record {
      bottom = passed.place;
      leads = back.0;
      full = λ t free stands.
          let here = leads_stands told old count key top passed.place path free t back.0 stands in
          filled told count key value old mid passed c.bottom f.bottom before outcome step free t back.1 down.1 (c.edits t) here follows (f.full t free stands) (cuts t);
    }

-- at the top
pub filling_end : (told : Bool) (count key : ℕ) (value : List ℕ) (old : Lines) (top : Node) (path : List Passed) (outcome : Outcome) → path ≡ [] → Filling told count key value old top path outcome → IsTrue told
    → (free : List ℕ) → StandsAt old top.page top.expect free → CutsFor (IsWayFull old top.expect.level top.page key value) outcome
filling_end told count key value old top path outcome none f t free stands =
    let is : top ≡ f.bottom = subst (λ (p : List Passed). Leads told old count key top p f.bottom) none f.leads in
    subst (λ (p : Node). CutsFor (IsWayFull old p.expect.level p.page key value) outcome) (sym is) (f.full t free stands)

-- the stops at the leaf
pub leaf_needed : {T : Type 0} (told : Bool) (count key : ℕ) (value : List ℕ) (old mid : Lines) (top leaf : Node) (path : List Passed) (free : List ℕ) (result : Result T Stop) → leaf.expect.level ≡ 0 → Leads told old count key top path leaf
    → IsTrue told → mid ≡ old → StandsAt old top.page top.expect free
    → (IsWellFormed (bytes_of mid leaf.page) leaf.expect → IfErr result (IsNeeded (IsOverfull (row_put key value (leaf_rows (bytes_of mid leaf.page)))) ⊥)) → IfErr result (MustCut old top.expect.level top.page key value)
leaf_needed told count key value old mid top leaf path free result ground leads t same stands needed =
    let here = leads_stands told old count key top leaf path free t leads stands in
    let e = leaf.expect in
    let well = well_formed_top e.pages old e.level leaf.page e.low e.high e.root here.tree in
    let at = subst (λ (lines : Lines). IsWellFormed (bytes_of lines leaf.page) e → IfErr result (IsNeeded (IsOverfull (row_put key value (leaf_rows (bytes_of lines leaf.page)))) ⊥)) same needed well in
    let leaf_is : leaf_for old top.expect.level top.page key ≡ leaf.page =
    leads_leaf_for told old count key top leaf path free t leads stands ∙ ap (λ (l : ℕ). leaf_for old l leaf.page key) ground in
    needed_wider (IsOverfull (row_put key value (leaf_rows (bytes_of old leaf.page)))) (IsOverfull (leaf_after old top.expect.level top.page key value)) ⊥ (IsWayFull old top.expect.level top.page key value)
    (overfull_at old key (leaf_for old top.expect.level top.page key) leaf.page value leaf_is) (λ over never. absurd never) result at

-- a page at level 3 is the top
high_top : (told : Bool) (lines : Lines) (count key : ℕ) (top place : Node) (path : List Passed) → Leads told lines count key top path place → top.expect.level ≤ 3 → place.expect.level ≡ 3 → top ≡ place
high_top told lines count key top place [] leads few high = leads
high_top told lines count key top place (p ∷ path) leads few high =
    let height = leads-height told lines count key top place (p ∷ path) leads in
    absurd (omega (arith, height, few, high))

-- the stops of a page above a child
needed_at : {T : Type 0} (told : Bool) (count key : ℕ) (value : List ℕ) (old mid : Lines) (top : Node) (path : List Passed) (passed : Passed) (before : Outcome) (step : List Row → List Row) (old_room room old_visits visits : ℕ) (free : List ℕ) (result : Result T Stop)
    → IsLocal key step → IsTrue told → Climbing told count key old mid top (path ++ passed ∷ []) before step old_room room old_visits visits → Filling told count key value old top (path ++ passed ∷ []) before → top.expect.level ≤ 3
    → StandsAt old top.page top.expect free → (((k r : ℕ) → before ≢ Cut k r) → IfErr result IsFault)
    → (IsWellFormed (bytes_of mid passed.place.page) passed.place.expect → IfErr result (NeededAbove mid passed before)) → IfErr result (MustCut old top.expect.level top.page key value)
needed_at told count key value old mid top path passed Whole step old_room room old_visits visits free result local t c f few stands faults needed =
    fault_needed (IsOverfull (leaf_after old top.expect.level top.page key value)) (IsWayFull old top.expect.level top.page key value) result (faults (λ k r e. cc))
needed_at told count key value old mid top path passed Short step old_room room old_visits visits free result local t c f few stands faults needed =
    fault_needed (IsOverfull (leaf_after old top.expect.level top.page key value)) (IsWayFull old top.expect.level top.page key value) result (faults (λ k r e. cc))
needed_at told count key value old mid top path passed (Alone other) step old_room room old_visits visits free result local t c f few stands faults needed =
    fault_needed (IsOverfull (leaf_after old top.expect.level top.page key value)) (IsWayFull old top.expect.level top.page key value) result (faults (λ k r e. cc))
needed_at told count key value old mid top path passed (Cut separator right) step old_room room old_visits visits free result local t c f few stands faults needed =
    let back = leads-back told old count key top c.bottom path passed c.leads in
    let down = leads-back told old count key top f.bottom path passed f.leads in
    let e = passed.place.expect in
    let page = passed.place.page in
    let here = leads_stands told old count key top passed.place path free t back.0 stands in
    let same = same_above told count key old mid passed c.bottom separator right step free t back.1 (c.edits t) here in
    let well = subst (λ (b : List ℕ). IsWellFormed b e) (sym same) (well_formed_top e.pages old e.level page e.low e.high e.root here.tree) in
    let up : entry_count (bytes_of mid page) ≡ 240 → IsWayFull old e.level page key value =
    λ many. way_on told old count key value passed f.bottom free t down.1 here (sym (ap (λ (b : List ℕ). entry_count b) same) ∙ many) (f.full t free stands) in
    let leaf_is = leads_leaf_for told old count key top passed.place path free t back.0 stands in
    needed_wider (entry_count (bytes_of mid page) ≡ 240) (IsOverfull (leaf_after old top.expect.level top.page key value)) (e.level ≡ 3) (IsWayFull old top.expect.level top.page key value)
    (λ many. overfull_at old key (leaf_for old top.expect.level top.page key) (leaf_for old e.level page key) value leaf_is (full_leaf old e.level page key value (up many)))
    (λ many high. subst (λ (p : Node). IsWayFull old p.expect.level p.page key value) (sym (high_top told old count key top passed.place path back.0 few high)) (up many)) result (needed well)

pub climb_needed : {T : Type 0} (told : Bool) (count key : ℕ) (value : List ℕ) (old mid : Lines) (top : Node) (path : List Passed) (passed : Passed) (before : Outcome) (step : List Row → List Row) (old_room room old_visits visits : ℕ) (free : List ℕ)
    (result : Result T Stop) → IsLocal key step → IsTrue told → Climbing told count key old mid top (path ++ passed ∷ []) before step old_room room old_visits visits → Filling told count key value old top (path ++ passed ∷ []) before
    → top.expect.level ≤ 3 → StandsAt old top.page top.expect free → FitsHeader count (old 0 0)
    → ((rest : List ℕ) → StandsAbove mid passed before rest → FitsHeader count (mid 0 0) → IfErr result (StopsAbove count mid passed before rest))
    → (IsWellFormed (bytes_of mid passed.place.page) passed.place.expect → IfErr result (NeededAbove mid passed before)) → IfErr result (MustCut old top.expect.level top.page key value)
climb_needed told count key value old mid top path passed before step old_room room old_visits visits free result local t c f few stands fits sound needed =
    needed_at told count key value old mid top path passed before step old_room room old_visits visits free result local t c f few stands
    (λ uncut. climb_faults told count key old mid top path passed before step old_room room old_visits visits free result local t c stands fits uncut sound) needed

-- a stop for a full root at a page on the way names the top
names_at : {T : Type 0} (passed : Passed) (before : Outcome) (result : Result T Stop) → IfErr result (NamesAbove passed before) → IfErr result (NamesFull passed.place.page (passed.place.expect.level ≡ 3))
names_at passed Whole result names = not_full_names passed.place.page (passed.place.expect.level ≡ 3) result names
names_at passed Short result names = not_full_names passed.place.page (passed.place.expect.level ≡ 3) result names
names_at passed (Cut k r) result names = names
names_at passed (Alone child) result names = not_full_names passed.place.page (passed.place.expect.level ≡ 3) result names

pub climb_names : {T : Type 0} (told : Bool) (count key : ℕ) (old mid : Lines) (top : Node) (path : List Passed) (passed : Passed) (before : Outcome) (step : List Row → List Row) (old_room room old_visits visits : ℕ) (result : Result T Stop)
    → Climbing told count key old mid top (path ++ passed ∷ []) before step old_room room old_visits visits → top.expect.level ≤ 3 → IfErr result (NamesAbove passed before) → IfErr result (NamesFull top.page (top.expect.level ≡ 3))
climb_names told count key old mid top path passed before step old_room room old_visits visits result c few names =
    let back = leads-back told old count key top c.bottom path passed c.leads in
    let is = λ (high : passed.place.expect.level ≡ 3). high_top told old count key top passed.place path back.0 few high in
    names_to passed.place.page top.page (passed.place.expect.level ≡ 3) (top.expect.level ≡ 3) result (λ high. sym (ap (λ (p : Node). p.page) (is high))) (λ high. ap (λ (p : Node). p.expect.level) (is high) ∙ high) (names_at passed before result names)

pub uncut_not_full : {T : Type 0} (passed : Passed) (before : Outcome) (result : Result T Stop) → ((k r : ℕ) → before ≢ Cut k r) → IfErr result (NamesAbove passed before) → IfErr result NotFull
uncut_not_full passed Whole result uncut names = names
uncut_not_full passed Short result uncut names = names
uncut_not_full passed (Cut k r) result uncut names = absurd (uncut k r refl)
uncut_not_full passed (Alone child) result uncut names = names

-- the same in the words of a root
pub root_names : {T : Type 0} (n : ℕ) (root : Root) (top : Node) (result : Result T Stop) → top ≡ root_place root n → 1 ≤ root.levels → IfErr result (NamesFull top.page (top.expect.level ≡ 3)) → IfErr result (NamesRoot root)
root_names n root top result is some names =
    let level : top.expect.level ≡ root.levels - 1 = ap (λ (p : Node). p.expect.level) is in
    names_to top.page root.page (top.expect.level ≡ 3) (root.levels ≡ 4) result (λ high. ap (λ (p : Node). p.page) is) (λ high. omega (arith, high, level, some)) names

pub root_needed : {T : Type 0} (n key : ℕ) (value : List ℕ) (lines : Lines) (root : Root) (top : Node) (result : Result T Stop) → top ≡ root_place root n → IfErr result (MustCut lines top.expect.level top.page key value)
    → IfErr result (MustCut lines (root.levels - 1) root.page key value)
root_needed n key value lines root top result is needed = subst (λ (p : Node). IfErr result (MustCut lines p.expect.level p.page key value)) is needed

-- and where the page for a new root is taken
pub take_needed : {T : Type 0} (n key : ℕ) (value : List ℕ) (lines : Lines) (root : Root) (top : Node) (result : Result T Stop) → top ≡ root_place root n → IsWayFull lines top.expect.level top.page key value → IfErr result NotFull
    → IfErr result (MustCut lines (root.levels - 1) root.page key value)
take_needed n key value lines root top result is full other =
    root_needed n key value lines root top result is
    (cut_needed (IsOverfull (leaf_after lines top.expect.level top.page key value)) (IsWayFull lines top.expect.level top.page key value) result (full_leaf lines top.expect.level top.page key value full) other)
