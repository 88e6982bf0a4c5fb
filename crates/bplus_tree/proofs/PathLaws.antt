-- The way down to a key, a page further and a page back.
use Rattle.std.proofs.Common.{◌≡◌, ◌≢◌, ℕ, suc, ◌+◌, ◌-◌, ◌*◌, ◌<◌, ◌≤◌, ◌⊎◌, inl, inr, Bool, false, List, [], ◌∷◌, ◌++◌, length, Some, IsTrue, refl, sym, ap, subst, ◌∙◌, arith, slice_get, length-append, Result, IfErr}
use Rattle.line_pages.specs.Lines.{Lines}
use Rattle.line_pages.specs.Bytes.{bytes_of, page_bytes}
use Rattle.line_pages.specs.Standing.{Standing}
use Rattle.page_format.specs.declared.root.Expect.{Expect}
use Rattle.page_format.specs.declared.spot.Spot.TheVariants.{Child}
use Rattle.page_format.specs.Search.{IsSafeSpot}
use Rattle.page_format.specs.Spans.{spans}
use Rattle.page_format.specs.Node.{children, IsWellFormed, entry_count}
use Rattle.bplus_tree.specs.declared.path.Node.{Node}
use Rattle.bplus_tree.specs.declared.path.Passed.{Passed}
use Rattle.rows.specs.Rows.{Row}
use Rattle.bplus_tree.specs.declared.outcome.Outcome.{Outcome}
use Rattle.bplus_tree.specs.declared.outcome.Outcome.TheVariants.{Whole, Short, Cut, Alone}
use Rattle.bplus_tree.specs.Edit.{Edits, Mends, IsSafe, StaysBelow, IsSpent, IsMendable}
use Rattle.tree_search.specs.declared.root.Root.{Root}
use Rattle.bplus_tree.specs.Path.{IsPlace, LeadsTo, Leads, Settles, MayFollow, StandsAt, StandsAbove, StopsAbove, IsFullAt, TakesFor, room_above, root_place}
use Rattle.line_pages.specs.declared.stop.Stop.{Stop}
use Rattle.page_alloc.specs.Space.{FitsHeader}
use Rattle.tree_search.specs.Tree.{IsTree, tree_pages, tree_rows}
use Rattle.page_alloc.specs.Stops.{IsFault, StopsFor, spare_pages}
use Rattle.tree_search.proofs.SizeLaws.{full_root_rows}
use Rattle.page_alloc.proofs.SoundLaws.{moved_header}
use Rattle.tree_search.proofs.SearchLaws.{well_formed_top}
use Rattle.page_alloc.proofs.LackLaws.{stops_wider, fault_stops}
use Rattle.bplus_tree.specs.PageChanges.{ChangesUnder}
use Rattle.bplus_tree.proofs.UnderLaws.{expect_is, under_on}
use Rattle.bplus_tree.proofs.StandLaws.{way_down, stands_child, leads_stands, above_child, takes_leaf, takes_above}
use Rattle.bplus_tree.proofs.Editing.{IsLocal, at_level, short_below, edits_kept, edits_short, edits_alone}
use Rattle.bplus_tree.proofs.Storing.{edits_cut}

-- a page further
pub leads-further : (told : Bool) (lines : Lines) (count key : ℕ) (top place next : Node) (path : List Passed) (passed : Passed) → passed.place ≡ place → LeadsTo told lines count key passed next
    → Leads told lines count key top path place → Leads told lines count key top (path ++ passed ∷ []) next
leads-further told lines count key top place next [] passed is step leads = (is ∙ sym leads, next, step, refl)
leads-further told lines count key top place next (p ∷ path) passed is step leads =
    (leads.0, leads.1, leads.2, leads-further told lines count key leads.1 place next path passed is step leads.3)

-- a page back
pub leads-back : (told : Bool) (lines : Lines) (count key : ℕ) (top bottom : Node) (path : List Passed) (passed : Passed) → Leads told lines count key top (path ++ passed ∷ []) bottom
    → Leads told lines count key top path passed.place × LeadsTo told lines count key passed bottom
leads-back told lines count key top bottom [] passed leads = (sym leads.0, subst (λ (to : Node). LeadsTo told lines count key passed to) leads.3 leads.2)
leads-back told lines count key top bottom (p ∷ path) passed leads =
    let back = leads-back told lines count key leads.1 bottom path passed leads.3 in
    ((leads.0, leads.1, leads.2, back.0), back.1)

-- so far the way leads to this place, by reads alone
pub record Descended {A : Type 0} (count key : ℕ) (top place : Node) (path : List Passed) (old now : Standing A) : Type 0 where
  pub is_place : IsPlace count place
  pub above : place.expect.low ≤ key
  pub within : key ≤ place.expect.high
  pub leads : Leads old.told old.current count key top path place
  pub height : place.expect.level + length path ≡ top.expect.level
  pub current : IsTrue old.told → now.current ≡ old.current
  pub room : now.room ≡ old.room
  pub few : now.visits ≤ old.visits + length path

-- the child that the search in a page names
pub record IsNext (told : Bool) (lines : Lines) (count key : ℕ) (from : Passed) (to : Node) : Type 0 where
  pub step : LeadsTo told lines count key from to
  pub place : IsPlace count to

pub next_place : (told : Bool) (lines : Lines) (count key at child low high : ℕ) (place : Node) (expect : Expect) → IsPlace count place
    → expect ≡ record { level = place.expect.level - 1; low = low; high = high; root = false; pages = place.expect.pages } → IsSafeSpot place.expect key (Child at child low high)
    → (IsTrue told → IsWellFormed (bytes_of lines place.page) place.expect → slice_get (spans (children (bytes_of lines place.page)) place.expect.high) at ≡ Some (record { page = child; low = low; high = high }))
    → IsNext told lines count key (record { place = place; low = low }) (record { page = child; expect = expect })
next_place told lines count key at child low high place expect is_place is safe found =
    subst (λ (e : Expect). IsNext told lines count key (record { place = place; low = low }) (record { page = child; expect = e })) (sym is) (record {
      step = record {
        place = is_place;
        level = omega (arith, safe.0);
        pages = refl;
        root = refl;
        low = refl;
        after = safe.3;
        above = safe.4;
        within = safe.5;
        before = safe.6;
        at = at;
        found = found;
      };
      place = record {
        some = safe.1;
        page = omega (arith, safe.2, is_place.pages);
        pages = is_place.pages;
        root = λ e. let never = safe.7 in absurd (cc);
        span = λ e. absurd (cc);
      };
    })

-- one page further down
pub descended_on : {A : Type 0} (count key at child low high : ℕ) (top place : Node) (expect : Expect) (path : List Passed) (old mid new : Standing A) → Descended count key top place path old mid
    → expect ≡ record { level = place.expect.level - 1; low = low; high = high; root = false; pages = place.expect.pages } → IsSafeSpot place.expect key (Child at child low high)
    → (IsTrue old.told → IsWellFormed (bytes_of mid.current place.page) place.expect → slice_get (spans (children (bytes_of mid.current place.page)) place.expect.high) at ≡ Some (record { page = child; low = low; high = high }))
    → (IsTrue old.told → new.current ≡ mid.current) → new.room ≡ mid.room → new.visits ≤ mid.visits + 1
    → Descended count key top (record { page = child; expect = expect }) (path ++ (record { place = place; low = low }) ∷ []) old new
descended_on count key at child low high top place expect path old mid new before is safe found same room few =
    let found_old : IsTrue old.told → IsWellFormed (bytes_of old.current place.page) place.expect → slice_get (spans (children (bytes_of old.current place.page)) place.expect.high) at ≡ Some (record { page = child; low = low; high = high }) =
    λ told. subst (λ lines. IsWellFormed (bytes_of lines place.page) place.expect → slice_get (spans (children (bytes_of lines place.page)) place.expect.high) at ≡ Some (record { page = child; low = low; high = high }))
    (before.current told) (found told) in
    let next = next_place old.told old.current count key at child low high place expect before.is_place is safe found_old in
    let more = length-append path ((record { place = place; low = low }) ∷ []) in
    record {
      is_place = next.place;
      above = next.step.above;
      within = next.step.within;
      leads = leads-further old.told old.current count key top place (record { page = child; expect = expect }) path (record { place = place; low = low }) refl next.step before.leads;
      height = omega (arith, before.height, next.step.level, more);
      current = λ told. same told ∙ before.current told;
      room = room ∙ before.room;
      few = omega (arith, few, before.few, more);
    }

-- the child's level is the top's less the pages between
pub leads-height : (told : Bool) (lines : Lines) (count key : ℕ) (top bottom : Node) (path : List Passed) → Leads told lines count key top path bottom → bottom.expect.level + length path ≡ top.expect.level
leads-height told lines count key top bottom [] leads = let same = ap (λ (p : Node). p.expect.level) leads in omega (arith, same)
leads-height told lines count key top bottom (p ∷ path) leads =
    let ih = leads-height told lines count key leads.1 bottom path leads.3 in
    let same = ap (λ (q : Node). q.expect.level) leads.0 in
    omega (arith, ih, same, leads.2.level)

-- So far the tree under the bottom of the path is changed as it is to be, and the pages on the path are as they were.
pub record Climbing (told : Bool) (count key : ℕ) (old now : Lines) (top : Node) (path : List Passed) (outcome : Outcome) (step : List Row → List Row) (old_room room old_visits visits : ℕ) : Type 0 where
  pub bottom : Node
  pub leads : Leads told old count key top path bottom
  pub safe : IsSafe count bottom.expect outcome
  pub below : StaysBelow bottom.expect outcome
  pub edits : IsTrue told → Edits old now bottom.page bottom.expect outcome step
  pub under : IsTrue told → (free : List ℕ) → StandsAt old bottom.page bottom.expect free → ChangesUnder step key old now bottom.expect.level bottom.page bottom.expect.root outcome
  pub takes : IsTrue told → TakesFor count old now bottom.page bottom.expect outcome
  pub spent : IsSpent bottom.expect.level old_room room outcome
  pub height : bottom.expect.level + length path ≡ top.expect.level
  pub few : visits ≤ old_visits + top.expect.level + 9 + 13 * bottom.expect.level

child_expect_of : (told : Bool) (lines : Lines) (count key : ℕ) (from : Passed) (to : Node) → LeadsTo told lines count key from to
    → to.expect ≡ record { level = from.place.expect.level - 1; low = to.expect.low; high = to.expect.high; root = false; pages = from.place.expect.pages }
child_expect_of told lines count key from to step = expect_is to.expect (from.place.expect.level - 1) from.place.expect.pages false (omega (arith, step.level)) step.root step.pages

-- what stands for the page above
settled : (told : Bool) (count key : ℕ) (old mid new : Lines) (passed : Passed) (child : Node) (before outcome : Outcome) (step : List Row → List Row) → IsLocal key step → IsTrue told → LeadsTo told old count key passed child
    → IsSafe count child.expect before → Edits old mid child.page child.expect before step → Settles mid new passed before outcome → MayFollow before outcome
    → Edits old new passed.place.page passed.place.expect outcome step
settled told count key old mid new passed child Whole outcome step local t way safe edits same follows =
    let e = passed.place.expect in
    let lower : Expect = record { level = e.level - 1; low = child.expect.low; high = child.expect.high; root = false; pages = e.pages } in
    let below = subst (λ (x : Expect). Edits old mid child.page x Whole step) (child_expect_of told old count key passed child way) edits in
    subst (λ (o : Outcome). Edits old new passed.place.page e o step) (sym follows)
    (edits_kept e old old new passed.place.page key child.page child.expect.low child.expect.high way.at step local (omega (arith, way.level)) refl (way.found t) way.above way.within
    (subst (λ lines. Edits old lines child.page lower Whole step) (sym same) below))
settled told count key old mid new passed child (Alone other) outcome step local t way safe edits same follows =
    let e = passed.place.expect in
    let lower : Expect = record { level = e.level - 1; low = child.expect.low; high = child.expect.high; root = false; pages = e.pages } in
    let below = subst (λ (x : Expect). Edits old mid child.page x (Alone other) step) (child_expect_of told old count key passed child way) edits in
    subst (λ (o : Outcome). Edits old new passed.place.page e o step) (sym follows)
    (edits_alone e old old new passed.place.page child.page child.expect.low child.expect.high way.at other step (omega (arith, way.level)) refl (way.found t)
    (subst (λ lines. Edits old lines child.page lower (Alone other) step) (sym same) below))
settled told count key old mid new passed child Short outcome step local t way safe edits mends follows =
    let e = passed.place.expect in
    let below = subst (λ (x : Expect). Edits old mid child.page x Short step) (child_expect_of told old count key passed child way) edits in
    edits_short e old old mid new passed.place.page key child.page child.expect.low child.expect.high way.at outcome step local (omega (arith, way.level)) refl (way.found t) way.above way.within below
    (subst (λ (low : ℕ). Mends mid new passed.place.page e low outcome) way.low mends.0)
settled told count key old mid new passed child (Cut separator right) outcome step local t way safe edits adds follows =
    let e = passed.place.expect in
    let below = subst (λ (x : Expect). Edits old mid child.page x (Cut separator right) step) (child_expect_of told old count key passed child way) edits in
    edits_cut e old old mid new passed.place.page key child.page child.expect.low child.expect.high way.at separator right outcome step local (omega (arith, way.level)) refl (way.found t) way.above way.within safe.0 safe.1 below adds

-- the room that it takes
spent_above : (level old mid new : ℕ) (before outcome : Outcome) → IsSpent level old mid before → MayFollow before outcome → mid ≤ new + room_above before → IsSpent (suc level) old new outcome
spent_above level old mid new Whole outcome spent follows room = subst (IsSpent (suc level) old new) (sym follows) (omega (arith, spent, room))
spent_above level old mid new (Alone child) outcome spent follows room = subst (IsSpent (suc level) old new) (sym follows) (omega (arith, spent, room))
spent_above level old mid new Short Whole spent follows room = omega (arith, spent, room)
spent_above level old mid new Short Short spent follows room = omega (arith, spent, room)
spent_above level old mid new Short (Cut key right) spent follows room = absurd (follows key right refl)
spent_above level old mid new Short (Alone child) spent follows room = omega (arith, spent, room)
spent_above level old mid new (Cut key right) Whole spent follows room = omega (arith, spent, room)
spent_above level old mid new (Cut key right) Short spent follows room = absurd (follows refl)
spent_above level old mid new (Cut key right) (Cut k r) spent follows room = omega (arith, spent, room)
spent_above level old mid new (Cut key right) (Alone child) spent follows room = omega (arith, spent, room)

-- a page up
pub climb_on : (told : Bool) (count key : ℕ) (old mid new : Lines) (top : Node) (path : List Passed) (passed : Passed) (before outcome : Outcome) (step : List Row → List Row) (old_room mid_room room old_visits mid_visits visits : ℕ)
    → IsLocal key step → Climbing told count key old mid top (path ++ passed ∷ []) before step old_room mid_room old_visits mid_visits
    → IsSafe count passed.place.expect outcome → StaysBelow passed.place.expect outcome → (IsTrue told → Settles mid new passed before outcome) → MayFollow before outcome
    → mid_room ≤ room + room_above before → visits ≤ mid_visits + 13 → Climbing told count key old new top path outcome step old_room room old_visits visits
climb_on told count key old mid new top path passed before outcome step old_room mid_room room old_visits mid_visits visits local c safe below settles follows spent few =
    let back = leads-back told old count key top c.bottom path passed c.leads in
    let more = length-append path (passed ∷ []) in
    record {
      bottom = passed.place;
      leads = back.0;
      safe = safe;
      below = below;
      edits = λ t. settled told count key old mid new passed c.bottom before outcome step local t back.1 c.safe (c.edits t) (settles t) follows;
      under = λ t free stands. under_on told count key old mid new passed c.bottom before outcome step free local t back.1 (c.edits t) (settles t) follows stands (c.under t free (stands_child told old count key passed c.bottom free t back.1 stands));
      takes = λ t. takes_above told count key old mid new passed c.bottom before outcome step t back.1.place.pages back.1 (c.edits t) (c.takes t) (settles t) follows;
      spent = subst (λ (l : ℕ). IsSpent l old_room room outcome) (sym back.1.level) (spent_above c.bottom.expect.level old_room mid_room room before outcome c.spent follows spent);
      height = omega (arith, c.height, more, back.1.level);
      few = omega (arith, c.few, few, back.1.level);
    }

-- what the page above may ask of the last one on the path, and of the room
pub safe_above : (told : Bool) (lines : Lines) (count key : ℕ) (passed : Passed) (child : Node) (outcome : Outcome) → LeadsTo told lines count key passed child → IsSafe count child.expect outcome → IsSafe count passed.place.expect outcome
safe_above told lines count key passed child Whole way safe = tt
safe_above told lines count key passed child Short way safe = tt
safe_above told lines count key passed child (Cut separator right) way safe = (omega (arith, safe.0, way.after), omega (arith, safe.1, way.before), safe.2, safe.3)
safe_above told lines count key passed child (Alone other) way safe = (omega (arith, way.level), safe.1, safe.2)

enough_room : (level top old now : ℕ) (outcome : Outcome) → level + 1 ≤ top → IsSpent level old now outcome → (((k r : ℕ) → outcome ≢ Cut k r) ⊎ (129 * top + 129 ≤ old)) → 189 * top + 33 ≤ old → room_above outcome ≤ now
enough_room level top old now Whole lower spent cut join = omega arith
enough_room level top old now Short lower spent cut join = omega (arith, lower, spent, join)
enough_room level top old now (Cut k r) lower spent (inl uncut) join = absurd (uncut k r refl)
enough_room level top old now (Cut k r) lower spent (inr cut) join = omega (arith, lower, spent, cut)
enough_room level top old now (Alone child) lower spent cut join = omega arith

pub record CanSettle (count : ℕ) (passed : Passed) (outcome : Outcome) (room : ℕ) : Type 0 where
  pub place : IsPlace count passed.place
  pub level : 1 ≤ passed.place.expect.level
  pub safe : IsSafe count passed.place.expect outcome
  pub enough : room_above outcome ≤ room

pub can_settle : (told : Bool) (count key : ℕ) (old mid : Lines) (top : Node) (path : List Passed) (passed : Passed) (outcome : Outcome) (step : List Row → List Row) (old_room room old_visits visits : ℕ)
    → Climbing told count key old mid top (path ++ passed ∷ []) outcome step old_room room old_visits visits → (((k r : ℕ) → outcome ≢ Cut k r) ⊎ (129 * top.expect.level + 129 ≤ old_room)) → 189 * top.expect.level + 33 ≤ old_room
    → CanSettle count passed outcome room
can_settle told count key old mid top path passed outcome step old_room room old_visits visits c cut join =
    let back = leads-back told old count key top c.bottom path passed c.leads in
    record {
      place = back.1.place;
      level = omega (arith, back.1.level);
      safe = safe_above told old count key passed c.bottom outcome back.1 c.safe;
      enough = enough_room c.bottom.expect.level top.expect.level old_room room outcome (omega (arith, c.height, length-append path (passed ∷ []))) c.spent cut join;
    }

-- at the leaf
pub climb_start : (told : Bool) (count key : ℕ) (old mid new : Lines) (top leaf : Node) (path : List Passed) (outcome : Outcome) (step : List Row → List Row) (old_room mid_room room old_visits mid_visits visits : ℕ)
    → leaf.expect.level ≡ 0 → leaf.expect.pages ≡ count → Leads told old count key top path leaf → (IsTrue told → mid ≡ old) → mid_room ≡ old_room → mid_visits ≤ old_visits + top.expect.level + 1
    → IsSafe count leaf.expect outcome → StaysBelow leaf.expect outcome → (IsTrue told → Edits mid new leaf.page leaf.expect outcome step)
    → (IsTrue told → (free : List ℕ) → StandsAt old leaf.page leaf.expect free → ChangesUnder step key old new leaf.expect.level leaf.page leaf.expect.root outcome) → IsSpent 0 mid_room room outcome → visits ≤ mid_visits + 8
    → Climbing told count key old new top path outcome step old_room room old_visits visits
climb_start told count key old mid new top leaf path outcome step old_room mid_room room old_visits mid_visits visits level is_count leads same same_room few_down safe below edits under spent few = record {
  bottom = leaf;
  leads = leads;
  safe = safe;
  below = below;
  edits = λ t. subst (λ (lines : Lines). Edits lines new leaf.page leaf.expect outcome step) (same t) (edits t);
  under = under;
  takes = λ t. takes_leaf count old new leaf outcome step level is_count (subst (λ (lines : Lines). Edits lines new leaf.page leaf.expect outcome step) (same t) (edits t));
  spent = subst (λ (l : ℕ). IsSpent l old_room room outcome) (sym level) (subst (λ (n : ℕ). IsSpent 0 n room outcome) same_room spent);
  height = leads-height told old count key top leaf path leads;
  few = omega (arith, few_down, few);
}

-- a path with no page left
pub emptied : (path : List Passed) → (0 < length path → ⊥) → path ≡ []
emptied [] none = refl
emptied (passed ∷ path) none = absurd (none (omega arith))

-- at the top
pub record Climbed (told : Bool) (count : ℕ) (old now : Lines) (top : Node) (outcome : Outcome) (step : List Row → List Row) (old_room room : ℕ) : Type 0 where
  pub safe : IsSafe count top.expect outcome
  pub below : StaysBelow top.expect outcome
  pub edits : IsTrue told → Edits old now top.page top.expect outcome step
  pub takes : IsTrue told → TakesFor count old now top.page top.expect outcome
  pub spent : IsSpent top.expect.level old_room room outcome

pub climb_end : (told : Bool) (count key : ℕ) (old now : Lines) (top : Node) (path : List Passed) (outcome : Outcome) (step : List Row → List Row) (old_room room old_visits visits : ℕ) → path ≡ []
    → Climbing told count key old now top path outcome step old_room room old_visits visits → Climbed told count old now top outcome step old_room room
climb_end told count key old now top path outcome step old_room room old_visits visits none c =
    let is : top ≡ c.bottom = subst (λ (p : List Passed). Leads told old count key top p c.bottom) none c.leads in
    subst (λ (p : Node). Climbed told count old now p outcome step old_room room) (sym is) (record { safe = c.safe; below = c.below; edits = c.edits; takes = c.takes; spent = c.spent })

pub climb_under : (told : Bool) (count key : ℕ) (old now : Lines) (top : Node) (path : List Passed) (outcome : Outcome) (step : List Row → List Row) (old_room room old_visits visits : ℕ) → path ≡ []
    → Climbing told count key old now top path outcome step old_room room old_visits visits → IsTrue told → (free : List ℕ) → StandsAt old top.page top.expect free → ChangesUnder step key old now top.expect.level top.page top.expect.root outcome
climb_under told count key old now top path outcome step old_room room old_visits visits none c t free stands =
    let is : top ≡ c.bottom = subst (λ (p : List Passed). Leads told old count key top p c.bottom) none c.leads in
    let here = subst (λ (p : Node). StandsAt old p.page p.expect free) is stands in
    subst (λ (p : Node). ChangesUnder step key old now p.expect.level p.page p.expect.root outcome) (sym is) (c.under t free here)

pub uncut_below : (e : Expect) (outcome : Outcome) → ((k r : ℕ) → outcome ≢ Cut k r) → StaysBelow e outcome
uncut_below e Whole uncut = tt
uncut_below e Short uncut = tt
uncut_below e (Cut k r) uncut = absurd (uncut k r refl)
uncut_below e (Alone child) uncut = tt

pub uncut_above : (before outcome : Outcome) → ((k r : ℕ) → before ≢ Cut k r) → MayFollow before outcome → (k r : ℕ) → outcome ≢ Cut k r
uncut_above Whole outcome uncut follows k r e = let whole = follows in absurd (cc)
uncut_above Short outcome uncut follows k r e = follows k r e
uncut_above (Cut key right) outcome uncut follows k r e = uncut key right refl
uncut_above (Alone child) outcome uncut follows k r e = let whole = follows in absurd (cc)

-- a change at the top, in the words of its root
pub at_root : (count n : ℕ) (old new : Lines) (root : Root) (top : Node) (outcome : Outcome) (step : List Row → List Row) → n ≡ count → top ≡ root_place root n → Edits old new top.page top.expect outcome step
    → Edits old new root.page (root_place root count).expect outcome step
at_root count n old new root top outcome step is_count is edits =
    subst (λ (m : ℕ). Edits old new root.page (root_place root m).expect outcome step) is_count (subst (λ (p : Node). Edits old new p.page p.expect outcome step) is edits)

-- a page above a child that was not cut stops by faults alone
faults_at : {T : Type 0} (told : Bool) (count key : ℕ) (old mid : Lines) (passed : Passed) (child : Node) (before : Outcome) (step : List Row → List Row) (free : List ℕ) (result : Result T Stop) → IsLocal key step → IsTrue told
    → LeadsTo told old count key passed child → Edits old mid child.page child.expect before step → StandsAt old passed.place.page passed.place.expect free → FitsHeader count (mid 0 0)
    → ((k r : ℕ) → before ≢ Cut k r) → ((rest : List ℕ) → StandsAbove mid passed before rest → FitsHeader count (mid 0 0) → IfErr result (StopsAbove count mid passed before rest)) → IfErr result IsFault
faults_at told count key old mid passed child Whole step free result local t way edits stands fits uncut sound = sound [] tt fits
faults_at told count key old mid passed child (Alone other) step free result local t way edits stands fits uncut sound = sound [] tt fits
faults_at told count key old mid passed child (Cut k r) step free result local t way edits stands fits uncut sound = absurd (uncut k r refl)
faults_at told count key old mid passed child Short step free result local t way edits stands fits uncut sound =
    let e = passed.place.expect in
    let page = passed.place.page in
    let level = child.expect.level in
    let d = way_down told old count key passed child free t way stands in
    let spot = way.found t (subst (λ (l : ℕ). IsWellFormed (bytes_of old page) (at_level e l)) (sym way.level) d.stands.tree.0) in
    let below = subst (λ (x : Expect). Edits old mid child.page x Short step) (expect_is child.expect level e.pages false refl way.root way.pages) edits in
    let s = short_below e old mid level page key child.page child.expect.low child.expect.high way.at step free local spot way.above way.within below d.stands.tree d.stands.is_free d.stands.parted d.stands.within in
    let mendable = subst (λ (low : ℕ). IsMendable mid page e low level s.rest) (sym way.low) (subst (λ (l : ℕ). IsMendable mid page (at_level e l) child.expect.low level s.rest) (sym way.level) s.mendable) in
    sound s.rest (level, mendable) fits

-- the stops of a page above a child
stops_at : {T : Type 0} (told : Bool) (count key : ℕ) (old mid : Lines) (passed : Passed) (child : Node) (before : Outcome) (step : List Row → List Row) (free : List ℕ) (most : ℕ) (Full : Type 0) (result : Result T Stop) → IsLocal key step → IsTrue told
    → LeadsTo told old count key passed child → Edits old mid child.page child.expect before step → TakesFor count old mid child.page child.expect before → StandsAt old passed.place.page passed.place.expect free → FitsHeader count (mid 0 0)
    → child.expect.level + 1 ≤ most → (IsFullAt old passed.place.page passed.place.expect → Full)
    → ((rest : List ℕ) → StandsAbove mid passed before rest → FitsHeader count (mid 0 0) → IfErr result (StopsAbove count mid passed before rest))
    → IfErr result (StopsFor (spare_pages count old free ≤ most) Full)
stops_at told count key old mid passed child Whole step free most Full result local t way edits takes stands fits lower full sound =
    fault_stops (spare_pages count old free ≤ most) Full result (faults_at told count key old mid passed child Whole step free result local t way edits stands fits (λ k r e. cc) sound)
stops_at told count key old mid passed child (Alone other) step free most Full result local t way edits takes stands fits lower full sound =
    fault_stops (spare_pages count old free ≤ most) Full result (faults_at told count key old mid passed child (Alone other) step free result local t way edits stands fits (λ k r e. cc) sound)
stops_at told count key old mid passed child Short step free most Full result local t way edits takes stands fits lower full sound =
    fault_stops (spare_pages count old free ≤ most) Full result (faults_at told count key old mid passed child Short step free result local t way edits stands fits (λ k r e. cc) sound)
stops_at told count key old mid passed child (Cut separator right) step free most Full result local t way edits takes stands fits lower full sound =
    let e = passed.place.expect in
    let page = passed.place.page in
    let s = stands_child told old count key passed child free t way stands in
    let b = edits free s.tree s.is_free s.parted s.within in
    let taken = takes free b.rest separator right refl s b.moves.is_free in
    let above = above_child told old mid count key passed child (tree_pages mid child.expect.level child.page ++ tree_pages mid child.expect.level right) free b.rest child.expect.pages t way stands b.moves in
    let same : bytes_of mid page ≡ bytes_of old page = ap (λ p. page_bytes p) above.same in
    let well = subst (λ (x : List ℕ). IsWellFormed x e) (sym same) (well_formed_top e.pages old e.level page e.low e.high e.root stands.tree) in
    stops_wider (spare_pages count mid b.rest ≤ 0) (spare_pages count old free ≤ most) (IsFullAt mid page e) Full (λ none. omega (arith, none, taken, lower))
    (λ many. full (many.0, subst (λ (x : List ℕ). entry_count x ≡ 240) same many.1)) result
    (sound b.rest (well, b.moves.is_free, above.parted) fits)

-- the header at the bottom of the path is in order
header_now : (told : Bool) (count key : ℕ) (old mid : Lines) (passed : Passed) (child : Node) (before : Outcome) (step : List Row → List Row) (free : List ℕ) → IsTrue told
    → LeadsTo told old count key passed child → Edits old mid child.page child.expect before step → StandsAt old passed.place.page passed.place.expect free → FitsHeader count (old 0 0) → FitsHeader count (mid 0 0)
header_now told count key old mid passed child before step free t way edits stands fits =
    let s = stands_child told old count key passed child free t way stands in
    let b = edits free s.tree s.is_free s.parted s.within in
    let is_count = way.pages ∙ way.place.pages in
    subst (λ (n : ℕ). FitsHeader n (mid 0 0)) is_count (moved_header b.moves (subst (λ (n : ℕ). FitsHeader n (old 0 0)) (sym is_count) fits))

-- a full page at level 3 is the top
full_top : (told : Bool) (lines : Lines) (count key : ℕ) (top place : Node) (path : List Passed) (free : List ℕ) → Leads told lines count key top path place → top.expect.level ≤ 3 → StandsAt lines top.page top.expect free
    → IsFullAt lines place.page place.expect → 1000000 < length (tree_rows lines top.expect.level top.page)
full_top told lines count key top place [] free leads few stands full =
    let level : top.expect.level ≡ 3 = ap (λ (p : Node). p.expect.level) leads ∙ full.0 in
    let many : entry_count (bytes_of lines top.page) ≡ 240 = ap (λ (p : Node). entry_count (bytes_of lines p.page)) leads ∙ full.1 in
    let e = top.expect in
    subst (λ (l : ℕ). 1000000 < length (tree_rows lines l top.page)) (sym level)
    (full_root_rows e.pages lines top.page e.low e.high e.root (subst (λ (l : ℕ). IsTree e.pages lines l top.page e.low e.high e.root) level stands.tree) many)
full_top told lines count key top place (p ∷ path) free leads few stands full =
    let height = leads-height told lines count key top place (p ∷ path) leads in
    absurd (omega (arith, height, few, full.0))

pub climb_stops : {T : Type 0} (told : Bool) (count key : ℕ) (old mid : Lines) (top : Node) (path : List Passed) (passed : Passed) (before : Outcome) (step : List Row → List Row) (old_room room old_visits visits : ℕ) (free : List ℕ) (result : Result T Stop)
    → IsLocal key step → IsTrue told → Climbing told count key old mid top (path ++ passed ∷ []) before step old_room room old_visits visits → top.expect.level ≤ 3 → StandsAt old top.page top.expect free → FitsHeader count (old 0 0)
    → ((rest : List ℕ) → StandsAbove mid passed before rest → FitsHeader count (mid 0 0) → IfErr result (StopsAbove count mid passed before rest))
    → IfErr result (StopsFor (spare_pages count old free ≤ top.expect.level) (1000000 < length (tree_rows old top.expect.level top.page)))
climb_stops told count key old mid top path passed before step old_room room old_visits visits free result local t c few stands fits sound =
    let back = leads-back told old count key top c.bottom path passed c.leads in
    let here = leads_stands told old count key top passed.place path free t back.0 stands in
    stops_at told count key old mid passed c.bottom before step free top.expect.level (1000000 < length (tree_rows old top.expect.level top.page)) result local t back.1 (c.edits t) (c.takes t) here
    (header_now told count key old mid passed c.bottom before step free t back.1 (c.edits t) here fits) (omega (arith, c.height, length-append path (passed ∷ [])))
    (λ full. full_top told old count key top passed.place path free back.0 few stands full) sound

pub climb_faults : {T : Type 0} (told : Bool) (count key : ℕ) (old mid : Lines) (top : Node) (path : List Passed) (passed : Passed) (before : Outcome) (step : List Row → List Row) (old_room room old_visits visits : ℕ) (free : List ℕ) (result : Result T Stop)
    → IsLocal key step → IsTrue told → Climbing told count key old mid top (path ++ passed ∷ []) before step old_room room old_visits visits → StandsAt old top.page top.expect free → FitsHeader count (old 0 0)
    → ((k r : ℕ) → before ≢ Cut k r) → ((rest : List ℕ) → StandsAbove mid passed before rest → FitsHeader count (mid 0 0) → IfErr result (StopsAbove count mid passed before rest)) → IfErr result IsFault
climb_faults told count key old mid top path passed before step old_room room old_visits visits free result local t c stands fits uncut sound =
    let back = leads-back told old count key top c.bottom path passed c.leads in
    let here = leads_stands told old count key top passed.place path free t back.0 stands in
    faults_at told count key old mid passed c.bottom before step free result local t back.1 (c.edits t) here
    (header_now told count key old mid passed c.bottom before step free t back.1 (c.edits t) here fits) uncut sound
