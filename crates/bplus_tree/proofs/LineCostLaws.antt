-- Changes that go by the lines of a leaf, from the leaf up to the root.
use Rattle.std.proofs.Common.{◌≡◌, ◌≤◌, ◌+◌, ◌-◌, ◌*◌, ◌==◌, ◌&&◌, ℕ, zero, suc, inl, inr, List, [], ◌∷◌, ◌++◌, length, length-append, Bool, true, false, IsTrue, Result, Ok, Err, OnOk, refl, sym, ap, subst, ◌∙◌, arith, cond}
use Rattle.std.proofs.lemmas.Bool.{cases_eq, eq-eqb, ne_eqb}
use Rattle.line_pages.specs.Lines.{Lines}
use Rattle.line_pages.specs.Bytes.{bytes_of}
use Rattle.line_pages.specs.Cost.{Costs}
use Rattle.line_pages.specs.Standing.{Standing, ReadsPage}
use Rattle.line_pages.proofs.CostLaws.{Costs-trans, Costs-weaker}
use Rattle.rows.specs.Rows.{Row, row_delete, last_key}
use Rattle.page_format.specs.declared.root.Expect.{Expect}
use Rattle.page_format.specs.declared.spot.Spot.TheVariants as spots
use Rattle.page_format.specs.Node.{leaf_rows, entry_count, IsWellFormed}
use Rattle.page_format.specs.Search.{IsSpot}
use Rattle.page_format.proofs.PageFacts.{leaf_facts}
use Rattle.page_search.specs.Cost.{search_lines}
use Rattle.page_alloc.specs.Written.{OtherPages, Differs, WritesNothing, lines_changed}
use Rattle.page_alloc.proofs.TouchedLaws.{only_nothing, nothing_read}
use Rattle.node_edit.specs.declared.fit.Fit.TheVariants as fits
use Rattle.node_edit.specs.Edit.{Holds, place_of, has_key}
use Rattle.node_edit.proofs.KeyPlaceLaws.{delete_there, delete_none}
use Rattle.std.specs.List.{remove}
use Rattle.leaf_lines.specs.Put.{IsFound, slots_behind, put_cost}
use Rattle.leaf_lines.specs.Removal.{RemovedByLines, IsRemovedByLines, keeps_floor, removal_cost}
use Rattle.leaf_lines.proofs.PutLaws.{gap_place}
use Rattle.leaf_lines.proofs.FitLaws.{at_row}
use Rattle.tree_search.specs.declared.root.Root.{Root}
use Rattle.tree_search.specs.Tree.{IsTree, IsRooted, leaf_for}
use Rattle.tree_search.proofs.CostLaws.{leaf_lines, inner_lines}
use Rattle.bplus_tree.specs.declared.outcome.Outcome.{Outcome}
use Rattle.bplus_tree.specs.declared.outcome.Outcome.TheVariants.{Whole}
use Rattle.bplus_tree.specs.declared.path.Node.{Node}
use Rattle.bplus_tree.specs.declared.path.Passed.{Passed}
use Rattle.bplus_tree.specs.Edit.{Edits}
use Rattle.bplus_tree.specs.Path.{Leads, root_place}
use Rattle.bplus_tree.specs.LineChanges.{WritesChange}
use Rattle.bplus_tree.specs.LineCosts.{ByLines, GoesByLines, KeepsToLeaf, leaf_of, put_lines, delete_lines, keeps_without}
use Rattle.bplus_tree.proofs.LeafOfKey.{leads_leaf, leads_well}
use Rattle.bplus_tree.proofs.LineChangeLaws.{change_later}
use Rattle.bplus_tree.proofs.ByLines.{whole_edits}

-- a leaf is a root where the way to it goes nowhere and the top is one
leaf_root : (told : Bool) (lines : Lines) (count key : ℕ) (top bottom : Node) (path : List Passed) → Leads told lines count key top path bottom → bottom.expect.level ≡ 0 → bottom.expect.root ≡ ((top.expect.level == 0) && top.expect.root)
leaf_root told lines count key top bottom [] leads level =
    let ground : top.expect.level ≡ 0 = ap (λ (p : Node). p.expect.level) leads ∙ level in
    sym (ap (λ (p : Node). p.expect.root) leads) ∙ sym (ap (λ (b : Bool). b && top.expect.root) (eq-eqb top.expect.level 0 ground))
leaf_root told lines count key top bottom (passed ∷ path) leads level =
    let next = leads.1 in
    let way = leads.2 in
    let above : top.expect.level ≡ suc next.expect.level = sym (ap (λ (p : Node). p.expect.level) leads.0) ∙ way.level in
    let below = leaf_root told lines count key next bottom path leads.3 level in
    below ∙ ap (λ (b : Bool). (next.expect.level == 0) && b) way.root ∙ none (next.expect.level == 0) ∙ sym (ap (λ (b : Bool). b && top.expect.root) (ne_eqb top.expect.level 0 (λ e. omega (arith, e, above))))
  where
    none : (b : Bool) → (b && false) ≡ false
    none true = refl
    none false = refl

-- from the leaf
pub goes_start : {A : Type 0} (key : ℕ) (allows : Bool → List ℕ → Bool) (cost : List ℕ → ℕ) (top leaf : Node) (path : List Passed) (old mid new : Standing A) (outcome : Outcome) → Leads old.told old.current old.count key top path leaf → leaf.expect.level ≡ 0
    → (IsTrue old.told → mid.current ≡ old.current) → mid.room ≡ old.room → WritesNothing old mid
    → (IsTrue old.told → IsTree top.expect.pages old.current top.expect.level top.page top.expect.low top.expect.high top.expect.root → Costs (10 * top.expect.level) old mid)
    → (IsTrue old.told → IsWellFormed (bytes_of mid.current leaf.page) leaf.expect → allows leaf.expect.root (bytes_of mid.current leaf.page) ≡ true → (outcome ≡ Whole) × ByLines leaf.page (28 + cost (bytes_of mid.current leaf.page)) mid new)
    → GoesByLines top key allows cost old new outcome
goes_start key allows cost top leaf path old mid new outcome leads level same same_room nothing down went = record {
  is = λ told tree ok.
      let at = leads_leaf old.told old.current old.count key top leaf path told tree leads level in
      let is_root = leaf_root old.told old.current old.count key top leaf path leads level in
      let here : allows leaf.expect.root (bytes_of old.current leaf.page) ≡ true =
      subst (λ (n : ℕ). allows leaf.expect.root (bytes_of old.current n) ≡ true) at.is (subst (λ (b : Bool). allows b (bytes_of old.current (leaf_for old.current top.expect.level top.page key)) ≡ true) (sym is_root) ok) in
      let well = subst (λ (lines : Lines). IsWellFormed (bytes_of lines leaf.page) leaf.expect) (sym (same told)) (leads_well old.told old.current old.count key top leaf path told tree leads) in
      let w = went told well (subst (λ (lines : Lines). allows leaf.expect.root (bytes_of lines leaf.page) ≡ true) (sym (same told)) here) in
      let both : Costs (10 * top.expect.level + (28 + cost (bytes_of mid.current leaf.page))) old new = Costs-trans (down told tree) w.1.touched in
      let all : Costs (10 * top.expect.level + 28 + cost (bytes_of old.current leaf.page)) old new =
      subst (λ (lines : Lines). Costs (10 * top.expect.level + 28 + cost (bytes_of lines leaf.page)) old new) (same told) (Costs-weaker (omega arith) both) in
      (w.0, subst (λ (n : ℕ). ByLines n (10 * top.expect.level + 28 + cost (bytes_of old.current n)) old new) (sym at.is) (record { touched = all; written = change_later leaf.page old mid new (same told) same_room nothing w.1.written }));
}

-- the pages above such a leaf stay
pub goes_on : {A : Type 0} (key : ℕ) (allows : Bool → List ℕ → Bool) (cost : List ℕ → ℕ) (top : Node) (old mid new : Standing A) (before after : Outcome) → GoesByLines top key allows cost old mid before → (before ≡ Whole → new ≡ mid) → (before ≡ Whole → after ≡ Whole)
    → GoesByLines top key allows cost old new after
goes_on key allows cost top old mid new before after so_far kept follows = record {
  is = λ told tree ok.
      let w = so_far.is told tree ok in
      let leaf = leaf_for old.current top.expect.level top.page key in
      (follows w.0, subst (λ (s : Standing _). ByLines leaf (10 * top.expect.level + 28 + cost (bytes_of old.current leaf)) old s) (sym (kept w.0)) w.1);
}

by_fewer : {A : Type 0} (leaf m n : ℕ) (old new : Standing A) → m ≤ n → ByLines leaf m old new → ByLines leaf n old new
by_fewer leaf m n old new less by = record { touched = Costs-weaker less by.touched; written = by.written }

-- the same from a root
pub goes_root : {A : Type 0} (root : Root) (top : Node) (n key : ℕ) (allows : Bool → List ℕ → Bool) (cost : List ℕ → ℕ) (old new : Standing A) (outcome : Outcome) → n ≡ old.count → top ≡ root_place root n → 1 ≤ root.levels
    → GoesByLines top key allows cost old new outcome → IsTrue old.told → (rows : List Row) (used : List ℕ) → IsRooted old.count old.current root rows used
    → allows (root.levels == 1) (bytes_of old.current (leaf_of old.current root key)) ≡ true
    → (outcome ≡ Whole) × ByLines (leaf_of old.current root key) (10 * root.levels + 18 + cost (bytes_of old.current (leaf_of old.current root key))) old new
goes_root root top n key allows cost old new outcome is_count is_top some goes told rows used rooted ok =
    let at_top = subst (λ (p : Node). GoesByLines p key allows cost old new outcome) is_top goes in
    let leaf = leaf_of old.current root key in
    let w = at_top.is told (subst (λ (m : ℕ). IsTree m old.current (root.levels - 1) root.page 0 last_key true) (sym is_count) rooted.tree.is_tree)
    (subst (λ (b : Bool). allows b (bytes_of old.current leaf) ≡ true) (same root.levels some) ok) in
    (w.0, by_fewer leaf (10 * (root.levels - 1) + 28 + cost (bytes_of old.current leaf)) (10 * root.levels + 18 + cost (bytes_of old.current leaf)) old new (omega (arith, some)) w.1)
  where
    same : (levels : ℕ) → 1 ≤ levels → (levels == 1) ≡ ((levels - 1 == 0) && true)
    same levels some = elim (cases_eq levels 1) [
      | inl e ↦ eq-eqb levels 1 e ∙ sym (ap (λ (b : Bool). b && true) (eq-eqb (levels - 1) 0 (omega (arith, e))))
      | inr ne ↦ ne_eqb levels 1 ne ∙ sym (ap (λ (b : Bool). b && true) (ne_eqb (levels - 1) 0 (λ e. ne (omega (arith, e, some)))))
    ]

-- after a search that wrote nothing
pub goes_later : {A : Type 0} (root : Root) (key : ℕ) (allows : Bool → List ℕ → Bool) (cost : List ℕ → ℕ) (first search most : ℕ) (old mid new : Standing A) → mid.current ≡ old.current → mid.count ≡ old.count → mid.room ≡ old.room → WritesNothing old mid
    → ((rows : List Row) (used : List ℕ) → IsRooted old.count old.current root rows used → Costs first old mid) → first + search ≤ most → KeepsToLeaf root key allows cost search mid new → KeepsToLeaf root key allows cost most old new
goes_later root key allows cost first search most old mid new same is_count same_room nothing looked less later rows used rooted ok =
    let there : IsRooted mid.count mid.current root rows used =
    subst (λ (n : ℕ). IsRooted n mid.current root rows used) (sym is_count) (subst (λ (lines : Lines). IsRooted old.count lines root rows used) (sym same) rooted) in
    let leaf = leaf_of old.current root key in
    let w = subst (λ (lines : Lines). ByLines (leaf_of lines root key) (search + cost (bytes_of lines (leaf_of lines root key))) mid new) same
    (later rows used there (subst (λ (lines : Lines). allows (root.levels == 1) (bytes_of lines (leaf_of lines root key)) ≡ true) (sym same) ok)) in
    record { touched = Costs-weaker (omega (arith, less)) (Costs-trans (looked rows used rooted) w.touched); written = change_later leaf old mid new same same_room nothing w.written }

-- the place of a key tells how many slots stand behind it
pub behind_is : (expect : Expect) (key : ℕ) (place : Result ℕ ℕ) (bytes : List ℕ) → expect.level ≡ 0 → IsWellFormed bytes expect → IsFound bytes expect key place
    → slots_behind place bytes ≡ cond (has_key key (leaf_rows bytes)) 0 (entry_count bytes - place_of key (leaf_rows bytes))
behind_is expect key (Ok at) bytes level well spot =
    let row = at_row expect key at bytes level well spot in
    sym (ap (λ (b : Bool). cond b 0 (entry_count bytes - place_of key (leaf_rows bytes))) row.has)
behind_is expect key (Err at) bytes level well spot =
    let place = gap_place key at (leaf_rows bytes) spot.1 spot.2 spot.3 in
    ap (λ (i : ℕ). entry_count bytes - i) place.0 ∙ sym (ap (λ (b : Bool). cond b 0 (entry_count bytes - place_of key (leaf_rows bytes))) place.1)

-- a search in a leaf and then a change by its lines
pub after_search : {A : Type 0} (level most : ℕ) (a b c : Standing A) → level ≡ 0 → Costs (search_lines level) a b → Costs most b c → Costs (28 + most) a c
after_search level most a b c ground first second = Costs-weaker (omega (arith, leaf_lines level ground)) (Costs-trans first second)

-- what is left of the rows
pub deleted_is : (expect : Expect) (key at : ℕ) (bytes : List ℕ) → expect.level ≡ 0 → IsWellFormed bytes expect → IsSpot bytes expect key (spots.Row at) → row_delete key (leaf_rows bytes) ≡ remove (leaf_rows bytes) at
deleted_is expect key at bytes level well spot =
    let row = at_row expect key at bytes level well spot in
    delete_there key expect.low expect.high (leaf_rows bytes) row.facts.order row.has ∙ ap (remove (leaf_rows bytes)) (sym row.place)

pub absent_is : (expect : Expect) (key at : ℕ) (bytes : List ℕ) → expect.level ≡ 0 → IsWellFormed bytes expect → IsSpot bytes expect key (spots.Gap at) → row_delete key (leaf_rows bytes) ≡ leaf_rows bytes
absent_is expect key at bytes level well spot =
    let facts = leaf_facts bytes expect level well in
    let place = gap_place key at (leaf_rows bytes) spot.1 spot.2 spot.3 in
    delete_none key expect.low expect.high (leaf_rows bytes) facts.order place.1

pub removed_of : {A : Type 0} (page : ℕ) (expect : Expect) (at : ℕ) (old new : Standing A) (done : Bool) → done ≡ true → IsRemovedByLines page expect at old new done → RemovedByLines page expect at old new
removed_of page expect at old new true is removed = removed
removed_of page expect at old new false is removed = absurd (cc)

-- a row that was taken out by its lines
pub removed_edits : {A : Type 0} (page : ℕ) (expect : Expect) (key at : ℕ) (old mid new : Standing A) → expect.level ≡ 0 → expect.pages ≡ old.count → mid.current ≡ old.current
    → (IsWellFormed (bytes_of old.current page) expect → IsSpot (bytes_of old.current page) expect key (spots.Row at)) → RemovedByLines page expect at mid new → Edits old.current new.current page expect Whole (row_delete key)
removed_edits page expect key at old mid new level count same spot removed =
    whole_edits page expect (row_delete key) old new level count
    (λ well.
    let w = bytes_of old.current page in
    let holds = subst (λ (lines : Lines). IsWellFormed (bytes_of lines page) expect → Holds leaf_rows expect (bytes_of new.current page) (remove (leaf_rows (bytes_of lines page)) at)) same removed.rows well in
    record { well = holds.well; are = holds.are ∙ sym (deleted_is expect key at w level well (spot well)) })
    (λ n ne. removed.others n ne ∙ ap (λ (lines : Lines). lines n) same)

-- a key that is not there
pub absent_edits : {A : Type 0} (page : ℕ) (expect : Expect) (key at : ℕ) (old new : Standing A) → expect.level ≡ 0 → expect.pages ≡ old.count → new.current ≡ old.current
    → (IsWellFormed (bytes_of old.current page) expect → IsSpot (bytes_of old.current page) expect key (spots.Gap at)) → Edits old.current new.current page expect Whole (row_delete key)
absent_edits page expect key at old new level count same spot =
    whole_edits page expect (row_delete key) old new level count
    (λ well.
    let w = bytes_of old.current page in
    subst (λ (lines : Lines). Holds leaf_rows expect (bytes_of lines page) (row_delete key (leaf_rows w))) (sym same) (record { well = well; are = sym (absent_is expect key at w level well (spot well)) }))
    (λ n ne. ap (λ (lines : Lines). lines n) same)

pub removed_by : {A : Type 0} (page : ℕ) (expect : Expect) (at most : ℕ) (old mid new : Standing A) → ReadsPage page old mid → IsTrue old.told → RemovedByLines page expect at mid new → Costs most old new → ByLines page most old new
removed_by page expect at most old mid new reads told removed costs = record {
  touched = costs;
  written = change_later page old mid new (reads.current told) reads.room (nothing_read reads) (record { only = removed.only; once = removed.once });
}

-- nothing is written where the key is not there
pub absent_by : {A : Type 0} (page most : ℕ) (old new : Standing A) → ReadsPage page old new → Costs most old new → ByLines page most old new
absent_by page most old new reads costs = record {
  touched = costs;
  written = record { only = only_nothing page (Differs (bytes_of old.current page) (bytes_of new.current page)) (nothing_read reads); once = omega (arith, reads.room) };
}

-- a page on the way is well formed, and stays so
pub stays_well : (told : Bool) (old now : Lines) (count key : ℕ) (top place : Node) (path : List Passed) → IsTrue told → IsTree top.expect.pages old top.expect.level top.page top.expect.low top.expect.high top.expect.root
    → Leads told old count key top path place → now ≡ old → IsWellFormed (bytes_of now place.page) place.expect
stays_well told old now count key top place path t tree leads same = subst (λ (lines : Lines). IsWellFormed (bytes_of lines place.page) place.expect) (sym same) (leads_well told old count key top place path t tree leads)

-- a search in one more page on the way down
pub costs_on : {A : Type 0} (level passed more : ℕ) (a b c : Standing A) → 1 ≤ level → more ≡ passed + 1 → Costs (10 * passed) a b → Costs (search_lines level) b c → Costs (10 * more) a c
costs_on level passed more a b c some is first second = Costs-weaker (omega (arith, is, inner_lines level some)) (Costs-trans first second)

pub costs_down : {A : Type 0} (level top passed : ℕ) (a b c : Standing A) → 1 ≤ level → level + passed ≡ top → Costs (10 * passed) a b → Costs (search_lines level) b c → Costs (10 * top) a c
costs_down level top passed a b c some height first second = Costs-weaker (omega (arith, height, some, inner_lines level some)) (Costs-trans first second)
