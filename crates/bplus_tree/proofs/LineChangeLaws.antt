-- A value that neither cuts nor joins a leaf is put by the lines of the leaf that change alone.
use Rattle.std.proofs.Common.{◌≡◌, ◌≤◌, ◌+◌, ◌-◌, ℕ, suc, inl, inr, List, [], ◌∷◌, Bool, true, IsTrue, Result, Ok, Err, OnOk, refl, sym, ap, subst, ◌∙◌, arith}
use Rattle.line_pages.specs.Lines.{Lines}
use Rattle.line_pages.specs.Bytes.{bytes_of}
use Rattle.line_pages.specs.Standing.{Standing, ReadsPage}
use Rattle.rows.specs.Rows.{Row, row_put, last_key}
use Rattle.page_format.specs.Node.{leaf_rows, IsWellFormed}
use Rattle.node_edit.specs.declared.fit.Fit.{Fit}
use Rattle.node_edit.specs.declared.fit.Fit.TheVariants as fits
use Rattle.node_edit.specs.Record.{FitsLeaf}
use Rattle.tree_search.specs.declared.root.Root.{Root}
use Rattle.tree_search.specs.Tree.{IsTree, IsRooted, leaf_for}
use Rattle.page_alloc.specs.Written.{Differs, WritesOnly, WritesNothing, lines_changed}
use Rattle.page_alloc.proofs.TouchedLaws.{only_then, only_nothing, nothing_read}
use Rattle.bplus_tree.specs.declared.outcome.Outcome.{Outcome}
use Rattle.bplus_tree.specs.declared.outcome.Outcome.TheVariants.{Whole}
use Rattle.bplus_tree.specs.declared.path.Node.{Node}
use Rattle.bplus_tree.specs.declared.path.Passed.{Passed}
use Rattle.bplus_tree.specs.Edit.{spent}
use Rattle.bplus_tree.specs.Path.{Leads, root_place}
use Rattle.bplus_tree.specs.LineChanges.{WritesChange, PutsChange, PutsLines, leaf_after}
use Rattle.bplus_tree.proofs.LeafOfKey.{leads_leaf, leads_well}

-- after calls that wrote nothing
pub change_later : {A : Type 0} (leaf : ℕ) (old mid new : Standing A) → mid.current ≡ old.current → mid.room ≡ old.room → WritesNothing old mid → WritesChange leaf mid new → WritesChange leaf old new
change_later leaf old mid new same same_room nothing change =
    let Fact = Differs (bytes_of old.current leaf) (bytes_of new.current leaf) in
    let fewer : old.room ≤ new.room + lines_changed (bytes_of mid.current leaf) (bytes_of new.current leaf) = omega (arith, change.once, same_room) in
    record {
      only = only_then leaf Fact (only_nothing leaf Fact nothing) (subst (λ (lines : Lines). WritesOnly leaf (Differs (bytes_of lines leaf) (bytes_of new.current leaf)) mid new) same change.only);
      once = subst (λ (lines : Lines). old.room ≤ new.room + lines_changed (bytes_of lines leaf) (bytes_of new.current leaf)) same fewer;
    }

-- a leaf that was read, changed in memory, and written
pub page_changed : {A E : Type 0} (page : ℕ) (spare bytes left : List ℕ) (old mid new : Standing A) (fit : Fit) (result : Result Outcome E) → ReadsPage page old mid → mid.current ≡ old.current → mid.room ≡ old.room
    → spare ≡ bytes_of mid.current page → fit ≡ fits.Whole → OnOk result (WritesOnly page (Differs spare left) mid new) → OnOk result (bytes_of new.current page ≡ left)
    → OnOk result (mid.room ≤ new.room + spent (lines_changed spare left) fit) → OnOk result (WritesChange page old new)
page_changed page spare bytes left old mid new fit (Ok outcome) reads same same_room was whole wrote shows room =
    let fewer : mid.room ≤ new.room + lines_changed spare left = subst (λ (f : Fit). mid.room ≤ new.room + spent (lines_changed spare left) f) whole room in
    let to = λ (P : List ℕ → List ℕ → Type 0) (p : P spare left). subst (λ (b : List ℕ). P b (bytes_of new.current page)) was (subst (λ (b : List ℕ). P spare b) (sym shows) p) in
    change_later page old mid new same same_room (nothing_read reads) (record {
      only = to (λ (a b : List ℕ). WritesOnly page (Differs a b) mid new) wrote;
      once = to (λ (a b : List ℕ). mid.room ≤ new.room + lines_changed a b) fewer;
    })
page_changed page spare bytes left old mid new fit (Err e) reads same same_room was whole wrote shows room = tt

fits_or : {A B : Type 0} (rows : List Row) → (A → B) → FitsLeaf A rows → FitsLeaf B rows
fits_or rows to fits = (fits.0, elim fits.1 [ inl a ↦ inl (to a) | inr enough ↦ inr enough ])

-- the way from a leaf goes nowhere
leads_ground : (told : Bool) (lines : Lines) (count key : ℕ) (top bottom : Node) (path : List Passed) → Leads told lines count key top path bottom → top.expect.level ≡ 0 → top ≡ bottom
leads_ground told lines count key top bottom [] leads ground = leads
leads_ground told lines count key top bottom (passed ∷ path) leads ground =
    let clash : suc leads.1.expect.level ≡ 0 = sym leads.2.level ∙ ap (λ (p : Node). p.expect.level) leads.0 ∙ ground in
    absurd (cc)

pub lines_start : {A : Type 0} (key : ℕ) (value : List ℕ) (top leaf : Node) (path : List Passed) (old mid new : Standing A) (outcome : Outcome) → Leads old.told old.current old.count key top path leaf → leaf.expect.level ≡ 0
    → (IsTrue old.told → mid.current ≡ old.current) → mid.room ≡ old.room → WritesNothing old mid
    → (IsTrue old.told → IsWellFormed (bytes_of mid.current leaf.page) leaf.expect → FitsLeaf (leaf.expect.root ≡ true) (row_put key value (leaf_rows (bytes_of mid.current leaf.page))) → (outcome ≡ Whole) × WritesChange leaf.page mid new) → PutsChange top key value old new outcome
lines_start key value top leaf path old mid new outcome leads level same same_room nothing wrote = record {
  is = λ told tree fits.
      let at = leads_leaf old.told old.current old.count key top leaf path told tree leads level in
      let is_root : (top.expect.level ≡ 0) × (top.expect.root ≡ true) → leaf.expect.root ≡ true =
      λ h. sym (ap (λ (p : Node). p.expect.root) (leads_ground old.told old.current old.count key top leaf path leads h.0)) ∙ h.1 in
      let there : FitsLeaf (leaf.expect.root ≡ true) (row_put key value (leaf_rows (bytes_of old.current leaf.page))) =
      subst (λ (n : ℕ). FitsLeaf (leaf.expect.root ≡ true) (row_put key value (leaf_rows (bytes_of old.current n)))) at.is (fits_or (leaf_after old.current top.expect.level top.page key value) is_root fits) in
      let well = subst (λ (lines : Lines). IsWellFormed (bytes_of lines leaf.page) leaf.expect) (sym (same told)) (leads_well old.told old.current old.count key top leaf path told tree leads) in
      let w = wrote told well (subst (λ (lines : Lines). FitsLeaf (leaf.expect.root ≡ true) (row_put key value (leaf_rows (bytes_of lines leaf.page)))) (sym (same told)) there) in
      (w.0, subst (λ (n : ℕ). WritesChange n old new) (sym at.is) (change_later leaf.page old mid new (same told) same_room nothing w.1));
}

-- the pages above such a leaf stay
pub lines_on : {A : Type 0} (key : ℕ) (value : List ℕ) (top : Node) (old mid new : Standing A) (before after : Outcome) → PutsChange top key value old mid before → (before ≡ Whole → new ≡ mid) → (before ≡ Whole → after ≡ Whole)
    → PutsChange top key value old new after
lines_on key value top old mid new before after so_far kept follows = record {
  is = λ told tree fits.
      let w = so_far.is told tree fits in
      (follows w.0, subst (λ (s : Standing _). WritesChange (leaf_for old.current top.expect.level top.page key) old s) (sym (kept w.0)) w.1);
}

-- the same from a root
pub root_lines : {A : Type 0} (root : Root) (top : Node) (n key : ℕ) (value : List ℕ) (old new : Standing A) (outcome : Outcome) → n ≡ old.count → top ≡ root_place root n → PutsChange top key value old new outcome → IsTrue old.told
    → (rows : List Row) (used : List ℕ) → IsRooted old.count old.current root rows used → FitsLeaf (root.levels ≡ 1) (leaf_after old.current (root.levels - 1) root.page key value)
    → (outcome ≡ Whole) × WritesChange (leaf_for old.current (root.levels - 1) root.page key) old new
root_lines root top n key value old new outcome is_count is_top puts told rows used rooted fits =
    let at_top = subst (λ (p : Node). PutsChange p key value old new outcome) is_top puts in
    at_top.is told (subst (λ (m : ℕ). IsTree m old.current (root.levels - 1) root.page 0 last_key true) (sym is_count) rooted.tree.is_tree)
    (fits_or (leaf_after old.current (root.levels - 1) root.page key value) (λ one. (omega (arith, one), refl)) fits)
