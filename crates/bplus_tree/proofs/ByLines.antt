-- A put by the lines that it needs, and one after reads of the leaf.
use Rattle.std.proofs.Common.{◌≡◌, ◌≤◌, ◌+◌, ℕ, Bool, true, false, List, length, IsTrue, Result, Ok, Err, OnOk, refl, sym, ap, subst, ◌∙◌, arith}
use Rattle.line_pages.specs.Lines.{Lines}
use Rattle.line_pages.specs.Bytes.{bytes_of}
use Rattle.line_pages.specs.Standing.{Standing, ReadsPage}
use Rattle.page_format.specs.declared.root.Expect.{Expect}
use Rattle.rows.specs.Rows.{Row, row_put}
use Rattle.page_format.specs.Node.{IsWellFormed, leaf_rows}
use Rattle.page_alloc.specs.Written.{OtherPages, Differs, Meets, WritesOnly, WritesNothing, lines_changed}
use Rattle.page_alloc.proofs.TouchedLaws.{only_then, only_weaker, only_nothing, nothing_read}
use Rattle.node_edit.specs.declared.fit.Fit.TheVariants as fits
use Rattle.node_edit.specs.Edit.{Holds}
use Rattle.node_edit.specs.Record.{record_at, HoldsLength}
use Rattle.leaf_lines.specs.Put.{PutByLines, PlacesRecord, IsPutByLines, IsLeft}
use Rattle.tree_search.proofs.SearchLaws.{well_formed_top}
use Rattle.bplus_tree.specs.declared.outcome.Outcome.TheVariants.{Whole}
use Rattle.bplus_tree.specs.Edit.{Edits, Stores}
use Rattle.bplus_tree.specs.Record.{WritesRecord}
use Rattle.bplus_tree.specs.LineChanges.{WritesChange}
use Rattle.bplus_tree.proofs.Storing.{leaf_edits, stored_whole}
use Rattle.bplus_tree.proofs.LineChangeLaws.{change_later}

pub put_of : {A : Type 0} (page : ℕ) (expect : Expect) (key : ℕ) (value : List ℕ) (old new : Standing A) (done : Bool) → done ≡ true → IsPutByLines page expect key value old new done → PutByLines page expect key value old new
put_of page expect key value old new true is put = put
put_of page expect key value old new false is put = absurd (cc)

pub left_of : {A : Type 0} (page : ℕ) (old new : Standing A) (done : Bool) → done ≡ false → IsLeft page old new done → ReadsPage page old new
left_of page old new true is left = absurd (cc)
left_of page old new false is left = left

-- after reads of the page
pub put_later : {A : Type 0} (page : ℕ) (expect : Expect) (key : ℕ) (value : List ℕ) (old mid new : Standing A) → ReadsPage page old mid → IsTrue old.told → PutByLines page expect key value mid new → PutByLines page expect key value old new
put_later page expect key value old mid new reads told put =
    let same = reads.current told in
    let w_new = bytes_of new.current page in
    let fewer : old.room ≤ new.room + lines_changed (bytes_of mid.current page) w_new = omega (arith, put.once, reads.room) in
    record {
      rows = subst (λ (lines : Lines). IsWellFormed (bytes_of lines page) expect → Holds leaf_rows expect w_new (row_put key value (leaf_rows (bytes_of lines page)))) same put.rows;
      placed = subst (λ (lines : Lines). IsWellFormed (bytes_of lines page) expect → PlacesRecord key (length value) (bytes_of lines page) w_new) same put.placed;
      others = λ n ne. put.others n ne ∙ ap (λ (lines : Lines). lines n) same;
      only = only_then page (Differs (bytes_of old.current page) w_new) (only_nothing page (Differs (bytes_of old.current page) w_new) (nothing_read reads)) (subst (λ (lines : Lines). WritesOnly page (Differs (bytes_of lines page) w_new) mid new) same put.only);
      once = subst (λ (lines : Lines). old.room ≤ new.room + lines_changed (bytes_of lines page) w_new) same fewer;
      again = λ well holds line differs.
          let back = λ (P : Lines → Type 0) (p : P old.current). subst P (sym same) p in
          let met = put.again (back (λ lines. IsWellFormed (bytes_of lines page) expect) well) (back (λ lines. HoldsLength key (length value) (leaf_rows (bytes_of lines page))) holds) line (back (λ lines. Differs (bytes_of lines page) w_new line) differs) in
          subst (λ (lines : Lines). Meets (record_at key (bytes_of lines page)) line) same met;
    }

-- a leaf that is as full as it has to be afterwards
pub whole_edits : {A : Type 0} (page : ℕ) (expect : Expect) (step : List Row → List Row) (old new : Standing A) → expect.level ≡ 0 → expect.pages ≡ old.count
    → (IsWellFormed (bytes_of old.current page) expect → Holds leaf_rows expect (bytes_of new.current page) (step (leaf_rows (bytes_of old.current page)))) → OtherPages page old.current new.current
    → Edits old.current new.current page expect Whole step
whole_edits page expect step old new level count holds others = λ free tree is_free part within.
    let w = bytes_of old.current page in
    let w_new = bytes_of new.current page in
    let well = well_formed_top expect.pages old.current expect.level page expect.low expect.high expect.root tree in
    let stores : Stores old.count old.current new.current page Whole w_new w_new = stored_whole old.count old.current new.current page w_new w_new (record { bytes_are = refl; others = others }) in
    leaf_edits expect old.current old.current new.current page old.count w w_new w_new fits.Whole Whole step level (sym count) refl refl (holds well) refl stores free tree is_free part within

pub line_edits : {A : Type 0} (page : ℕ) (expect : Expect) (key : ℕ) (value : List ℕ) (old new : Standing A) → expect.level ≡ 0 → expect.pages ≡ old.count → PutByLines page expect key value old new → Edits old.current new.current page expect Whole (row_put key value)
line_edits page expect key value old new level count put = whole_edits page expect (row_put key value) old new level count put.rows put.others

pub record_by : {A : Type 0} (page : ℕ) (expect : Expect) (key : ℕ) (value : List ℕ) (old new : Standing A) → PutByLines page expect key value old new → IsWellFormed (bytes_of old.current page) expect → HoldsLength key (length value) (leaf_rows (bytes_of old.current page)) → WritesRecord page key old new
record_by page expect key value old new put well holds = only_weaker page (Differs (bytes_of old.current page) (bytes_of new.current page)) (Meets (record_at key (bytes_of old.current page))) (λ line differs. put.again well holds line differs) put.only

pub change_by : {A : Type 0} (page : ℕ) (expect : Expect) (key : ℕ) (value : List ℕ) (old new : Standing A) → PutByLines page expect key value old new → WritesChange page old new
change_by page expect key value old new put = record { only = put.only; once = put.once }

pub record_read : {A : Type 0} (page key : ℕ) (old mid new : Standing A) → mid.current ≡ old.current → WritesNothing old mid → WritesRecord page key mid new → WritesRecord page key old new
record_read page key old mid new same nothing w =
    let rec = record_at key (bytes_of old.current page) in
    only_then page (Meets rec) (only_nothing page (Meets rec) nothing) (subst (λ (lines : Lines). WritesOnly page (Meets (record_at key (bytes_of lines page))) mid new) same w)
