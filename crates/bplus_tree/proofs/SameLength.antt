-- A value put in place of another of its length changes lines of its record alone.
use Rattle.std.proofs.Common.{◌≡◌, ◌≢◌, ℕ, List, Result, Ok, Err, OnOk, IfOk, sym, subst, ◌∙◌}
use Rattle.line_pages.specs.Bytes.{bytes_of}
use Rattle.line_pages.specs.Standing.{Standing, ReadsPage}
use Rattle.node_edit.specs.declared.fit.Fit.{Fit}
use Rattle.node_edit.specs.declared.fit.Fit.TheVariants as fits
use Rattle.bplus_tree.specs.declared.outcome.Outcome.{Outcome}
use Rattle.bplus_tree.specs.declared.outcome.Outcome.TheVariants.{Whole}
use Rattle.bplus_tree.specs.Edit.{IsOutcome}
use Rattle.page_alloc.proofs.TouchedLaws.{only_then, only_weaker, only_nothing, nothing_read}
use Rattle.node_edit.specs.Record.{record_at}
use Rattle.bplus_tree.specs.Record.{WritesRecord}
use Rattle.page_alloc.specs.Written.{Differs, Meets, WritesOnly}

-- a fit that is no cut
pub uncut_whole : (fit : Fit) → fit ≡ fits.Whole → (key : ℕ) → fit ≢ fits.Cut key
uncut_whole fit whole key = λ cut. let clash : fits.Whole ≡ fits.Cut key = sym whole ∙ cut in absurd (cc)

pub outcome_whole : {E : Type 0} (count : ℕ) (fit : Fit) (result : Result Outcome E) → fit ≡ fits.Whole → IfOk result (IsOutcome count fit) → IfOk result (λ outcome. outcome ≡ Whole)
outcome_whole count fit (Ok outcome) whole is = whole_is outcome (subst (λ (f : Fit). IsOutcome count f outcome) whole is)
  where
    whole_is : (outcome : Outcome) → IsOutcome count fits.Whole outcome → outcome ≡ Whole
    whole_is outcome is = is
outcome_whole count fit (Err e) whole is = tt

-- the lines of a leaf that are written for it
pub record_written : {A E : Type 0} (page key : ℕ) (spare bytes left : List ℕ) (old mid new : Standing A) (result : Result Outcome E) → ReadsPage page old mid → spare ≡ bytes → bytes ≡ bytes_of old.current page
    → ((line : ℕ) → Differs bytes left line → Meets (record_at key bytes) line) → OnOk result (WritesOnly page (Differs spare left) mid new) → OnOk result (WritesRecord page key old new)
record_written page key spare bytes left old mid new (Ok v) reads same is lines wrote =
    only_then page (Meets (record_at key (bytes_of old.current page))) (only_nothing page (Meets (record_at key (bytes_of old.current page))) (nothing_read reads))
    (only_weaker page (Differs spare left) (Meets (record_at key (bytes_of old.current page))) (λ line differs.
    subst (λ (b : List ℕ). Meets (record_at key b) line) is (lines line (subst (λ (b : List ℕ). Differs b left line) same differs))) wrote)
record_written page key spare bytes left old mid new (Err e) reads same is lines wrote = tt
