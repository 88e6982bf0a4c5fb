-- The pages that are joined under a page to be mended, and the stops of a put.
use Rattle.std.proofs.Common.{◌≡◌, ℕ, ◌+◌, ◌-◌, ◌/◌, ◌<◌, List, Result, IfErr, sym, ap, subst, arith, Option}
use Rattle.line_pages.specs.declared.stop.Stop.{Stop}
use Rattle.line_pages.specs.Lines.{Lines}
use Rattle.page_alloc.specs.Stops.{IsFault}
use Rattle.bplus_tree.specs.Damage.{IsLack}
use Rattle.line_pages.specs.Bytes.{bytes_of, page_bytes}
use Rattle.page_format.specs.declared.root.Expect.{Expect}
use Rattle.page_format.specs.Node.{children, IsWellFormed}
use Rattle.node_edit.specs.declared.pair.Pair.{Pair}
use Rattle.page_alloc.specs.Space.{FitsHeader}
use Rattle.node_edit.specs.Edit.{PairsUp, left_of, right_of}
use Rattle.bplus_tree.specs.Edit.{IsMendable, Joins}
use Rattle.bplus_tree.proofs.Editing.{mend_segment, joins_over}
use Rattle.bplus_tree.proofs.SoundLaws.{loose_top}
use Rattle.page_alloc.proofs.SoundLaws.{moved_header}
use Rattle.page_alloc.proofs.LackLaws.{fault_stops}

-- the two pages that are joined under a page to be mended
pub record PairWell (lines : Lines) (count level : ℕ) (pair : Pair) : Type 0 where
  pub left : IsWellFormed (bytes_of lines pair.left) (left_of count level pair)
  pub right : IsWellFormed (bytes_of lines pair.right) (right_of count level pair)

pub pair_well : (e : Expect) (old first : Lines) (page key level : ℕ) (free : List ℕ) (pair : Pair) (buffer : List ℕ) → first ≡ old → buffer ≡ bytes_of old page → PairsUp (children buffer) e.high key pair
    → IsMendable old page e key level free → PairWell first e.pages (e.level - 1) pair
pair_well e old first page key level free pair buffer same are pairs m =
    let is_level = m.is_level in
    let lower : e.level - 1 ≡ level = omega (arith, is_level) in
    let g = mend_segment e old page key level free pair buffer are pairs m in
    subst (λ (lines : Lines). PairWell lines e.pages (e.level - 1) pair) (sym same) (subst (λ (l : ℕ). PairWell old e.pages l pair) (sym lower) (record {
      left = loose_top e.pages old level pair.left pair.low (pair.middle - 1) g.left_loose g.left;
      right = loose_top e.pages old level pair.right pair.middle pair.high g.right_loose g.right;
    }))

-- the page above them after the join
pub record StaysAbove (mid : Lines) (page : ℕ) (e : Expect) : Type 0 where
  pub well : IsWellFormed (bytes_of mid page) e
  pub header : FitsHeader e.pages (mid 0 0)

pub stays_above : (e : Expect) (old first mid : Lines) (page key level : ℕ) (free : List ℕ) (pair : Pair) (cut : Option ℕ) (buffer : List ℕ) → first ≡ old → buffer ≡ bytes_of old page → PairsUp (children buffer) e.high key pair
    → IsMendable old page e key level free → Joins e.pages first mid (e.level - 1) pair cut → FitsHeader e.pages (old 0 0) → StaysAbove mid page e
stays_above e old first mid page key level free pair cut buffer same are pairs m joins fits =
    let is_level = m.is_level in
    let lower : e.level - 1 ≡ level = omega (arith, is_level) in
    let g = mend_segment e old page key level free pair buffer are pairs m in
    let joins_old = subst (λ (l : ℕ). Joins e.pages old mid l pair cut) lower (subst (λ (lines : Lines). Joins e.pages lines mid (e.level - 1) pair cut) same joins) in
    let r = joins_over e.pages old mid level page e.high pair cut free g joins_old m.is_free m.parted m.within in
    record {
      well = subst (λ (b : List ℕ). IsWellFormed b e) (sym (ap (λ p. page_bytes p) r.0.same)) m.well;
      header = moved_header r.0.moves fits;
    }

pub fault_lack : {T : Type 0} (at_hand after before : ℕ) (result : Result T Stop) → IfErr result IsFault → IfErr result (IsLack at_hand after before)
fault_lack at_hand after before result fault = fault_stops (at_hand < after / 2 + 8) (1000000 < before) result fault
