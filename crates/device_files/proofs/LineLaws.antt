-- What is remembered of a line.
use Rattle.std.proofs.Common.{◌≡◌, ◌≢◌, ℕ, ◌+◌, ◌<◌, ◌≤◌, List, length, get_or, set, take, Option, Some, None, sym, ap, ◌∙◌, subst, inl, inr, ◌⊎◌, arith}
use Rattle.std.specs.Prelude.{replicate, MatchOption}
use Rattle.std.specs.Option.{option_map}
use Rattle.std.proofs.lemmas.List.{get_or-replicate, get_or-set_same, get_or-set_other, get_or-take, length-take-le}
use Rattle.std.proofs.lemmas.Bool.{cases_eq}
use Rattle.device_files.proofs.PositionLaws.{one_way}
use Rattle.nvm_model.specs.declared.line.Line.{Line}
use Rattle.device_files.specs.declared.gathered.Gathered.{Gathered}
use Rattle.device_files.specs.declared.line_cache.LineCache.{LineCache}
use Rattle.device_files.specs.declared.placed_line.PlacedLine.{PlacedLine}
use Rattle.device_files.specs.declared.line_memory.LineMemory.{LineMemory}
use Rattle.device_files.specs.PlacedLines.{no_place, AreDistinct, ArePlaced}
use Rattle.device_files.specs.Gathered.{IsGathered, IsEmpty}
use Rattle.device_files.specs.LineCache.{IsCached}
use Rattle.device_files.specs.LineMemory.{Agree, Recalls, IsUnknown, NoMore}

-- an empty slot has no line
pub none_in : (n i : ℕ) (known : PlacedLine) → i < n → get_or (replicate n None) i None ≡ Some known → ⊥
none_in n i known within e =
    let empty : get_or (replicate n None) i None ≡ None = get_or-replicate n i None None within in
    let absurd_at : None ≡ Some known = sym empty ∙ e in
    cc

-- of distinct lines one stands at one place
pub same_place : (count : ℕ) (lines : List PlacedLine) (i j : ℕ) → AreDistinct count lines → i < count → j < count
    → (get_or lines i no_place).line ≡ (get_or lines j no_place).line → i ≡ j
same_place count lines i j distinct hi hj e =
    let apart : i ≢ j → i ≡ j = λ ne.
    elim (one_way i j) [
      | inl h ↦ absurd (distinct.each i j (omega arith) hj e)
      | inr h ↦ absurd (distinct.each j i (omega arith) hi (sym e))
    ] in
    elim (cases_eq i j) [ inl same ↦ same | inr ne ↦ apart ne ]

-- a line is gathered with one value
pub gathered_once : (gathered : Gathered) (line : ℕ) (value found : Line) → AreDistinct gathered.count gathered.lines
    → IsGathered gathered line value → IsGathered gathered line found → value ≡ found
gathered_once gathered line value found distinct one other =
    let same : one.at ≡ other.at = same_place gathered.count gathered.lines one.at other.at distinct one.below other.below
    (ap (λ (p : PlacedLine). p.line) one.stands ∙ sym (ap (λ (p : PlacedLine). p.line) other.stands)) in
    let both : record { line = line; value = value } ≡ record { line = line; value = found } =
    sym one.stands ∙ ap (λ (i : ℕ). get_or gathered.lines i no_place) same ∙ other.stands in
    ap (λ (p : PlacedLine). p.value) both

-- a line that is gathered and kept anew has one value still
pub agree_put : (line : ℕ) (value : Line) (gathered new_gathered : Gathered) (cache new_cache : LineCache) → Agree gathered cache
    → AreDistinct new_gathered.count new_gathered.lines → IsGathered new_gathered line value
    → ((other : ℕ) (found : Line) → other ≢ line → IsGathered new_gathered other found → IsGathered gathered other found)
    → ((found : Line) → IsCached new_cache line found → found ≡ value)
    → ((other : ℕ) (found : Line) → other ≢ line → IsCached new_cache other found → IsCached cache other found)
    → Agree new_gathered new_cache
agree_put line value gathered new_gathered cache new_cache before distinct taken fewer alone fewer_cached =
    let one : (other : ℕ) (a b : Line) → (other ≡ line) ⊎ (other ≡ line → ⊥) → IsGathered new_gathered other a → IsCached new_cache other b → a ≡ b =
    λ other a b which hg hc. elim which [
      | inl e ↦ gathered_once new_gathered line a value distinct (subst (λ (k : ℕ). IsGathered new_gathered k a) e hg) taken ∙ sym (alone b (subst (λ (k : ℕ). IsCached new_cache k b) e hc))
      | inr ne ↦ before.each other a b (fewer other a ne hg) (fewer_cached other b ne hc)
    ] in
    record { each = λ other a b hg hc. one other a b (cases_eq other line) hg hc }

pub no_more_put : (line : ℕ) (gathered new_gathered : Gathered) (cache new_cache : LineCache)
    → ((other : ℕ) (found : Line) → other ≢ line → IsGathered new_gathered other found → IsGathered gathered other found)
    → ((other : ℕ) (found : Line) → other ≢ line → IsCached new_cache other found → IsCached cache other found)
    → NoMore line gathered cache new_gathered new_cache
no_more_put line gathered new_gathered cache new_cache fewer fewer_cached =
    record { each = λ other value ne h. elim h [ inl hg ↦ inl (fewer other value ne hg) | inr hc ↦ inr (fewer_cached other value ne hc) ] }

-- of a line that is not found nothing is known
pub unknown_by : (gathered : Gathered) (cache : LineCache) (line : ℕ) (result : Option Line)
    → ((value : Line) → Recalls gathered cache line value → result ≡ Some value) → result ≡ None → IsUnknown gathered cache line
unknown_by gathered cache line result known none value h = let both : Some value ≡ None = sym (known value h) ∙ none in cc

-- a line of which nothing was known is kept
pub agree_learn : (line : ℕ) (gathered : Gathered) (cache new_cache : LineCache) → Agree gathered cache → IsUnknown gathered cache line
    → ((other : ℕ) (found : Line) → other ≢ line → IsCached new_cache other found → IsCached cache other found)
    → Agree gathered new_cache
agree_learn line gathered cache new_cache before unknown fewer_cached =
    let one : (other : ℕ) (a b : Line) → (other ≡ line) ⊎ (other ≡ line → ⊥) → IsGathered gathered other a → IsCached new_cache other b → a ≡ b =
    λ other a b which hg hc. elim which [
      | inl e ↦ absurd (unknown a (inl (subst (λ (k : ℕ). IsGathered gathered k a) e hg)))
      | inr ne ↦ before.each other a b hg (fewer_cached other b ne hc)
    ] in
    record { each = λ other a b hg hc. one other a b (cases_eq other line) hg hc }

pub unknown_same : (memory after : LineMemory) (line : ℕ) → after ≡ memory → IsUnknown memory.gathered memory.cache line → IsUnknown after.gathered after.cache line
unknown_same memory after line e h = subst (λ (m : LineMemory). IsUnknown m.gathered m.cache line) (sym e) h

-- nothing is among no lines
pub none_gathered : (gathered : Gathered) (line : ℕ) (value : Line) → IsEmpty gathered → IsGathered gathered line value → ⊥
none_gathered gathered line value empty h = let below = h.below in omega arith

-- a line that stood there has another value, and the lines are as they were
pub renewed_lines : (lines : List PlacedLine) (at i : ℕ) (placed : PlacedLine) → at < length lines → (get_or lines at no_place).line ≡ placed.line
    → (get_or (set lines at placed) i no_place).line ≡ (get_or lines i no_place).line
renewed_lines lines at i placed within same =
    elim (cases_eq i at) [
      | inl e ↦ ap (λ (k : ℕ). (get_or (set lines at placed) k no_place).line) e ∙ ap (λ (p : PlacedLine). p.line) (get_or-set_same lines at placed no_place within)
          ∙ sym same ∙ ap (λ (k : ℕ). (get_or lines k no_place).line) (sym e)
      | inr ne ↦ ap (λ (p : PlacedLine). p.line) (get_or-set_other lines at i placed no_place ne)
    ]

pub renewed_distinct : (count : ℕ) (lines : List PlacedLine) (at : ℕ) (placed : PlacedLine) → at < length lines → (get_or lines at no_place).line ≡ placed.line
    → AreDistinct count lines → AreDistinct count (set lines at placed)
renewed_distinct count lines at placed within same distinct =
    record {
      each = λ i j below within_count e. distinct.each i j below within_count
          (sym (renewed_lines lines at i placed within same) ∙ e ∙ renewed_lines lines at j placed within same);
    }

-- at another place stands what stood there
pub elsewhere : (lines : List PlacedLine) (at i line : ℕ) (placed : PlacedLine) (value : Line) → at < length lines → line ≢ placed.line
    → get_or (set lines at placed) i no_place ≡ record { line = line; value = value } → get_or lines i no_place ≡ record { line = line; value = value }
elsewhere lines at i line placed value within other stands =
    elim (cases_eq i at) [
      | inl e ↦
          let new : placed ≡ record { line = line; value = value } =
          sym (get_or-set_same lines at placed no_place within) ∙ ap (λ (k : ℕ). get_or (set lines at placed) k no_place) (sym e) ∙ stands in
          absurd (other (sym (ap (λ (p : PlacedLine). p.line) new)))
      | inr ne ↦ sym (get_or-set_other lines at i placed no_place ne) ∙ stands
    ]

-- what stood at a place with another line stands there still
pub still_there : (lines : List PlacedLine) (at i line : ℕ) (placed : PlacedLine) (value : Line) → i ≢ at
    → get_or lines i no_place ≡ record { line = line; value = value } → get_or (set lines at placed) i no_place ≡ record { line = line; value = value }
still_there lines at i line placed value ne stands = get_or-set_other lines at i placed no_place ne ∙ stands

-- a line is put behind those that are distinct from it
pub pushed_distinct : (count : ℕ) (lines : List PlacedLine) (placed : PlacedLine) → count < length lines
    → ((i : ℕ) → i < count → (get_or lines i no_place).line ≢ placed.line) → AreDistinct count lines → AreDistinct (count + 1) (set lines count placed)
pushed_distinct count lines placed within others distinct =
    let same_at : (i : ℕ) → i < count → get_or (set lines count placed) i no_place ≡ get_or lines i no_place =
    λ i h. get_or-set_other lines count i placed no_place (omega arith) in
    let line_at : (i : ℕ) → i < count → (get_or (set lines count placed) i no_place).line ≡ (get_or lines i no_place).line =
    λ i h. ap (λ (p : PlacedLine). p.line) (same_at i h) in
    let last : (get_or (set lines count placed) count no_place).line ≡ placed.line = ap (λ (p : PlacedLine). p.line) (get_or-set_same lines count placed no_place within) in
    let pair : (i j : ℕ) → i < j → j < count + 1 → (j ≡ count) ⊎ (j ≢ count)
    → (get_or (set lines count placed) i no_place).line ≢ (get_or (set lines count placed) j no_place).line =
    λ i j below in_count which e. elim which [
      | inl j_is ↦ others i (omega arith) (sym (line_at i (omega arith)) ∙ e ∙ ap (λ (k : ℕ). (get_or (set lines count placed) k no_place).line) j_is ∙ last)
      | inr ne ↦ distinct.each i j below (omega arith) (sym (line_at i (omega arith)) ∙ e ∙ line_at j (omega arith))
    ] in
    record { each = λ i j below in_count e. pair i j below in_count (cases_eq j count) e }

pub set_placed : (count : ℕ) (lines : List PlacedLine) (at : ℕ) (placed : PlacedLine) → at < length lines → placed.line < 4268048
    → ((i : ℕ) → i < count → i ≢ at → (get_or lines i no_place).line < 4268048) → ArePlaced count (set lines at placed)
set_placed count lines at placed within line_in others =
    let one : (i : ℕ) → i < count → (i ≡ at) ⊎ (i ≢ at) → (get_or (set lines at placed) i no_place).line < 4268048 =
    λ i h which. elim which [
      | inl e ↦
          let is : (get_or (set lines at placed) i no_place).line ≡ placed.line =
          ap (λ (k : ℕ). (get_or (set lines at placed) k no_place).line) e ∙ ap (λ (p : PlacedLine). p.line) (get_or-set_same lines at placed no_place within) in
          omega arith
      | inr ne ↦
          let is : (get_or (set lines at placed) i no_place).line ≡ (get_or lines i no_place).line = ap (λ (p : PlacedLine). p.line) (get_or-set_other lines at i placed no_place ne) in
          let old = others i h ne in
          omega arith
    ] in
    record { each = λ i h. one i h (cases_eq i at) }

-- another line stands elsewhere
pub not_there : (lines : List PlacedLine) (at i line : ℕ) (placed : PlacedLine) (value : Line) → (get_or lines at no_place).line ≡ placed.line → line ≢ placed.line
    → get_or lines i no_place ≡ record { line = line; value = value } → i ≢ at
not_there lines at i line placed value same other stands e =
    other (sym (ap (λ (p : PlacedLine). p.line) stands) ∙ ap (λ (k : ℕ). (get_or lines k no_place).line) e ∙ same)

-- behind the last one stands the line that was put there
pub not_last : (count : ℕ) (lines : List PlacedLine) (i line : ℕ) (placed : PlacedLine) (value : Line) → count < length lines → line ≢ placed.line
    → get_or (set lines count placed) i no_place ≡ record { line = line; value = value } → i ≢ count
not_last count lines i line placed value within other stands e =
    other (sym (ap (λ (p : PlacedLine). p.line) stands) ∙ ap (λ (k : ℕ). (get_or (set lines count placed) k no_place).line) e
    ∙ ap (λ (p : PlacedLine). p.line) (get_or-set_same lines count placed no_place within))

pub gathered_stands : (gathered : Gathered) (at : ℕ) (placed : PlacedLine) → at < gathered.count → get_or gathered.lines at no_place ≡ placed → IsGathered gathered placed.line placed.value
gathered_stands gathered at placed below stands = record { at = at; below = below; stands = stands }

pub lines_placed : (count : ℕ) (lines front : List PlacedLine) → count ≤ length lines → front ≡ take count lines → ArePlaced count lines → ArePlaced (length front) front
lines_placed count lines front fits is placed =
    let size : length front ≡ count = ap length is ∙ length-take-le count lines fits in
    record {
      each = λ i h.
          let below : i < count = omega arith in
          let there : (get_or front i no_place).line ≡ (get_or lines i no_place).line =
          ap (λ (l : List PlacedLine). (get_or l i no_place).line) is ∙ ap (λ (p : PlacedLine). p.line) (get_or-take count lines i no_place below) in
          let old = placed.each i below in
          omega arith;
    }

-- a line that is kept has the value that is recalled
pub recall_cached : (gathered : Gathered) (cache : LineCache) (line : ℕ) (kept value : Line) → Agree gathered cache → IsCached cache line kept
    → Recalls gathered cache line value → Some kept ≡ Some value
recall_cached gathered cache line kept value agree has h = elim h [
  | inl hg ↦ ap (λ (v : Line). Some v) (sym (agree.each line value kept hg has))
  | inr hc ↦
      let both : Some (record { line = line; value = kept }) ≡ Some (record { line = line; value = value }) = sym has ∙ hc in
      ap (λ (o : Option PlacedLine). option_map (λ p. p.value) o) both
]

-- one that is not kept is recalled where it is gathered
pub recall_gathered : (gathered : Gathered) (cache : LineCache) (line : ℕ) (result : Option Line) (value : Line) → AreDistinct gathered.count gathered.lines
    → MatchOption result ((v : Line) → IsGathered gathered line v → ⊥) (λ v. IsGathered gathered line v)
    → ((v : Line) → IsCached cache line v → ⊥) → Recalls gathered cache line value → result ≡ Some value
recall_gathered gathered cache line None value distinct answer none h = elim h [ inl hg ↦ absurd (answer value hg) | inr hc ↦ absurd (none value hc) ]
recall_gathered gathered cache line (Some v) value distinct answer none h = elim h [
  | inl hg ↦ ap (λ (u : Line). Some u) (gathered_once gathered line v value distinct answer hg)
  | inr hc ↦ absurd (none value hc)
]
