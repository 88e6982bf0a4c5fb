-- Parts of a page that were read to their places in a buffer.
use Rattle.std.proofs.Common.{◌≡◌, ℕ, ◌+◌, ◌-◌, ◌*◌, ◌<◌, ◌≤◌, inl, inr, false, List, ◌++◌, length, take, drop, get_or, Some, None, sym, ap, ◌∙◌, arith, get_or-append-add, get_or-take, zero-add, cond}
use Rattle.std.proofs.lemmas.Bool.{cases_lt}
use Rattle.std.proofs.lemmas.List.{length-take-le, get_or_append_left}
use Rattle.nvm_model.specs.declared.line.Line.{Line}
use Rattle.ssd_model.specs.Page.{Same}
use Rattle.rows.specs.Rows.{Row}
use Rattle.page_format.specs.Node.{Slot}
use Rattle.rows.specs.Value.{value_of}
use Rattle.page_edit.proofs.InsertLemmas.{row_in-same}
use Rattle.tree_search.specs.Record.{is_record, with_key, row_found}
use Rattle.line_pages.specs.Touch.{begins}
use Rattle.line_pages.specs.Standing.{Standing, ReadsPage}
use Rattle.line_pages.proofs.TouchLaws.{goes_on}
use Rattle.line_pages.specs.Bytes.{overwritten, page_bytes, with_line_bytes}
use Rattle.nvm_model.specs.LineBytes.{line_bytes}
use Rattle.line_pages.proofs.ByteLaws.{length-line_bytes}
use Rattle.nvm_model.proofs.PieceLaws.{get_or-pieces}

put_in : (xs new : List ℕ) (at j : ℕ) → at ≤ length xs → j < length new → get_or (overwritten xs at new) (at + j) 0 ≡ get_or new j 0
put_in xs new at j fits within =
    let size : length (take at xs) ≡ at = length-take-le at xs fits in
    ap (λ (p : ℕ). get_or (overwritten xs at new) (p + j) 0) (sym size)
    ∙ get_or-append-add (take at xs) (new ++ drop (at + length new) xs) j 0
    ∙ get_or_append_left new (drop (at + length new) xs) 0 j within

put_before : (xs new : List ℕ) (at j : ℕ) → at ≤ length xs → j < at → get_or (overwritten xs at new) j 0 ≡ get_or xs j 0
put_before xs new at j fits before =
    get_or_append_left (take at xs) (new ++ drop (at + length new) xs) 0 j (omega (arith, before, length-take-le at xs fits)) ∙ get_or-take at xs j 0 before

pub part_step : (f : ℕ → Line) (xs : List ℕ) (from l : ℕ) (value : Line) → length xs ≡ 4096 → l < 64 → value ≡ f l → Same from (64 * l) (page_bytes f) xs
    → Same from (64 * (l + 1)) (page_bytes f) (with_line_bytes xs l value)
unfolding page_bytes
part_step f xs from l value size l_in is same = record { each = λ j low high. at_j j low high }
  where
    at_j : (j : ℕ) → from ≤ j → j < 64 * (l + 1) → get_or (with_line_bytes xs l value) j 0 ≡ get_or (page_bytes f) j 0
    at_j j low high =
        elim (cases_lt j (64 * l)) [
          | inl lt ↦ put_before xs (line_bytes value) (64 * l) j (omega (arith, size)) lt ∙ same.each j low lt
          | inr ge ↦
              let k = j - 64 * l in
              let e : j ≡ 64 * l + k = omega (arith, ge) in
              ap (λ (p : ℕ). get_or (with_line_bytes xs l value) p 0) e
              ∙ put_in xs (line_bytes value) (64 * l) k (omega (arith, size)) (omega (arith, length-line_bytes value, high, ge))
              ∙ ap (λ v. get_or (line_bytes v) k 0) is
              ∙ ap (λ (i : ℕ). get_or (line_bytes (f i)) k 0) (sym (zero-add l))
              ∙ sym (get_or-pieces 64 (λ i. line_bytes (f i)) (λ i. length-line_bytes (f i)) 0 64 l k l_in (omega (arith, high, ge)))
              ∙ ap (λ (p : ℕ). get_or (page_bytes f) p 0) (sym e)
        ]

-- where the first line to read is behind the last one none was read
pub part_end : (old new : List ℕ) (first line end : ℕ) → Same (64 * first) (64 * line) old new → end ≤ line → Same (64 * first) (64 * end) old new
part_end old new first line end same reached = record { each = λ j low high. same.each j low (omega (arith, high, reached)) }

-- reads of the page whose access is open begin none
pub no_more : {A : Type 0} {page : ℕ} {old new : Standing A} → ReadsPage page old new → old.access ≡ Some (page, false) → new.visits ≤ old.visits
no_more {page = page} {old = old} reads stands =
    let same = reads.visits ∙ ap (λ o. old.visits + cond (begins o page false) 1 0) stands ∙ ap (λ b. old.visits + cond b 1 0) (goes_on page) in
    omega (arith, same)

-- the row of a record whose bytes are read
pub found_same : (old new : List ℕ) (slot : Slot) (first end : ℕ) → Same (64 * first) (64 * end) old new → 64 * first ≤ slot.place → slot.place + slot.size ≤ 64 * end → 8 ≤ slot.size → end ≤ 64
    → length old ≡ 4096 → length new ≡ 4096 → row_found new slot ≡ row_found old slot
found_same old new slot first end same low high some within size size_new =
    ap (λ (r : Row). cond (is_record slot) (with_key r.0 (value_of r.1)) None)
    (row_in-same (64 * first) (64 * end) old new slot same low (omega (arith, high, some)) high (omega (arith, within, size)) (omega (arith, size, size_new)))
