-- Runs of marked bytes: which of them are free, and how they add up.
use Rattle.std.proofs.Common.{◌≡◌, ℕ, zero, suc, ◌+◌, ◌<◌, ◌≤◌, inl, inr, Bool, true, false, not, nat_le, refl, ap, sym, ◌∙◌, arith}
use Rattle.std.proofs.lemmas.Bool.{and_parts, and_from, and_right, cases_eq, cases_lt, lt-ltb, le-ltb, le-leb, lt-leb, not_from_false, false_from_ne_true, true≢false}
use Rattle.page_format.specs.Marks.{Marked, with_run, all_free}

not_back : (x : Bool) → not x ≡ true → x ≡ false
not_back true e = sym e
not_back false e = refl

-- what it means that a run is free
pub free_each : (marked : Marked) (place size byte : ℕ) → all_free marked place size ≡ true → place ≤ byte → byte < place + size → marked byte ≡ false
free_each marked place zero byte free low high = absurd (omega arith)
free_each marked place (suc n) byte free low high =
    let parts = and_parts (not (marked place)) (all_free marked (place + 1) n) free in
    elim (cases_eq byte place) [
      | inl same ↦ ap marked same ∙ not_back (marked place) parts.0
      | inr other ↦ free_each marked (place + 1) n byte parts.1 (omega arith) (omega arith)
    ]

pub free_from : (marked : Marked) (place size : ℕ) → ((byte : ℕ) → place ≤ byte → byte < place + size → marked byte ≡ false) → all_free marked place size ≡ true
free_from marked place zero each = refl
free_from marked place (suc n) each =
    and_from (not (marked place)) (all_free marked (place + 1) n) (not_from_false (marked place) (each place (omega arith) (omega arith))) (free_from marked (place + 1) n (λ byte low high. each byte (omega arith) (omega arith)))

-- a run at a byte of it, below it and above it
pub run_in : (marked : Marked) (place size byte : ℕ) → place ≤ byte → byte < place + size → with_run place size marked byte ≡ true
run_in marked place size byte low high = rw (le-leb place byte low, lt-ltb byte (place + size) high) refl

pub run_below : (marked : Marked) (place size byte : ℕ) → byte < place → with_run place size marked byte ≡ marked byte
run_below marked place size byte below = rw (lt-leb place byte below) refl

pub run_above : (marked : Marked) (place size byte : ℕ) → place + size ≤ byte → with_run place size marked byte ≡ marked byte
run_above marked place size byte above = rw (le-ltb byte (place + size) above, and_right (nat_le place byte) false refl) refl

-- where a byte is beside a run
pub data Side (place size byte : ℕ) : Type 0 where
  below : byte < place → Side place size byte
  inside : place ≤ byte → byte < place + size → Side place size byte
  above : place + size ≤ byte → Side place size byte

pub side : (place size byte : ℕ) → Side place size byte
side place size byte =
    elim (cases_lt byte place) [
      | inl low ↦ below low
      | inr from ↦ elim (cases_lt byte (place + size)) [
        | inl until ↦ inside from until
        | inr past ↦ above past
      ]
    ]

-- one run after another is one longer run
pub run_more : (marked : Marked) (place k n : ℕ) → with_run (place + k) n (with_run place k marked) ≡ with_run place (k + n) marked
run_more marked place k n = λ i byte. at byte i
  where
    at : (byte : ℕ) → with_run (place + k) n (with_run place k marked) byte ≡ with_run place (k + n) marked byte
    at byte =
        elim (side place k byte) [
          | below low ↦ run_below (with_run place k marked) (place + k) n byte (omega arith) ∙ run_below marked place k byte low ∙ sym (run_below marked place (k + n) byte low)
          | inside from until ↦ run_below (with_run place k marked) (place + k) n byte until ∙ run_in marked place k byte from until ∙ sym (run_in marked place (k + n) byte from (omega arith))
          | above past ↦ elim (cases_lt byte (place + k + n)) [
            | inl until ↦ run_in (with_run place k marked) (place + k) n byte past until ∙ sym (run_in marked place (k + n) byte (omega arith) (omega arith))
            | inr over ↦ run_above (with_run place k marked) (place + k) n byte over ∙ run_above marked place k byte past ∙ sym (run_above marked place (k + n) byte (omega arith))
          ]
        ]

-- one part of a record marked after another
pub marks_step : (old now new : Marked) (place at k n whole : ℕ) → at ≡ place + k → whole ≡ k + n → now ≡ with_run place k old → new ≡ with_run at n now → new ≡ with_run place whole old
marks_step old now new place at k n whole at_is whole_is so_far step =
    step ∙ ap (λ (p : ℕ). with_run p n now) at_is ∙ ap (with_run (place + k) n) so_far ∙ run_more old place k n ∙ ap (λ (size : ℕ). with_run place size old) (sym whole_is)

pub free_step : (old now : Marked) (place at k n whole : ℕ) → at ≡ place + k → whole ≡ k + n → now ≡ with_run place k old → all_free old place k ≡ true → all_free now at n ≡ true → all_free old place whole ≡ true
free_step old now place at k n whole at_is whole_is so_far before part = free_from old place whole each
  where
    each : (byte : ℕ) → place ≤ byte → byte < place + whole → old byte ≡ false
    each byte low high =
        elim (cases_lt byte at) [
          | inl early ↦ free_each old place k byte before low (omega arith)
          | inr late ↦ sym (run_above old place k byte (omega arith)) ∙ ap (λ (m : Marked). m byte) (sym so_far) ∙ free_each now at n byte part late (omega arith)
        ]

pub free_stop : (old now : Marked) (place at k n size : ℕ) → at ≡ place + k → k + n ≤ size → now ≡ with_run place k old → all_free now at n ≡ false → false ≡ all_free old place size
free_stop old now place at k n size at_is within so_far part = sym (false_from_ne_true (all_free old place size) (λ free. true≢false (sym (free_from now at n (each free)) ∙ part)))
  where
    each : all_free old place size ≡ true → (byte : ℕ) → at ≤ byte → byte < at + n → now byte ≡ false
    each free byte low high = ap (λ (m : Marked). m byte) so_far ∙ run_above old place k byte (omega arith) ∙ free_each old place size byte free (omega arith) (omega arith)
