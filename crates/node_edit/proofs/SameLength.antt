-- A value put in place of another of its length changes lines of its record alone.
use Rattle.std.proofs.Common.{◌≡◌, ℕ, ◌+◌, ◌-◌, ◌*◌, true, false, inl, inr, List, [], ◌∷◌, length, take, get_or, Some, sym, ap, subst, ◌∙◌, arith}
use Rattle.std.proofs.lemmas.Slice.Eq.{bytes_eq-Decides}
use Rattle.std.proofs.lemmas.Bool.{cases_eq, cases_lt, eq-eqb, ne_eqb, lt-ltb, le-ltb}
use Rattle.std.proofs.lemmas.List.{drop_all}
use Rattle.ssd_model.specs.Page.{Same}
use Rattle.line_pages.proofs.NumberLaws.{range-same}
use Rattle.rows.specs.Rows.{Row, keys, row_get, Ascends}
use Rattle.page_format.specs.Node.{Slot, leaf_rows}
use Rattle.page_format.specs.Sound.{slot_of}
use Rattle.node_edit.specs.Edit.{place_of, has_key}
use Rattle.node_edit.specs.Record.{record_at}
use Rattle.page_alloc.specs.Written.{Differs, Meets, line_part}
use Rattle.rows.proofs.RowLaws.{above_bound, row_get-none_above}

-- a key that has a value stands at its place
pub held_place : (low high key : ℕ) (held : List ℕ) (rows : List Row) → Ascends low high (keys rows) → row_get key rows ≡ Some held → (has_key key rows ≡ true) × ((d : Row) → (get_or rows (place_of key rows) d).1 ≡ held)
held_place low high key held [] up got = absurd (cc)
held_place low high key held (row ∷ rows) up got =
    elim (cases_eq row.0 key) [
      | inl e ↦
          let is : Some row.1 ≡ Some held = rw (eq-eqb row.0 key e) at got in
          let here = le-ltb row.0 key (omega (arith, e)) in
          (rw here (eq-eqb row.0 key e), λ d. rw here (cc))
      | inr ne ↦
          let rest : row_get key rows ≡ Some held = rw (ne_eqb row.0 key ne) at got in
          elim (cases_lt row.0 key) [
            | inl lt ↦ let ih = held_place (row.0 + 1) high key held rows up.2 rest in (rw (lt-ltb row.0 key lt) ih.0, λ d. rw (lt-ltb row.0 key lt) (ih.1 d))
            | inr ge ↦ let none = row_get-none_above key rows (above_bound (row.0 + 1) high key rows (omega (arith, ge, ne)) up.2) in absurd (cc)
          ]
    ]

not_differs : (old new : List ℕ) (line : ℕ) → line_part old line ≡ line_part new line → Differs old new line → ⊥
not_differs old new line same differs = let is = (bytes_eq-Decides (line_part old line) (line_part new line)).1 same in let clash : true ≡ false = sym is ∙ differs in absurd (cc)

-- the lines that differ share a byte with the record
pub set_lines : (old new : List ℕ) (slot : Slot) (line : ℕ) → length old ≡ 4096 → length new ≡ 4096 → Same 0 (slot.place + 8) old new → Same (slot.place + slot.size) 4096 old new → Differs old new line → Meets slot line
set_lines old new slot line size size_new before after differs =
    let same_size : length new ≡ length old = size_new ∙ sym size in
    elim (cases_lt line 64) [
      | inl inside ↦
          elim (cases_lt (64 * line) (slot.place + slot.size)) [
            | inl lt ↦ elim (cases_lt slot.place (64 * line + 64)) [
              | inl within ↦ (lt, within)
              | inr behind ↦ absurd (not_differs old new line (sym (range-same 0 (slot.place + 8) (64 * line) (64 * line + 64) old new before (omega arith) (omega (arith, behind)) (omega (arith, inside, size)) same_size)) differs)
            ]
            | inr past ↦ absurd (not_differs old new line (sym (range-same (slot.place + slot.size) 4096 (64 * line) (64 * line + 64) old new after past (omega (arith, inside)) (omega (arith, inside, size)) same_size)) differs)
          ]
      | inr outside ↦
          let n = 64 * line + 64 - 64 * line in
          absurd (not_differs old new line (ap (take n) (drop_all (64 * line) old (omega (arith, outside, size)) ∙ sym (drop_all (64 * line) new (omega (arith, outside, size_new))))) differs)
    ]

pub set_record : (old new : List ℕ) (key at : ℕ) → at ≡ place_of key (leaf_rows old) → length old ≡ 4096 → length new ≡ 4096
    → Same 0 ((slot_of old at).place + 8) old new → Same ((slot_of old at).place + (slot_of old at).size) 4096 old new → (line : ℕ) → Differs old new line → Meets (record_at key old) line
set_record old new key at is size size_new before after line differs =
    subst (λ (i : ℕ). Meets (slot_of old i) line) is (set_lines old new (slot_of old at) line size size_new before after differs)
