-- What was done to the lines that were read was done to the page.
use Rattle.std.proofs.Common.{◌≡◌, ◌≢◌, ℕ, ◌+◌, ◌*◌, ◌<◌, ◌≤◌, inl, inr, List, length, get_or, ap, sym, ◌∙◌, arith}
use Rattle.std.proofs.lemmas.Bool.{cases_lt}
use Rattle.ssd_model.specs.Page.{Same}
use Rattle.line_pages.proofs.NumberLaws.{u64_at-same}
use Rattle.rows.specs.Rows.{Row}
use Rattle.page_format.specs.Node.{row_in, page_kind, page_level, entry_count, heap_start}
use Rattle.page_format.specs.Sound.{slot_of}
use Rattle.page_edit.specs.Laid.{Lays}
use Rattle.page_edit.proofs.InsertLemmas.{Puts, laid_puts, slot_of-same, row_in-same}
use Rattle.leaf_lines.specs.declared.spread.Spread.{Spread}
use Rattle.leaf_lines.specs.Spread.{InOrder, Covers, AlikeIn, StandsFor}

-- bytes that the buffers have alike are alike in the page before and after
pub through : (s : Spread) (from end : ℕ) (read changed old new : List ℕ) → StandsFor s read changed old new → end ≤ 4096 → Same from end read changed → Same from end old new
through s from end read changed old new stands within same = record {
  each = λ j low high.
      let by = λ (put : get_or changed j 0 ≡ get_or new j 0) (known : get_or read j 0 ≡ get_or old j 0). sym put ∙ same.each j low high ∙ known in
      elim (cases_lt j 64) [
        | inl a ↦ by (stands.put.header.each j (omega arith) a) (stands.known.header.each j (omega arith) a)
        | inr a ↦ elim (cases_lt j (64 * s.slots)) [
          | inl b ↦ stands.kept.low.each j a b
          | inr b ↦ elim (cases_lt j (64 * s.slots_end)) [
            | inl d ↦ by (stands.put.slots.each j b d) (stands.known.slots.each j b d)
            | inr d ↦ elim (cases_lt j (64 * s.heap)) [
              | inl e ↦ stands.kept.middle.each j d e
              | inr e ↦ elim (cases_lt j (64 * s.heap_end)) [
                | inl f ↦ by (stands.put.heap.each j e f) (stands.known.heap.each j e f)
                | inr f ↦ stands.kept.high.each j f (omega arith)
              ]
            ]
          ]
        ]
      ];
}

-- the bytes of a record stand in lines that were read
record_in : (at count place size : ℕ) (s : Spread) (one other : List ℕ) → InOrder s → Covers at count place size s → at ≤ count → 68 + 4 * count ≤ place → AlikeIn s one other → Same place (place + size) one other
record_in at count place size s one other order covers within room alike = record {
  each = λ j low high.
      elim (cases_lt j (64 * s.slots_end)) [
        | inl before ↦ alike.slots.each j (omega (arith, covers.slots)) before
        | inr past ↦ elim covers.heap [
          | inl starts ↦ alike.heap.each j (omega (arith, starts)) (omega (arith, covers.heap_end))
          | inr meets ↦ alike.heap.each j (omega (arith, meets, past)) (omega (arith, covers.heap_end))
        ]
      ];
}

-- a row laid into the buffers by these lines was laid into the page
pub laid_through : (at count total place size : ℕ) (row : Row) (s : Spread) (read changed old new : List ℕ) → InOrder s → Covers at count place size s → StandsFor s read changed old new → Lays at count total place size row read changed
    → at ≤ count → 68 + 4 * count ≤ place → place + size ≤ 4096 → 8 ≤ size → length new ≡ 4096 → length changed ≡ 4096 → Lays at count total place size row old new
laid_through at count total place size row s read changed old new order covers stands lays within room top least size_new size_changed = record {
  count_is = sym (u64_at-same 0 64 8 new changed stands.put.header (omega arith) (omega arith)) ∙ lays.count_is;
  heap_is = sym (u64_at-same 0 64 24 new changed stands.put.header (omega arith) (omega arith)) ∙ lays.heap_is;
  kind = through s 0 8 read changed old new stands (omega arith) lays.kind;
  level = through s 16 24 read changed old new stands (omega arith) lays.level;
  before = through s 32 (64 + 4 * at) read changed old new stands (omega arith) lays.before;
  slot = sym (slot_of-same (64 * s.slots) (64 * s.slots_end) at new changed stands.put.slots covers.slots (omega (arith, covers.slots_end))) ∙ lays.slot;
  moved = record {
    each = λ j h. sym (stands.put.slots.each (68 + 4 * at + j) (omega (arith, covers.slots)) (omega (arith, covers.slots_end))) ∙ lays.moved.each j h
        ∙ stands.known.slots.each (64 + 4 * at + j) (omega (arith, covers.slots)) (omega (arith, covers.slots_end));
  };
  middle = through s (68 + 4 * count) place read changed old new stands (omega arith) lays.middle;
  record_is = sym (row_in-same place (place + size) new changed (record { place = place; size = size }) (record_in at count place size s new changed order covers within room stands.put) (omega arith) (omega arith) (omega arith) (omega (arith, size_new)) (omega (arith, size_new, size_changed))) ∙ lays.record_is;
  after = through s (place + size) 4096 read changed old new stands (omega arith) lays.after;
}

-- a row put into the buffers by these lines was put into the page
pub lays_puts : (at count place size : ℕ) (row : Row) (s : Spread) (read changed old new : List ℕ) → InOrder s → Covers at count place size s → StandsFor s read changed old new → Lays at count (count + 1) place size row read changed
    → at ≤ count → 68 + 4 * count ≤ place → place + size ≤ 4096 → 8 ≤ size → count ≡ entry_count old → length old ≡ 4096 → length new ≡ 4096 → length changed ≡ 4096 → Puts at place size row old new
lays_puts at count place size row s read changed old new order covers stands lays within room top least count_is size_old size_new size_changed =
    laid_puts at count place size row old new (laid_through at count (count + 1) place size row s read changed old new order covers stands lays within room top least size_new size_changed)
    within room count_is size_old size_new

-- what a buffer knows of a page after other lines were written
pub known_later : (from end low : ℕ) (old now buffer : List ℕ) → Same from end old buffer → Same low 4096 old now → low ≤ from → end ≤ 4096 → Same from end now buffer
known_later from end low old now buffer known kept order within = record { each = λ j a b. known.each j a b ∙ sym (kept.each j (omega (arith, order, a)) (omega (arith, b, within))) }

-- the three runs of lines written, one after the other
pub stands_after : (s : Spread) (read changed w0 w1 w2 w3 : List ℕ) → InOrder s → AlikeIn s w0 read → Same 0 64 w1 changed → Same 64 4096 w0 w1
    → Same (64 * s.slots) (64 * s.slots_end) w2 changed → Same 0 (64 * s.slots) w1 w2 → Same (64 * s.slots_end) 4096 w1 w2
    → Same (64 * s.heap) (64 * s.heap_end) w3 changed → Same 0 (64 * s.heap) w2 w3 → Same (64 * s.heap_end) 4096 w2 w3 → StandsFor s read changed w0 w3
stands_after s read changed w0 w1 w2 w3 order known put1 after1 put2 before2 after2 put3 before3 after3 = record {
  known = known;
  put = record {
    header = record { each = λ j low high. put1.each j low high ∙ sym (before2.each j low (omega (arith, high, order.some))) ∙ sym (before3.each j low (omega (arith, high, order.some, order.first, order.second))) };
    slots = record { each = λ j low high. put2.each j low high ∙ sym (before3.each j (omega arith) (omega (arith, high, order.second))) };
    heap = put3;
  };
  kept = record {
    low = record { each = λ j low high. before3.each j (omega arith) (omega (arith, high, order.first, order.second)) ∙ before2.each j (omega arith) high ∙ after1.each j low (omega (arith, high, order)) };
    middle = record { each = λ j low high. before3.each j (omega arith) high ∙ after2.each j low (omega (arith, high, order)) ∙ after1.each j (omega (arith, low, order)) (omega (arith, high, order)) };
    high = record { each = λ j low high. after3.each j low high ∙ after2.each j (omega (arith, low, order)) high ∙ after1.each j (omega (arith, low, order)) high };
  };
}

pub alike_on : (s : Spread) (page buffer more last : List ℕ) → InOrder s → Same 0 64 page buffer → Same (64 * s.slots) (64 * s.slots_end) page more → Same 0 (64 * s.slots) buffer more
    → Same (64 * s.heap) (64 * s.heap_end) page last → Same 0 (64 * s.heap) more last → AlikeIn s page last
alike_on s page buffer more last order header slots before heap before2 = record {
  header = record { each = λ j low high. before2.each j low (omega (arith, high, order)) ∙ before.each j low (omega (arith, high, order)) ∙ header.each j low high };
  slots = record { each = λ j low high. before2.each j (omega arith) (omega (arith, high, order)) ∙ slots.each j low high };
  heap = heap;
}

-- What the bytes of a leaf are after a slot got another record.
pub record Swapped (at place size : ℕ) (row : Row) (old new : List ℕ) : Type 0 where
  pub kind : page_kind new ≡ page_kind old
  pub level : page_level new ≡ page_level old
  pub count : entry_count new ≡ entry_count old
  pub heap : heap_start new ≡ place
  pub each : (k : ℕ) → k ≢ at → k < entry_count old → slot_of new k ≡ slot_of old k
  pub here : slot_of new at ≡ record { place = place; size = size }
  pub record_is : row_in new (record { place = place; size = size }) ≡ row
  pub rest : Same (place + size) 4096 old new
  pub size_old : length old ≡ 4096
  pub size_new : length new ≡ 4096

pub lays_swaps : (at total place size : ℕ) (row : Row) (s : Spread) (read changed old new : List ℕ) → InOrder s → Covers at at place size s → StandsFor s read changed old new → Lays at at total place size row read changed
    → at < total → 64 + 4 * total ≤ place → place + size ≤ 4096 → 8 ≤ size → total ≡ entry_count old → length old ≡ 4096 → length new ≡ 4096 → length changed ≡ 4096 → Swapped at place size row old new
lays_swaps at total place size row s read changed old new order covers stands lays within room top least count_is size_old size_new size_changed =
    let laid = laid_through at at total place size row s read changed old new order covers stands lays (omega arith) (omega arith) top least size_new size_changed in
    record {
      kind = u64_at-same 0 8 0 old new laid.kind (omega arith) (omega arith);
      level = u64_at-same 16 24 16 old new laid.level (omega arith) (omega arith);
      count = laid.count_is ∙ count_is;
      heap = laid.heap_is;
      each = λ k ne low. elim (cases_lt k at) [
        | inl below ↦ slot_of-same 32 (64 + 4 * at) k old new laid.before (omega arith) (omega arith)
        | inr above ↦ slot_of-same (68 + 4 * at) place k old new laid.middle (omega (arith, ne, above)) (omega (arith, low, count_is))
      ];
      here = laid.slot;
      record_is = laid.record_is;
      rest = laid.after;
      size_old = size_old;
      size_new = size_new;
    }
