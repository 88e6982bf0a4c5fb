-- Packed leaves.
use Rattle.std.proofs.Common.{◌≡◌, ℕ, ◌+◌, ◌-◌, ◌<◌, ◌≤◌, List, [], ◌∷◌, ◌++◌, length, get_or, slice_range, refl, ap, sym, subst, ◌∙◌, arith, append_assoc, append-nil}
use Rattle.std.specs.List.{insert}
use Rattle.std.proofs.lemmas.List.Edits.{insert_end, between_none}
use Rattle.rows.specs.Rows.{Row}
use Rattle.page_format.specs.Node.{Slot, slots, leaf_rows, page_kind, page_level, entry_count, heap_start}
use Rattle.page_edit.specs.Packed.{Descends, IsPackedInOrder}
use Rattle.page_format.specs.Sound.{row_bytes}
use Rattle.page_format.specs.Room.{row_size}
use Rattle.page_format.proofs.RowLemmas.{row_bytes-nil, row_bytes-push, row_bytes-append}
use Rattle.page_format.proofs.SlotLemmas.{length-slots}
use Rattle.page_edit.proofs.PartLemmas.{part_more, part_bytes}

-- a leaf with no slot
no_slots : (bytes : List ℕ) → entry_count bytes ≡ 0 → slots bytes ≡ []
unfolding slots
no_slots bytes none = rw none refl

pub no_rows : (bytes : List ℕ) → entry_count bytes ≡ 0 → leaf_rows bytes ≡ []
unfolding leaf_rows
no_rows bytes none = rw (no_slots bytes none) refl

pub empty_packed : (bytes : List ℕ) → length bytes ≡ 4096 → page_kind bytes ≡ 1 → entry_count bytes ≡ 0 → page_level bytes ≡ 0 → heap_start bytes ≡ 4096 → IsPackedInOrder bytes
empty_packed bytes size kind none level heap = record {
  packed = record {
    sound = record {
      size = size;
      kind = kind;
      level = level;
      below_heap = omega arith;
      heap = omega arith;
      in_heap = rw (no_slots bytes none) refl;
      apart = rw (no_slots bytes none) refl;
    };
    tight = rw (no_rows bytes none) (omega (arith, row_bytes-nil));
  };
  order = rw (no_slots bytes none) heap;
}

-- one record more, just below the others
Descends-push : (end heap : ℕ) (all : List Slot) (slot : Slot) → Descends end heap all → slot.place + slot.size ≡ heap → Descends end slot.place (all ++ slot ∷ [])
Descends-push end heap [] slot down below = (below ∙ down, refl)
Descends-push end heap (x ∷ xs) slot down below = (down.0, Descends-push x.place heap xs slot down.1 below)

pub pushed_order : (old new : List ℕ) (count size : ℕ) → count ≡ entry_count old → heap_start new + size ≡ heap_start old → slots new ≡ insert (slots old) count (record { place = heap_start new; size = size })
    → Descends 4096 (heap_start old) (slots old) → Descends 4096 (heap_start new) (slots new)
pushed_order old new count size is below put down =
    let slot : Slot = record { place = heap_start new; size = size } in
    let last = put ∙ ap (λ (k : ℕ). insert (slots old) k slot) (is ∙ sym (length-slots old)) ∙ insert_end (slots old) slot in
    subst (Descends 4096 (heap_start new)) (sym last) (Descends-push 4096 (heap_start old) (slots old) slot down below)

pub pushed_rows : (rows now : List Row) (n : ℕ) (row : Row) → n ≡ length rows → now ≡ insert rows n row → now ≡ rows ++ row ∷ []
pushed_rows rows now n row is wrote = wrote ∙ ap (λ (k : ℕ). insert rows k row) is ∙ insert_end rows row

pub pair_is : (k : ℕ) (v : List ℕ) (row : Row) → k ≡ row.0 → v ≡ row.1 → (k, v) ≡ row
pair_is k v row p q = rw (p, q) refl

-- the next row of a part fits where the whole part does
pub room_next : (old from now : List Row) (start i end : ℕ) (row : Row) → now ≡ old ++ slice_range from start i → start ≤ i → i < end → end ≤ length from → row ≡ get_or from i row
    → row_bytes (old ++ slice_range from start end) ≤ 4032 → row_bytes now + row_size row ≤ 4032
room_next old from now start i end row so_far low high within is room =
    let here = ap row_bytes so_far ∙ row_bytes-append old (slice_range from start i) in
    let more = ap row_bytes (part_more from start i row low (omega arith)) ∙ row_bytes-push (slice_range from start i) (get_or from i row) in
    let size : row_size row ≡ row_size (get_or from i row) = ap row_size is in
    let part = part_bytes from start (i + 1) (end - (i + 1)) (omega arith) (omega arith) in
    let last : i + 1 + (end - (i + 1)) ≡ end = omega arith in
    let whole = ap (λ (k : ℕ). row_bytes (slice_range from start k)) last in
    omega (arith, here, more, size, part, whole, row_bytes-append old (slice_range from start end))

pub rows_next : (old from now next : List Row) (start i : ℕ) (row : Row) → now ≡ old ++ slice_range from start i → next ≡ now ++ row ∷ [] → start ≤ i → i < length from → row ≡ get_or from i row
    → next ≡ old ++ slice_range from start (i + 1)
rows_next old from now next start i row so_far pushed low high is =
    pushed ∙ ap (λ xs. xs ++ row ∷ []) so_far ∙ append_assoc old (slice_range from start i) (row ∷ [])
    ∙ ap (λ (r : Row). old ++ (slice_range from start i ++ r ∷ [])) is ∙ ap (λ xs. old ++ xs) (sym (part_more from start i row low high))

-- what leaf_key and leaf_value gave is the row
pub read_row : (rows : List Row) (i key : ℕ) (value : List ℕ) → ((d : Row) → key ≡ (get_or rows i d).0) → ((d : Row) → value ≡ (get_or rows i d).1) → (d : Row) → (key, value) ≡ get_or rows i d
read_row rows i key value keys values d = pair_is key value (get_or rows i d) (keys d) (values d)

pub none_yet : (old from : List Row) (start : ℕ) → old ≡ old ++ slice_range from start start
none_yet old from start = sym (ap (λ xs. old ++ xs) (between_none from start) ∙ append-nil old)
