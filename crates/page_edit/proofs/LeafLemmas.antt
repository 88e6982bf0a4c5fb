-- What makes leaves of changed, divided and joined rows.
use Rattle.std.proofs.Common.{◌≡◌, ℕ, zero, suc, ◌+◌, ◌<◌, ◌≤◌, Bool, true, List, [], ◌∷◌, ◌++◌, map, length, set, get_or, take, drop, refl, ap, sym, subst, arith}
use Rattle.std.specs.List.{insert, list_all}
use Rattle.std.proofs.lemmas.Bool.{le-leb, and_parts}
use Rattle.std.proofs.lemmas.List.Edits.{length-between}
use Rattle.rows.specs.Rows.{Row, keys, Ascends, last_key}
use Rattle.page_format.specs.Room.{row_size}
use Rattle.page_edit.specs.Cut.{rows_left, IsFilled}
use Rattle.page_format.specs.Node.{Slot, slots, row_in, leaf_rows, entry_count, heap_start, is_in_heap, has_printable_value, IsLeaf}
use Rattle.page_format.specs.Sound.{IsSound, IsRows, row_bytes, slot_of}
use Rattle.page_edit.specs.Join.{IsJoined, IsDivided}
use Rattle.page_edit.specs.Packed.{IsPackedInOrder}
use Rattle.page_format.proofs.FactLemmas.{leaf_is}
use Rattle.page_format.proofs.SlotLemmas.{in_heap_one, slot_inside, row_at}
use Rattle.page_format.proofs.RowLemmas.{row_bytes-cons, row_bytes-insert}
use Rattle.page_edit.proofs.InsertLemmas.{all_insert}
use Rattle.page_edit.proofs.CutLemmas.{is_small, Fit, cut_fits, cut_is}

pub rows_insert : (rows : List Row) (at : ℕ) (row : Row) → IsRows rows → row_bytes rows + row_size row ≤ 4032 → Ascends 0 last_key (keys (insert rows at row)) → has_printable_value row ≡ true → IsRows (insert rows at row)
rows_insert rows at row is room order printable = record {
  used = omega (arith, row_bytes-insert rows at row);
  order = order;
  printable = all_insert has_printable_value rows at row is.printable printable;
}

all_small : (heap : ℕ) (bytes : List ℕ) (all : List Slot) → length bytes ≡ 4096 → list_all (is_in_heap heap) all ≡ true → list_all is_small (map (row_in bytes) all) ≡ true
all_small heap bytes [] size ok = refl
all_small heap bytes (slot ∷ rest) size ok =
    let parts = and_parts (is_in_heap heap slot) (list_all (is_in_heap heap) rest) ok in
    let one = in_heap_one heap slot parts.0 in
    let value = length-between bytes (slot.place + 8) (slot.place + slot.size) (omega (arith, one.below)) in
    rw (le-leb (row_size (row_in bytes slot)) 492 (omega (arith, value, one.value, one.key)), all_small heap bytes rest size parts.1) refl

pub small_rows : (bytes : List ℕ) → IsSound bytes → list_all is_small (leaf_rows bytes) ≡ true
unfolding leaf_rows
small_rows bytes sound = all_small (heap_start bytes) bytes (slots bytes) sound.size sound.in_heap

pub small_insert : (bytes : List ℕ) (at key : ℕ) (value : List ℕ) → IsSound bytes → length value ≤ 480 → list_all is_small (insert (leaf_rows bytes) at (key, value)) ≡ true
small_insert bytes at key value sound few = all_insert is_small (leaf_rows bytes) at (key, value) (small_rows bytes sound) (le-leb (12 + length value) 492 (omega arith))

-- a front and a back of rows that ascend and are printable
Ascends-lower : (low next high : ℕ) (ks : List ℕ) → low ≤ next → Ascends next high ks → Ascends low high ks
Ascends-lower low next high [] h up = tt
Ascends-lower low next high (k ∷ ks) h up = (omega (arith, h, up.0), up.1, up.2)

Ascends-take : (low high : ℕ) (rows : List Row) (n : ℕ) → Ascends low high (keys rows) → Ascends low high (keys (take n rows))
Ascends-take low high rows zero up = tt
Ascends-take low high [] (suc n) up = tt
Ascends-take low high (r ∷ rows) (suc n) up = (up.0, up.1, Ascends-take (r.0 + 1) high rows n up.2)

Ascends-drop : (low high : ℕ) (rows : List Row) (n : ℕ) → Ascends low high (keys rows) → Ascends low high (keys (drop n rows))
Ascends-drop low high rows zero up = up
Ascends-drop low high [] (suc n) up = tt
Ascends-drop low high (r ∷ rows) (suc n) up = Ascends-drop low high rows n (Ascends-lower low (r.0 + 1) high (keys rows) (omega (arith, up.0)) up.2)

all_take : (p : Row → Bool) (rows : List Row) (n : ℕ) → list_all p rows ≡ true → list_all p (take n rows) ≡ true
all_take p rows zero all = refl
all_take p [] (suc n) all = refl
all_take p (r ∷ rows) (suc n) all = let parts = and_parts (p r) (list_all p rows) all in rw (parts.0, all_take p rows n parts.1) refl

all_drop : (p : Row → Bool) (rows : List Row) (n : ℕ) → list_all p rows ≡ true → list_all p (drop n rows) ≡ true
all_drop p rows zero all = all
all_drop p [] (suc n) all = refl
all_drop p (r ∷ rows) (suc n) all = all_drop p rows n (and_parts (p r) (list_all p rows) all).1

pub rows_take : (rows : List Row) (n : ℕ) → row_bytes (take n rows) ≤ 4032 → Ascends 0 last_key (keys rows) → list_all has_printable_value rows ≡ true → IsRows (take n rows)
rows_take rows n fits order printable = record { used = fits; order = Ascends-take 0 last_key rows n order; printable = all_take has_printable_value rows n printable }

pub rows_drop : (rows : List Row) (n : ℕ) → row_bytes (drop n rows) ≤ 4032 → Ascends 0 last_key (keys rows) → list_all has_printable_value rows ≡ true → IsRows (drop n rows)
rows_drop rows n fits order printable = record { used = fits; order = Ascends-drop 0 last_key rows n order; printable = all_drop has_printable_value rows n printable }

-- the cut of a leaf with one row more
pub cut_of : (bytes : List ℕ) (at key : ℕ) (value : List ℕ) → IsSound bytes → IsRows (leaf_rows bytes) → length value ≤ 480 → Fit (insert (leaf_rows bytes) at (key, value)) (rows_left (insert (leaf_rows bytes) at (key, value)))
cut_of bytes at key value sound rows few =
    cut_fits (insert (leaf_rows bytes) at (key, value)) (small_insert bytes at key value sound few) (omega (arith, row_bytes-insert (leaf_rows bytes) at (key, value), rows.used))

pub left_leaf : (bytes : List ℕ) (all : List Row) (n : ℕ) → IsSound bytes → leaf_rows bytes ≡ take n all → row_bytes (take n all) ≤ 4032 → Ascends 0 last_key (keys all) → list_all has_printable_value all ≡ true → IsLeaf bytes
left_leaf bytes all n sound is fits order printable = leaf_is bytes sound (subst IsRows (sym is) (rows_take all n fits order printable))

pub right_leaf : (bytes : List ℕ) (all : List Row) (n : ℕ) → IsSound bytes → leaf_rows bytes ≡ drop n all → row_bytes (drop n all) ≤ 4032 → Ascends 0 last_key (keys all) → list_all has_printable_value all ≡ true → IsLeaf bytes
right_leaf bytes all n sound is fits order printable = leaf_is bytes sound (subst IsRows (sym is) (rows_drop all n fits order printable))

-- the rows of two leaves
all_both : (p : Row → Bool) (xs ys : List Row) → list_all p xs ≡ true → list_all p ys ≡ true → list_all p (xs ++ ys) ≡ true
all_both p [] ys one two = two
all_both p (x ∷ xs) ys one two = let parts = and_parts (p x) (list_all p xs) one in rw (parts.0, all_both p xs ys parts.1 two) refl

pub printable_both : (xs ys : List Row) → IsRows xs → IsRows ys → list_all has_printable_value (xs ++ ys) ≡ true
printable_both xs ys one two = all_both has_printable_value xs ys one.printable two.printable

pub joined_is : (one two left : List ℕ) → IsRows (leaf_rows one) → IsRows (leaf_rows two) → IsPackedInOrder left → leaf_rows left ≡ leaf_rows one ++ leaf_rows two → row_bytes (leaf_rows one ++ leaf_rows two) ≤ 4032
    → Ascends 0 last_key (keys (leaf_rows one ++ leaf_rows two)) → IsJoined one two left
joined_is one two left p q packed is fits order = record {
  fits = fits;
  rows = is;
  packed = packed;
  leaf = leaf_is left packed.packed.sound (subst IsRows (sym is) (record { used = fits; order = order; printable = printable_both (leaf_rows one) (leaf_rows two) p q }));
}

pub join_fit : (one two : List ℕ) → IsSound one → IsSound two → row_bytes (leaf_rows one ++ leaf_rows two) ≤ 5375 → Fit (leaf_rows one ++ leaf_rows two) (rows_left (leaf_rows one ++ leaf_rows two))
join_fit one two p q most = cut_fits (leaf_rows one ++ leaf_rows two) (all_both is_small (leaf_rows one) (leaf_rows two) (small_rows one p) (small_rows two q)) most

pub divided_is : (one two left right : List ℕ) → IsRows (leaf_rows one) → IsRows (leaf_rows two) → Fit (leaf_rows one ++ leaf_rows two) (rows_left (leaf_rows one ++ leaf_rows two))
    → IsPackedInOrder left → IsPackedInOrder right → 4032 < row_bytes (leaf_rows one ++ leaf_rows two) → Ascends 0 last_key (keys (leaf_rows one ++ leaf_rows two))
    → leaf_rows left ≡ take (rows_left (leaf_rows one ++ leaf_rows two)) (leaf_rows one ++ leaf_rows two) → leaf_rows right ≡ drop (rows_left (leaf_rows one ++ leaf_rows two)) (leaf_rows one ++ leaf_rows two) → IsDivided one two left right
divided_is one two left right p q fit left_packed right_packed over order l r =
    let all = leaf_rows one ++ leaf_rows two in
    let printable = printable_both (leaf_rows one) (leaf_rows two) p q in
    record {
      over = over;
      left_rows = l;
      right_rows = r;
      left_leaf = left_leaf left all (rows_left all) left_packed.packed.sound l fit.left order printable;
      right_leaf = right_leaf right all (rows_left all) right_packed.packed.sound r fit.right order printable;
      left_full = omega (arith, ap row_bytes l, fit.left_full over);
      right_full = omega (arith, ap row_bytes r, fit.right_full over);
      halves = cut_is all (leaf_rows left) (leaf_rows right) (rows_left all) fit l r;
      left_filled = subst IsFilled (sym l) (fit.left_filled over);
      right_filled = subst IsFilled (sym r) (fit.right_filled over);
      left_packed = left_packed;
      right_packed = right_packed;
    }

-- another value of the same length, at the same key
keys-set : (rows : List Row) (at : ℕ) (row : Row) → row.0 ≡ (get_or rows at row).0 → keys (set rows at row) ≡ keys rows
keys-set [] at row same = refl
keys-set (r ∷ rows) zero row same = rw same refl
keys-set (r ∷ rows) (suc at) row same = ap (λ ks. r.0 ∷ ks) (keys-set rows at row same)

bytes-set : (rows : List Row) (at : ℕ) (row : Row) → length row.1 ≡ length (get_or rows at row).1 → row_bytes (set rows at row) ≡ row_bytes rows
bytes-set [] at row same = refl
bytes-set (r ∷ rows) zero row same = omega (arith, row_bytes-cons r rows, row_bytes-cons row rows, same)
bytes-set (r ∷ rows) (suc at) row same = omega (arith, row_bytes-cons r rows, row_bytes-cons r (set rows at row), bytes-set rows at row same)

all_set : (p : Row → Bool) (rows : List Row) (at : ℕ) (row : Row) → list_all p rows ≡ true → p row ≡ true → list_all p (set rows at row) ≡ true
all_set p [] at row all one = refl
all_set p (r ∷ rows) zero row all one = rw (one, (and_parts (p r) (list_all p rows) all).1) refl
all_set p (r ∷ rows) (suc at) row all one =
    let parts = and_parts (p r) (list_all p rows) all in
    rw (parts.0, all_set p rows at row parts.1 one) refl

pub rows_set_is : (rows : List Row) (at : ℕ) (row : Row) → IsRows rows → row.0 ≡ (get_or rows at row).0 → length row.1 ≡ length (get_or rows at row).1 → has_printable_value row ≡ true → IsRows (set rows at row)
rows_set_is rows at row is key size printable = record {
  used = omega (arith, bytes-set rows at row size, is.used);
  order = subst (Ascends 0 last_key) (sym (keys-set rows at row key)) is.order;
  printable = all_set has_printable_value rows at row is.printable printable;
}

-- the value of a row is its record but for the key
pub value_size : (bytes : List ℕ) (at n : ℕ) (d : Row) → IsSound bytes → at < entry_count bytes → n ≡ length (get_or (leaf_rows bytes) at d).1 → 8 + n ≡ (slot_of bytes at).size
value_size bytes at n d sound within is =
    let slot = slot_of bytes at in
    let inside = slot_inside bytes at sound within in
    let value = ap (λ (row : Row). length row.1) (row_at bytes at d within) in
    let size = length-between bytes (slot.place + 8) (slot.place + slot.size) (omega (arith, inside.below, sound.size)) in
    omega (arith, is, value, size, inside.key)
