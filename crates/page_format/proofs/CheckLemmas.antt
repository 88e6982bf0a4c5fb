-- Tests over all slots, rows or children, one step after another.
use Rattle.std.proofs.Common.{◌≡◌, ℕ, ◌+◌, ◌*◌, ◌<◌, ◌≤◌, Bool, true, false, List, [], ◌∷◌, length, drop, get_or, nat_le, nat_eq, ◌≢◌, ◌==◌, ◌&&◌, refl, ap, sym, ◌∙◌, arith}
use Rattle.std.specs.List.{list_all}
use Rattle.std.proofs.lemmas.List.{drop_more, drop_all}
use Rattle.std.proofs.lemmas.Bool.{eqb-true, leb-true, and_parts}
use Rattle.std.proofs.lemmas.List.Sums.{sum_by-cons}
use Rattle.rows.specs.Rows.{Row, keys, ascends}
use Rattle.page_format.specs.Node.{Slot, Child, slots, children, entry_count, bytes_used, all_apart, first_keys, begins_at, is_in_heap, page_kind, page_level, heap_start}
use Rattle.page_format.specs.Sound.{slot_of, IsSound}
use Rattle.page_format.specs.Inner.{IsInner}
use Rattle.page_format.proofs.SlotLemmas.{length-slots, slot_at}
use Rattle.page_format.proofs.InnerLemmas.{no_children, length_children}

pub slots_step : (bytes : List ℕ) (i : ℕ) → i < entry_count bytes → drop i (slots bytes) ≡ slot_of bytes i ∷ drop (i + 1) (slots bytes)
slots_step bytes i h =
    let d : Slot = record { place = 0; size = 0 } in
    drop_more (slots bytes) i d (omega (arith, length-slots bytes)) ∙ ap (λ (s : Slot). s ∷ drop (i + 1) (slots bytes)) (slot_at bytes i d h)

pub slots_end : (bytes : List ℕ) (i : ℕ) → entry_count bytes ≤ i → drop i (slots bytes) ≡ []
slots_end bytes i h = drop_all i (slots bytes) (omega (arith, length-slots bytes))

-- a test of all that is left: at a step that passes, at one that fails, and at the end
pub all_step : {X : Type 0} (p : X → Bool) (whole : Bool) (left rest : List X) (x : X) → whole ≡ list_all p left → left ≡ x ∷ rest → p x ≡ true → whole ≡ list_all p rest
all_step p whole left rest x so_far is yes_it = so_far ∙ ap (list_all p) is ∙ rw yes_it refl

pub all_stop : {X : Type 0} (p : X → Bool) (whole : Bool) (left rest : List X) (x : X) → whole ≡ list_all p left → left ≡ x ∷ rest → p x ≡ false → false ≡ whole
all_stop p whole left rest x so_far is no_it = sym (so_far ∙ ap (list_all p) is ∙ rw no_it refl)

pub all_done : {X : Type 0} (p : X → Bool) (whole : Bool) (left : List X) → whole ≡ list_all p left → left ≡ [] → true ≡ whole
all_done p whole left so_far is = sym (so_far ∙ ap (list_all p) is)

pub used_step : (bytes : List ℕ) (i total : ℕ) → i < entry_count bytes → total + bytes_used (drop i (slots bytes)) ≡ bytes_used (slots bytes)
    → total + (4 + (slot_of bytes i).size) + bytes_used (drop (i + 1) (slots bytes)) ≡ bytes_used (slots bytes)
used_step bytes i total h so_far =
    let step = ap bytes_used (slots_step bytes i h) ∙ sum_by-cons (λ (s : Slot). 4 + s.size) (slot_of bytes i) (drop (i + 1) (slots bytes)) in
    omega (arith, so_far, step)

pub rows_step : (rows : List Row) (i : ℕ) → i < length rows → drop i rows ≡ get_or rows i (0, []) ∷ drop (i + 1) rows
rows_step rows i h = drop_more rows i (0, []) h

pub rows_end : (rows : List Row) (i : ℕ) → length rows ≤ i → drop i rows ≡ []
rows_end rows i h = drop_all i rows h

ascends_one : (least high key : ℕ) (row : Row) (rest : List Row) → key ≡ row.0 → ascends least high (keys (row ∷ rest)) ≡ (nat_le least key && nat_le key high && ascends (key + 1) high (keys rest))
ascends_one least high key row rest is = rw is refl

pub ascends_step : (whole : Bool) (least high : ℕ) (rows : List Row) (i key : ℕ) → whole ≡ ascends least high (keys (drop i rows)) → i < length rows → key ≡ (get_or rows i (0, [])).0 → (nat_le least key && nat_le key high) ≡ true
    → whole ≡ ascends (key + 1) high (keys (drop (i + 1) rows))
ascends_step whole least high rows i key so_far h is yes_it =
    so_far ∙ ap (λ (r : List Row). ascends least high (keys r)) (rows_step rows i h) ∙ ascends_one least high key (get_or rows i (0, [])) (drop (i + 1) rows) is ∙ rw yes_it refl

pub ascends_stop : (whole : Bool) (least high : ℕ) (rows : List Row) (i key : ℕ) → whole ≡ ascends least high (keys (drop i rows)) → i < length rows → key ≡ (get_or rows i (0, [])).0 → (nat_le least key && nat_le key high) ≡ false
    → false ≡ whole
ascends_stop whole least high rows i key so_far h is no_it =
    sym (so_far ∙ ap (λ (r : List Row). ascends least high (keys r)) (rows_step rows i h) ∙ ascends_one least high key (get_or rows i (0, [])) (drop (i + 1) rows) is ∙ rw no_it refl)

-- the first four checks make a page sound
pub sound_from : (bytes : List ℕ) → length bytes ≡ 4096 → (page_kind bytes == 1) ≡ true → {level : ℕ} → (page_level bytes == level) ≡ true → level ≡ 0
    → (nat_le (64 + 4 * entry_count bytes) (heap_start bytes) && nat_le (heap_start bytes) 4096) ≡ true
    → (list_all (is_in_heap (heap_start bytes)) (slots bytes) && all_apart (slots bytes)) ≡ true → IsSound bytes
sound_from bytes size kind {level} level_is zero_is fits placed =
    let parts = and_parts (nat_le (64 + 4 * entry_count bytes) (heap_start bytes)) (nat_le (heap_start bytes) 4096) fits in
    let records = and_parts (list_all (is_in_heap (heap_start bytes)) (slots bytes)) (all_apart (slots bytes)) placed in
    record {
      size = size;
      kind = eqb-true (page_kind bytes) 1 kind;
      level = eqb-true (page_level bytes) level level_is ∙ zero_is;
      below_heap = leb-true (64 + 4 * entry_count bytes) (heap_start bytes) parts.0;
      heap = leb-true (heap_start bytes) 4096 parts.1;
      in_heap = records.0;
      apart = records.1;
    }

pub children_step : (all : List Child) (i : ℕ) → i < length all → drop i all ≡ get_or all i (0, 0) ∷ drop (i + 1) all
children_step all i h = drop_more all i (0, 0) h

pub children_end : (all : List Child) (i : ℕ) → length all ≤ i → drop i all ≡ []
children_end all i h = drop_all i all h

first_one : (least high key : ℕ) (child : Child) (rest : List Child) → key ≡ child.0 → ascends least high (first_keys (child ∷ rest)) ≡ (nat_le least key && nat_le key high && ascends (key + 1) high (first_keys rest))
first_one least high key child rest is = rw is refl

pub first_step : (whole : Bool) (least high : ℕ) (all : List Child) (i key : ℕ) → whole ≡ ascends least high (first_keys (drop i all)) → i < length all → key ≡ (get_or all i (0, 0)).0 → (nat_le least key && nat_le key high) ≡ true
    → whole ≡ ascends (key + 1) high (first_keys (drop (i + 1) all))
first_step whole least high all i key so_far h is yes_it =
    so_far ∙ ap (λ (r : List Child). ascends least high (first_keys r)) (children_step all i h) ∙ first_one least high key (get_or all i (0, 0)) (drop (i + 1) all) is ∙ rw yes_it refl

pub first_stop : (whole : Bool) (least high : ℕ) (all : List Child) (i key : ℕ) → whole ≡ ascends least high (first_keys (drop i all)) → i < length all → key ≡ (get_or all i (0, 0)).0 → (nat_le least key && nat_le key high) ≡ false
    → false ≡ whole
first_stop whole least high all i key so_far h is no_it =
    sym (so_far ∙ ap (λ (r : List Child). ascends least high (first_keys r)) (children_step all i h) ∙ first_one least high key (get_or all i (0, 0)) (drop (i + 1) all) is ∙ rw no_it refl)

pub inner_from : (bytes : List ℕ) → length bytes ≡ 4096 → (page_kind bytes == 2) ≡ true → (nat_le 2 (entry_count bytes) && nat_le (entry_count bytes) 240) ≡ true → IsInner bytes
inner_from bytes size kind number =
    let parts = and_parts (nat_le 2 (entry_count bytes)) (nat_le (entry_count bytes) 240) number in
    record { size = size; kind = eqb-true (page_kind bytes) 2 kind; count = omega (arith, leb-true (entry_count bytes) 240 parts.1) }

pub begins_none : (bytes : List ℕ) (low n : ℕ) → n ≡ entry_count bytes → n ≡ 0 → nat_eq n 0 ≡ begins_at low (children bytes)
begins_none bytes low n is none = rw (none, no_children bytes (sym is ∙ none)) refl

begins_first : (all : List Child) (low : ℕ) → 0 < length all → begins_at low all ≡ nat_eq (get_or all 0 (0, 0)).0 low
begins_first [] low h = absurd (omega arith)
begins_first (child ∷ rest) low h = refl

pub begins_some : (bytes : List ℕ) (low n key : ℕ) → n ≡ entry_count bytes → n ≢ 0 → key ≡ (get_or (children bytes) 0 (0, 0)).0 → nat_eq key low ≡ begins_at low (children bytes)
begins_some bytes low n key is some found = ap (λ (k : ℕ). nat_eq k low) found ∙ sym (begins_first (children bytes) low (omega (arith, length_children bytes)))
