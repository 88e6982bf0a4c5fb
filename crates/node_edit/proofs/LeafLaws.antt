-- Leaves within bounds, and the lines in which a leaf that fell below the floor can differ.
use Rattle.std.proofs.Common.{◌≡◌, ◌+◌, ◌-◌, ◌*◌, ◌/◌, ◌<◌, ◌≤◌, ◌⊎◌, inl, inr, ℕ, zero, suc, Bool, true, false, List, [], ◌∷◌, length, take, drop, get_or, slice_set, ◌++◌, take-append-drop, refl, sym, ap, subst, ◌∙◌, arith, nat_le, ◌||◌}
use Rattle.std.proofs.lemmas.Bool.{le-leb, cases_lt}
use Rattle.ssd_model.specs.Page.{Same}
use Rattle.page_format.specs.declared.root.Expect.{Expect}
use Rattle.rows.specs.Rows.{Row, keys, row_put, Ascends, last_key}
use Rattle.page_format.proofs.RowLemmas.{row_bytes-cons, row_bytes-nil}
use Rattle.rows.proofs.RowLaws.{Ascends-put}
use Rattle.page_format.specs.Node.{leaf_rows, leaf_checks, entry_count, heap_start, first_failing, any_leaf, IsLeaf, IsWellFormed}
use Rattle.page_edit.specs.Packed.{IsPacked, AddsBelow}
use Rattle.page_format.specs.Sound.{row_bytes}
use Rattle.page_format.proofs.FactLemmas.{AllHold, all_hold, none_fails, ascends-is, sound_of, leaf_used_is, leaf_from}
use Rattle.page_format.proofs.PageFacts.{leaf_facts}
use Rattle.page_format.proofs.SlotLemmas.{length_rows}
use Rattle.node_edit.specs.Edit.{part, Divides}
use Rattle.node_edit.specs.Record.{FitsLeaf}
use Rattle.page_alloc.specs.Written.{lines_changed}
use Rattle.page_alloc.proofs.WrittenLaws.{changed_first, changed_two}
use Rattle.node_edit.proofs.KeyPlaceLaws.{rows_few}

pub leaf_to : (bytes : List ℕ) (low high pages : ℕ) (root : Bool) → length bytes ≡ 4096 → IsLeaf bytes → Ascends low high (keys (leaf_rows bytes)) → (root || nat_le 1344 (row_bytes (leaf_rows bytes))) ≡ true
    → IsWellFormed bytes (record { level = 0; low = low; high = high; root = root; pages = pages })
unfolding first_failing
leaf_to bytes low high pages root size leaf order full =
    let all : AllHold (leaf_checks bytes any_leaf) = all_hold (leaf_checks bytes any_leaf) leaf in
    none_fails (leaf_checks bytes (record { level = 0; low = low; high = high; root = root; pages = pages })) (
      all.0,
      (
        all.1.0,
        (
          all.1.1.0,
          (
            all.1.1.1.0,
            (
              all.1.1.1.1.0,
              (
                ascends-is low high (keys (leaf_rows bytes)) order,
                (
                  all.1.1.1.1.1.1.0,
                  (ap (λ (n : ℕ). root || nat_le 1344 n) (leaf_used_is bytes (sound_of bytes size leaf)) ∙ full, tt),
                ),
              ),
            ),
          ),
        ),
      ),
    )

both_same : (a b c : ℕ) (one two three : List ℕ) → Same a 4096 one two → Same b c two three → a ≤ b → c ≤ 4096 → Same b c one three
both_same a b c one two three first second from within = record { each = λ j low high. second.each j low high ∙ first.each j (omega (arith, from, low)) (omega (arith, high, within)) }

narrow : (a b c d : ℕ) (one two : List ℕ) → Same a b one two → a ≤ c → d ≤ b → Same c d one two
narrow a b c d one two same low high = record { each = λ j from to. same.each j (omega (arith, low, from)) (omega (arith, to, high)) }

-- a leaf that is short after a row was put in differs in few lines: those of its slots and of the record, or of all records packed
pub few_lines : (base old new : List ℕ) (size : ℕ) → length base ≡ 4096 → length new ≡ 4096 → IsLeaf new → row_bytes (leaf_rows new) < 1344 → size ≤ 488 → heap_start old ≤ 4096
    → Same (64 + 4 * entry_count new) 4096 base old → Same (64 + 4 * entry_count new) (heap_start new) old new → AddsBelow size old new ⊎ IsPacked new → lines_changed base new ≤ 33
few_lines base old new size base_size new_size leaf short small top first rest (inl below) =
    let few : entry_count new ≤ 112 = omega (arith, rows_few (leaf_rows new), short, length_rows new) in
    let sound = sound_of new new_size leaf in
    let kept = both_same (64 + 4 * entry_count new) (heap_start old) 4096 base old new first below.kept (omega (arith, sound.below_heap, below.heap)) (omega arith) in
    elim (cases_lt (heap_start new) 512) [
      | inl low ↦ let most = changed_first base new 16 base_size new_size (omega arith) (narrow (heap_start old) 4096 1024 4096 base new kept (omega (arith, below.heap, low, small)) (omega arith)) in omega (arith, most)
      | inr high ↦
          let q = heap_start new / 64 in
          let r = (heap_start old + 63) / 64 in
          let middle = both_same (64 + 4 * entry_count new) (64 + 4 * entry_count new) (heap_start new) base old new first rest (omega arith) (omega (arith, below.heap, top)) in
          let most = changed_two base new 8 q r base_size new_size (omega (arith, high)) (omega (arith, below.heap)) (omega (arith, top))
          (narrow (64 + 4 * entry_count new) (heap_start new) 512 (64 * q) base new middle (omega (arith, few)) (omega arith))
          (narrow (heap_start old) 4096 (64 * r) 4096 base new kept (omega arith) (omega arith)) in
          omega (arith, most, below.heap, small)
    ]
few_lines base old new size base_size new_size leaf short small top first rest (inr packed) =
    let few : entry_count new ≤ 112 = omega (arith, rows_few (leaf_rows new), short, length_rows new) in
    let q = heap_start new / 64 in
    let middle = both_same (64 + 4 * entry_count new) (64 + 4 * entry_count new) (heap_start new) base old new first rest (omega arith) packed.sound.heap in
    let most = changed_two base new 8 q 64 base_size new_size (omega (arith, packed.tight, short)) (omega (arith, packed.sound.heap)) (omega arith)
    (narrow (64 + 4 * entry_count new) (heap_start new) 512 (64 * q) base new middle (omega (arith, few)) (omega arith)) (record { each = λ j low high. absurd (omega (arith, low, high)) }) in
    omega (arith, most, packed.tight, short)

pub leaf_within : (bytes : List ℕ) (expect : Expect) → length bytes ≡ 4096 → expect.level ≡ 0 → IsLeaf bytes → Ascends expect.low expect.high (keys (leaf_rows bytes)) → (expect.root || nat_le 1344 (row_bytes (leaf_rows bytes))) ≡ true
    → IsWellFormed bytes expect
leaf_within bytes expect size level leaf order full =
    subst (λ (l : ℕ). IsWellFormed bytes (record { level = l; low = expect.low; high = expect.high; root = expect.root; pages = expect.pages })) (sym level)
    (leaf_to bytes expect.low expect.high expect.pages expect.root size leaf order full)

pub wide_order : (low high : ℕ) (ks : List ℕ) → high ≤ last_key → Ascends low high ks → Ascends 0 last_key ks
wide_order low high ks top up = wider low 0 high ks (omega arith) top up
  where
    wider : (low low' high : ℕ) (ks : List ℕ) → low' ≤ low → high ≤ last_key → Ascends low high ks → Ascends low' last_key ks
    wider low low' high [] a b up = tt
    wider low low' high (k ∷ ks) a b up = (omega (arith, a, up.0), omega (arith, b, up.1), wider (k + 1) (k + 1) high ks (omega arith) b up.2)

pub some_rows : (rows : List Row) → 1 ≤ row_bytes rows → 0 < length rows
some_rows [] some = absurd (omega (arith, some, row_bytes-nil))
some_rows (row ∷ rows) some = omega arith

-- two parts of rows that ascend
pub record Parted (low high key : ℕ) (left right : List Row) : Type 0 where
  pub above : low < key
  pub within : key ≤ high
  pub left_order : Ascends low (key - 1) (keys left)
  pub right_order : Ascends key high (keys right)

pub parted : (low high n : ℕ) (all : List Row) (d : Row) → Ascends low high (keys all) → 0 < length (take n all) → 0 < length (drop n all) → Parted low high (get_or (drop n all) 0 d).0 (take n all) (drop n all)
parted low high zero all d up some more = absurd (omega (arith, some))
parted low high (suc n) [] d up some more = absurd (omega (arith, some))
parted low high (suc zero) (r ∷ []) d up some more = absurd (omega (arith, more))
parted low high (suc zero) (r ∷ s ∷ rest) d up some more = record {
  above = omega (arith, up.0, up.2.0);
  within = up.2.1;
  left_order = (up.0, omega (arith, up.2.0), tt);
  right_order = (omega arith, up.2.1, up.2.2);
}
parted low high (suc (suc n)) (r ∷ []) d up some more = absurd (omega (arith, more))
parted low high (suc (suc n)) (r ∷ s ∷ rest) d up some more =
    let p = parted (r.0 + 1) high (suc n) (s ∷ rest) d up.2 (omega arith) more in
    record {
      above = omega (arith, up.0, p.above);
      within = p.within;
      left_order = (up.0, omega (arith, p.above), p.left_order);
      right_order = p.right_order;
    }

pub put_order : (low high key : ℕ) (value : List ℕ) (rows now : List Row) → low ≤ key → key ≤ high → Ascends low high (keys rows) → row_put key value rows ≡ now → Ascends low high (keys now)
put_order low high key value rows now above within up is = subst (λ all. Ascends low high (keys all)) is (Ascends-put low high key value rows above within up)

pub set_bytes : (rows : List Row) (at key : ℕ) (value : List ℕ) (d : Row) → at < length rows → length value ≡ length (get_or rows at d).1 → row_bytes (slice_set rows at (key, value)) ≡ row_bytes rows
set_bytes [] at key value d within same = absurd (omega (arith, within))
set_bytes (row ∷ rows) zero key value d within same = row_bytes-cons (key, value) rows ∙ omega (arith, same, row_bytes-cons row rows)
set_bytes (row ∷ rows) (suc at) key value d within same = row_bytes-cons row (slice_set rows at (key, value)) ∙ omega (arith, row_bytes-cons row rows, set_bytes rows at key value d (omega (arith, within)) same)

pub enter_full : (bytes : List ℕ) (expect : Expect) → length bytes ≡ 4096 → expect.level ≡ 0 → expect.high ≤ last_key → IsWellFormed bytes expect → (expect.root || nat_le 1344 (row_bytes (leaf_rows bytes))) ≡ true
enter_full bytes expect size level top well =
    let facts = leaf_facts bytes expect level well in
    let used = leaf_used_is bytes (sound_of bytes size (leaf_from bytes expect size level top well)) in
    full_of expect.root (row_bytes (leaf_rows bytes)) (λ below. omega (arith, facts.full below, used))
  where
    full_of : (root : Bool) (n : ℕ) → (root ≡ false → 1344 ≤ n) → (root || nat_le 1344 n) ≡ true
    full_of true n f = refl
    full_of false n f = le-leb 1344 n (f refl)

pub cut_divides : (e : Expect) (left right : List ℕ) (n : ℕ) (all : List Row) (key : ℕ) (d : Row) → length left ≡ 4096 → length right ≡ 4096 → e.level ≡ 0 → IsLeaf left → IsLeaf right
    → leaf_rows left ≡ take n all → leaf_rows right ≡ drop n all → Ascends e.low e.high (keys all) → 1344 ≤ row_bytes (leaf_rows left) → 1344 ≤ row_bytes (leaf_rows right) → key ≡ (get_or (leaf_rows right) 0 d).0
    → Divides leaf_rows e left right all key
cut_divides e left right n all key d left_size right_size level left_leaf right_leaf left_is right_is order left_full right_full is =
    let some = some_rows (leaf_rows left) (omega (arith, left_full)) in
    let more = some_rows (leaf_rows right) (omega (arith, right_full)) in
    let p = parted e.low e.high n all d order (omega (arith, some, ap length left_is)) (omega (arith, more, ap length right_is)) in
    let same : (get_or (drop n all) 0 d).0 ≡ key = ap (λ (rows : List Row). (get_or rows 0 d).0) (sym right_is) ∙ sym is in
    let q = subst (λ (k : ℕ). Parted e.low e.high k (take n all) (drop n all)) same p in
    record {
      above = q.above;
      within = q.within;
      left_well = leaf_within left (part e e.low (key - 1)) left_size level left_leaf (subst (λ (rows : List Row). Ascends e.low (key - 1) (keys rows)) (sym left_is) q.left_order) (le-leb 1344 (row_bytes (leaf_rows left)) left_full);
      right_well = leaf_within right (part e key e.high) right_size level right_leaf (subst (λ (rows : List Row). Ascends key e.high (keys rows)) (sym right_is) q.right_order) (le-leb 1344 (row_bytes (leaf_rows right)) right_full);
      are = ap (λ (rows : List Row). rows ++ leaf_rows right) left_is ∙ ap (λ (rows : List Row). take n all ++ rows) right_is ∙ take-append-drop n all;
    }

pub none_changed : (bytes : List ℕ) → length bytes ≡ 4096 → lines_changed bytes bytes ≤ 33
none_changed bytes size = let none = changed_first bytes bytes 0 size size (omega arith) (record { each = λ j low high. refl }) in omega (arith, none)

pub slots_changed : (old new : List ℕ) → length old ≡ 4096 → length new ≡ 4096 → entry_count old ≤ 336 → Same (64 + 4 * entry_count old) 4096 old new → lines_changed old new ≤ 33
slots_changed old new size new_size few same =
    let most = changed_first old new 22 size new_size (omega arith) (narrow (64 + 4 * entry_count old) 4096 1408 4096 old new same (omega (arith, few)) (omega arith)) in omega (arith, most)

-- rows that stand in one leaf fill it
pub fits_full : (root : Bool) (rows : List Row) → FitsLeaf (root ≡ true) rows → (root || nat_le 1344 (row_bytes rows)) ≡ true
fits_full root rows fits = full_of root fits.1
  where
    full_of : (root : Bool) → (root ≡ true) ⊎ (1344 ≤ row_bytes rows) → (root || nat_le 1344 (row_bytes rows)) ≡ true
    full_of true is = refl
    full_of false (inl is) = absurd (cc)
    full_of false (inr is) = le-leb 1344 (row_bytes rows) is
