-- What a well-formed leaf has, and what makes one.
use Rattle.std.proofs.Common.{◌≡◌, ℕ, ◌+◌, ◌*◌, ◌≤◌, Bool, true, List, [], ◌∷◌, map, length, None, nat_le, ◌&&◌, ◌||◌, inl, inr, refl, ap, sym, ◌∙◌, arith}
use Rattle.std.specs.List.{list_all}
use Rattle.std.proofs.lemmas.Bool.{leb-true, le-leb, eq-eqb, eqb-true, and_parts, cases_Bool}
use Rattle.std.proofs.lemmas.List.Edits.{length-between}
use Rattle.std.proofs.lemmas.List.Sums.{sum_by-cons}
use Rattle.page_format.specs.declared.root.Expect.{Expect}
use Rattle.damage.specs.Checks.{first_failure}
use Rattle.rows.specs.Rows.{keys, Ascends, ascends, last_key}
use Rattle.page_format.specs.Node.{Slot, slots, row_in, leaf_rows, page_kind, page_level, entry_count, heap_start, is_in_heap, all_apart, bytes_used, leaf_checks, first_failing, IsWellFormed, IsLeaf, any_leaf}
use Rattle.page_format.specs.Sound.{IsSound, IsRows, row_bytes}
use Rattle.page_format.proofs.SlotLemmas.{in_heap_one}
use Rattle.page_format.proofs.RowLemmas.{row_bytes-nil, row_bytes-cons}

abbrev pub AllHold : {X : Type 0} → List (X × Bool) → Type 0
AllHold [] = Unit {0}
AllHold (check ∷ checks) = (check.1 ≡ true) × AllHold checks

-- where no check fails each one holds
pub all_hold : {X : Type 0} (list : List (X × Bool)) → first_failure list ≡ None → AllHold list
all_hold [] e = tt
all_hold (check ∷ rest) e =
    elim (cases_Bool check.1) [
      | inl holds ↦ (holds, all_hold rest (rw holds at e))
      | inr fails ↦ let failed = rw fails at e in absurd (cc)
    ]

-- and the other way
pub none_fails : {X : Type 0} (list : List (X × Bool)) → AllHold list → first_failure list ≡ None
none_fails [] all = refl
none_fails (check ∷ rest) all = rw all.0 (none_fails rest all.1)

pub ascends-true : (low high : ℕ) (ks : List ℕ) → ascends low high ks ≡ true → Ascends low high ks
ascends-true low high [] e = tt
ascends-true low high (k ∷ ks) e =
    let first = and_parts (nat_le low k && nat_le k high) (ascends (k + 1) high ks) e in
    let bounds = and_parts (nat_le low k) (nat_le k high) first.0 in
    (leb-true low k bounds.0, leb-true k high bounds.1, ascends-true (k + 1) high ks first.1)

pub ascends-is : (low high : ℕ) (ks : List ℕ) → Ascends low high ks → ascends low high ks ≡ true
ascends-is low high [] up = refl
ascends-is low high (k ∷ ks) up = rw (le-leb low k up.0, le-leb k high up.1, ascends-is (k + 1) high ks up.2) refl

-- the bytes used, by slots and by rows
used_is : (heap : ℕ) (bytes : List ℕ) (all : List Slot) → length bytes ≡ 4096 → list_all (is_in_heap heap) all ≡ true → bytes_used all ≡ row_bytes (map (row_in bytes) all)
used_is heap bytes [] size ok = sym row_bytes-nil
used_is heap bytes (slot ∷ rest) size ok =
    let parts = and_parts (is_in_heap heap slot) (list_all (is_in_heap heap) rest) ok in
    let one = in_heap_one heap slot parts.0 in
    let value = length-between bytes (slot.place + 8) (slot.place + slot.size) (omega (arith, one.below)) in
    omega (arith, sum_by-cons (λ (s : Slot). 4 + s.size) slot rest, row_bytes-cons (row_in bytes slot) (map (row_in bytes) rest), value, one.key, used_is heap bytes rest size parts.1)

pub leaf_used_is : (bytes : List ℕ) → IsSound bytes → bytes_used (slots bytes) ≡ row_bytes (leaf_rows bytes)
unfolding leaf_rows
leaf_used_is bytes sound = used_is (heap_start bytes) bytes (slots bytes) sound.size sound.in_heap

-- a leaf is a sound page whose rows fit, ascend and are printable
pub leaf_is : (bytes : List ℕ) → IsSound bytes → IsRows (leaf_rows bytes) → IsLeaf bytes
unfolding first_failing
leaf_is bytes sound rows =
    none_fails (leaf_checks bytes any_leaf) (
      eq-eqb (page_kind bytes) 1 sound.kind,
      (
        eq-eqb (page_level bytes) 0 sound.level,
        (
          rw (le-leb (64 + 4 * entry_count bytes) (heap_start bytes) sound.below_heap, le-leb (heap_start bytes) 4096 sound.heap) refl,
          (
            rw (sound.in_heap, sound.apart) refl,
            (
              le-leb (bytes_used (slots bytes)) 4032 (omega (arith, leaf_used_is bytes sound, rows.used)),
              (
                ascends-is 0 last_key (keys (leaf_rows bytes)) rows.order,
                (
                  rows.printable,
                  (
                    refl,
                    tt,
                  ),
                ),
              ),
            ),
          ),
        ),
      ),
    )

pub sound_of : (bytes : List ℕ) → length bytes ≡ 4096 → IsLeaf bytes → IsSound bytes
unfolding first_failing
sound_of bytes size well =
    let all : AllHold (leaf_checks bytes any_leaf) = all_hold (leaf_checks bytes any_leaf) well in
    let heap = and_parts (nat_le (64 + 4 * entry_count bytes) (heap_start bytes)) (nat_le (heap_start bytes) 4096) all.1.1.0 in
    let records = and_parts (list_all (is_in_heap (heap_start bytes)) (slots bytes)) (all_apart (slots bytes)) all.1.1.1.0 in
    record {
      size = size;
      kind = eqb-true (page_kind bytes) 1 all.0;
      level = eqb-true (page_level bytes) 0 all.1.0;
      below_heap = leb-true (64 + 4 * entry_count bytes) (heap_start bytes) heap.0;
      heap = leb-true (heap_start bytes) 4096 heap.1;
      in_heap = records.0;
      apart = records.1;
    }

pub rows_of_leaf : (bytes : List ℕ) → length bytes ≡ 4096 → IsLeaf bytes → IsRows (leaf_rows bytes)
unfolding first_failing
rows_of_leaf bytes size well =
    let all : AllHold (leaf_checks bytes any_leaf) = all_hold (leaf_checks bytes any_leaf) well in
    record {
      used = omega (arith, leaf_used_is bytes (sound_of bytes size well), leb-true (bytes_used (slots bytes)) 4032 all.1.1.1.1.0);
      order = ascends-true 0 last_key (keys (leaf_rows bytes)) all.1.1.1.1.1.0;
      printable = all.1.1.1.1.1.1.0;
    }

-- a leaf of a tree is a leaf, and the other way where it keeps the bounds and is full enough
pub leaf_from : (bytes : List ℕ) (expect : Expect) → length bytes ≡ 4096 → expect.level ≡ 0 → expect.high ≤ last_key → IsWellFormed bytes expect → IsLeaf bytes
unfolding first_failing
leaf_from bytes expect size zero_level high well =
    let all : AllHold (leaf_checks bytes expect) = all_hold (leaf_checks bytes expect) (rw (eq-eqb expect.level 0 zero_level) at well) in
    none_fails (leaf_checks bytes any_leaf) (
      all.0,
      (
        eq-eqb (page_level bytes) 0 (eqb-true (page_level bytes) expect.level all.1.0 ∙ zero_level),
        (
          all.1.1.0,
          (
            all.1.1.1.0,
            (
              all.1.1.1.1.0,
              (
                ascends-is 0 last_key (keys (leaf_rows bytes)) (Ascends-wider expect.low 0 expect.high last_key (keys (leaf_rows bytes)) (omega arith) high (ascends-true expect.low expect.high (keys (leaf_rows bytes)) all.1.1.1.1.1.0)),
                (
                  all.1.1.1.1.1.1.0,
                  (
                    refl,
                    tt,
                  ),
                ),
              ),
            ),
          ),
        ),
      ),
    )
  where
    Ascends-wider : (low lower high higher : ℕ) (ks : List ℕ) → lower ≤ low → high ≤ higher → Ascends low high ks → Ascends lower higher ks
    Ascends-wider low lower high higher [] h k up = tt
    Ascends-wider low lower high higher (x ∷ xs) h k up = (omega (arith, h, up.0), omega (arith, k, up.1), Ascends-wider (x + 1) (x + 1) high higher xs (omega arith) k up.2)

pub leaf_back : (bytes : List ℕ) (expect : Expect) → length bytes ≡ 4096 → expect.level ≡ 0 → IsLeaf bytes → Ascends expect.low expect.high (keys (leaf_rows bytes)) → (expect.root || nat_le 1344 (row_bytes (leaf_rows bytes))) ≡ true → IsWellFormed bytes expect
unfolding first_failing
leaf_back bytes expect size zero_level leaf order full =
    let all : AllHold (leaf_checks bytes any_leaf) = all_hold (leaf_checks bytes any_leaf) leaf in
    let used = leaf_used_is bytes (sound_of bytes size leaf) in
    rw (eq-eqb expect.level 0 zero_level)
    (none_fails (leaf_checks bytes expect) (
      all.0,
      (
        eq-eqb (page_level bytes) expect.level (eqb-true (page_level bytes) 0 all.1.0 ∙ sym zero_level),
        (
          all.1.1.0,
          (
            all.1.1.1.0,
            (
              all.1.1.1.1.0,
              (
                ascends-is expect.low expect.high (keys (leaf_rows bytes)) order,
                (
                  all.1.1.1.1.1.1.0,
                  (
                    ap (λ (n : ℕ). expect.root || nat_le 1344 n) used ∙ full,
                    tt,
                  ),
                ),
              ),
            ),
          ),
        ),
      ),
    ))
