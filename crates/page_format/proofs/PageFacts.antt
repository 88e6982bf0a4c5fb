-- What the checks of a page give, by name.
use Rattle.std.proofs.Common.{◌≡◌, ◌≢◌, ℕ, ◌+◌, ◌*◌, ◌≤◌, inl, inr, Bool, true, false, List, sym, ◌∙◌, arith, nat_le, ◌||◌, length}
use Rattle.std.specs.List.{list_all}
use Rattle.std.proofs.lemmas.Bool.{leb-true, eqb-true, eq-eqb, ne_eqb, and_parts, cases_eq}
use Rattle.page_format.specs.declared.root.Expect.{Expect}
use Rattle.rows.specs.Rows.{keys, Ascends, ascends}
use Rattle.page_format.specs.Node.{slots, leaf_rows, children, bytes_used, is_in_heap, all_apart, begins_at, first_keys, is_page_below, has_printable_value, leaf_checks, inner_checks, entry_count, heap_start, page_kind, page_level, first_failing, IsWellFormed}
use Rattle.page_format.specs.Sound.{IsSound}
use Rattle.page_format.specs.Inner.{IsInner}
use Rattle.page_format.proofs.FactLemmas.{AllHold, all_hold, ascends-true}

or_right : {x y : Bool} → x ≡ false → (x || y) ≡ true → y ≡ true
or_right {x} {y} fails either = rw fails at either

-- a test does not have two answers
pub clash : {b : Bool} → b ≡ true → b ≡ false → ⊥
clash e f = let wrong : true ≡ false = sym e ∙ f in absurd (cc)

-- what a well-formed leaf has
pub record LeafFacts (bytes : List ℕ) (expect : Expect) : Type 0 where
  pub kind : page_kind bytes ≡ 1
  pub level : page_level bytes ≡ expect.level
  pub below_heap : 64 + 4 * entry_count bytes ≤ heap_start bytes
  pub heap : heap_start bytes ≤ 4096
  pub in_heap : list_all (is_in_heap (heap_start bytes)) (slots bytes) ≡ true
  pub apart : all_apart (slots bytes) ≡ true
  pub used : bytes_used (slots bytes) ≤ 4032
  pub order : Ascends expect.low expect.high (keys (leaf_rows bytes))
  pub printable : list_all has_printable_value (leaf_rows bytes) ≡ true
  pub full : expect.root ≡ false → 1344 ≤ bytes_used (slots bytes)

pub leaf_facts : (bytes : List ℕ) (expect : Expect) → expect.level ≡ 0 → IsWellFormed bytes expect → LeafFacts bytes expect
unfolding first_failing
leaf_facts bytes expect zero_level well =
    let all : AllHold (leaf_checks bytes expect) = all_hold (leaf_checks bytes expect) (rw (eq-eqb expect.level 0 zero_level) at well) in
    let heap = and_parts (nat_le (64 + 4 * entry_count bytes) (heap_start bytes)) (nat_le (heap_start bytes) 4096) all.1.1.0 in
    let records = and_parts (list_all (is_in_heap (heap_start bytes)) (slots bytes)) (all_apart (slots bytes)) all.1.1.1.0 in
    record {
      kind = eqb-true (page_kind bytes) 1 all.0;
      level = eqb-true (page_level bytes) expect.level all.1.0;
      below_heap = leb-true (64 + 4 * entry_count bytes) (heap_start bytes) heap.0;
      heap = leb-true (heap_start bytes) 4096 heap.1;
      in_heap = records.0;
      apart = records.1;
      used = leb-true (bytes_used (slots bytes)) 4032 all.1.1.1.1.0;
      order = ascends-true expect.low expect.high (keys (leaf_rows bytes)) all.1.1.1.1.1.0;
      printable = all.1.1.1.1.1.1.0;
      full = λ below. leb-true 1344 (bytes_used (slots bytes)) (or_right below all.1.1.1.1.1.1.1.0);
    }

-- what a well-formed inner page has
pub record InnerFacts (bytes : List ℕ) (expect : Expect) : Type 0 where
  pub kind : page_kind bytes ≡ 2
  pub level : page_level bytes ≡ expect.level
  pub some : 2 ≤ entry_count bytes
  pub room : entry_count bytes ≤ 240
  pub begins : begins_at expect.low (children bytes) ≡ true
  pub order : Ascends expect.low expect.high (first_keys (children bytes))
  pub below : list_all (is_page_below expect.pages) (children bytes) ≡ true
  pub full : expect.root ≡ false → 80 ≤ entry_count bytes

pub inner_facts : (bytes : List ℕ) (expect : Expect) → expect.level ≢ 0 → IsWellFormed bytes expect → InnerFacts bytes expect
unfolding first_failing
inner_facts bytes expect above well =
    let all : AllHold (inner_checks bytes expect) = all_hold (inner_checks bytes expect) (rw (ne_eqb expect.level 0 above) at well) in
    let number = and_parts (nat_le 2 (entry_count bytes)) (nat_le (entry_count bytes) 240) all.1.1.0 in
    let order = and_parts (begins_at expect.low (children bytes)) (ascends expect.low expect.high (first_keys (children bytes))) all.1.1.1.0 in
    record {
      kind = eqb-true (page_kind bytes) 2 all.0;
      level = eqb-true (page_level bytes) expect.level all.1.0;
      some = leb-true 2 (entry_count bytes) number.0;
      room = leb-true (entry_count bytes) 240 number.1;
      begins = order.0;
      order = ascends-true expect.low expect.high (first_keys (children bytes)) order.1;
      below = all.1.1.1.1.0;
      full = λ below. leb-true 80 (entry_count bytes) (or_right below all.1.1.1.1.1.0);
    }

-- a well-formed page has the level that is expected
pub level_of : (bytes : List ℕ) (expect : Expect) → IsWellFormed bytes expect → page_level bytes ≡ expect.level
level_of bytes expect well =
    elim (cases_eq expect.level 0) [
      | inl e ↦ (leaf_facts bytes expect e well).level
      | inr ne ↦ (inner_facts bytes expect ne well).level
    ]

-- the structure of a well-formed page
pub sound_of_well : (bytes : List ℕ) (expect : Expect) → length bytes ≡ 4096 → expect.level ≡ 0 → IsWellFormed bytes expect → IsSound bytes
sound_of_well bytes expect size zero_level well =
    let facts = leaf_facts bytes expect zero_level well in
    record {
      size = size;
      kind = facts.kind;
      level = facts.level ∙ zero_level;
      below_heap = facts.below_heap;
      heap = facts.heap;
      in_heap = facts.in_heap;
      apart = facts.apart;
    }

pub inner_of_well : (bytes : List ℕ) (expect : Expect) → length bytes ≡ 4096 → expect.level ≢ 0 → IsWellFormed bytes expect → IsInner bytes
inner_of_well bytes expect size above well =
    let facts = inner_facts bytes expect above well in
    record { size = size; kind = facts.kind; count = omega (arith, facts.room) }
