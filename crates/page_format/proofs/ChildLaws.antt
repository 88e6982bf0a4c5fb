-- The children of an inner page by index, and a search among them.
use Rattle.std.proofs.Common.{◌≡◌, ◌≢◌, ℕ, zero, suc, ◌+◌, ◌-◌, ◌*◌, ◌<◌, ◌≤◌, inl, inr, Bool, true, false, List, [], ◌∷◌, length, get_or, Some, nat_eq, nat_lt, nat_le, ◌&&◌, refl, sym, ap, ◌∙◌, arith, slice_get}
use Rattle.std.specs.List.{list_all}
use Rattle.std.proofs.lemmas.Bool.{eq-eqb, cases_eq, cases_lt, eqb-true, lt-ltb, ltb-true, le-leb, leb-true, ne_eqb, and_parts}
use Rattle.std.proofs.lemmas.List.{length-map, get_or-map}
use Rattle.line_pages.specs.Bytes.{u64_at}
use Rattle.page_format.specs.declared.root.Expect.{Expect}
use Rattle.rows.specs.Rows.{last_key}
use Rattle.page_format.specs.Node.{Child, children, entry_count, first_keys, begins_at, is_page_below, IsWellFormed}
use Rattle.page_format.specs.Spans.{spans, Reaches}
use Rattle.page_format.specs.Search.{is_root_span}
use Rattle.page_format.proofs.InnerLemmas.{length_children, child_at}
use Rattle.page_format.proofs.KeyLaws.{Ascends-first, Ascends-last, Ascends-at}
use Rattle.page_format.proofs.PageFacts.{inner_facts}

span_at : (cs : List Child) (at high most : ℕ) (d : Child) → at < length cs → Reaches cs (at + 1) high most
    → slice_get (spans cs high) at ≡ Some (record { page = (get_or cs at d).1; low = (get_or cs at d).0; high = most })
span_at [] at high most d h is = absurd (omega arith)
span_at (c ∷ []) zero high most d h is = ap (λ (n : ℕ). Some (record { page = c.1; low = c.0; high = n })) (sym (is.last_is (omega arith)))
span_at (c ∷ next ∷ rest) zero high most d h is = ap (λ (n : ℕ). Some (record { page = c.1; low = c.0; high = n })) (sym (is.next_is (omega arith) d))
span_at (c ∷ rest) (suc at) high most d h is = span_at rest at high most d (omega arith) (record { next_is = λ low e. is.next_is (omega arith) e ∙ ap (λ (k : ℕ). (get_or (c ∷ rest) k e).0 - 1) (step at); last_is = λ past. is.last_is (omega arith) })
  where
    step : (at : ℕ) → suc at + 1 ≡ suc (at + 1)
    step at = omega arith

-- the span of a child by its parts
pub span_is : (cs : List Child) (at high page least most : ℕ) (d : Child) → at < length cs → Reaches cs (at + 1) high most → page ≡ (get_or cs at d).1 → least ≡ (get_or cs at d).0
    → slice_get (spans cs high) at ≡ Some (record { page = page; low = least; high = most })
span_is cs at high page least most d h is p l =
    span_at cs at high most d h is ∙ ap (λ (n : ℕ). Some (record { page = n; low = (get_or cs at d).0; high = most })) (sym p) ∙ ap (λ (n : ℕ). Some (record { page = page; low = n; high = most })) (sym l)

-- the first keys of a well-formed page, by index
pub first_key_at : (cs : List Child) (i : ℕ) (d : Child) → i < length cs → get_or (first_keys cs) i 0 ≡ (get_or cs i d).0
first_key_at cs i d h = get_or-map (λ (child : Child). child.0) cs i d 0 h

pub record Inside (expect : Expect) (key : ℕ) : Type 0 where
  pub low : expect.low < key
  pub high : key ≤ expect.high

-- each key but the first is above the low bound, and none above the high one
pub key_inside : (bytes : List ℕ) (expect : Expect) (i : ℕ) (d : Child) → expect.level ≢ 0 → IsWellFormed bytes expect → 0 < i → i < length (children bytes) → Inside expect (get_or (children bytes) i d).0
key_inside bytes expect i d above well later h =
    let cs = children bytes in
    let facts = inner_facts bytes expect above well in
    let size = length-map cs (λ (child : Child). child.0) in
    let here = first_key_at cs i d h in
    let first = Ascends-first expect.low expect.high (first_keys cs) 0 facts.order (omega (arith, size)) in
    let less = Ascends-at expect.low expect.high (first_keys cs) 0 i facts.order later (omega (arith, size)) in
    record { low = omega (arith, here, first, less); high = omega (arith, here, Ascends-last expect.low expect.high (first_keys cs) i facts.order (omega (arith, size))) }

-- the first key is the low bound
begins_is : (low : ℕ) (cs : List Child) (d : Child) → begins_at low cs ≡ true → 0 < length cs → (get_or cs 0 d).0 ≡ low
begins_is low [] d e h = absurd (omega arith)
begins_is low (c ∷ cs) d e h = eqb-true c.0 low e

pub first_is_low : (bytes : List ℕ) (expect : Expect) (d : Child) → expect.level ≢ 0 → IsWellFormed bytes expect → (get_or (children bytes) 0 d).0 ≡ expect.low
first_is_low bytes expect d above well =
    let facts = inner_facts bytes expect above well in
    begins_is expect.low (children bytes) d facts.begins (omega (arith, facts.some, length_children bytes))

each_below : (pages : ℕ) (cs : List Child) (i : ℕ) (d : Child) → list_all (is_page_below pages) cs ≡ true → i < length cs → is_page_below pages (get_or cs i d) ≡ true
each_below pages [] i d all h = absurd (omega arith)
each_below pages (c ∷ cs) zero d all h = (and_parts (is_page_below pages c) (list_all (is_page_below pages) cs) all).0
each_below pages (c ∷ cs) (suc i) d all h = each_below pages cs i d (and_parts (is_page_below pages c) (list_all (is_page_below pages) cs) all).1 (omega arith)

-- each child is a page of the store
pub child_below : (bytes : List ℕ) (expect : Expect) (i : ℕ) (d : Child) → expect.level ≢ 0 → IsWellFormed bytes expect → i < length (children bytes) → is_page_below expect.pages (get_or (children bytes) i d) ≡ true
child_below bytes expect i d above well h = each_below expect.pages (children bytes) i d (inner_facts bytes expect above well).below h

-- What is known in the midst of a search among so many children, whatever the page holds: `least` and `most` are the
-- bounds of the children from `low` up to `high`.
pub record Narrow (expect : Expect) (key count low high least most : ℕ) : Type 0 where
  pub ordered : low < high
  pub within : high ≤ count
  pub above : least ≤ key
  pub below : key ≤ most
  pub first : low ≡ 0 → least ≡ expect.low
  pub later : 0 < low → expect.low < least
  pub last : high ≡ count → most ≡ expect.high
  pub earlier : high < count → most < expect.high

pub narrow_whole : (expect : Expect) (key count : ℕ) → 2 ≤ count → expect.low ≤ key → key ≤ expect.high → Narrow expect key count 0 count expect.low expect.high
narrow_whole expect key count some above within = record {
  ordered = omega arith;
  within = omega arith;
  above = above;
  below = within;
  first = λ e. refl;
  later = λ some. absurd (omega arith);
  last = λ e. refl;
  earlier = λ less. absurd (omega arith);
}

pub narrow_right : (expect : Expect) (key count low high least most middle found : ℕ) → Narrow expect key count low high least most → low < middle → middle < high → expect.low < found → found ≤ key → Narrow expect key count middle high found most
narrow_right expect key count low high least most middle found is more less above within = record {
  ordered = less;
  within = is.within;
  above = within;
  below = is.below;
  first = λ e. absurd (omega arith);
  later = λ some. above;
  last = is.last;
  earlier = is.earlier;
}

pub narrow_left : (expect : Expect) (key count low high least most middle found : ℕ) → Narrow expect key count low high least most → low < middle → middle < high → found ≤ expect.high → key < found → Narrow expect key count low middle least (found - 1)
narrow_left expect key count low high least most middle found is more less within above = record {
  ordered = more;
  within = omega (arith, is.within);
  above = is.above;
  below = omega arith;
  first = is.first;
  later = is.later;
  last = λ e. absurd (omega (arith, is.within));
  earlier = λ low. omega arith;
}

-- what the bounds have where one child is left
pub record SafeBounds (expect : Expect) (key least most : ℕ) : Type 0 where
  pub low : expect.low ≤ least
  pub above : least ≤ key
  pub below : key ≤ most
  pub high : most ≤ expect.high
  pub no_root : is_root_span least most ≡ false

no_root_low : (least most : ℕ) → least ≢ 0 → is_root_span least most ≡ false
no_root_low least most ne = rw (ne_eqb least 0 ne) refl

no_root_high : (least most : ℕ) → most ≢ last_key → is_root_span least most ≡ false
no_root_high least most ne = rw (ne_eqb most last_key ne) (and_no (nat_eq least 0))
  where
    and_no : (b : Bool) → (b && false) ≡ false
    and_no true = refl
    and_no false = refl

pub narrow_one : (expect : Expect) (key count low high least most : ℕ) → Narrow expect key count low high least most → 2 ≤ count → expect.high ≤ last_key → high ≡ low + 1 → SafeBounds expect key least most
narrow_one expect key count low high least most is some range one =
    elim (cases_eq low 0) [
      | inl e ↦ record {
        low = omega (arith, is.first e);
        above = is.above;
        below = is.below;
        high = omega (arith, is.earlier (omega (arith, e, one, some)));
        no_root = no_root_high least most (λ f. omega (arith, f, is.earlier (omega (arith, e, one, some)), range));
      }
      | inr ne ↦ record {
        low = omega (arith, is.later (omega (arith, ne)));
        above = is.above;
        below = is.below;
        high = elim (cases_eq high count) [ inl e ↦ omega (arith, is.last e) | inr less ↦ omega (arith, is.earlier (omega (arith, less, is.within))) ];
        no_root = no_root_low least most (λ f. omega (arith, f, is.later (omega (arith, ne))));
      }
    ]

-- what `least` and `most` are in a well-formed page
pub record Bounds (cs : List Child) (high low_at high_at least most : ℕ) : Type 0 where
  pub least_is : (d : Child) → least ≡ (get_or cs low_at d).0
  pub most_is : Reaches cs high_at high most

pub bounds_whole : (bytes : List ℕ) (expect : Expect) (count : ℕ) → expect.level ≢ 0 → IsWellFormed bytes expect → count ≡ entry_count bytes → Bounds (children bytes) expect.high 0 count expect.low expect.high
bounds_whole bytes expect count above well is = record {
  least_is = λ d. sym (first_is_low bytes expect d above well);
  most_is = record { next_is = λ less. absurd (omega (arith, less, is, length_children bytes)); last_is = λ past. refl };
}

-- the key that a search reads is that of the child
pub probed_key : (bytes : List ℕ) (i key : ℕ) (d : Child) → i < entry_count bytes → key ≡ u64_at bytes (64 + 16 * i) → key ≡ (get_or (children bytes) i d).0
probed_key bytes i key d h is = is ∙ sym (ap (λ (child : Child). child.0) (child_at bytes i d h))

pub probed_page : (bytes : List ℕ) (i page : ℕ) (d : Child) → i < entry_count bytes → page ≡ u64_at bytes (72 + 16 * i) → page ≡ (get_or (children bytes) i d).1
probed_page bytes i page d h is = is ∙ sym (ap (λ (child : Child). child.1) (child_at bytes i d h))

-- the tests of a key and of a page that were read
pub inside_is : (expect : Expect) (key : ℕ) → Inside expect key → (nat_lt expect.low key && nat_le key expect.high) ≡ true
inside_is expect key is = rw (lt-ltb expect.low key is.low, le-leb key expect.high is.high) refl

pub inside_of : (expect : Expect) (key : ℕ) → (nat_lt expect.low key && nat_le key expect.high) ≡ true → Inside expect key
inside_of expect key e =
    let parts = and_parts (nat_lt expect.low key) (nat_le key expect.high) e in
    record { low = ltb-true expect.low key parts.0; high = leb-true key expect.high parts.1 }

-- one child alone, in a well-formed page
pub narrow_child : (bytes : List ℕ) (expect : Expect) (key count at low most : ℕ) (d : Child) → expect.level ≢ 0 → IsWellFormed bytes expect → count ≡ length (children bytes) → expect.low ≤ key → key ≤ expect.high
    → at < count → low ≡ (get_or (children bytes) at d).0 → (0 < at → low ≤ key) → (at + 1 < count → key < (get_or (children bytes) (at + 1) d).0) → Reaches (children bytes) (at + 1) expect.high most
    → Narrow expect key count at (at + 1) low most
narrow_child bytes expect key count at low most d above well size from to inside is before next reaches =
    let first = λ (e : at ≡ 0). is ∙ ap (λ (i : ℕ). (get_or (children bytes) i d).0) e ∙ first_is_low bytes expect d above well in
    record {
      ordered = omega arith;
      within = omega (arith, inside);
      above = elim (cases_eq at 0) [ inl e ↦ omega (arith, first e, from) | inr ne ↦ before (omega (arith, ne)) ];
      below = elim (cases_lt (at + 1) count) [
        | inl less ↦ omega (arith, next less, reaches.next_is (omega (arith, less, size)) d)
        | inr last ↦ omega (arith, to, reaches.last_is (omega (arith, last, size)))
      ];
      first = first;
      later = λ some. omega (arith, is, (key_inside bytes expect at d above well some (omega (arith, inside, size))).low);
      last = λ e. reaches.last_is (omega (arith, e, size));
      earlier = λ less. omega (arith, next less, reaches.next_is (omega (arith, less, size)) d, (key_inside bytes expect (at + 1) d above well (omega arith) (omega (arith, less, size))).high);
    }

pub page_is : (pages page : ℕ) → is_page_below pages (0, page) ≡ true → (1 ≤ page) × (page < pages)
page_is pages page e =
    let parts = and_parts (nat_lt 0 page) (nat_lt page pages) e in
    (ltb-true 0 page parts.0, ltb-true page pages parts.1)

-- a page begins at the key of its first child
pub begins_first : (key : ℕ) (cs : List Child) → ((d : Child) → key ≡ (get_or cs 0 d).0) → begins_at key cs ≡ true
begins_first key [] is = refl
begins_first key (c ∷ cs) is = eq-eqb c.0 key (sym (is c))
