-- Children by the place of a key, and inner pages within bounds.
use Rattle.std.proofs.Common.{◌≡◌, ℕ, zero, suc, Some, ◌+◌, ◌-◌, ◌<◌, ◌≤◌, inl, inr, Bool, true, false, List, [], ◌∷◌, ◌++◌, length, take, drop, get_or, refl, sym, ap, subst, ◌∙◌, arith, nat_lt, nat_le, take-append-drop, append_assoc, ◌||◌, length-append, length-drop}
use Rattle.std.specs.List.{insert, remove, list_all}
use Rattle.std.proofs.lemmas.List.{length-take-le}
use Rattle.std.proofs.lemmas.Bool.{lt-ltb, le-ltb, le-leb, ltb-true, eqb-true, eq-eqb, ne_eqb, cases_lt, cases_eq, and_parts, and_from, leb-true}
use Rattle.page_format.specs.declared.root.Expect.{Expect}
use Rattle.rows.specs.Rows.{Ascends, Each}
use Rattle.page_edit.specs.Cut.{children_left}
use Rattle.page_format.specs.Node.{Child, children, first_keys, begins_at, is_page_below, page_level, IsWellFormed}
use Rattle.page_format.specs.Inner.{IsBranch}
use Rattle.page_format.proofs.PageFacts.{inner_facts}
use Rattle.page_format.proofs.BranchLemmas.{branch_to}
use Rattle.page_format.proofs.InnerLemmas.{length_children}
use Rattle.node_edit.specs.Edit.{part, Divides, child_put, place_of, has_key, AreChildren, both, joined, IsCutIn, Holds}
use Rattle.node_edit.specs.declared.pair.Pair.{Pair}
use Rattle.node_edit.proofs.KeyPlaceLaws.{child_puts, put_new}
use Rattle.page_format.specs.Spans.{reach}
use Rattle.page_alloc.specs.Moves.{below}

-- a child put behind another one, up to where that one reached
pub child_put-behind : (key page : ℕ) (xs zs : List Child) → Each (λ (c : Child). c.0 < key) xs → child_put key page (xs ++ zs) ≡ xs ++ child_put key page zs
child_put-behind key page [] zs low = refl
child_put-behind key page (x ∷ xs) zs low = rw (lt-ltb x.0 key low.0) (ap (λ r. x ∷ r) (child_put-behind key page xs zs low.1))

pub child_put-next : (key page high : ℕ) (s : Child) (ys : List Child) → s.0 < key → key ≤ reach ys high → child_put key page (s ∷ ys) ≡ s ∷ (key, page) ∷ ys
child_put-next key page high s [] lt within = rw (lt-ltb s.0 key lt) refl
child_put-next key page high s (y ∷ ys) lt within =
    rw (lt-ltb s.0 key lt, le-ltb y.0 key (omega (arith, within)), ne_eqb y.0 key (λ e. omega (arith, within, lt, e))) refl

pub later_child : (low high : ℕ) (s : Child) (xs ys : List Child) → Ascends low high (first_keys (xs ++ (s ∷ ys))) → low ≤ s.0
later_child low high s [] ys up = up.0
later_child low high s (x ∷ xs) ys up = let ih = later_child (x.0 + 1) high s xs ys up.2 in omega (arith, ih, up.0)

pub keys_below : (low high key : ℕ) (s : Child) (xs ys : List Child) → Ascends low high (first_keys (xs ++ (s ∷ ys))) → s.0 ≤ key → Each (λ (c : Child). c.0 < key) xs
keys_below low high key s [] ys up above = tt
keys_below low high key s (x ∷ xs) ys up above = let next = later_child (x.0 + 1) high s xs ys up.2 in (omega (arith, next, above), keys_below (x.0 + 1) high key s xs ys up.2 above)

pub child_order : (low high key page : ℕ) (cs : List Child) → low ≤ key → key ≤ high → Ascends low high (first_keys cs) → Ascends low high (first_keys (child_put key page cs))
child_order low high key page [] from to up = (from, to, tt)
child_order low high key page (c ∷ cs) from to up =
    elim (cases_lt c.0 key) [
      | inl lt ↦ rw (lt-ltb c.0 key lt) (up.0, up.1, child_order (c.0 + 1) high key page cs (omega (arith, lt)) to up.2)
      | inr ge ↦
          elim (cases_eq c.0 key) [
            | inl e ↦ rw (le-ltb c.0 key ge, eq-eqb c.0 key e) (from, to, subst (λ (k : ℕ). Ascends (k + 1) high (first_keys cs)) e up.2)
            | inr ne ↦ rw (le-ltb c.0 key ge, ne_eqb c.0 key ne) (from, to, (omega (arith, ge, ne), up.1, up.2))
          ]
    ]

pub child_begins : (low key page : ℕ) (cs : List Child) → low < key → 1 ≤ length cs → begins_at low cs ≡ true → begins_at low (child_put key page cs) ≡ true
child_begins low key page [] lt some begins = absurd (omega (arith, some))
child_begins low key page (c ∷ cs) lt some begins = let e = eqb-true c.0 low begins in rw (lt-ltb c.0 key (omega (arith, e, lt))) begins

pub child_below_put : (pages key page : ℕ) (cs : List Child) → 1 ≤ page → page < pages → list_all (is_page_below pages) cs ≡ true → list_all (is_page_below pages) (child_put key page cs) ≡ true
child_below_put pages key page [] some below all = and_from (is_page_below pages (key, page)) true (is_below pages key page some below) refl
  where
    is_below : (pages key page : ℕ) → 1 ≤ page → page < pages → is_page_below pages (key, page) ≡ true
    is_below pages key page some below = rw (lt-ltb 0 page some, lt-ltb page pages below) refl
child_below_put pages key page (c ∷ cs) some below all =
    let parts = and_parts (is_page_below pages c) (list_all (is_page_below pages) cs) all in
    let new : is_page_below pages (key, page) ≡ true = rw (lt-ltb 0 page some, lt-ltb page pages below) refl in
    elim (cases_lt c.0 key) [
      | inl lt ↦ rw (lt-ltb c.0 key lt) (and_from (is_page_below pages c) (list_all (is_page_below pages) (child_put key page cs)) parts.0 (child_below_put pages key page cs some below parts.1))
      | inr ge ↦
          elim (cases_eq c.0 key) [
            | inl e ↦ rw (le-ltb c.0 key ge, eq-eqb c.0 key e) (and_from (is_page_below pages (key, page)) (list_all (is_page_below pages) cs) new parts.1)
            | inr ne ↦ rw (le-ltb c.0 key ge, ne_eqb c.0 key ne) (and_from (is_page_below pages (key, page)) (list_all (is_page_below pages) (c ∷ cs)) new all)
          ]
    ]

pub children_of : (bytes : List ℕ) (expect : Expect) → 1 ≤ expect.level → IsWellFormed bytes expect → AreChildren expect (children bytes)
children_of bytes expect above well =
    let facts = inner_facts bytes expect (λ e. omega (arith, e, above)) well in
    let count = length_children bytes in
    record {
      begins = facts.begins;
      order = facts.order;
      below = facts.below;
      full = full_of expect.root (length (children bytes)) (λ below. omega (arith, facts.full below, count));
      some = omega (arith, facts.some, count);
    }
  where
    full_of : (root : Bool) (n : ℕ) → (root ≡ false → 80 ≤ n) → (root || nat_le 80 n) ≡ true
    full_of true n f = refl
    full_of false n f = le-leb 80 n (f refl)

pub inner_within : (bytes : List ℕ) (expect : Expect) (cs : List Child) → expect.level ≡ page_level bytes → IsBranch bytes → children bytes ≡ cs → 2 ≤ length cs → begins_at expect.low cs ≡ true
    → Ascends expect.low expect.high (first_keys cs) → list_all (is_page_below expect.pages) cs ≡ true → (expect.root || nat_le 80 (length cs)) ≡ true → IsWellFormed bytes expect
inner_within bytes expect cs level branch are some begins order below full =
    branch_to bytes expect level branch (omega (arith, some, ap length are)) (ap (begins_at expect.low) are ∙ begins) (subst (λ (all : List Child). Ascends expect.low expect.high (first_keys all)) (sym are) order)
    (ap (list_all (is_page_below expect.pages)) are ∙ below) (ap (λ (all : List Child). expect.root || nat_le 80 (length all)) are ∙ full)

-- two parts of children that ascend
pub record PartedChildren (low high key : ℕ) (left right : List Child) : Type 0 where
  pub above : low < key
  pub within : key ≤ high
  pub left_order : Ascends low (key - 1) (first_keys left)
  pub right_order : Ascends key high (first_keys right)
  pub begins : begins_at key right ≡ true

pub parted_children : (low high n : ℕ) (all : List Child) (d : Child) → Ascends low high (first_keys all) → 0 < length (take n all) → 0 < length (drop n all) → PartedChildren low high (get_or (drop n all) 0 d).0 (take n all) (drop n all)
parted_children low high zero all d up some more = absurd (omega (arith, some))
parted_children low high (suc n) [] d up some more = absurd (omega (arith, some))
parted_children low high (suc zero) (r ∷ []) d up some more = absurd (omega (arith, more))
parted_children low high (suc zero) (r ∷ s ∷ rest) d up some more = record {
  above = omega (arith, up.0, up.2.0);
  within = up.2.1;
  left_order = (up.0, omega (arith, up.2.0), tt);
  right_order = (omega arith, up.2.1, up.2.2);
  begins = eq-eqb s.0 s.0 refl;
}
parted_children low high (suc (suc n)) (r ∷ []) d up some more = absurd (omega (arith, more))
parted_children low high (suc (suc n)) (r ∷ s ∷ rest) d up some more =
    let p = parted_children (r.0 + 1) high (suc n) (s ∷ rest) d up.2 (omega arith) more in
    record {
      above = omega (arith, up.0, p.above);
      within = p.within;
      left_order = (up.0, omega (arith, p.above), p.left_order);
      right_order = p.right_order;
      begins = p.begins;
    }

all_take : (p : Child → Bool) (n : ℕ) (cs : List Child) → list_all p cs ≡ true → list_all p (take n cs) ≡ true
all_take p zero cs all = refl
all_take p (suc n) [] all = refl
all_take p (suc n) (c ∷ cs) all = let parts = and_parts (p c) (list_all p cs) all in and_from (p c) (list_all p (take n cs)) parts.0 (all_take p n cs parts.1)

all_drop : (p : Child → Bool) (n : ℕ) (cs : List Child) → list_all p cs ≡ true → list_all p (drop n cs) ≡ true
all_drop p zero cs all = all
all_drop p (suc n) [] all = refl
all_drop p (suc n) (c ∷ cs) all = all_drop p n cs (and_parts (p c) (list_all p cs) all).1

begins_take : (low n : ℕ) (cs : List Child) → begins_at low cs ≡ true → begins_at low (take n cs) ≡ true
begins_take low zero cs begins = refl
begins_take low (suc n) [] begins = refl
begins_take low (suc n) (c ∷ cs) begins = begins

-- children divided at a number of them, with at least 80 in each part
pub cut_children_divide : (e : Expect) (left right : List ℕ) (n : ℕ) (all : List Child) (key : ℕ) (d : Child) → e.level ≡ page_level left → e.level ≡ page_level right → IsBranch left → IsBranch right
    → children left ≡ take n all → children right ≡ drop n all → n ≤ length all → 80 ≤ n → n + 80 ≤ length all → begins_at e.low all ≡ true → Ascends e.low e.high (first_keys all) → list_all (is_page_below e.pages) all ≡ true
    → key ≡ (get_or (children right) 0 d).0 → Divides children e left right all key
cut_children_divide e left right n all key d left_level right_level left_branch right_branch left_is right_is within some more begins order below is =
    let left_size : length (take n all) ≡ n = length-take-le n all within in
    let right_size : length (drop n all) ≡ length all - n = length-drop n all in
    let p = parted_children e.low e.high n all d order (omega (arith, left_size, some)) (omega (arith, right_size, more)) in
    let same : (get_or (drop n all) 0 d).0 ≡ key = ap (λ (cs : List Child). (get_or cs 0 d).0) (sym right_is) ∙ sym is in
    let q = subst (λ (k : ℕ). PartedChildren e.low e.high k (take n all) (drop n all)) same p in
    record {
      above = q.above;
      within = q.within;
      left_well = inner_within left (part e e.low (key - 1)) (take n all) left_level left_branch left_is (omega (arith, left_size, some)) (begins_take e.low n all begins) q.left_order (all_take (is_page_below e.pages) n all below)
          (le-leb 80 (length (take n all)) (omega (arith, left_size, some)));
      right_well = inner_within right (part e key e.high) (drop n all) right_level right_branch right_is (omega (arith, right_size, more)) q.begins q.right_order (all_drop (is_page_below e.pages) n all below)
          (le-leb 80 (length (drop n all)) (omega (arith, right_size, more)));
      are = ap (λ (cs : List Child). cs ++ children right) left_is ∙ ap (λ (cs : List Child). take n all ++ cs) right_is ∙ take-append-drop n all;
    }

more_children : (key page : ℕ) (cs : List Child) → length cs ≤ length (child_put key page cs)
more_children key page [] = omega arith
more_children key page (c ∷ cs) =
    let ih = more_children key page cs in
    elim (cases_lt c.0 key) [
      | inl lt ↦ rw (lt-ltb c.0 key lt) (omega (arith, ih))
      | inr ge ↦
          elim (cases_eq c.0 key) [
            | inl e ↦ rw (le-ltb c.0 key ge, eq-eqb c.0 key e) (omega arith)
            | inr ne ↦ rw (le-ltb c.0 key ge, ne_eqb c.0 key ne) (omega arith)
          ]
    ]

full_more : (root : Bool) (m n : ℕ) → m ≤ n → (root || nat_le 80 m) ≡ true → (root || nat_le 80 n) ≡ true
full_more true m n le full = refl
full_more false m n le full = let few = leb-true 80 m full in le-leb 80 n (omega (arith, few, le))

-- one child more
pub put_children : (e : Expect) (cs now : List Child) (key page : ℕ) → AreChildren e cs → e.low < key → key ≤ e.high → 1 ≤ page → page < e.pages → child_put key page cs ≡ now → AreChildren e now
put_children e cs now key page are above within some below is =
    subst (AreChildren e) is (record {
      begins = child_begins e.low key page cs above (omega (arith, are.some)) are.begins;
      order = child_order e.low e.high key page cs (omega (arith, above)) within are.order;
      below = child_below_put e.pages key page cs some below are.below;
      full = full_more e.root (length cs) (length (child_put key page cs)) (more_children key page cs) are.full;
      some = omega (arith, are.some, more_children key page cs);
    })

pub half_of_full : (n : ℕ) → n ≡ 241 → children_left n ≡ 121
unfolding children_left
half_of_full n e = omega (arith, e)

-- where a key stands in children that ascend
pub record StandsAt (key : ℕ) (cs xs ys : List Child) : Type 0 where
  pub place : place_of key cs ≡ length xs
  pub there : has_key key cs ≡ true
  pub out : remove cs (length xs) ≡ xs ++ ys

pub stands_at : (low high : ℕ) (xs ys : List Child) (s : Child) → Ascends low high (first_keys (xs ++ (s ∷ ys))) → StandsAt s.0 (xs ++ (s ∷ ys)) xs ys
stands_at low high [] ys s up = record {
  place = rw (le-ltb s.0 s.0 (omega arith)) refl;
  there = rw (le-ltb s.0 s.0 (omega arith)) (eq-eqb s.0 s.0 refl);
  out = refl;
}
stands_at low high (x ∷ xs) ys s up =
    let ih = stands_at (x.0 + 1) high xs ys s up.2 in
    let next = later_child (x.0 + 1) high s xs ys up.2 in
    record {
      place = rw (lt-ltb x.0 s.0 (omega (arith, next))) (ap suc ih.place);
      there = rw (lt-ltb x.0 s.0 (omega (arith, next))) ih.there;
      out = ap (λ r. x ∷ r) ih.out;
    }

-- a part of children of which one was taken out
out_order : (low high : ℕ) (xs ys : List Child) (s : Child) → Ascends low high (first_keys (xs ++ (s ∷ ys))) → Ascends low high (first_keys (xs ++ ys))
out_order low high [] [] s up = tt
out_order low high [] (y ∷ ys) s up = (omega (arith, up.0, up.2.0), up.2.1, up.2.2)
out_order low high (x ∷ xs) ys s up = (up.0, up.1, out_order (x.0 + 1) high xs ys s up.2)

out_below : (p : Child → Bool) (xs ys : List Child) (s : Child) → list_all p (xs ++ (s ∷ ys)) ≡ true → list_all p (xs ++ ys) ≡ true
out_below p [] ys s all = (and_parts (p s) (list_all p ys) all).1
out_below p (x ∷ xs) ys s all = let parts = and_parts (p x) (list_all p (xs ++ (s ∷ ys))) all in and_from (p x) (list_all p (xs ++ ys)) parts.0 (out_below p xs ys s parts.1)

own_below : (p : Child → Bool) (xs ys : List Child) (s : Child) → list_all p (xs ++ (s ∷ ys)) ≡ true → p s ≡ true
own_below p [] ys s all = (and_parts (p s) (list_all p ys) all).0
own_below p (x ∷ xs) ys s all = own_below p xs ys s (and_parts (p x) (list_all p (xs ++ (s ∷ ys))) all).1

out_begins : (low : ℕ) (xs ys : List Child) (a s : Child) → begins_at low (xs ++ (a ∷ s ∷ ys)) ≡ true → begins_at low (xs ++ (a ∷ ys)) ≡ true
out_begins low [] ys a s begins = begins
out_begins low (x ∷ xs) ys a s begins = begins

-- two neighbours, the second of them taken out
pub record TakenOut (e : Expect) (cs : List Child) (pair : Pair) (xs ys : List Child) : Type 0 where
  pub place : place_of pair.middle cs ≡ suc (length xs)
  pub there : has_key pair.middle cs ≡ true
  pub out : remove cs (suc (length xs)) ≡ xs ++ ((pair.low, pair.left) ∷ ys)
  pub begins : begins_at e.low (xs ++ ((pair.low, pair.left) ∷ ys)) ≡ true
  pub order : Ascends e.low e.high (first_keys (xs ++ ((pair.low, pair.left) ∷ ys)))
  pub below : list_all (is_page_below e.pages) (xs ++ ((pair.low, pair.left) ∷ ys)) ≡ true
  pub right : is_page_below e.pages (pair.middle, pair.right) ≡ true
  pub size : length cs ≡ suc (length (xs ++ ((pair.low, pair.left) ∷ ys)))

pub taken_out : (e : Expect) (cs : List Child) (pair : Pair) (xs ys : List Child) → AreChildren e cs → cs ≡ xs ++ (both pair ++ ys) → TakenOut e cs pair xs ys
taken_out e cs pair xs ys are is =
    let a : Child = (pair.low, pair.left) in
    let s : Child = (pair.middle, pair.right) in
    let front : List Child = xs ++ (a ∷ []) in
    let whole : cs ≡ front ++ (s ∷ ys) = is ∙ sym (append_assoc xs (a ∷ []) (s ∷ ys)) in
    let up = subst (λ (all : List Child). Ascends e.low e.high (first_keys all)) whole are.order in
    let st = stands_at e.low e.high front ys s up in
    let size : length front ≡ suc (length xs) = length-append xs (a ∷ []) ∙ omega arith in
    let now : front ++ ys ≡ xs ++ (a ∷ ys) = append_assoc xs (a ∷ []) ys in
    let below = subst (λ (all : List Child). list_all (is_page_below e.pages) all ≡ true) whole are.below in
    record {
      place = ap (place_of pair.middle) whole ∙ st.place ∙ size;
      there = ap (has_key pair.middle) whole ∙ st.there;
      out = ap (λ (all : List Child). remove all (suc (length xs))) whole ∙ ap (remove (front ++ (s ∷ ys))) (sym size) ∙ st.out ∙ now;
      begins = out_begins e.low xs ys a s (subst (λ (all : List Child). begins_at e.low all ≡ true) is are.begins);
      order = subst (λ (all : List Child). Ascends e.low e.high (first_keys all)) now (out_order e.low e.high front ys s up);
      below = subst (λ (all : List Child). list_all (is_page_below e.pages) all ≡ true) now (out_below (is_page_below e.pages) front ys s below);
      right = own_below (is_page_below e.pages) front ys s below;
      size = ap length whole ∙ length-append front (s ∷ ys) ∙ omega (arith, length-append front ys, ap length now);
    }

reach_le : (high low : ℕ) (ys : List Child) → Ascends low high (first_keys ys) → reach ys high ≤ high
reach_le high low [] up = omega arith
reach_le high low (y ∷ ys) up = omega (arith, up.1)

behind : (low high : ℕ) (xs ys : List Child) (s : Child) → Ascends low high (first_keys (xs ++ (s ∷ ys))) → Ascends (s.0 + 1) high (first_keys ys)
behind low high [] ys s up = up.2
behind low high (x ∷ xs) ys s up = behind (x.0 + 1) high xs ys s up.2

pub no_child : (key high : ℕ) (xs ys : List Child) (s : Child) → Each (λ (c : Child). c.0 < key) xs → s.0 < key → key ≤ reach ys high → has_key key (xs ++ (s ∷ ys)) ≡ false
no_child key high [] [] s low lt within = rw (lt-ltb s.0 key lt) refl
no_child key high [] (y ∷ ys) s low lt within = rw (lt-ltb s.0 key lt, le-ltb y.0 key (omega (arith, within))) (ne_eqb y.0 key (λ e. omega (arith, within, lt, e)))
no_child key high (x ∷ xs) ys s low lt within = rw (lt-ltb x.0 key low.0) (no_child key high xs ys s low.1 lt within)

-- the second of two neighbours put back at another key
pub record PutBack (e : Expect) (key : ℕ) (pair : Pair) (xs ys : List Child) : Type 0 where
  pub is : child_put key pair.right (xs ++ ((pair.low, pair.left) ∷ ys)) ≡ xs ++ (joined pair (Some key) ++ ys)
  pub none : has_key key (xs ++ ((pair.low, pair.left) ∷ ys)) ≡ false
  pub begins : begins_at e.low (xs ++ (joined pair (Some key) ++ ys)) ≡ true
  pub order : Ascends e.low e.high (first_keys (xs ++ (joined pair (Some key) ++ ys)))
  pub below : list_all (is_page_below e.pages) (xs ++ (joined pair (Some key) ++ ys)) ≡ true
  pub size : length (xs ++ (joined pair (Some key) ++ ys)) ≡ suc (length (xs ++ ((pair.low, pair.left) ∷ ys)))

one_more_child : (xs ys : List Child) (a b : Child) → length (xs ++ (a ∷ b ∷ ys)) ≡ suc (length (xs ++ (a ∷ ys)))
one_more_child xs ys a b = length-append xs (a ∷ b ∷ ys) ∙ omega (arith, length-append xs (a ∷ ys))

pub put_back : (e : Expect) (key : ℕ) (cs : List Child) (pair : Pair) (xs ys : List Child) → TakenOut e cs pair xs ys → IsCutIn pair (Some key) → reach ys e.high ≡ pair.high → PutBack e key pair xs ys
put_back e key cs pair xs ys t cut reach_is =
    let a : Child = (pair.low, pair.left) in
    let least = later_child e.low e.high a xs ys t.order in
    let most = reach_le e.high (pair.low + 1) ys (behind e.low e.high xs ys a t.order) in
    let low = keys_below e.low e.high key a xs ys t.order (omega (arith, cut.0)) in
    let inside : key ≤ reach ys e.high = omega (arith, cut.1, reach_is) in
    let is = child_put-behind key pair.right xs (a ∷ ys) low ∙ ap (λ r. xs ++ r) (child_put-next key pair.right e.high a ys cut.0 inside) in
    let parts = and_parts (nat_lt 0 pair.right) (nat_lt pair.right e.pages) t.right in
    record {
      is = is;
      none = no_child key e.high xs ys a low cut.0 inside;
      begins = ap (begins_at e.low) (sym is) ∙ child_begins e.low key pair.right (xs ++ (a ∷ ys)) (omega (arith, least, cut.0)) (omega (arith, length-append xs (a ∷ ys))) t.begins;
      order = subst (λ (all : List Child). Ascends e.low e.high (first_keys all)) is (child_order e.low e.high key pair.right (xs ++ (a ∷ ys)) (omega (arith, least, cut.0)) (omega (arith, inside, most)) t.order);
      below = ap (list_all (is_page_below e.pages)) (sym is) ∙ child_below_put e.pages key pair.right (xs ++ (a ∷ ys)) (ltb-true 0 pair.right parts.0) (ltb-true pair.right e.pages parts.1) t.below;
      size = one_more_child xs ys a (key, pair.right);
    }

pub mended_divided : (e : Expect) (old new mid : List ℕ) (key at place : ℕ) (pair : Pair) → IsCutIn pair (Some key) → AreChildren e (children old) → at ≡ place_of pair.middle (children old) → children mid ≡ remove (children old) at
    → place ≡ place_of key (children mid) → has_key key (children mid) ≡ false → children new ≡ insert (children mid) place (key, pair.right) → page_level new ≡ e.level → IsBranch new
    → (xs ys : List Child) → children old ≡ xs ++ (both pair ++ ys) → reach ys e.high ≡ pair.high → Holds children e new (xs ++ (joined pair (Some key) ++ ys))
mended_divided e old new mid key at place pair cut are at_is mid_is place_is none new_is level branch xs ys was reach_is =
    let t = taken_out e (children old) pair xs ys are was in
    let p = put_back e key (children old) pair xs ys t cut reach_is in
    let rest : children mid ≡ xs ++ ((pair.low, pair.left) ∷ ys) = mid_is ∙ ap (remove (children old)) (at_is ∙ t.place) ∙ t.out in
    let kids : children new ≡ xs ++ (joined pair (Some key) ++ ys) =
    new_is ∙ sym (put_new (child_puts key pair.right) (children mid) place none place_is) ∙ ap (child_put key pair.right) rest ∙ p.is in
    record {
      well = inner_within new e (xs ++ (joined pair (Some key) ++ ys)) (sym level) branch kids (omega (arith, are.some, t.size, p.size)) p.begins p.order p.below (full_more e.root (length (children old)) (length (xs ++ (joined pair (Some key) ++ ys))) (omega (arith, t.size, p.size)) are.full);
      are = kids;
    }
