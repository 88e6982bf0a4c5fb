-- Two neighbouring children.
use Rattle.std.proofs.Common.{◌≡◌, ℕ, zero, suc, ◌+◌, ◌-◌, ◌<◌, ◌≤◌, inl, inr, Bool, true, List, [], ◌∷◌, ◌++◌, length, get_or, refl, sym, ap, subst, ◌∙◌, arith, nat_lt, append_assoc, length-append}
use Rattle.std.specs.List.{list_all}
use Rattle.std.proofs.lemmas.Bool.{ltb-true, lt-ltb, and_parts, cases_lt}
use Rattle.std.proofs.lemmas.List.{length-map}
use Rattle.page_format.specs.declared.root.Expect.{Expect}
use Rattle.rows.specs.Rows.{Ascends, last_key}
use Rattle.page_format.specs.Spans.{reach}
use Rattle.page_format.specs.Node.{Child, first_keys, is_page_below, children, children_from, entry_count, page_kind, page_level}
use Rattle.page_format.specs.Inner.{IsBranch}
use Rattle.line_pages.specs.Bytes.{u64_at}
use Rattle.page_format.proofs.KeyLaws.{Ascends-at, Ascends-last}
use Rattle.page_format.proofs.ChildLaws.{first_key_at}
use Rattle.node_edit.specs.declared.pair.Pair.{Pair}
use Rattle.node_edit.specs.Edit.{AreChildren, IsPair, PairsUp, place_of, IsNewRoot}
use Rattle.node_edit.proofs.ChildEdits.{stands_at, inner_within}

all_get : (p : Child → Bool) (cs : List Child) (i : ℕ) (d : Child) → list_all p cs ≡ true → i < length cs → p (get_or cs i d) ≡ true
all_get p [] i d all within = absurd (omega (arith, within))
all_get p (c ∷ cs) zero d all within = (and_parts (p c) (list_all p cs) all).0
all_get p (c ∷ cs) (suc i) d all within = all_get p cs i d (and_parts (p c) (list_all p cs) all).1 (omega (arith, within))

pub record Below (pages page : ℕ) : Type 0 where
  pub some : 1 ≤ page
  pub below : page < pages

page_at : (e : Expect) (cs : List Child) (i : ℕ) (d : Child) → AreChildren e cs → i < length cs → Below e.pages (get_or cs i d).1
page_at e cs i d are within =
    let c = get_or cs i d in
    let parts = and_parts (nat_lt 0 c.1) (nat_lt c.1 e.pages) (all_get (is_page_below e.pages) cs i d are.below within) in
    record { some = ltb-true 0 c.1 parts.0; below = ltb-true c.1 e.pages parts.1 }

pub key_before : (e : Expect) (cs : List Child) (i j : ℕ) (d : Child) → AreChildren e cs → i < j → j < length cs → (get_or cs i d).0 < (get_or cs j d).0
key_before e cs i j d are lt within =
    let less = Ascends-at e.low e.high (first_keys cs) i j are.order lt (omega (arith, within, length-map cs (λ (c : Child). c.0))) in
    omega (arith, less, first_key_at cs i d (omega (arith, lt, within)), first_key_at cs j d within)

key_last : (e : Expect) (cs : List Child) (i : ℕ) (d : Child) → AreChildren e cs → i < length cs → (get_or cs i d).0 ≤ e.high
key_last e cs i d are within =
    let most = Ascends-last e.low e.high (first_keys cs) i are.order (omega (arith, within, length-map cs (λ (c : Child). c.0))) in
    omega (arith, most, first_key_at cs i d within)

pub is_pair : (e : Expect) (cs : List Child) (at : ℕ) (d : Child) (pair : Pair) → AreChildren e cs → at + 1 < length cs → pair.left ≡ (get_or cs at d).1 → pair.low ≡ (get_or cs at d).0 → pair.middle ≡ (get_or cs (at + 1) d).0
    → pair.right ≡ (get_or cs (at + 1) d).1 → (at + 2 < length cs → pair.high + 1 ≡ (get_or cs (at + 2) d).0) → (length cs ≤ at + 2 → pair.high ≡ e.high) → IsPair e.pages pair
is_pair e cs at d pair are within left low middle right next last =
    let a = page_at e cs at d are (omega (arith, within)) in
    let b = page_at e cs (at + 1) d are within in
    record {
      left_some = omega (arith, left, a.some);
      left = omega (arith, left, a.below);
      right_some = omega (arith, right, b.some);
      right = omega (arith, right, b.below);
      order = omega (arith, low, middle, key_before e cs at (at + 1) d are (omega arith) within);
      within = elim (cases_lt (at + 2) (length cs)) [
        | inl lt ↦ let h = next lt in omega (arith, h, middle, key_before e cs (at + 1) (at + 2) d are (omega arith) lt)
        | inr ge ↦ let h = last ge in omega (arith, h, middle, key_last e cs (at + 1) d are within)
      ];
    }

first_of_two : (xs ys : List Child) (a b d : Child) → get_or (xs ++ (a ∷ b ∷ ys)) (length xs) d ≡ a
first_of_two [] ys a b d = refl
first_of_two (x ∷ xs) ys a b d = first_of_two xs ys a b d

second_of_two : (xs ys : List Child) (a b d : Child) → get_or (xs ++ (a ∷ b ∷ ys)) (length xs + 1) d ≡ b
second_of_two [] ys a b d = refl
second_of_two (x ∷ xs) ys a b d = let e : length (x ∷ xs) + 1 ≡ suc (length xs + 1) = omega arith in ap (λ (i : ℕ). get_or (x ∷ (xs ++ (a ∷ b ∷ ys))) i d) e ∙ second_of_two xs ys a b d

third_of : (xs ys : List Child) (a b c d : Child) → get_or (xs ++ (a ∷ b ∷ c ∷ ys)) (length xs + 2) d ≡ c
third_of [] ys a b c d = refl
third_of (x ∷ xs) ys a b c d = let e : length (x ∷ xs) + 2 ≡ suc (length xs + 2) = omega arith in ap (λ (i : ℕ). get_or (x ∷ (xs ++ (a ∷ b ∷ c ∷ ys))) i d) e ∙ third_of xs ys a b c d

high_of : (xs ys : List Child) (a b d : Child) (most high : ℕ) → (length xs + 2 < length (xs ++ (a ∷ b ∷ ys)) → high + 1 ≡ (get_or (xs ++ (a ∷ b ∷ ys)) (length xs + 2) d).0) → (length (xs ++ (a ∷ b ∷ ys)) ≤ length xs + 2 → high ≡ most) → high ≡ reach ys most
high_of xs [] a b d most high next last = last (omega (arith, length-append xs (a ∷ b ∷ [])))
high_of xs (c ∷ ys) a b d most high next last =
    let h = next (omega (arith, length-append xs (a ∷ b ∷ c ∷ ys))) in omega (arith, h, ap (λ (x : Child). x.0) (third_of xs ys a b c d))

pub pair_is : (e : Expect) (cs : List Child) (at : ℕ) (d : Child) (pair : Pair) → pair.left ≡ (get_or cs at d).1 → pair.low ≡ (get_or cs at d).0 → pair.middle ≡ (get_or cs (at + 1) d).0
    → pair.right ≡ (get_or cs (at + 1) d).1 → (at + 2 < length cs → pair.high + 1 ≡ (get_or cs (at + 2) d).0) → (length cs ≤ at + 2 → pair.high ≡ e.high)
    → (xs ys : List Child) (a b : Child) → cs ≡ xs ++ (a ∷ b ∷ ys) → length xs ≡ at → pair ≡ record { left = a.1; low = a.0; middle = b.0; right = b.1; high = reach ys e.high }
pair_is e cs at d pair left low middle right next last xs ys a b was size =
    let one : get_or cs at d ≡ a = ap (λ (l : List Child). get_or l at d) was ∙ ap (λ (i : ℕ). get_or (xs ++ (a ∷ b ∷ ys)) i d) (sym size) ∙ first_of_two xs ys a b d in
    let two : get_or cs (at + 1) d ≡ b = ap (λ (l : List Child). get_or l (at + 1) d) was ∙ ap (λ (i : ℕ). get_or (xs ++ (a ∷ b ∷ ys)) (i + 1) d) (sym size) ∙ second_of_two xs ys a b d in
    let most = subst (λ (i : ℕ). (i + 2 < length (xs ++ (a ∷ b ∷ ys)) → pair.high + 1 ≡ (get_or (xs ++ (a ∷ b ∷ ys)) (i + 2) d).0)) (sym size) (subst (λ (l : List Child). (at + 2 < length l → pair.high + 1 ≡ (get_or l (at + 2) d).0)) was next) in
    let end = subst (λ (i : ℕ). (length (xs ++ (a ∷ b ∷ ys)) ≤ i + 2 → pair.high ≡ e.high)) (sym size) (subst (λ (l : List Child). (length l ≤ at + 2 → pair.high ≡ e.high)) was last) in
    let high = high_of xs ys a b d e.high pair.high most end in
    let l : pair.left ≡ a.1 = left ∙ ap (λ (x : Child). x.1) one in
    let w : pair.low ≡ a.0 = low ∙ ap (λ (x : Child). x.0) one in
    let m : pair.middle ≡ b.0 = middle ∙ ap (λ (x : Child). x.0) two in
    let r : pair.right ≡ b.1 = right ∙ ap (λ (x : Child). x.1) two in
    same_pair pair a.1 a.0 b.0 b.1 (reach ys e.high) l w m r high
  where
    same_pair : (pair : Pair) (l w m r h : ℕ) → pair.left ≡ l → pair.low ≡ w → pair.middle ≡ m → pair.right ≡ r → pair.high ≡ h → pair ≡ record { left = l; low = w; middle = m; right = r; high = h }
    same_pair pair l w m r h e1 e2 e3 e4 e5 =
        ap (λ (x : ℕ). record { left = x; low = pair.low; middle = pair.middle; right = pair.right; high = pair.high }) e1
        ∙ ap (λ (x : ℕ). record { left = l; low = x; middle = pair.middle; right = pair.right; high = pair.high }) e2
        ∙ ap (λ (x : ℕ). record { left = l; low = w; middle = x; right = pair.right; high = pair.high }) e3
        ∙ ap (λ (x : ℕ). record { left = l; low = w; middle = m; right = x; high = pair.high }) e4
        ∙ ap (λ (x : ℕ). record { left = l; low = w; middle = m; right = r; high = x }) e5

pub record Ended (xs : List Child) : Type 0 where
  pub front : List Child
  pub last : Child
  pub is : xs ≡ front ++ (last ∷ [])

ended : (x : Child) (xs : List Child) → Ended (x ∷ xs)
ended x [] = record { front = []; last = x; is = refl }
ended x (y ∷ ys) = let r = ended y ys in record { front = x ∷ r.front; last = r.last; is = ap (λ l. x ∷ l) r.is }

pub record Placed (cs : List Child) (key at : ℕ) : Type 0 where
  pub place : at ≡ place_of key cs

-- a key with a right sibling
pub pairs_right : (e : Expect) (cs : List Child) (key at : ℕ) (pair : Pair) → AreChildren e cs → at ≡ place_of key cs → at + 1 < length cs
    → ((xs ys : List Child) (a b : Child) → cs ≡ xs ++ (a ∷ b ∷ ys) → length xs ≡ at → pair ≡ record { left = a.1; low = a.0; middle = b.0; right = b.1; high = reach ys e.high }) → PairsUp cs e.high key pair
pairs_right e cs key at pair are place within is xs [] s at_key was =
    let st = stands_at e.low e.high xs [] s (subst (λ (l : List Child). Ascends e.low e.high (first_keys l)) was are.order) in
    let here : place_of key cs ≡ length xs = ap (λ (k : ℕ). place_of k cs) (sym at_key) ∙ ap (place_of s.0) was ∙ st.place in
    absurd (omega (arith, within, place, here, ap length was, length-append xs (s ∷ [])))
pairs_right e cs key at pair are place within is xs (y ∷ ys) s at_key was =
    let st = stands_at e.low e.high xs (y ∷ ys) s (subst (λ (l : List Child). Ascends e.low e.high (first_keys l)) was are.order) in
    let here : place_of key cs ≡ length xs = ap (λ (k : ℕ). place_of k cs) (sym at_key) ∙ ap (place_of s.0) was ∙ st.place in
    is xs ys s y was (sym here ∙ sym place)

-- the last key
pub pairs_left : (e : Expect) (cs : List Child) (key at count : ℕ) (pair : Pair) → AreChildren e cs → at ≡ place_of key cs → count ≡ length cs → count ≤ at + 1
    → ((xs ys : List Child) (a b : Child) → cs ≡ xs ++ (a ∷ b ∷ ys) → length xs ≡ count - 2 → pair ≡ record { left = a.1; low = a.0; middle = b.0; right = b.1; high = reach ys e.high }) → PairsUp cs e.high key pair
pairs_left e cs key at count pair are place all end is xs (y ∷ ys) s at_key was =
    let st = stands_at e.low e.high xs (y ∷ ys) s (subst (λ (l : List Child). Ascends e.low e.high (first_keys l)) was are.order) in
    let here : place_of key cs ≡ length xs = ap (λ (k : ℕ). place_of k cs) (sym at_key) ∙ ap (place_of s.0) was ∙ st.place in
    absurd (omega (arith, end, all, place, here, ap length was, length-append xs (s ∷ y ∷ ys)))
pairs_left e cs key at count pair are place all end is [] [] s at_key was = absurd (omega (arith, are.some, ap length was))
pairs_left e cs key at count pair are place all end is (x ∷ xs) [] s at_key was =
    let r = ended x xs in
    let whole : cs ≡ r.front ++ (r.last ∷ s ∷ []) = was ∙ ap (λ (l : List Child). l ++ (s ∷ [])) r.is ∙ append_assoc r.front (r.last ∷ []) (s ∷ []) in
    (r.front, r.last, r.is, is r.front [] r.last s whole (omega (arith, all, ap length whole, length-append r.front (r.last ∷ s ∷ []))))

-- a page of two children
pub two_children : (bytes : List ℕ) (a b c d : ℕ) → entry_count bytes ≡ 2 → u64_at bytes 64 ≡ a → u64_at bytes 72 ≡ b → u64_at bytes 80 ≡ c → u64_at bytes 88 ≡ d → children bytes ≡ (a, b) ∷ (c, d) ∷ []
unfolding children
two_children bytes a b c d count e1 e2 e3 e4 =
    ap (children_from bytes 64) count
    ∙ ap (λ (x : ℕ). (x, u64_at bytes 72) ∷ (u64_at bytes 80, u64_at bytes 88) ∷ []) e1
    ∙ ap (λ (x : ℕ). (a, x) ∷ (u64_at bytes 80, u64_at bytes 88) ∷ []) e2
    ∙ ap (λ (x : ℕ). (a, b) ∷ (x, u64_at bytes 88) ∷ []) e3
    ∙ ap (λ (x : ℕ). (a, b) ∷ (c, x) ∷ []) e4

pub new_root : (bytes : List ℕ) (level first key second count : ℕ) → length bytes ≡ 4096 → page_kind bytes ≡ 2 → page_level bytes ≡ level → 1 ≤ level → children bytes ≡ (0, first) ∷ (key, second) ∷ [] → entry_count bytes ≡ 2
    → 0 < key → key ≤ last_key → 1 ≤ first → first < count → 1 ≤ second → second < count → IsNewRoot bytes level first key second count
new_root bytes level first key second count size kind is_level above is two after most first_some first_in second_some second_in =
    let cs : List Child = (0, first) ∷ (key, second) ∷ [] in
    let order : Ascends 0 last_key (first_keys cs) = (omega arith, omega arith, (omega (arith, after), most, tt)) in
    let branch : IsBranch bytes = record {
      inner = record { size = size; kind = kind; count = omega (arith, two) };
      above = omega (arith, is_level, above);
      room = omega (arith, ap length is);
      order = subst (λ (all : List Child). Ascends 0 last_key (first_keys all)) (sym is) order;
    } in
    record {
      well = inner_within bytes (record { level = level; low = 0; high = last_key; root = true; pages = count }) cs (sym is_level) branch is (omega arith) refl order
          (rw (lt-ltb 0 first first_some, lt-ltb first count first_in, lt-ltb 0 second second_some, lt-ltb second count second_in) refl) refl;
      are = is;
    }
