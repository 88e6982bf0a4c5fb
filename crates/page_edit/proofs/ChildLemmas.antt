-- The children of a changed inner page, and what makes one whose keys ascend.
use Rattle.std.proofs.Common.{◌≡◌, ℕ, zero, suc, ◌+◌, ◌-◌, ◌*◌, ◌/◌, ◌<◌, ◌≤◌, List, [], ◌∷◌, ◌++◌, length, take, drop, get_or, slice_range, inl, inr, refl, ap, sym, subst, ◌∙◌, arith, length-append}
use Rattle.std.specs.List.{insert, remove}
use Rattle.std.proofs.lemmas.Bool.{cases_lt, cases_eq}
use Rattle.std.proofs.lemmas.List.{get_or_append_left, get_or-append_right, get_or-take, length-take-le, length-drop}
use Rattle.std.proofs.lemmas.List.Edits.{length-insert, get_or-insert_below, get_or-insert_at, get_or-insert_above, length-remove, get_or-remove_below, get_or-remove_above, length-between, get_or-between}
use Rattle.ssd_model.specs.Page.{Same, Moved}
use Rattle.page_format.specs.Node.{Child, children, entry_count, first_keys, page_level}
use Rattle.rows.specs.Rows.{Ascends, last_key}
use Rattle.page_edit.specs.Cut.{children_left}
use Rattle.page_format.specs.Inner.{IsInner, IsBranch, entry_of}
use Rattle.line_pages.proofs.NumberLaws.{u64_at-same, u64_at-moved}
use Rattle.page_format.proofs.InnerLemmas.{length_children, child_at, children_are}

pub entry-same : (from end i : ℕ) (old new : List ℕ) → Same from end old new → from ≤ 64 + 16 * i → 80 + 16 * i ≤ end → entry_of new i ≡ entry_of old i
entry-same from end i old new same low high =
    let key = u64_at-same from end (64 + 16 * i) old new same low (omega arith) in
    let child = u64_at-same from end (72 + 16 * i) old new same (omega arith) (omega arith) in
    rw (key, child) refl

pub entry-moved : (from end to i was : ℕ) (old new : List ℕ) → Moved from end to old new → to ≤ 64 + 16 * i → 64 + 16 * was + to ≡ from + (64 + 16 * i) → 80 + 16 * was ≤ end → entry_of new i ≡ entry_of old was
entry-moved from end to i was old new moved low there high =
    let key = u64_at-moved from end to (64 + 16 * i - to) (64 + 16 * i) (64 + 16 * was) old new moved (omega arith) (omega arith) (omega arith) in
    let child = u64_at-moved from end to (72 + 16 * i - to) (72 + 16 * i) (72 + 16 * was) old new moved (omega arith) (omega arith) (omega arith) in
    rw (key, child) refl

-- a part that was put into a page moved there from the other one
pub moved_part : (from end to : ℕ) (other new : List ℕ) (part : List ℕ) → part ≡ slice_range other from end → from ≤ end → end ≤ length other → to + length part ≤ length new → slice_range new to (to + length part) ≡ part → Moved from end to other new
moved_part from end to other new part is order within room put = record {
  each = λ j h.
      let size : length part ≡ end - from = ap length is ∙ length-between other from end within in
      sym (get_or-between new to (to + length part) j 0 (omega (arith, size))) ∙ ap (λ xs. get_or xs j 0) (put ∙ is) ∙ get_or-between other from end j 0 h;
}

pub children_put : (at : ℕ) (child : Child) (old new : List ℕ) → at ≤ entry_count old → entry_count new ≡ entry_count old + 1 → ((k : ℕ) → k < at → entry_of new k ≡ entry_of old k) → entry_of new at ≡ child
    → ((k : ℕ) → at ≤ k → k < entry_count old → entry_of new (k + 1) ≡ entry_of old k) → children new ≡ insert (children old) at child
children_put at child old new within count before here after =
    let size = length_children old in
    let in_old : at ≤ length (children old) = omega arith in
    let longer = length-insert (children old) at child in_old in
    children_are new (insert (children old) at child) (omega (arith, count, longer)) (λ k d k_in.
    elim (cases_lt k at) [
      | inl low ↦ before k low ∙ sym (child_at old k d (omega arith)) ∙ sym (get_or-insert_below (children old) at child d k low in_old)
      | inr high ↦ elim (cases_eq k at) [
        | inl e ↦ rw e (here ∙ sym (get_or-insert_at (children old) at child d in_old))
        | inr ne ↦
            let step : k ≡ (k - 1) + 1 = omega (arith, ne, high) in
            let was : k - 1 < entry_count old = omega (arith, longer, ne, high, k_in) in
            rw step (after (k - 1) (omega (arith, ne, high)) was ∙ sym (child_at old (k - 1) d was) ∙ sym (get_or-insert_above (children old) at child d (k - 1) (omega (arith, ne, high)) in_old))
      ]
    ])

pub children_out : (at : ℕ) (old new : List ℕ) → at < entry_count old → entry_count new + 1 ≡ entry_count old → ((k : ℕ) → k < at → entry_of new k ≡ entry_of old k)
    → ((k : ℕ) → at ≤ k → k + 1 < entry_count old → entry_of new k ≡ entry_of old (k + 1)) → children new ≡ remove (children old) at
children_out at old new within count before after =
    let size = length_children old in
    let in_old : at < length (children old) = omega arith in
    let shorter = length-remove (children old) at in_old in
    children_are new (remove (children old) at) (omega (arith, count, shorter)) (λ k d k_in.
    elim (cases_lt k at) [
      | inl low ↦ before k low ∙ sym (child_at old k d (omega arith)) ∙ sym (get_or-remove_below (children old) at d k low in_old)
      | inr high ↦ after k high (omega (arith, shorter, k_in)) ∙ sym (child_at old (k + 1) d (omega (arith, shorter, k_in))) ∙ sym (get_or-remove_above (children old) at d k high in_old)
    ])

pub children_kept : (n : ℕ) (old new : List ℕ) → n ≤ entry_count old → entry_count new ≡ n → ((k : ℕ) → k < n → entry_of new k ≡ entry_of old k) → children new ≡ take n (children old)
children_kept n old new within count same =
    let size = length_children old in
    let front : length (take n (children old)) ≡ n = length-take-le n (children old) (omega arith) in
    children_are new (take n (children old)) (omega (arith, count, front)) (λ k d k_in.
    same k (omega (arith, front)) ∙ sym (child_at old k d (omega (arith, front))) ∙ sym (get_or-take n (children old) k d (omega (arith, front))))

pub children_more : (start end : ℕ) (old from new : List ℕ) → start ≤ end → end ≤ entry_count from → entry_count new ≡ entry_count old + (end - start) → ((k : ℕ) → k < entry_count old → entry_of new k ≡ entry_of old k)
    → ((k : ℕ) → start + k < end → entry_of new (entry_count old + k) ≡ entry_of from (start + k)) → children new ≡ children old ++ slice_range (children from) start end
children_more start end old from new order within count before after =
    let size = length_children old in
    let other = length_children from in
    let part : length (slice_range (children from) start end) ≡ end - start = length-between (children from) start end (omega arith) in
    let whole = length-append (children old) (slice_range (children from) start end) in
    children_are new (children old ++ slice_range (children from) start end) (omega (arith, count, whole, part)) (λ k d k_in.
    elim (cases_lt k (entry_count old)) [
      | inl low ↦ before k low ∙ sym (child_at old k d low) ∙ sym (get_or_append_left (children old) (slice_range (children from) start end) d k (omega (arith, low)))
      | inr high ↦
          let step : k ≡ entry_count old + (k - entry_count old) = omega (arith, high) in
          let short : start + (k - entry_count old) < end = omega (arith, whole, part, k_in, high) in
          ap (entry_of new) step ∙ after (k - entry_count old) short ∙ sym (child_at from (start + (k - entry_count old)) d (omega (arith, short)))
          ∙ sym (get_or-between (children from) start end (k - entry_count old) d short) ∙ sym (get_or-append_right (children old) (slice_range (children from) start end) (entry_count old) k d size high)
    ])

Ascends-lower : (low next high : ℕ) (ks : List ℕ) → low ≤ next → Ascends next high ks → Ascends low high ks
Ascends-lower low next high [] h up = tt
Ascends-lower low next high (k ∷ ks) h up = (omega (arith, h, up.0), up.1, up.2)

Ascends-take : (low high : ℕ) (all : List Child) (n : ℕ) → Ascends low high (first_keys all) → Ascends low high (first_keys (take n all))
Ascends-take low high all zero up = tt
Ascends-take low high [] (suc n) up = tt
Ascends-take low high (e ∷ all) (suc n) up = (up.0, up.1, Ascends-take (e.0 + 1) high all n up.2)

Ascends-drop : (low high : ℕ) (all : List Child) (n : ℕ) → Ascends low high (first_keys all) → Ascends low high (first_keys (drop n all))
Ascends-drop low high all zero up = up
Ascends-drop low high [] (suc n) up = tt
Ascends-drop low high (e ∷ all) (suc n) up = Ascends-drop low high all n (Ascends-lower low (e.0 + 1) high (first_keys all) (omega (arith, up.0)) up.2)

Ascends-remove : (low high : ℕ) (all : List Child) (i : ℕ) → Ascends low high (first_keys all) → Ascends low high (first_keys (remove all i))
Ascends-remove low high [] zero up = tt
Ascends-remove low high (e ∷ all) zero up = Ascends-lower low (e.0 + 1) high (first_keys all) (omega (arith, up.0)) up.2
Ascends-remove low high [] (suc i) up = tt
Ascends-remove low high (e ∷ all) (suc i) up = (up.0, up.1, Ascends-remove (e.0 + 1) high all i up.2)

-- a page that has a list of children in order
pub branch_of : (bytes : List ℕ) (all : List Child) (level : ℕ) → IsInner bytes → children bytes ≡ all → page_level bytes ≡ level → 1 ≤ level → length all ≤ 240 → Ascends 0 last_key (first_keys all) → IsBranch bytes
branch_of bytes all level inner is level_is above room order = record {
  inner = inner;
  above = omega (arith, level_is);
  room = omega (arith, ap length is);
  order = subst (λ xs. Ascends 0 last_key (first_keys xs)) (sym is) order;
}

pub branch_less : (bytes : List ℕ) (all : List Child) (i level : ℕ) → IsInner bytes → children bytes ≡ remove all i → page_level bytes ≡ level → 1 ≤ level → i < length all → length all ≤ 240 → Ascends 0 last_key (first_keys all) → IsBranch bytes
branch_less bytes all i level inner is level_is above inside room order =
    branch_of bytes (remove all i) level inner is level_is above (omega (arith, length-remove all i inside)) (Ascends-remove 0 last_key all i order)

pub branch_front : (bytes : List ℕ) (all : List Child) (n level : ℕ) → IsInner bytes → children bytes ≡ take n all → page_level bytes ≡ level → 1 ≤ level → n ≤ length all → n ≤ 240 → Ascends 0 last_key (first_keys all) → IsBranch bytes
branch_front bytes all n level inner is level_is above inside room order =
    branch_of bytes (take n all) level inner is level_is above (omega (arith, length-take-le n all inside)) (Ascends-take 0 last_key all n order)

pub branch_back : (bytes : List ℕ) (all : List Child) (n level : ℕ) → IsInner bytes → children bytes ≡ drop n all → page_level bytes ≡ level → 1 ≤ level → length all ≤ 240 + n → Ascends 0 last_key (first_keys all) → IsBranch bytes
branch_back bytes all n level inner is level_is above room order =
    branch_of bytes (drop n all) level inner is level_is above (omega (arith, length-drop n all)) (Ascends-drop 0 last_key all n order)

pub cut_at_half : (old : List Child) (at n : ℕ) (child : Child) → n ≡ length old → at ≤ length old → children_left (length (insert old at child)) ≡ (n + 2) / 2
unfolding children_left
cut_at_half old at n child is within = let longer = length-insert old at child within in omega (arith, longer, is)

pub join_at_half : (xs ys : List Child) (n m : ℕ) → n ≡ length xs → m ≡ length ys → children_left (length (xs ++ ys)) ≡ (n + m + 1) / 2
unfolding children_left
join_at_half xs ys n m n_is m_is = let both = length-append xs ys in omega (arith, both, n_is, m_is)
