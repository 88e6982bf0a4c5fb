-- The cut rule, by parts.
use Rattle.std.proofs.Common.{◌≡◌, ℕ, zero, suc, ◌+◌, ◌-◌, ◌*◌, ◌<◌, ◌≤◌, ◌≢◌, List, [], ◌∷◌, ◌++◌, length, take, drop, get_or, slice_range, sum, inl, inr, Bool, true, nat_le, refl, ap, sym, subst, ◌∙◌, arith, zero-add, take-append-drop}
use Rattle.std.specs.List.{insert, list_all}
use Rattle.std.proofs.lemmas.Bool.{eq-eqb, ne_eqb, cases_eq, leb-true, and_parts}
use Rattle.std.proofs.lemmas.List.{map-append, drop_more, drop-drop, take-append-le, drop-append-le, take-take, length-take-le, take_rest, take-map, drop-map, length-map}
use Rattle.std.proofs.lemmas.List.Sums.{sum_by-cons, sum_by-take-drop}
use Rattle.std.proofs.lemmas.Slice.{between_is, between_from_start}
use Rattle.rows.specs.Rows.{Row}
use Rattle.page_edit.specs.Cut.{needed, rows_left, IsShortestHalf, IsCut, IsFilled}
use Rattle.page_format.specs.Room.{sizes, row_size}
use Rattle.page_format.specs.Sound.{row_bytes}
use Rattle.page_format.proofs.RowLemmas.{row_bytes-append, row_bytes-cons}

needed_none : (xs : List ℕ) → needed 0 xs ≡ 0
needed_none [] = refl
needed_none (x ∷ xs) = refl

pub needed-append : (goal : ℕ) (xs ys : List ℕ) → needed goal (xs ++ ys) ≡ needed goal xs + needed (goal - 2 * sum xs) ys
needed-append goal [] ys = ap (λ (g : ℕ). needed g ys) (omega arith) ∙ sym (zero-add (needed (goal - 2 * 0) ys))
needed-append goal (x ∷ xs) ys =
    elim (cases_eq goal 0) [
      | inl e ↦
          let none = ap (λ (g : ℕ). needed g ys) (zero_less (2 * sum (x ∷ xs))) ∙ needed_none ys in
          rw (e, none) refl
      | inr some ↦
          let ih = needed-append (goal - 2 * x) xs ys in
          let less = ap (λ (g : ℕ). needed g ys) (goal_less goal x (sum xs) (sum (x ∷ xs)) (sum_by-cons (λ (y : ℕ). y) x xs)) in
          rw (ne_eqb goal 0 some) (omega (arith, ih, less))
    ]
  where
    zero_less : (n : ℕ) → 0 - n ≡ 0
    zero_less n = omega arith

    goal_less : (goal x s t : ℕ) → t ≡ x + s → goal - 2 * x - 2 * s ≡ goal - 2 * t
    goal_less goal x s t e = omega arith

-- a part as its first row and the others
pub part_first : (xs : List Row) (i j : ℕ) (d : Row) → i < j → j ≤ length xs → slice_range xs i j ≡ get_or xs i d ∷ slice_range xs (i + 1) j
part_first xs i j d low high =
    ap (take (j - i)) (drop_more xs i d (omega arith)) ∙ ap (λ (n : ℕ). take n (get_or xs i d ∷ drop (i + 1) xs)) (step i j low)
  where
    step : (i j : ℕ) → i < j → j - i ≡ suc (j - (i + 1))
    step i j low = omega arith

-- one step of the count
pub needed_step : (rows : List Row) (i j goal size : ℕ) (d : Row) → i < j → j ≤ length rows → size ≡ row_size (get_or rows i d) → goal ≢ 0
    → needed goal (sizes (slice_range rows i j)) ≡ suc (needed (goal - 2 * size) (sizes (slice_range rows (i + 1) j)))
needed_step rows i j goal size d low high is some =
    ap (λ (r : List Row). needed goal (sizes r)) (part_first rows i j d low high) ∙ rw (ne_eqb goal 0 some, is) refl

-- some rows, a new one, and the rest
pub whole_needed : (front back : List Row) (row : Row) (first middle last total rest before after : ℕ)
    → before ≡ row_bytes front → after ≡ row_bytes back → total ≡ before + row_size row + after → rest ≡ total - 2 * before
    → first ≡ needed total (sizes front) → middle ≡ needed rest (row_size row ∷ []) → last ≡ needed (rest - 2 * row_size row) (sizes back)
    → first + middle + last ≡ rows_left (front ++ row ∷ back)
unfolding rows_left row_bytes
whole_needed front back row first middle last total rest before after b a t r f m l =
    let one : List ℕ = row_size row ∷ [] in
    let split : sizes (front ++ row ∷ back) ≡ sizes front ++ (one ++ sizes back) = map-append row_size front (row ∷ back) in
    let all = row_bytes-append front (row ∷ back) in
    let more = row_bytes-cons row back in
    let sum_is : sum (sizes (front ++ row ∷ back)) ≡ total = omega (arith, all, more, b, a, t) in
    let two = needed-append total (sizes front) (one ++ sizes back) in
    let three = needed-append (total - 2 * sum (sizes front)) one (sizes back) in
    let rest_is : total - 2 * sum (sizes front) ≡ rest = omega (arith, r, b) in
    let last_is : total - 2 * sum (sizes front) - 2 * sum one ≡ rest - 2 * row_size row = omega (arith, r, b) in
    let m2 = m ∙ ap (λ (g : ℕ). needed g one) (sym rest_is) in
    let l2 = l ∙ ap (λ (g : ℕ). needed g (sizes back)) (sym last_is) in
    let parts : first + middle + last ≡ needed total (sizes front) + (needed (total - 2 * sum (sizes front)) one + needed (total - 2 * sum (sizes front) - 2 * sum one) (sizes back)) = omega (arith, f, m2, l2) in
    rw (sum_is, split) (parts ∙ ap (λ (n : ℕ). needed total (sizes front) + n) (sym three) ∙ sym two)

pub front_is : {X : Type 0} (rows : List X) (at : ℕ) → slice_range rows 0 at ≡ take at rows
front_is rows at = between_from_start rows at

pub back_is : {X : Type 0} (rows : List X) (at : ℕ) → slice_range rows at (length rows) ≡ drop at rows
back_is rows at = take_rest rows at

-- the parts of the rows with a new one, where the cut is before it and where it is behind it
pub record Parts {X : Type 0} (all left right : List X) (part : ℕ) : Type 0 where
  pub left_is : take part all ≡ left
  pub right_is : drop part all ≡ right

pub cut_low : (rows : List Row) (part at count : ℕ) (row : Row) → count ≡ length rows → part ≤ at → at ≤ count → Parts (insert rows at row) (slice_range rows 0 part) (slice_range rows part at ++ row ∷ slice_range rows at count) part
cut_low rows part at count row count_is low within =
    let front : length (take at rows) ≡ at = length-take-le at rows (omega arith) in
    let back : slice_range rows at count ≡ drop at rows = ap (slice_range rows at) count_is ∙ back_is rows at in
    record {
      left_is = take-append-le part (take at rows) (row ∷ drop at rows) (omega arith) ∙ take-take part at rows low ∙ sym (front_is rows part);
      right_is = drop-append-le part (take at rows) (row ∷ drop at rows) (omega arith)
          ∙ ap (λ xs. xs ++ (row ∷ drop at rows)) (sym (between_is rows part at)) ∙ ap (λ xs. slice_range rows part at ++ (row ∷ xs)) (sym back);
    }

take_past : {X : Type 0} (xs ys : List X) (n m : ℕ) → m ≡ length xs + n → take m (xs ++ ys) ≡ xs ++ take n ys
take_past [] ys n m e = ap (λ (k : ℕ). take k ys) (omega (arith, e))
take_past (z ∷ xs) ys n zero e = absurd (omega (arith, e))
take_past (z ∷ xs) ys n (suc m) e = ap (λ r. z ∷ r) (take_past xs ys n m (omega (arith, e)))

drop_past : {X : Type 0} (xs ys : List X) (n m : ℕ) → m ≡ length xs + n → drop m (xs ++ ys) ≡ drop n ys
drop_past [] ys n m e = ap (λ (k : ℕ). drop k ys) (omega (arith, e))
drop_past (z ∷ xs) ys n zero e = absurd (omega (arith, e))
drop_past (z ∷ xs) ys n (suc m) e = drop_past xs ys n m (omega (arith, e))

pub cut_high : (rows : List Row) (part at count : ℕ) (row : Row) → count ≡ length rows → at < part → part ≤ count + 1 → Parts (insert rows at row) (slice_range rows 0 at ++ row ∷ slice_range rows at (part - 1)) (slice_range rows (part - 1) count) part
cut_high rows part at count row count_is high within =
    let front : length (take at rows) ≡ at = length-take-le at rows (omega arith) in
    let back : slice_range rows (part - 1) count ≡ drop (part - 1) rows = ap (slice_range rows (part - 1)) count_is ∙ back_is rows (part - 1) in
    let sum_is : at + (part - 1 - at) ≡ part - 1 = omega arith in
    record {
      left_is = take_past (take at rows) (row ∷ drop at rows) (suc (part - 1 - at)) part (omega arith) ∙ ap (λ xs. xs ++ (row ∷ slice_range rows at (part - 1))) (sym (front_is rows at));
      right_is = drop_past (take at rows) (row ∷ drop at rows) (suc (part - 1 - at)) part (omega arith) ∙ drop-drop (part - 1 - at) at rows ∙ ap (λ (n : ℕ). drop n rows) sum_is ∙ sym back;
    }

-- what the number needed is, for any goal
record IsNeeded (goal : ℕ) (xs : List ℕ) (n : ℕ) : Type 0 where
  within : n ≤ length xs
  reaches : goal ≤ 2 * sum xs → goal ≤ 2 * sum (take n xs)
  shorter : (m : ℕ) → m < n → 2 * sum (take m xs) < goal

needed_is : (goal : ℕ) (xs : List ℕ) → IsNeeded goal xs (needed goal xs)
needed_is goal [] = record { within = omega arith; reaches = λ h. h; shorter = λ m less. absurd (omega arith) }
needed_is goal (x ∷ xs) =
    elim (cases_eq goal 0) [
      | inl e ↦ rw (eq-eqb goal 0 e) (record { within = omega arith; reaches = λ h. omega (arith, e); shorter = λ m less. absurd (omega arith) })
      | inr some ↦
          let ih = needed_is (goal - 2 * x) xs in
          let n = needed (goal - 2 * x) xs in
          let split = sum_by-cons (λ (y : ℕ). y) x in
          rw (ne_eqb goal 0 some)
          (record {
            within = omega (arith, ih.within);
            reaches = λ h. let there = ih.reaches (omega (arith, h, split xs)) in omega (arith, there, split (take n xs));
            shorter = elim [
              | zero ↦ λ less. omega (arith, some)
              | suc m ↦ λ less. let there = ih.shorter m (omega (arith, less)) in omega (arith, there, split (take m xs))
            ];
          })
    ]

pub needed-shortest : (xs : List ℕ) → IsShortestHalf xs (needed (sum xs) xs)
needed-shortest xs =
    let is = needed_is (sum xs) xs in
    record { within = is.within; reaches = is.reaches (omega arith); shorter = is.shorter }

abbrev pub is_small : Row → Bool
is_small row = nat_le (row_size row) 492

step_small : (rows : List Row) (i : ℕ) → list_all is_small rows ≡ true → sum (take (suc i) (sizes rows)) ≤ sum (take i (sizes rows)) + 492
step_small [] i small = omega arith
step_small (r ∷ rows) zero small = let one = leb-true (row_size r) 492 (and_parts (is_small r) (list_all is_small rows) small).0 in omega (arith, one, sum_by-cons (λ (y : ℕ). y) (row_size r) [])
step_small (r ∷ rows) (suc i) small =
    let parts = and_parts (is_small r) (list_all is_small rows) small in
    let split = sum_by-cons (λ (y : ℕ). y) (row_size r) in
    omega (arith, step_small rows i parts.1, split (take (suc i) (sizes rows)), split (take i (sizes rows)))

-- both parts fit, and are full enough where the rows do not fit in one leaf
pub record Fit (rows : List Row) (n : ℕ) : Type 0 where
  pub within : n ≤ length rows
  pub left : row_bytes (take n rows) ≤ 4032
  pub right : row_bytes (drop n rows) ≤ 4032
  pub left_full : 4032 < row_bytes rows → 1344 ≤ row_bytes (take n rows)
  pub right_full : 4032 < row_bytes rows → 1344 ≤ row_bytes (drop n rows)
  pub shortest : IsShortestHalf (sizes rows) n
  pub left_filled : 4032 < row_bytes rows → IsFilled (take n rows)
  pub right_filled : 4032 < row_bytes rows → IsFilled (drop n rows)

pub cut_fits : (rows : List Row) → list_all is_small rows ≡ true → row_bytes rows ≤ 5375 → Fit rows (rows_left rows)
unfolding rows_left row_bytes
cut_fits rows small most =
    let xs = sizes rows in
    let n = needed (sum xs) xs in
    let is = needed_is (sum xs) xs in
    let low : 2 * sum (take n xs) ≤ sum xs + 2 * 492 = lower xs (step_small rows) n is.shorter in
    let front : sum (sizes (take n rows)) ≡ sum (take n xs) = ap sum (sym (take-map row_size n rows)) in
    let both = sum_by-take-drop (λ (y : ℕ). y) xs n in
    let back : sum (sizes (drop n rows)) ≡ sum (drop n xs) = ap sum (sym (drop-map row_size n rows)) in
    record {
      within = omega (arith, is.within, length-map rows row_size);
      left = omega (arith, low, front, most);
      right = omega (arith, both, back, is.reaches (omega arith), most);
      left_full = λ over. omega (arith, front, is.reaches (omega arith), over);
      right_full = λ over. omega (arith, both, back, low, over);
      shortest = needed-shortest xs;
      left_filled = λ over. record { least = omega (arith, front, is.reaches (omega arith), over); most = omega (arith, front, low, most) };
      right_filled = λ over. record { least = omega (arith, both, back, low, over); most = omega (arith, both, back, is.reaches (omega arith), most) };
    }
  where
    lower : (xs : List ℕ) → ((i : ℕ) → list_all is_small rows ≡ true → sum (take (suc i) xs) ≤ sum (take i xs) + 492) → (k : ℕ) → ((m : ℕ) → m < k → 2 * sum (take m xs) < sum xs) → 2 * sum (take k xs) ≤ sum xs + 2 * 492
    lower xs step zero shorter = omega arith
    lower xs step (suc k) shorter = let before = shorter k (omega arith) in omega (arith, before, step k small)

-- the parts of the rows, as the cut rule says it
pub cut_is : (all left right : List Row) (n : ℕ) → Fit all n → left ≡ take n all → right ≡ drop n all → IsCut all left right
cut_is all left right n fit l r = record {
  whole = ap (λ xs. xs ++ right) l ∙ ap (λ xs. take n all ++ xs) r ∙ take-append-drop n all;
  shortest = subst (IsShortestHalf (sizes all)) (sym (ap length l ∙ length-take-le n all fit.within)) fit.shortest;
}

-- the rows of two leaves
pub whole_is : {X : Type 0} (rows : List X) (n : ℕ) → n ≡ length rows → slice_range rows 0 n ≡ rows
whole_is rows n is = ap (slice_range rows 0) is ∙ back_is rows 0

pub share_low : {X : Type 0} (xs ys : List X) (n m part : ℕ) → n ≡ length xs → m ≡ length ys → part ≤ n → Parts (xs ++ ys) (slice_range xs 0 part) (slice_range xs part n ++ slice_range ys 0 m) part
share_low xs ys n m part n_is m_is low = record {
  left_is = take-append-le part xs ys (omega arith) ∙ sym (front_is xs part);
  right_is = drop-append-le part xs ys (omega arith) ∙ ap (λ zs. zs ++ ys) (sym (ap (slice_range xs part) n_is ∙ back_is xs part)) ∙ ap (λ zs. slice_range xs part n ++ zs) (sym (whole_is ys m m_is));
}

pub share_high : {X : Type 0} (xs ys : List X) (n m part : ℕ) → n ≡ length xs → m ≡ length ys → n ≤ part → part ≤ n + m → Parts (xs ++ ys) (slice_range xs 0 n ++ slice_range ys 0 (part - n)) (slice_range ys (part - n) m) part
share_high xs ys n m part n_is m_is low high = record {
  left_is = take_past xs ys (part - n) part (omega arith) ∙ ap (λ zs. zs ++ take (part - n) ys) (sym (whole_is xs n n_is)) ∙ ap (λ zs. slice_range xs 0 n ++ zs) (sym (front_is ys (part - n)));
  right_is = drop_past xs ys (part - n) part (omega arith) ∙ sym (ap (slice_range ys (part - n)) m_is ∙ back_is ys (part - n));
}

pub both_needed : (xs ys : List Row) (first second one two goal : ℕ) → one ≡ row_bytes xs → two ≡ row_bytes ys → goal ≡ one + two - 2 * one → first ≡ needed (one + two) (sizes xs) → second ≡ needed goal (sizes ys) → first + second ≡ rows_left (xs ++ ys)
unfolding rows_left row_bytes
both_needed xs ys first second one two goal one_is two_is goal_is f s =
    let split : sizes (xs ++ ys) ≡ sizes xs ++ sizes ys = map-append row_size xs ys in
    let all = row_bytes-append xs ys in
    let sum_is : sum (sizes (xs ++ ys)) ≡ one + two = omega (arith, all, one_is, two_is) in
    let same : goal ≡ one + two - 2 * sum (sizes xs) = omega (arith, goal_is, one_is) in
    let s2 = s ∙ ap (λ (g : ℕ). needed g (sizes ys)) same in
    let parts : first + second ≡ needed (one + two) (sizes xs) + needed (one + two - 2 * sum (sizes xs)) (sizes ys) = omega (arith, f, s2) in
    rw (sum_is, split) (parts ∙ sym (needed-append (one + two) (sizes xs) (sizes ys)))
