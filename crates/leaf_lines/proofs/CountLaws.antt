-- The lines that differ, counted over the lines of a put.
use Rattle.std.proofs.Common.{◌≡◌, ℕ, ◌+◌, ◌-◌, ◌*◌, ◌≤◌, inl, inr, true, List, [], length, take, refl, ap, sym, ◌∙◌, arith, zero, suc, cond}
use Rattle.std.specs.Str.{bytes_eq}
use Rattle.std.proofs.lemmas.Slice.Eq.{bytes_eq-Decides}
use Rattle.std.proofs.lemmas.Bool.{cases_lt}
use Rattle.std.proofs.lemmas.List.{drop_all}
use Rattle.ssd_model.specs.Page.{Same}
use Rattle.line_pages.specs.Standing.{Standing}
use Rattle.line_pages.proofs.NumberLaws.{range-same, same_part}
use Rattle.rows.specs.Rows.{Row}
use Rattle.page_alloc.specs.Written.{line_part, changed_in, lines_changed, Differs, WritesOnly}
use Rattle.page_alloc.proofs.WrittenLaws.{changed_step, changed_none, changed_all, changed_same, changed_parts}
use Rattle.page_alloc.proofs.TouchedLaws.{only_weaker}
use Rattle.leaf_lines.specs.declared.spread.Spread.{Spread}
use Rattle.leaf_lines.specs.Spread.{InOrder, Covers, AlikeBeyond, StandsFor}
use Rattle.page_edit.specs.Laid.{Lays}

part_same : (l : ℕ) (from end : ℕ) (one other : List ℕ) → Same from end one other → from ≤ 64 * l → 64 * l + 64 ≤ end → end ≤ 4096 → length one ≡ 4096 → length other ≡ 4096 → line_part other l ≡ line_part one l
part_same l from end one other same low high within size size_other = range-same from end (64 * l) (64 * l + 64) one other same low high (omega (arith, size)) (size_other ∙ sym size)

-- lines that are alike are not counted
changed_gap : (old new : List ℕ) (l e : ℕ) → l ≤ e → e ≤ 64 → length old ≡ 4096 → length new ≡ 4096 → Same (64 * l) (64 * e) old new → changed_in old new l (e - l) ≡ 0
changed_gap old new l e order within size size_new same =
    changed_same old new l (e - l) (λ k low high. sym (part_same k (64 * l) (64 * e) old new same (omega (arith, low)) (omega (arith, high)) (omega arith) size size_new))

changed_split : (old new : List ℕ) (l m e : ℕ) → l ≤ m → m ≤ e → changed_in old new l (e - l) ≡ changed_in old new l (m - l) + changed_in old new m (e - m)
changed_split old new l m e low high =
    ap (changed_in old new l) (omega arith) ∙ changed_parts old new l (m - l) (e - m) ∙ ap (λ (k : ℕ). changed_in old new l (m - l) + changed_in old new k (e - m)) (omega arith)

-- what is counted is counted in the lines of the put
pub spread_count : (s : Spread) (old new : List ℕ) → InOrder s → AlikeBeyond s old new → length old ≡ 4096 → length new ≡ 4096
    → lines_changed old new ≡ changed_in old new 0 (1 - 0) + (changed_in old new s.slots (s.slots_end - s.slots) + changed_in old new s.heap (s.heap_end - s.heap))
spread_count s old new order alike size size_new =
    let all : lines_changed old new ≡ changed_in old new 0 (64 - 0) = changed_all old new in
    let a = changed_split old new 0 1 64 (omega arith) (omega arith) in
    let b = changed_split old new 1 s.slots 64 order.some (omega (arith, order)) in
    let c = changed_split old new s.slots s.slots_end 64 order.first (omega (arith, order)) in
    let d = changed_split old new s.slots_end s.heap 64 order.second (omega (arith, order)) in
    let e = changed_split old new s.heap s.heap_end 64 order.third order.last in
    let low = changed_gap old new 1 s.slots order.some (omega (arith, order)) size size_new alike.low in
    let middle = changed_gap old new s.slots_end s.heap order.second (omega (arith, order)) size size_new alike.middle in
    let high = changed_gap old new s.heap_end 64 order.last (omega arith) size size_new alike.high in
    omega (arith, all, a, b, c, d, e, low, middle, high)

eq_true : (xs ys : List ℕ) → xs ≡ ys → bytes_eq xs ys ≡ true
eq_true xs ys e = (bytes_eq-Decides xs ys).1 e

beyond : (l : ℕ) (xs : List ℕ) → length xs ≡ 4096 → 64 ≤ l → line_part xs l ≡ []
beyond l xs size past = ap (take (64 * l + 64 - 64 * l)) (drop_all (64 * l) xs (omega (arith, size))) ∙ none (64 * l + 64 - 64 * l)
  where
    none : (n : ℕ) → take {A = ℕ} n [] ≡ []
    none zero = refl
    none (suc n) = refl

-- a line differs in the buffers where it does in the page
pub alike_lines : (s : Spread) (read changed old new : List ℕ) (l : ℕ) → InOrder s → StandsFor s read changed old new → AlikeBeyond s read changed → length read ≡ 4096 → length changed ≡ 4096 → length old ≡ 4096 → length new ≡ 4096
    → bytes_eq (line_part read l) (line_part changed l) ≡ bytes_eq (line_part old l) (line_part new l)
alike_lines s read changed old new l order stands alike n1 n2 n3 n4 =
    let by = λ (from end : ℕ) (known : Same from end old read) (put : Same from end new changed) (low : from ≤ 64 * l) (high : 64 * l + 64 ≤ end) (within : end ≤ 4096).
    ap (λ xs. bytes_eq xs (line_part changed l)) (part_same l from end old read known low high within n3 n1) ∙ ap (bytes_eq (line_part old l)) (part_same l from end new changed put low high within n4 n2) in
    let same = λ (from end : ℕ) (one : Same from end read changed) (other : Same from end old new) (low : from ≤ 64 * l) (high : 64 * l + 64 ≤ end) (within : end ≤ 4096).
    eq_true (line_part read l) (line_part changed l) (sym (part_same l from end read changed one low high within n1 n2)) ∙ sym (eq_true (line_part old l) (line_part new l) (sym (part_same l from end old new other low high within n3 n4))) in
    elim (cases_lt l 1) [
      | inl a ↦ by 0 64 stands.known.header stands.put.header (omega arith) (omega (arith, a)) (omega arith)
      | inr a ↦ elim (cases_lt l s.slots) [
        | inl b ↦ same 64 (64 * s.slots) alike.low stands.kept.low (omega (arith, a)) (omega (arith, b)) (omega (arith, order))
        | inr b ↦ elim (cases_lt l s.slots_end) [
          | inl c ↦ by (64 * s.slots) (64 * s.slots_end) stands.known.slots stands.put.slots (omega (arith, b)) (omega (arith, c)) (omega (arith, order))
          | inr c ↦ elim (cases_lt l s.heap) [
            | inl d ↦ same (64 * s.slots_end) (64 * s.heap) alike.middle stands.kept.middle (omega (arith, c)) (omega (arith, d)) (omega (arith, order))
            | inr d ↦ elim (cases_lt l s.heap_end) [
              | inl e ↦ by (64 * s.heap) (64 * s.heap_end) stands.known.heap stands.put.heap (omega (arith, d)) (omega (arith, e)) (omega (arith, order))
              | inr e ↦ elim (cases_lt l 64) [
                | inl f ↦ same (64 * s.heap_end) 4096 alike.high stands.kept.high (omega (arith, e)) (omega (arith, f)) (omega arith)
                | inr f ↦ eq_true (line_part read l) (line_part changed l) (beyond l read n1 f ∙ sym (beyond l changed n2 f)) ∙ sym (eq_true (line_part old l) (line_part new l) (beyond l old n3 f ∙ sym (beyond l new n4 f)))
              ]
            ]
          ]
        ]
      ]
    ]

changed_alike : (a b c d : List ℕ) (l n : ℕ) → ((k : ℕ) → bytes_eq (line_part a k) (line_part b k) ≡ bytes_eq (line_part c k) (line_part d k)) → changed_in a b l n ≡ changed_in c d l n
changed_alike a b c d l zero each = changed_none a b l ∙ sym (changed_none c d l)
changed_alike a b c d l (suc n) each =
    changed_step a b l n ∙ ap (λ t. cond t 0 1 + changed_in a b (suc l) n) (each l) ∙ ap (λ (m : ℕ). cond (bytes_eq (line_part c l) (line_part d l)) 0 1 + m) (changed_alike a b c d (suc l) n each) ∙ sym (changed_step c d l n)

-- so as many lines of the page changed as of the buffers
pub count_alike : (s : Spread) (read changed old new : List ℕ) → InOrder s → StandsFor s read changed old new → AlikeBeyond s read changed → length read ≡ 4096 → length changed ≡ 4096 → length old ≡ 4096 → length new ≡ 4096
    → lines_changed read changed ≡ lines_changed old new
count_alike s read changed old new order stands alike n1 n2 n3 n4 =
    changed_all read changed ∙ changed_alike read changed old new 0 64 (λ k. alike_lines s read changed old new k order stands alike n1 n2 n3 n4) ∙ sym (changed_all old new)

pub only_alike : {A : Type 0} (page : ℕ) (s : Spread) (read changed old new : List ℕ) {a b : Standing A} → InOrder s → StandsFor s read changed old new → AlikeBeyond s read changed → length read ≡ 4096 → length changed ≡ 4096 → length old ≡ 4096 → length new ≡ 4096
    → WritesOnly page (Differs read changed) a b → WritesOnly page (Differs old new) a b
only_alike page s read changed old new order stands alike n1 n2 n3 n4 only =
    only_weaker page (Differs read changed) (Differs old new) (λ line differs. sym (alike_lines s read changed old new line order stands alike n1 n2 n3 n4) ∙ differs) only

-- a row that is laid changes these lines alone
pub lays_beyond : (at count total place size : ℕ) (row : Row) (s : Spread) (old new : List ℕ) → InOrder s → Covers at count place size s → Lays at count total place size row old new → AlikeBeyond s old new
lays_beyond at count total place size row s old new order covers lays = record {
  low = same_part 64 (64 * s.slots) 32 (64 + 4 * at) old new lays.before (omega arith) covers.slots;
  middle = record {
    each = λ j low high.
        elim covers.heap [
          | inl starts ↦ lays.middle.each j (omega (arith, covers.slots_end)) (omega (arith, starts))
          | inr meets ↦ absurd (omega (arith, meets, low, high))
        ];
  };
  high = same_part (64 * s.heap_end) 4096 (place + size) 4096 old new lays.after covers.heap_end (omega arith);
}
