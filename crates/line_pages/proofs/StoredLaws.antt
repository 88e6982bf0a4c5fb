-- Pages in one list.
use Rattle.std.proofs.Common.{◌≡◌, ℕ, zero, suc, ◌+◌, ◌*◌, ◌<◌, inl, inr, false, List, length, get_or, set, replicate, refl, ap, ◌∙◌, arith, nat_eq, slice_set, get_or-set_same, get_or-set_other}
use Rattle.std.proofs.lemmas.Bool.{lt-ltb, le-ltb, cases_lt, cases_eq, ne_eqb, eq-eqb, and_from, and_left, and_right}
use Rattle.nvm_model.specs.declared.line.Line.{Line}
use Rattle.line_pages.specs.Lines.{with_line}
use Rattle.line_pages.specs.Stored.{blank_line, blank_pages, pages_in}

pub read_back : (lines : List Line) (page line : ℕ) → line < 64 → pages_in lines page line ≡ get_or lines (64 * page + line) blank_line
unfolding pages_in
read_back lines page line h = rw (lt-ltb line 64 h) refl

-- a write at one place changes that line alone
pub write_back : (lines : List Line) (page line : ℕ) (value : Line) → line < 64 → 64 * page + line < length lines
    → pages_in (slice_set lines (64 * page + line) value) ≡ with_line page line value (pages_in lines)
unfolding pages_in
write_back lines page line value in_page in_list = λ i p l. at p l i
  where
    at : (p l : ℕ) → pages_in (slice_set lines (64 * page + line) value) p l ≡ with_line page line value (pages_in lines) p l
    at p l =
        elim (cases_lt l 64) [
          | inr out ↦
              let apart : nat_eq l line ≡ false = ne_eqb l line (λ e. omega arith) in
              rw (le-ltb l 64 out, and_right (nat_eq p page) (nat_eq l line) apart) refl
          | inl inside ↦
              elim (cases_eq l line) [
                | inl same_line ↦
                    elim (cases_eq p page) [
                      | inl same_page ↦
                          rw (lt-ltb l 64 inside, and_from (nat_eq p page) (nat_eq l line) (eq-eqb p page same_page) (eq-eqb l line same_line))
                          (ap (λ (k : ℕ). get_or (set lines (64 * page + line) value) k blank_line) (omega (arith, same_page, same_line)) ∙ get_or-set_same lines (64 * page + line) value blank_line in_list)
                      | inr other ↦
                          rw (lt-ltb l 64 inside, and_left (nat_eq p page) (nat_eq l line) (ne_eqb p page other))
                          (get_or-set_other lines (64 * page + line) (64 * p + l) value blank_line (λ e. other (omega (arith, e))))
                    ]
                | inr other ↦
                    rw (lt-ltb l 64 inside, and_right (nat_eq p page) (nat_eq l line) (ne_eqb l line other))
                    (get_or-set_other lines (64 * page + line) (64 * p + l) value blank_line (λ e. other (omega (arith, e))))
              ]
        ]

-- a list of blank lines is blank pages
pub blank_back : (n : ℕ) → pages_in (replicate n blank_line) ≡ blank_pages
unfolding pages_in
blank_back n = λ i p l. at p l i
  where
    same : (m k : ℕ) → get_or (replicate m blank_line) k blank_line ≡ blank_line
    same zero k = refl
    same (suc m) zero = refl
    same (suc m) (suc k) = same m k

    at : (p l : ℕ) → pages_in (replicate n blank_line) p l ≡ blank_line
    at p l = elim (cases_lt l 64) [ inl inside ↦ rw (lt-ltb l 64 inside) (same n (64 * p + l)) | inr out ↦ rw (le-ltb l 64 out) refl ]
