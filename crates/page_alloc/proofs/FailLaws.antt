-- A page kept with its first line as it was read.
use Rattle.std.proofs.Common.{◌≡◌, ℕ, ◌⊎◌, ◌<◌, true, false, List, length, nat_eq, inl, inr, refl, sym, ap, subst, ◌∙◌, arith}
use Rattle.std.proofs.lemmas.Bool.{cases_eq, eq-eqb, ne_eqb, and_right}
use Rattle.nvm_model.specs.declared.line.Line.{Line}
use Rattle.damage.specs.declared.evidence.Evidence.TheVariants.{Page}
use Rattle.line_pages.specs.Lines.{Lines, with_line, IsLine}
use Rattle.line_pages.specs.Bytes.{page_bytes, bytes_of, with_line_bytes}
use Rattle.line_pages.proofs.ByteLaws.{bytes_of-with_line, line_at-written}
use Rattle.damage.specs.Checks.{fails}
use Rattle.rows.specs.Rows.{last_key}
use Rattle.page_alloc.specs.Space.{space_checks, FailsSpace}

-- a line of a page, written over by itself
pub written_itself : (lines : Lines) (page l : ℕ) (value : Line) → l < 64 → value ≡ lines page l → with_line_bytes (bytes_of lines page) l value ≡ bytes_of lines page
written_itself lines page l value l_in is = sym (bytes_of-with_line lines page l value l_in) ∙ ap page_bytes (λ i k. at k i)
  where
    at : (k : ℕ) → with_line page l value lines page k ≡ lines page k
    at k =
        elim (cases_eq k l) [
          | inl e ↦ rw (eq-eqb page page refl, eq-eqb k l e) (is ∙ ap (λ (n : ℕ). lines page n) (sym e))
          | inr ne ↦ rw (ne_eqb k l ne, and_right (nat_eq page page) false refl) refl
        ]

-- the evidence that is answered where the line fails a check
pub fails_in : (count page check : ℕ) (bytes : List ℕ) (line : Line) → page < count → (page ≡ 0) ⊎ (check ≡ 36) → length bytes ≡ 4096 → IsLine line → fails (space_checks count line) check ≡ true
    → FailsSpace count (with_line_bytes bytes 0 line) (Page page 0 0 last_key check)
fails_in count page check bytes line inside of_page size is failing = record {
  number = check;
  page = page;
  inside = inside;
  of_page = of_page;
  shown = (refl, refl, refl, refl, refl);
  fails = subst (λ (l : Line). fails (space_checks count l) check ≡ true) (sym (line_at-written bytes 0 line size (omega arith) is)) failing;
}
