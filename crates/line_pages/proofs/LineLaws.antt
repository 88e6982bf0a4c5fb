-- A line of many is changed.
use Rattle.std.proofs.Common.{◌≡◌, ◌≢◌, ℕ, nat_eq, refl}
use Rattle.std.proofs.lemmas.Bool.{eq-eqb, ne_eqb, and_right}
use Rattle.nvm_model.specs.declared.line.Line.{Line}
use Rattle.line_pages.specs.Lines.{Lines, with_line}

pub with_line-here : (page line : ℕ) (value : Line) (lines : Lines) → with_line page line value lines page line ≡ value
with_line-here page line value lines = rw (eq-eqb page page refl, eq-eqb line line refl) refl

pub with_line-other_page : (page line : ℕ) (value : Line) (lines : Lines) (p l : ℕ) → p ≢ page → with_line page line value lines p l ≡ lines p l
with_line-other_page page line value lines p l apart = rw (ne_eqb p page apart) refl

pub with_line-other_line : (page line : ℕ) (value : Line) (lines : Lines) (p l : ℕ) → l ≢ line → with_line page line value lines p l ≡ lines p l
with_line-other_line page line value lines p l apart = rw (and_right (nat_eq p page) (nat_eq l line) (ne_eqb l line apart)) refl
