-- Laws of lists of pages that are counted.
use Rattle.std.proofs.Common.{◌≡◌, ℕ, ◌+◌, List, [], ◌∷◌, ◌++◌, refl, arith}
use Rattle.std.proofs.lemmas.Bool.{eq-eqb}
use Rattle.line_pages.specs.Lines.{Lines}
use Rattle.page_alloc.specs.Counted.{times, SameOn}

-- times

pub times-append : (n : ℕ) (xs ys : List ℕ) → times n (xs ++ ys) ≡ times n xs + times n ys
times-append n [] ys = omega arith
times-append n (x ∷ xs) ys = let ih = times-append n xs ys in omega (arith, ih)

-- frame

pub SameOn-left : (xs ys : List ℕ) (old new : Lines) → SameOn (xs ++ ys) old new → SameOn xs old new
SameOn-left xs ys old new same = λ n in_xs. same n (omega (arith, times-append n xs ys, in_xs))

pub SameOn-right : (xs ys : List ℕ) (old new : Lines) → SameOn (xs ++ ys) old new → SameOn ys old new
SameOn-right xs ys old new same = λ n in_ys. same n (omega (arith, times-append n xs ys, in_ys))

pub SameOn-first : (page : ℕ) (rest : List ℕ) (old new : Lines) → SameOn (page ∷ rest) old new → new page ≡ old page
SameOn-first page rest old new same = same page (rw (eq-eqb page page refl) (omega arith))

pub SameOn-rest : (page : ℕ) (rest : List ℕ) (old new : Lines) → SameOn (page ∷ rest) old new → SameOn rest old new
SameOn-rest page rest old new same = λ n in_rest. same n (omega (arith, in_rest))
